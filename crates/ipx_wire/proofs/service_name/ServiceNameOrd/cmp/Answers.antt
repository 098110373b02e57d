use Rattle.std.proofs.Common.{◌∙◌, ap₂}
use Rattle.ipx_wire.specs.Name.{name_order}
use Rattle.ipx_wire.proofs.FieldOrder.{kept_order}
use Rattle.ipx_wire.proofs.service_name.ServiceNameOrd.cmp.Goals as goal

pub returns : goal.returns
returns c =
    c.cmp_fields.ensures
    ∙ kept_order c.self.inside.field c.other.inside.field _ _ c.self.inside.count c.other.inside.count c.self.invariant c.other.invariant
    ∙ ap₂ name_order c.self.view_is c.other.view_is
