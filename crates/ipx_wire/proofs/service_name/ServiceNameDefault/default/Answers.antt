use Rattle.std.proofs.Common.{List, ℕ, sym, subst, take}
use Rattle.ipx_wire.specs.Name.{IsKeptName}
use Rattle.ipx_wire.proofs.Names.{default_kept}
use Rattle.ipx_wire.proofs.service_name.ServiceNameDefault.default.Goals as goal

pub invariant_of-result : goal.invariant_of-result
invariant_of-result c =
    subst (λ (new : List ℕ). IsKeptName new (take 1 new) 1) (sym c.clear_behind.ensures) default_kept
