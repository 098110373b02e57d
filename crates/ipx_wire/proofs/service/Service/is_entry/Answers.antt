use Rattle.std.proofs.Common.{◌∙◌, sym, ap, is_eq}
use Rattle.ipx_wire.proofs.EntryBytes.{entry_is, not_other, order_of, zeros_behind}
use Rattle.ipx_wire.proofs.service.Service.is_entry.Goals as goal

pub returns-clause-only : goal.returns-clause-only
returns-clause-only c = λ yes.
    entry_is c.args.self.now c.args.bytes.now c.cmp_entry.ensures.named (c.if-self-u16_at.false ∙ c.u16_at.ensures)
    (not_other c.args.self.now.address c.address_from.result _ c.ne.result c.ne.ensures c.if-ne.false c.address_from.ensures)
    (ap is_eq (sym c.cmp_entry.ensures.order) ∙ sym c.is_eq.ensures ∙ yes)

pub returns-clause-always : goal.returns-clause-always
returns-clause-always c = λ is zeros.
    c.is_eq.ensures ∙ ap is_eq c.cmp_entry.ensures.order ∙ order_of c.args.self.now c.args.bytes.now is zeros

pub returns-clause-zeros : goal.returns-clause-zeros
returns-clause-zeros c = λ yes.
    zeros_behind c.args.self.now c.args.bytes.now (ap is_eq (sym c.cmp_entry.ensures.order) ∙ sym c.is_eq.ensures ∙ yes)
