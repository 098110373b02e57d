use Rattle.std.proofs.Common.{◌≡◌, ◌/◌, ◌-◌, sym, ap, ◌∙◌, length, drop, arith, subst}
use Rattle.ipx_wire.specs.Piece.{IsBytes}
use Rattle.ipx_wire.specs.Rip.{RipParts, IsRip, operation_number, operation_field, entries_at}
use Rattle.ipx_wire.specs.declared.rip.Operation.{Operation}
use Rattle.ipx_wire.proofs.Rips.{Counted, is_rip, rip_counted, rip_parts, one_operation, kept_rip}
use Rattle.ipx_wire.proofs.rip.Rip.read.Goals as goal
use Rattle.ipx_wire.proofs.rip.Rip.read.Goals.{in-1, in-2}

pub returns-then-count-eq0-clause-only : goal.returns-then-count-eq0-clause-only
returns-then-count-eq0-clause-only c = λ r is.
    let counted = rip_counted c.args.payload.now r is in omega (arith, counted.enough)

pub returns-then-count-gt-MOST-clause-only : goal.returns-then-count-gt-MOST-clause-only
returns-then-count-gt-MOST-clause-only c = λ r is.
    let counted = rip_counted c.args.payload.now r is in omega (arith, counted.within)

numbered : (c : goal.After-body-1) → operation_field c.args.payload.now ≡ operation_number c.match-u16_at.operation
numbered c =
    elim c.match-u16_at.branch [
      | in-1 w ↦ rw w.operation-is (sym c.u16_at.ensures ∙ w.in-1.is)
      | in-2 w ↦ rw w.operation-is (sym c.u16_at.ensures ∙ w.in-2.is)
    ]

-- the comparisons that the code made
made : (c : goal.After-body-1) → Counted c.args.payload.now c.match-u16_at.operation
made c = record { enough = omega arith; within = omega arith; number = numbered c }

bytes : (c : goal.After-body-1) → IsBytes c.args.payload.now
bytes c = λ i. omega (arith, c.type_inv.payload i)

pub returns-clause-found : goal.returns-clause-found
returns-clause-found c =
    subst (IsRip c.args.payload.now)
    (sym (kept_rip c.match-u16_at.operation c.args.payload.now c.split_at.result.1.now c.split_at.ensures.back))
    (is_rip c.args.payload.now c.match-u16_at.operation (bytes c) (made c))

pub returns-clause-only : goal.returns-clause-only
returns-clause-only c = λ r is.
    kept_rip c.match-u16_at.operation c.args.payload.now c.split_at.result.1.now c.split_at.ensures.back
    ∙ ap (λ (o : Operation). (let p : RipParts = record { operation = o; entries = entries_at ((length c.args.payload.now - 2) / 8) (drop 2 c.args.payload.now) } in p))
    (one_operation c.args.payload.now c.match-u16_at.operation r.operation (made c) (rip_counted c.args.payload.now r is))
    ∙ rip_parts c.args.payload.now r is
