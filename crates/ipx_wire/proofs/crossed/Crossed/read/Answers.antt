use Rattle.std.proofs.Common.{ℕ, ap, sym, ◌∙◌, arith, subst}
use Rattle.ipx_wire.specs.Crossed.{IsCrossed, networks_at}
use Rattle.ipx_wire.proofs.Crossings.{is_crossed, crossed_networks}
use Rattle.ipx_wire.proofs.crossed.Crossed.read.Goals as goal

pub returns-clause-found : goal.returns-clause-found
returns-clause-found c =
    subst (λ (n : ℕ). IsCrossed c.args.control c.args.payload.now (networks_at n c.args.payload.now)) (sym c.from.ensures)
    (is_crossed c.args.control c.args.payload.now (λ i. omega (arith, c.type_inv.payload i)) (record { eight = omega arith; free = omega arith }))

pub returns-clause-only : goal.returns-clause-only
returns-clause-only c = λ networks is.
    ap (λ (n : ℕ). networks_at n c.args.payload.now) c.from.ensures ∙ crossed_networks c.args.control c.args.payload.now networks is
