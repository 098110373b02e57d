use Rattle.std.proofs.Common.{◌≡◌, ◌∙◌, sym, ap, subst, Bool, true, if◌then◌else◌, Some, None, replicate}
use Rattle.ipx_fair.specs.declared.tally.Tally.{Tally}
use Rattle.ipx_fair.specs.Numbers.{can_be}
use Rattle.ipx_fair.specs.States.{State, empty}
use Rattle.ipx_fair.specs.Tallies.{state_of}
use Rattle.ipx_fair.specs.inside.Held.{IsHeld}
use Rattle.ipx_fair.proofs.Made.{made_state, made_held}
use Rattle.ipx_fair.proofs.receiver.Receiver.new.Goals as goal

pub invariant_of-result : goal.invariant_of-result
invariant_of-result g c =
    subst (λ (t : Tally). IsHeld t (replicate g.row.N 0)) (sym c.new.ensures) (made_held c.args.setting g.row.N (sym c.can_be.ensures ∙ c.if-not-can_be.false))

pub returns : goal.returns
returns g c =
    let can : can_be c.args.setting g.row.N ≡ true = sym c.can_be.ensures ∙ c.if-not-can_be.false in
    ap (λ (t : Tally). Some (state_of t (replicate g.row.N 0))) c.new.ensures
    ∙ ap (λ (s : State). Some s) (made_state c.args.setting g.row.N)
    ∙ sym (ap (λ (b : Bool). if b then Some (empty c.args.setting g.row.N) else None) can)
