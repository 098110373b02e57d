use Rattle.std.proofs.Common.{◌∙◌, sym, subst, replicate}
use Rattle.ipx_fair.specs.declared.tally.Tally.{Tally}
use Rattle.ipx_fair.specs.inside.Held.{IsHeld}
use Rattle.ipx_fair.proofs.Made.{made_held}
use Rattle.ipx_fair.proofs.receiver_256.Receiver256.make.Goals as goal

pub invariant_of-self : goal.invariant_of-self
invariant_of-self c =
    subst (λ (t : Tally). IsHeld t (replicate 256 0)) (sym c.new.ensures) (made_held c.args.setting 256 (sym c.can_be-can_be.ensures ∙ c.if-can_be.true))
