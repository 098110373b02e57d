use Rattle.std.proofs.Common.{rules, ◌≡◌, ◌∙◌, sym, ap, subst, refl, replicate}
use Rattle.ipx_fair.specs.declared.tally.Tally.{Tally}
use Rattle.ipx_fair.specs.Tallies.{no_setting}
use Rattle.ipx_fair.specs.inside.Held.{IsHeld}
use Rattle.ipx_fair.proofs.Made.{made, made_held}
use Rattle.ipx_fair.proofs.receiver_256.Receiver256.zeros.Goals as goal

pub invariant_of-result : goal.invariant_of-result
invariant_of-result c =
    let zero : c.default.result ≡ no_setting = search rules in
    let none : c.new.result ≡ made no_setting = c.new.ensures ∙ ap made zero in
    subst (λ (t : Tally). IsHeld t (replicate 256 0)) (sym none) (made_held no_setting 256 refl)
