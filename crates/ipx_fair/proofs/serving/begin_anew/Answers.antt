use Rattle.std.proofs.Common.{◌≡◌, ◌∙◌, sym, ap, ap₂, arith, ℕ, ◌+◌, ◌-◌, ◌<◌, List, [], ◌∷◌, ◌++◌, length, get_or, drop}
use Rattle.std.proofs.lemmas.List.{take_more_set, drop-set-lt, drop_more}
use Rattle.ipx_fair.proofs.Counted.{lowered_more}
use Rattle.ipx_fair.proofs.serving.begin_anew.Goals as goal

pub loop-end-preserved : goal.loop-end-preserved
loop-end-preserved c =
    let xs = c.args.ends.now in
    let ys = c.loop-end.end-items in
    let i = c.loop-end.end-index in
    let within : i < length xs = omega arith in
    let there : i < length ys = omega arith in
    let left : get_or ys i 0 ∷ drop (i + 1) ys ≡ get_or xs i 0 ∷ drop (i + 1) xs =
    sym (drop_more ys i 0 there) ∙ c.loop-end.invariant.rest ∙ drop_more xs i 0 within in
    let same : get_or ys i 0 ≡ get_or xs i 0 = cc in
    let behind : drop (i + 1) ys ≡ drop (i + 1) xs = cc in
    let y = c.saturating_sub.result in
    let is : y ≡ get_or xs i 0 - c.args.tally.now.served = c.saturating_sub.ensures ∙ ap (λ (e : ℕ). e - c.args.tally.now.served) same in
    record {
      front = take_more_set ys i y there ∙ ap₂ (λ (l : List ℕ) (z : ℕ). l ++ z ∷ []) c.loop-end.invariant.front is ∙ sym (lowered_more c.args.tally.now.served xs i within);
      rest = drop-set-lt (i + 1) ys i y (omega arith) ∙ behind;
    }
