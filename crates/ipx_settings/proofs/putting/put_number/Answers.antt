use Rattle.std.proofs.Common.{◌≡◌, ◌+◌, ◌-◌, ◌%◌, ◌^◌, ◌<◌, ◌≤◌, ◌++◌, length, take, drop, length-drop, refl, sym, ap, ◌∙◌, arith, append-nil}
use Rattle.std.specs.Prelude.{decimal, slice_set}
use Rattle.std.proofs.lemmas.Fmt.{length-decimal-le}
use Rattle.std.proofs.lemmas.List.{take_all, length-set}
use Rattle.ipx_settings.proofs.Decimals.{shorter, two_digits, one_less, all_there}
use Rattle.ipx_settings.proofs.putting.put_number.Goals as goal

pub loop-left-init : goal.loop-left-init
loop-left-init c =
    let small = c.ranges.number.fits in
    (sym (append-nil (decimal c.args.number)), length-decimal-le 10 c.args.number (omega arith) (omega (arith, small)) (omega (arith, small)), omega arith, refl)

pub overflow_sub-first-in-loop-left : goal.overflow_sub-first-in-loop-left
overflow_sub-first-in-loop-left c =
    let small = c.loop-left.auto.left-fits in
    omega (arith, two_digits c.loop-left.left (omega (arith, c.loop-left-test.true)) (omega (arith, small)), c.loop-left.invariant.1)

pub loop-left-preserved : goal.loop-left-preserved
loop-left-preserved c =
    let (known, room, within, ten) = c.loop-left.invariant in
    let small = c.loop-left.auto.left-fits in
    let much : 10 ≤ c.loop-left.left = omega (arith, c.loop-left-test.true) in
    let fits : c.loop-left.left < 2 ^ 64 = omega (arith, small) in
    let two = two_digits c.loop-left.left much fits in
    let same : c.loop-left.first - 1 + 1 ≡ c.loop-left.first = omega (arith, two, room) in
    let there : c.loop-left.first < length c.loop-left.digits = omega (arith, within, ten) in (
      rw same (one_less (decimal c.args.number) c.loop-left.digits c.loop-left.left c.loop-left.first (48 + c.loop-left.left % 10) much fits there refl known),
      omega (arith, shorter c.loop-left.left much fits, room, two),
      omega (arith, within),
      length-set c.loop-left.digits c.loop-left.first (48 + c.loop-left.left % 10) ∙ ten,
    )

pub returns-clause-room : goal.returns-clause-room
returns-clause-room c =
    let (known, room, within, ten) = c.loop-left.invariant in
    let digits = slice_set c.loop-left.digits c.loop-left.first (48 + c.loop-left.left) in
    let text = all_there (decimal c.args.number) c.loop-left.digits c.loop-left.left c.loop-left.first (48 + c.loop-left.left) (omega (arith, c.loop-left-test.false)) (omega (arith, within, ten)) refl known in
    let few = length-drop c.loop-left.first digits in
    let size = length-set c.loop-left.digits c.loop-left.first (48 + c.loop-left.left) in
    let whole = take_all (10 - c.loop-left.first) (drop c.loop-left.first digits) (omega (arith, few, size, ten)) in
    c.put_text.ensures.room ∙ ap (λ l. take c.args.at c.args.room.now ++ l) (whole ∙ text)
