use Rattle.std.proofs.Common.{◌≡◌, ◌<◌, ◌∙◌, ap, length, lit<, arith}
use Rattle.ipx_router.proofs.bounds.ItemsOfEachList.{length-numbers}
use Rattle.ipx_router.proofs.ports.up_ports.numbers_below.Goals as goal

pub push-requires : goal.push-requires
push-requires c =
    let count : length c.loop-number.below.items ≡ c.loop-number.number = ap length c.loop-number.invariant.below ∙ length-numbers c.loop-number.number in
    let room : length c.loop-number.below.items < 32 = omega (arith, count, c.loop-number-test.true, c.requires.few) in
    (lit< tt, room)
