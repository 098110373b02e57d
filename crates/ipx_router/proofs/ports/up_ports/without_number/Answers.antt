use Rattle.std.proofs.Common.{◌<◌, ◌==◌, not, ap, length, take, lit<, arith}
use Rattle.std.proofs.lemmas.List.{length-take-le}
use Rattle.ipx_router.proofs.bounds.ItemsOfEachList.{length-filter}
use Rattle.ipx_router.proofs.ports.up_ports.without_number.Goals as goal

pub push-requires : goal.push-requires
push-requires c =
    let so_far = take c.loop-other.other-index c.args.up.now in
    let room : length c.loop-other.others.items < 32 =
    omega (
      arith,
      ap length c.loop-other.invariant.others,
      length-filter (λ j. not (j == c.args.number)) so_far,
      length-take-le c.loop-other.other-index c.args.up.now c.loop-other.auto.other-index-end,
      c.loop-other-test.true,
      c.requires.fits,
    ) in
    (lit< tt, room)
