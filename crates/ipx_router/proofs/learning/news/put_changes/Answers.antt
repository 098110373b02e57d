use Rattle.std.proofs.Common.{ap, List, map, arith}
use Rattle.std.specs.List.{flat_map}
use Rattle.ipx_router.specs.News.{service_told}
use Rattle.ipx_router.specs.inside.Touched.{change_of}
use Rattle.ipx_router.specs.declared.learning.touched.Touched.{Touched}
use Rattle.ipx_router.specs.declared.service_offer.ServiceOffer.{ServiceOffer}
use Rattle.ipx_router.proofs.sending.RoomForServices.{told_at_most}
use Rattle.ipx_router.proofs.sending.ServicesInPlace.{none_put, more_put}
use Rattle.ipx_router.proofs.learning.news.put_changes.Goals as goal

pub loop-count-init : goal.loop-count-init
loop-count-init c = (omega arith, none_put (flat_map (service_told c.args.number) (map change_of c.args.changes.now)) c.args.out.now)

pub loop-count-preserved : goal.loop-count-preserved
loop-count-preserved c =
    let told = service_told c.args.number (change_of c.in-Some.change.now) in
    let puts = c.put_change-count.ensures.puts in
    let counted = puts.counted in (
      omega (arith, counted, told_at_most c.args.number (change_of c.in-Some.change.now), c.loop-count-test.true),
      more_put c.loop-count.invariant.1 told
          (ap (λ (changes : List (Touched ServiceOffer)). flat_map (service_told c.args.number) (map change_of changes)) c.in-Some.ensures.cases.0)
          (omega (arith, c.requires.room, c.loop-count-test.true)) puts,
    )
