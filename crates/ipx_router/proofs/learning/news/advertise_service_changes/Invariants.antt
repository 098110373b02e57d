use Rattle.std.proofs.Common.{◌-◌, ◌*◌, length, map, take}
use Rattle.std.specs.List.{flat_map}
use Rattle.ipx_router.specs.News.{service_told}
use Rattle.ipx_router.specs.Numbers.{most_own_length}
use Rattle.ipx_router.specs.Outbox.{HasRoom, Appends}
use Rattle.ipx_router.specs.Sends.{sap_broadcast}
use Rattle.ipx_router.specs.inside.Touched.{change_of}
use Rattle.ipx_router.proofs.learning.news.advertise_service_changes.Given as goal

abbrev pub invariant-loop-number : goal.invariant-loop-number
invariant-loop-number l = record {
  sent : Appends l.initial.outbox l.outbox
      (flat_map (λ j. sap_broadcast l.ports j (flat_map (service_told j) (map change_of l.changes))) (take l.number-index l.up));
  room : HasRoom l.outbox (length l.up - l.number-index) ((length l.up - l.number-index) * most_own_length);
}
