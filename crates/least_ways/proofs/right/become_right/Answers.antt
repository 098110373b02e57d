use Rattle.std.proofs.Common.{◌≡◌, refl, subst, ◌≤◌, true, List, [], length, arith}
use Rattle.std.proofs.lemmas.Result.{IfOk-weaker}
use Rattle.ipx_router.specs.Numbers.{most_routers}
use Rattle.ipx_internet.specs.Moment.{StandsFor, net_at}
use Rattle.ipx_internet.specs.Passed.{HasTicked}
use Rattle.ipx_internet.specs.Queue.{Delivery}
use Rattle.ipx_internet.specs.Run.{begun, forgotten}
use Rattle.ipx_internet.specs.Ticks.{ticked}
use Rattle.ipx_laws.specs.Least.{AreCheap, HasRoom, least_route, ticks_right}
use Rattle.ipx_laws.specs.Ups.{ups}
use Rattle.least_ways.specs.Right.{HasLeastWays}
use Rattle.least_ways.specs.declared.right.TheConstants.{SECONDS}
use Rattle.least_ways.proofs.TablesInMemory.{are_least}
use Rattle.least_ways.proofs.right.become_right.Goals as goal

pub returns : goal.returns
returns g c =
    let old = c.args.internet.now in
    let new = c.pass.new.internet in
    let net = net_at old in
    let past = c.len.ensures.past in
    let histories = past.histories in
    record {
      right = IfOk-weaker c.pass.result (λ all. all ≡ true → HasTicked g.row.R g.row.S SECONDS old new)
          (λ all. all ≡ true → length net ≤ most_routers → AreCheap net → HasRoom net g.row.R → old.queue ≡ [] → HasLeastWays g.row.R g.row.S old new)
          (λ all passed yes few cheap room quiet.
          let stands : StandsFor g.row.R g.row.S old (record { histories = histories; queue = [] }) =
          subst (λ (ds : List Delivery). StandsFor g.row.R g.row.S old (record { histories = histories; queue = ds })) quiet past.stands in
          let after = passed yes (begun histories) stands in
          are_least g.row.R g.row.S old new histories stands c.pass.ensures.net (forgotten (ticked net g.row.R g.row.S (begun histories) after.ticks)) after.stands
          (λ router network within.
          let soon = c.right.ensures.soon (least_route net (ups net histories) router network) in
          let many = after.many in
          let enough : ticks_right (least_route net (ups net histories) router network) ≤ length after.ticks = omega (arith, soon, many) in
          c.right.ensures.tables net g.row.R g.row.S (begun histories) [] after.ticks router network
          (c.len.ensures.internet, c.len.ensures.nodes, c.fifteen_suffice.ensures.few_routers net histories network c.len.ensures.internet few, cheap, room, past.are)
          ((tt, tt, refl), tt, c.ticks_are_calm.ensures net g.row.R g.row.S (begun histories) after.ticks after.are) within enough)) c.pass.ensures.ticked;
    }
