use Rattle.std.proofs.Common.{subst, ℕ, List, [], map, arith}
use Rattle.ipx_wire.specs.declared.network.Network.{Network}
use Rattle.ipx_router.specs.History.{History}
use Rattle.ipx_internet.specs.Internet.{Internet, IsInternet}
use Rattle.ipx_internet.specs.Run.{Step, Run, Waiting, AreHistories, begun, run_of}
use Rattle.ipx_laws.specs.Least.{AreCheap, FifteenSuffice, least_route}
use Rattle.ipx_laws.specs.Losses.{AreLosses}
use Rattle.ipx_laws.specs.Tables.{AreReal, AreRight}
use Rattle.ipx_laws.specs.Ups.{ups}
use Rattle.ipx_laws.proofs.laws.changes.losses.Goals as goal
use Rattle.ipx_laws.proofs.losses.LossesGoOn.{Losing, steps_lose}
use Rattle.ipx_laws.proofs.losses.RealAfterLosses.{all_real}
use Rattle.ipx_laws.proofs.losses.TableIsAdvertised.{at_first}

module _ (c : goal.After-right) (net : Internet) (most_routes most_services : ℕ) (histories : List History) (steps : List Step) (is : IsInternet net)
    (suffice : (network : Network) → FifteenSuffice net (ups net histories) network) (cheap : AreCheap net) (are : AreHistories net histories)
    (real : AreReal net most_routes histories (ups net histories)) (right : AreRight net most_routes histories (ups net histories))
    (losses : AreLosses net most_routes most_services histories steps) where
  abbrev after : Run
  after = run_of net most_routes most_services (begun histories) steps

  -- where nothing waits
  losing : Losing net c.layouts.ensures is most_routes most_services after.histories (record { histories = after.histories; queue = [] })
  losing =
      subst (λ (ws : List Waiting).
      Losing net c.layouts.ensures is most_routes most_services after.histories (record { histories = after.histories; queue = map (λ w. w.delivery) ws })) losses.quiet
      (steps_lose net c.layouts.ensures is most_routes most_services after.histories (begun histories) steps losses.losses
      (at_first net c.layouts.ensures is cheap most_routes most_services after.histories histories are suffice real right))

  real_then : AreReal net most_routes after.histories (ups net after.histories)
  real_then = all_real net c.layouts.ensures is most_routes most_services after.histories losing

pub returns-clause-real : goal.returns-clause-real
returns-clause-real c net most_routes most_services histories steps is suffice cheap are real right losses =
    real_then c net most_routes most_services histories steps is suffice cheap are real right losses

pub returns-clause-right : goal.returns-clause-right
returns-clause-right c net most_routes most_services histories steps ticks settings real right losses suffice_last enough calm router network inside =
    let is = (settings network).0 in
    let differ = (settings network).1 in
    let suffice : (other : Network) → FifteenSuffice net (ups net histories) other = λ other. (settings other).2 in
    let cheap = (settings network).3 in
    let room = (settings network).4 in
    let are = (settings network).5 in
    let then_run = after c net most_routes most_services histories steps is suffice cheap are real right losses in
    let lost = losing c net most_routes most_services histories steps is suffice cheap are real right losses in
    let soon = c.right.ensures.soon (least_route net (ups net then_run.histories) router network) in
    c.right.ensures.sooner net most_routes most_services then_run ticks router network (is, differ, suffice_last network, cheap, room, lost.are)
    (real_then c net most_routes most_services histories steps is suffice cheap are real right losses) losses.quiet calm inside (omega (arith, soon, enough))
