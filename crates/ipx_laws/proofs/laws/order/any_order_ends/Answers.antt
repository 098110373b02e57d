use Rattle.std.proofs.Common.{ℕ, ◌∷◌, arith}
use Rattle.ipx_internet.specs.Internet.{Internet, IsInternet, NodesDiffer}
use Rattle.ipx_internet.specs.Moment.{net_at}
use Rattle.ipx_internet.proofs.ticks.TickCanBeHad.{delivery_sound}
use Rattle.ipx_internet.proofs.weights.WeightOfHistories.{weighs_as}
use Rattle.ipx_laws.proofs.laws.order.any_order_ends.Goals as goal
use Rattle.ipx_laws.proofs.order.AnyOrderEnds.{Falling, lighter, few, quiet}

-- the laws of packets and routers
falling : goal.After-weighs → (net : Internet) → IsInternet net → NodesDiffer net → (most_routes most_services : ℕ) → Falling net most_routes most_services
falling c net is differ most_routes most_services = record {
  falls = λ histories d queue sound. c.weighs.ensures.falls net most_routes most_services histories d queue is differ sound.are sound.waits.0;
  sound = λ histories d queue sound.
      let after = delivery_sound net c.layouts.ensures is most_routes most_services histories (d ∷ queue) (record { are = sound.are; waits = sound.waits }) in
      record { are = after.are; waits = after.waits };
}

pub returns-clause-falls : goal.returns-clause-falls
returns-clause-falls c net most_routes most_services q place is differ are waits within =
    lighter net most_routes most_services (falling c net is differ most_routes most_services) q place (record { are = are; waits = waits }) within

pub returns-clause-few : goal.returns-clause-few
returns-clause-few c net most_routes most_services q order is differ are waits =
    few net most_routes most_services (falling c net is differ most_routes most_services) order q (record { are = are; waits = waits })

pub returns-clause-quiet : goal.returns-clause-quiet
returns-clause-quiet c net most_routes most_services q order is differ are waits goes long =
    quiet net most_routes most_services (falling c net is differ most_routes most_services) order q (record { are = are; waits = waits }) goes long

pub returns-clause-in_memory : goal.returns-clause-in_memory
returns-clause-in_memory c most_routes most_services m q order is differ are waits stands =
    let same = weighs_as most_routes most_services m q stands in
    let most = few (net_at m) most_routes most_services (falling c (net_at m) is differ most_routes most_services) order q (record { are = are; waits = waits }) in
    omega (arith, same, most)
