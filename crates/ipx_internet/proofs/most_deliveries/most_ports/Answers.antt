use Rattle.std.proofs.Common.{◌≡◌, ap, ◌∙◌, ◌+◌, ℕ, max, List, drop, drop_of_length-le, length, arith}
use Rattle.ipx_router.specs.Stands.{State}
use Rattle.ipx_internet.specs.Most.{most_ports}
use Rattle.ipx_internet.specs.inside.Simulated.{net_among}
use Rattle.ipx_internet.proofs.most_deliveries.most_ports.Goals as goal
use Rattle.ipx_internet.proofs.weights.WeighedOneByOne.{next_left}

pub loop-router-preserved : goal.loop-router-preserved
loop-router-preserved g c =
    let k = c.loop-router.router-index in
    let states = c.args.routers.now in
    let whole : most_ports (net_among (drop k states)) ≡ max (length c.router-item.result.ports) (most_ports (net_among (drop (k + 1) states))) =
    ap (λ (ss : List State). most_ports (net_among ss)) (next_left states k c.router-item.result c.loop-router-test.true c.router-item.is) in
    let so_far = c.loop-router.invariant in
    let size = c.ports.ensures.value in
    let next : max (max c.loop-router.most c.ports.result) (most_ports (net_among (drop (k + 1) states))) ≡ most_ports (net_among states) =
    omega (arith, whole, so_far, size) in
    ap (λ (n : ℕ). max n (most_ports (net_among (drop (k + 1) states)))) c.max-most.ensures ∙ next

pub ports-requires : goal.ports-requires
ports-requires g c = first_of (assumption c.well_formed, search c.well_formed)

pub returns : goal.returns
returns g c =
    let states = c.args.routers.now in
    let k = c.loop-router.router-index in
    let none = ap (λ (ss : List State). most_ports (net_among ss)) (drop_of_length-le states c.loop-router-test.false) in
    let so_far = c.loop-router.invariant in
    omega (arith, none, so_far)
