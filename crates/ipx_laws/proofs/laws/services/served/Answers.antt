use Rattle.std.proofs.Common.{◌≡◌, ℕ, ◌<◌, subst₂, arith}
use Rattle.std.specs.List.{AllByRecursion}
use Rattle.ipx_router.specs.Numbers.{unreachable}
use Rattle.ipx_laws.specs.Servers.{IsOf, at_hops, IsServed, IsAway}
use Rattle.ipx_laws.specs.Tables.{services_of}
use Rattle.ipx_laws.proofs.laws.services.served.Goals as goal
use Rattle.ipx_laws.proofs.wires.ServicesInLockStep.{at_end}

pub returns-clause-real : goal.returns-clause-real
returns-clause-real c net most_routes most_services server run first ticks router is are (rest, leaves, hosts) say long within =
    let on = at_end net c.layouts.ensures is most_routes most_services run first are rest leaves ticks hosts in
    let as_long = on.as_long in
    let suits = on.suits in
    subst₂ (λ up hs. AllByRecursion (λ s. IsOf server s.service → IsServed net up server router s) (services_of net most_services hs router)) suits.same_ports on.same
    (c.served_on_wires.ensures.real net most_routes most_services 0 server _ on.beats router is suits.begun suits.all suits.leave (suits.say server say)
    (omega (arith, long, as_long)) within)

pub returns-clause-away : goal.returns-clause-away
returns-clause-away c net most_routes most_services server run first ticks router is are (rest, leaves, hosts) say long within =
    let on = at_end net c.layouts.ensures is most_routes most_services run first are rest leaves ticks hosts in
    let as_long = on.as_long in
    let suits = on.suits in
    subst₂ (λ up hs. AllByRecursion
    (λ s. IsOf server s.service → (s.service ≡ at_hops server s.service.hops) × (s.service.hops < unreachable) × IsAway net up server router s.service.hops)
    (services_of net most_services hs router)) suits.same_ports on.same
    (c.served_on_wires.ensures.away net most_routes most_services 0 server _ on.beats router is suits.begun suits.all suits.leave (suits.say server say)
    (omega (arith, long, as_long)) within)

pub returns-clause-none : goal.returns-clause-none
returns-clause-none c net most_routes most_services server run first ticks router is are (rest, leaves, hosts) say long within no_way =
    let on = at_end net c.layouts.ensures is most_routes most_services run first are rest leaves ticks hosts in
    let as_long = on.as_long in
    let suits = on.suits in
    subst₂ (λ up hs. ((hops : ℕ) → IsAway net up server router hops → hops < unreachable → ⊥)
    → AllByRecursion (λ s. IsOf server s.service → ⊥) (services_of net most_services hs router)) suits.same_ports on.same
    (c.served_on_wires.ensures.none net most_routes most_services 0 server _ on.beats router is suits.begun suits.all suits.leave (suits.say server say)
    (omega (arith, long, as_long)) within) no_way
