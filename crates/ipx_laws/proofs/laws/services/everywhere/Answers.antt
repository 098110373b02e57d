use Rattle.std.proofs.Common.{◌≡◌, Some, subst₂, arith}
use Rattle.ipx_router.specs.Numbers.{period}
use Rattle.ipx_laws.specs.Servers.{at_hops, known_of, IsFewest}
use Rattle.ipx_laws.specs.Tables.{services_of}
use Rattle.ipx_laws.proofs.laws.services.everywhere.Goals as goal
use Rattle.ipx_laws.proofs.wires.ServicesInLockStep.{at_end, within}

pub returns-clause-has : goal.returns-clause-has
returns-clause-has c net most_routes most_services server names nearest run first ticks router hops (is, are, voice, room, listed) differ least (rest, leaves, hosts) regular long inside near fewest =
    let on = at_end net c.layouts.ensures is most_routes most_services run first are rest leaves ticks hosts in
    let as_long = on.as_long in
    let suits = on.suits in
    subst₂ (λ up hs. IsFewest net up server router hops → known_of server (services_of net most_services hs router) ≡ Some (at_hops server hops)) suits.same_ports on.same
    (c.everywhere_on_wires.ensures.has net most_routes most_services 0 period server names nearest _ on.beats router hops (is, suits.begun, voice, room, listed) suits.all
    suits.leave suits.quick (suits.regular server names regular) differ least (suits.routers server differ) (omega (arith, long, as_long)) inside near) fewest

pub returns-clause-meanwhile : goal.returns-clause-meanwhile
returns-clause-meanwhile c net most_routes most_services server names nearest run first ticks steps more router hops (is, are, voice, room, listed) differ least (rest, leaves, hosts) regular long inside near fewest =
    let on = within net c.layouts.ensures is most_routes most_services run first are rest leaves ticks steps more hosts in
    let as_long = on.as_long in
    let suits = on.suits in
    subst₂ (λ up hs. IsFewest net up server router hops → known_of server (services_of net most_services hs router) ≡ Some (at_hops server hops)) suits.same_ports on.same
    (c.everywhere_on_wires.ensures.meanwhile net most_routes most_services 0 period server names nearest _ on.beats on.in_beat on.more_in_beat router hops
    (is, suits.begun, voice, room, listed) suits.all suits.leave suits.quick (suits.regular server names regular) differ least (suits.routers server differ)
    (omega (arith, long, as_long)) inside near) fewest
