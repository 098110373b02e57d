use Rattle.std.proofs.Common.{suc, subst₂, arith}
use Rattle.ipx_router.specs.History.{Packet}
use Rattle.ipx_router.specs.Numbers.{period}
use Rattle.ipx_internet.specs.Internet.{ports_of}
use Rattle.ipx_internet.specs.Queue.{sends_at}
use Rattle.ipx_laws.specs.Nearest.{LeadsElsewhere, IsAnswered, Asks}
use Rattle.ipx_laws.specs.Servers.{IsFewest}
use Rattle.ipx_laws.proofs.laws.services.nearest.Goals as goal
use Rattle.ipx_laws.proofs.wires.ServicesInLockStep.{within}

pub returns : goal.returns
returns c = record {
  answered = λ net most_routes most_services server names nearest run first ticks steps more hops place source bytes (is, are, voice, room, listed) differ least (rest, leaves, hosts) regular long inside near fewest kind elsewhere asks.
      let on = within net c.layouts.ensures is most_routes most_services run first are rest leaves ticks steps more hosts in
      let as_long = on.as_long in
      let suits = on.suits in
      subst₂ (λ up hs. IsFewest net up server place.router hops → LeadsElsewhere net up server place hops → Asks net hs place source server.kind bytes
      → IsAnswered (ports_of net place.router) place.port source server.kind (suc hops)
      (sends_at net most_routes most_services hs place.router (Packet place.port bytes))) suits.same_ports on.same
      (λ few leads asked.
      c.nearest_on_wires.ensures.answered net most_routes most_services 0 period server names nearest _ on.beats on.in_beat on.more_in_beat hops place source bytes
      (is, suits.begun, voice, room, listed) suits.all suits.leave suits.quick (suits.regular server names regular) differ least (suits.routers server differ)
      (omega (arith, long, as_long)) inside near few kind leads asked) fewest elsewhere asks;
}
