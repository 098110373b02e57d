use Rattle.std.proofs.Common.{◌≡◌, Some, subst₂, arith}
use Rattle.ipx_router.specs.Numbers.{period}
use Rattle.ipx_laws.specs.Servers.{at_hops, known_of, IsBeside}
use Rattle.ipx_laws.specs.Tables.{services_of}
use Rattle.ipx_laws.proofs.laws.services.beside.Goals as goal
use Rattle.ipx_laws.proofs.wires.ServicesInLockStep.{at_end}

pub returns : goal.returns
returns c = record {
  has = λ net most_routes most_services server names run first ticks place which host (is, are, voice, room, listed) (rest, leaves, hosts) regular long beside.
      let on = at_end net c.layouts.ensures is most_routes most_services run first are rest leaves ticks hosts in
      let as_long = on.as_long in
      let suits = on.suits in
      subst₂ (λ up hs. IsBeside net up server place which host → known_of server (services_of net most_services hs place.router) ≡ Some (at_hops server host.hops))
      suits.same_ports on.same
      (c.beside_on_wires.ensures.has net most_routes most_services 0 period server names _ on.beats place which host (is, suits.begun, voice, room, listed) suits.all
      suits.leave suits.quick (suits.regular server names regular) (omega (arith, long, as_long))) beside;
}
