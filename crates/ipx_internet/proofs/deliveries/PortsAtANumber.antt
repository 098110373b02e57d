-- What is read at a number of some routers: the ports that the internet has there; none behind the last router.
use Rattle.std.proofs.Common.{◌≡◌, ◌↔◌, arith, ℕ, ◌<◌, ◌≤◌, Bool, true, false, List, [], length, get_or, nat_lt}
use Rattle.std.proofs.lemmas.List.{get_or_past, length-map}
use Rattle.ipx_router.specs.Port.{Port}
use Rattle.ipx_router.specs.Stands.{State}
use Rattle.ipx_internet.specs.Internet.{ports_of}
use Rattle.ipx_internet.specs.inside.Simulated.{net_among}
use Rattle.ipx_internet.proofs.deliveries.OtherRoutersStay.{got_at, its_ports}

module _ (routers : List State) (number : ℕ) where
  pub ports_there : (s : State) → number < length routers → s ≡ get_or routers number s → ports_of (net_among routers) number ≡ s.ports
  ports_there s within is = its_ports routers number s (got_at routers number s within is)

  pub no_ports : length routers ≤ number → ports_of (net_among routers) number ≡ []
  no_ports past = grind (arith, get_or_past, length-map)

module _ (ports : List Port) (port : ℕ) where
  -- what is told by the number of the ports
  pub told : (its : List Port) (answer : Bool) → ports ≡ its → answer ≡ nat_lt port (length its) → answer ≡ true ↔ port < length ports
  told its answer is says = grind arith

  pub untold : ports ≡ [] → false ≡ true ↔ port < length ports
  untold none = grind arith
