-- The ports that are up, of the routers of an internet.
use Rattle.std.specs.Prelude.{ℕ, List, map}
use Rattle.ipx_wire.specs.declared.network.Network.{Network}
use Rattle.ipx_router.specs.History.{History, ports_up}
use Rattle.ipx_router.specs.Port.{port_at}
use Rattle.ipx_internet.specs.Internet.{Internet, ports_of}
use Rattle.ipx_internet.specs.Queue.{history_of}

-- the ports of a router that are up
abbrev pub ups : Internet → List History → ℕ → List ℕ
ups net histories router = ports_up (ports_of net router) (history_of histories router)

-- their networks
abbrev pub networks_up : Internet → List History → ℕ → List Network
networks_up net histories router = map (λ number. (port_at (ports_of net router) number).network) (ups net histories router)
