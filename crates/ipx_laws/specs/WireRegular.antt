-- Over wires: hosts and routers that are heard again and again while hosts announce a service.
use Rattle.std.specs.Prelude.{◌≡◌, ◌≢◌, ℕ, ◌+◌, ◌-◌, ◌*◌, true, List, ◌++◌, length, Some, slice_get}
use Rattle.ipx_wire.specs.declared.node.Node.{Node}
use Rattle.ipx_wire.specs.declared.sap.Sap.TheVariants.{Query, Response}
use Rattle.ipx_wire.specs.declared.sap_entries.SapEntry.{SapEntry}
use Rattle.ipx_wire.specs.declared.service.Service.{Service}
use Rattle.ipx_router.specs.Heard.{Heard, HeardRip, HeardSap}
use Rattle.ipx_router.specs.Port.{is_up}
use Rattle.ipx_router.specs.Told.{told_services}
use Rattle.ipx_internet.specs.Internet.{Internet, Place, port_of, network_of}
use Rattle.ipx_laws.specs.Announces.{service_of}
use Rattle.ipx_laws.specs.HeardInTicks.{IsHeardOutside}
use Rattle.ipx_laws.specs.InTime.{IsHeardLanding}
use Rattle.ipx_laws.specs.Meanwhile.{SaysOnly}
use Rattle.ipx_laws.specs.Regular.{Announces, IsListedName}
use Rattle.ipx_laws.specs.Servers.{Announcer, Server, IsOf, SaysNoFalse, NamesOnly}
use Rattle.ipx_laws.specs.Tables.{services_of}
use Rattle.ipx_laws.specs.Wires.{Wires, WireStep, as_step, beats_of, Along, EachBeat, InBeats, EachWireStep, most_beats_gone}

-- a response from that node, an entry of which names the service
abbrev pub NamesService : Server → Node → Heard → Type 0
NamesService server node (HeardRip source rip) = ⊥
NamesService server node (HeardSap source (Query nearest kind)) = ⊥
NamesService server node (HeardSap source (Response nearest entries)) =
    (source.node ≡ node) × (which : ℕ) × (e : SapEntry) × (slice_get entries which ≡ Some e) × (name : List ℕ) × (e.name ≡ Some name) × IsOf server (service_of e name)

module _ (net : Internet) (most_routes most_services delay : ℕ) where
  module _ (server : Server) where
    -- in a step a packet comes from outside to a port, and is heard there as that host's that announces the service
    abbrev pub IsHostHeard : Place → Announcer → Wires → WireStep → Type 0
    IsHostHeard to host w step = IsHeardOutside net to (Announces server host) w.histories (as_step step)

    -- in a step a flight lands on a port, not too late, and a response is heard of it there that names the service
    abbrev pub IsRouterHeard : Place → Node → Wires → WireStep → Type 0
    IsRouterHeard to node = IsHeardLanding net delay to (NamesService server node)

    -- what a router advertises on a port names the service
    abbrev pub AdvertisesService : Place → Wires → Type 0
    AdvertisesService from w =
        (which : ℕ) × (s : Service) × (slice_get (told_services (services_of net most_services w.histories from.router) from.port) which ≡ Some s) × IsOf server s

    -- each host that announces the service is heard in that many beats in a row, on every port of its network that is up
    abbrev pub AreHostsInTime : ℕ → (ℕ → List ℕ) → Wires → List (List WireStep) → Type 0
    AreHostsInTime window up w beats =
        (which : ℕ) (host : Announcer) (to : Place) → slice_get server.announcers which ≡ Some host → is_up (up to.router) to.port ≡ true
        → network_of net to ≡ host.network → (before within after : List (List WireStep)) → beats ≡ before ++ within ++ after → length within ≡ window
        → InBeats net most_routes most_services delay (IsHostHeard to host) (beats_of net most_routes most_services delay w before) within

    -- where a router advertises the service all the time, for that many beats in a row, each router beside it hears so in them, by ports that
    -- are up
    abbrev pub AreRoutersInTime : ℕ → (ℕ → List ℕ) → Wires → List (List WireStep) → Type 0
    AreRoutersInTime window up w beats =
        (from to : Place) (before within after : List (List WireStep))
        → is_up (up from.router) from.port ≡ true → is_up (up to.router) to.port ≡ true → from.router ≢ to.router → network_of net from ≡ network_of net to
        → beats ≡ before ++ within ++ after → length within ≡ window
        → EachBeat net most_routes most_services delay (Along net most_routes most_services delay (AdvertisesService from))
        (beats_of net most_routes most_services delay w before) within
        → InBeats net most_routes most_services delay (IsRouterHeard to (port_of net from).node) (beats_of net most_routes most_services delay w before) within

    -- in those beats hosts say nothing false of the service, name listed ones alone, and are heard in time
    abbrev pub AreRegularBeats : ℕ → List (ℕ × List ℕ) → (ℕ → List ℕ) → Wires → List (List WireStep) → Type 0
    AreRegularBeats window names up w beats =
        EachWireStep (SaysNoFalse net server) beats × EachWireStep (SaysOnly (NamesOnly (IsListedName names))) beats × AreHostsInTime window up w beats

-- the beats after which a router has a service whose fewest hops there are so many, where each host says that many hops at least: those after
-- which what is false of it is gone, a window in which hosts are heard, and for each hop more what still flies and a window in which
-- neighbours are
abbrev pub most_beats_known : (delay window nearest hops : ℕ) → ℕ
most_beats_known delay window nearest hops = most_beats_gone delay + window + (hops - nearest) * (window + delay)
