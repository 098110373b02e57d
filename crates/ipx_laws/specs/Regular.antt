-- Hosts that are heard again and again while they announce a service, each with one number of hops, where tables have room.
use Rattle.std.specs.Prelude.{◌≡◌, ℕ, suc, ◌+◌, ◌-◌, ◌*◌, ◌≤◌, true, List, ◌++◌, length, Some, slice_get}
use Rattle.std.specs.List.{AllByRecursion}
use Rattle.ipx_wire.specs.WriteServices.{entry_of}
use Rattle.ipx_wire.specs.declared.sap.Sap.TheVariants.{Query, Response}
use Rattle.ipx_router.specs.Heard.{Heard, HeardRip, HeardSap}
use Rattle.ipx_router.specs.History.{History}
use Rattle.ipx_router.specs.Numbers.{period}
use Rattle.ipx_router.specs.Port.{is_up}
use Rattle.ipx_internet.specs.Internet.{Internet, Place, IsInternet, network_of}
use Rattle.ipx_internet.specs.Run.{Step, AreHistories, Run}
use Rattle.ipx_internet.specs.Ticks.{ticked}
use Rattle.ipx_laws.specs.Gone.{most_ticks_gone}
use Rattle.ipx_laws.specs.HeardInTicks.{IsHeardOutside, InTicks}
use Rattle.ipx_laws.specs.Meanwhile.{SaysOnly, EachStep}
use Rattle.ipx_laws.specs.Servers.{Announcer, Server, at_hops, SaysNoFalse, NamesOnly}

-- a response of that host names the service, with its address and this host's hops
abbrev pub Announces : Server → Announcer → Heard → Type 0
Announces server host (HeardRip source rip) = ⊥
Announces server host (HeardSap source (Query nearest kind)) = ⊥
Announces server host (HeardSap source (Response nearest entries)) =
    (source.node ≡ host.node) × (which : ℕ) × (slice_get entries which ≡ Some (entry_of (at_hops server host.hops)))

module _ (net : Internet) (most_routes most_services : ℕ) (server : Server) where
  -- in a step a router hears it on a port
  abbrev pub IsHeard : Place → Announcer → Run → Step → Type 0
  IsHeard to host run step = IsHeardOutside net to (Announces server host) run.histories step

  -- each host that announces the service is heard in the ticks of any period, on every port of its network that is up
  abbrev pub AreInTime : (ℕ → List ℕ) → Run → List (List Step) → Type 0
  AreInTime up run ticks =
      (which : ℕ) (host : Announcer) (to : Place) → slice_get server.announcers which ≡ Some host → is_up (up to.router) to.port ≡ true
      → network_of net to ≡ host.network → (before window after : List (List Step)) → ticks ≡ before ++ window ++ after → length window ≡ period
      → InTicks net most_routes most_services (IsHeard to host) (ticked net most_routes most_services run before) window

-- one node on one network says one number of hops
abbrev pub HaveOneVoice : Server → Type 0
HaveOneVoice server =
    (a b : ℕ) (host other : Announcer) → slice_get server.announcers a ≡ Some host → slice_get server.announcers b ≡ Some other
    → host.network ≡ other.network → host.node ≡ other.node → host.hops ≡ other.hops

-- the name is one of a list of types and names
abbrev pub IsListedName : List (ℕ × List ℕ) → ℕ × List ℕ → Type 0
IsListedName names name = (which : ℕ) × (slice_get names which ≡ Some name)

-- each table has room for them, and so has the share of each port
pub record HasRoomFor (net : Internet) (most_services : ℕ) (names : List (ℕ × List ℕ)) : Type 0 where
  pub table : length names ≤ most_services
  pub shares : AllByRecursion (λ ports. AllByRecursion (λ p. length names ≤ p.service_share) ports) net

-- an internet, and what happened to its routers before, where they come to know a server's service: each of its hosts says one number of
-- hops, and of the listed names, of which the service's is one, each table has room for all
abbrev pub IsServiceSetting : Internet → ℕ → List History → List (ℕ × List ℕ) → Server → Type 0
IsServiceSetting net most_services histories names server =
    IsInternet net × AreHistories net histories × HaveOneVoice server × HasRoomFor net most_services names × IsListedName names (server.kind, server.name)

-- in those ticks hosts say nothing false of the service, name listed ones alone, and are heard in time
abbrev pub AreRegular : Internet → ℕ → ℕ → Server → List (ℕ × List ℕ) → (ℕ → List ℕ) → Run → List (List Step) → Type 0
AreRegular net most_routes most_services server names up run ticks =
    EachStep (SaysNoFalse net server) ticks × EachStep (SaysOnly (NamesOnly (IsListedName names))) ticks
    × AreInTime net most_routes most_services server up run ticks

-- the ticks after which a router has a service whose fewest hops there are so many, where each host says that many hops at least: those after which
-- what is false of it is gone, and a period for each router on the way
abbrev pub most_ticks_known : ℕ → ℕ → ℕ
most_ticks_known nearest hops = most_ticks_gone + period * suc (hops - nearest)

-- each host that announces it says that many hops at least
abbrev pub NoneNearer : Server → ℕ → Type 0
NoneNearer server nearest = (which : ℕ) (host : Announcer) → slice_get server.announcers which ≡ Some host → nearest ≤ host.hops
