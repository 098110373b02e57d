-- Hosts that tell of routes to networks of a list, and what is asked of an internet in which they do: what comes of all other networks.
use Rattle.std.specs.Prelude.{◌≡◌, ◌≢◌, ℕ, ◌<◌, ◌≤◌, true, false, List, [], ◌∷◌, ◌++◌, length}
use Rattle.std.specs.List.{AllByRecursion}
use Rattle.ipx_wire.specs.Crossed.{is_among}
use Rattle.ipx_wire.specs.declared.network.Network.{Network}
use Rattle.ipx_wire.specs.declared.rip.Operation.{Operation}
use Rattle.ipx_wire.specs.declared.rip.Operation.TheVariants.{Request, Response}
use Rattle.ipx_wire.specs.declared.rip.RipEntry.{RipEntry}
use Rattle.ipx_wire.specs.declared.sap.Sap.TheVariants.{Query, Response as SapResponse}
use Rattle.ipx_router.specs.Heard.{Heard, HeardRip, HeardSap}
use Rattle.ipx_router.specs.History.{History}
use Rattle.ipx_router.specs.Numbers.{rip_socket}
use Rattle.ipx_router.specs.declared.route_offer.RouteOffer.{RouteOffer}
use Rattle.ipx_internet.specs.Internet.{Internet, IsInternet, NodesDiffer}
use Rattle.ipx_internet.specs.Run.{Step, AreHistories, Run, stepped, run_of}
use Rattle.ipx_laws.specs.Least.{AreCheap, FifteenSuffice, others_of}
use Rattle.ipx_laws.specs.Meanwhile.{LeavesPorts, SaysOnly, EachStep, AreTicksOfHosts}
use Rattle.ipx_laws.specs.Real.{IsReal}
use Rattle.ipx_laws.specs.Setting.{ComesToRest}
use Rattle.ipx_laws.specs.Tables.{routes_of, route_of}
use Rattle.ipx_laws.specs.Ups.{ups}

-- ---- what hosts may say

-- each network that an entry of a response names is one of the list, whether it says that it is reached or not
abbrev pub AreOf : List Network → Operation → List RipEntry → Type 0
AreOf foreign Response entries = AllByRecursion (λ e. is_among e.network foreign ≡ true) entries
AreOf foreign Request entries = Unit

-- it tells of routes to such networks alone, and is no query that is answered to the socket of RIP, where its answer would be heard as routes
abbrev pub TellsOnlyOf : List Network → Heard → Type 0
TellsOnlyOf foreign (HeardRip source rip) = AreOf foreign rip.operation rip.entries
TellsOnlyOf foreign (HeardSap source (Query nearest kind)) = source.socket.0 ≢ rip_socket
TellsOnlyOf foreign (HeardSap source (SapResponse nearest entries)) = Unit

module _ (net : Internet) (most_routes most_services : ℕ) (foreign : List Network) where
  -- ticks in which hosts speak, and tell of routes to such networks alone
  abbrev pub AreTicksBeside : Run → List (List Step) → Type 0
  AreTicksBeside run ticks = AreTicksOfHosts net most_routes most_services run ticks × EachStep (SaysOnly (TellsOnlyOf foreign)) ticks

  -- after steps that leave nothing that waits, in which hosts may say anything, but ports stay as they are
  abbrev pub AreTicksBesideAfter : Run → List Step → List (List Step) → Type 0
  AreTicksBesideAfter run first ticks =
      ComesToRest net most_routes most_services run first
      × AllByRecursion LeavesPorts first × AreTicksBeside (run_of net most_routes most_services run first) ticks

-- ---- routes to networks off the list

-- a route is of a real way, if its network isn't on the list
abbrev pub IsRealApart : Internet → (ℕ → List ℕ) → List Network → ℕ → RouteOffer → Type 0
IsRealApart net up foreign router r = is_among r.network foreign ≡ false → IsReal net up router r

-- so are all routes that routers hold
abbrev pub AreRealApart : Internet → ℕ → List History → (ℕ → List ℕ) → List Network → Type 0
AreRealApart net most_routes histories up foreign =
    (router : ℕ) → router < length net → AllByRecursion (IsRealApart net up foreign router) (routes_of net most_routes histories router)

module _ (net : Internet) (most_routes most_services : ℕ) (network : Network) where
  -- each router has the route to a network that it has after other histories
  abbrev pub HaveTheRoute : List History → List History → Type 0
  HaveTheRoute old new = (router : ℕ) → router < length net → route_of net most_routes new router network ≡ route_of net most_routes old router network

  -- so it is after each of some steps
  abbrev pub RouteStays : List History → Run → List Step → Type 0
  RouteStays old run [] = Unit
  RouteStays old run (step ∷ steps) =
      let next = stepped net most_routes most_services run step in
      HaveTheRoute old next.histories × RouteStays old next steps

-- ---- an internet in which tables become right about a network, whatever hosts tell of the list

-- every router's table has room for all networks that the router has no port on, and for those of the list besides; so has the share of each port
pub record HasRoomBeside (net : Internet) (most_routes : ℕ) (foreign : List Network) : Type 0 where
  pub table : AllByRecursion (λ ports. length (others_of net ports ++ foreign) ≤ most_routes) net
  pub shares : AllByRecursion (λ ports. AllByRecursion (λ p. length (others_of net ports ++ foreign) ≤ p.route_share) ports) net

-- as `IsSetting`, with such room; and the network isn't on the list
abbrev pub IsSettingBeside : Internet → ℕ → List Network → List History → Network → Type 0
IsSettingBeside net most_routes foreign histories network =
    IsInternet net × NodesDiffer net × FifteenSuffice net (ups net histories) network × AreCheap net × HasRoomBeside net most_routes foreign
    × AreHistories net histories × (is_among network foreign ≡ false)
