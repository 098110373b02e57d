-- Outsiders: routers of other makers, and hosts that advertise networks as routers do, such as a server the network that it has inside. They are
-- drawn into an internet as routers, with their ports, but they don't run: what they say comes from outside.
use Rattle.std.specs.Prelude.{◌≡◌, ◌≢◌, ◌⊎◌, ℕ, ◌+◌, ◌<◌, ◌≤◌, nat_lt, true, false, if◌then◌else◌, List, [], length, Some}
use Rattle.std.specs.List.{AllByRecursion}
use Rattle.ipx_wire.specs.Crossed.{is_among}
use Rattle.ipx_wire.specs.declared.network.Network.{Network}
use Rattle.ipx_wire.specs.declared.node.Node.{Node}
use Rattle.ipx_wire.specs.declared.rip.Operation.TheVariants.{Response}
use Rattle.ipx_wire.specs.declared.rip.RipEntry.{RipEntry}
use Rattle.ipx_router.specs.Heard.{Heard, HeardRip, HeardSap}
use Rattle.ipx_router.specs.History.{History, Packet}
use Rattle.ipx_router.specs.Port.{numbers, is_up}
use Rattle.ipx_router.specs.Told.{told_at, direct_entry, entry_of}
use Rattle.ipx_router.specs.declared.route_offer.RouteOffer.{RouteOffer}
use Rattle.ipx_internet.specs.Internet.{Internet, Place, IsInternet, NodesDiffer, ports_of, port_of, network_of}
use Rattle.ipx_internet.specs.Run.{Step, Happens, Settles, AreHistories}
use Rattle.ipx_laws.specs.Apart.{TellsOnlyOf, HasRoomBeside}
use Rattle.ipx_laws.specs.Least.{Way, by_port, least, AreCheap, FifteenSuffice}
use Rattle.ipx_laws.specs.Meanwhile.{message_of}
use Rattle.ipx_laws.specs.Real.{IsReal}
use Rattle.ipx_laws.specs.Servers.{IsForHere}
use Rattle.ipx_laws.specs.Ups.{ups}

-- ---- who they are

-- the routers below that number are ours; the others are outsiders, all of whose ports are up
abbrev pub ups_with : Internet → (ours : ℕ) → List History → ℕ → List ℕ
ups_with net ours histories router = if nat_lt router ours then ups net histories router else numbers (length (ports_of net router))

-- they don't run: no port of theirs is up in what happens
abbrev pub AreStopped : Internet → (ours : ℕ) → List History → Type 0
AreStopped net ours histories = (router : ℕ) → router < length net → ours ≤ router → ups net histories router ≡ []

-- ---- what they say

module _ (net : Internet) (up : ℕ → List ℕ) where
  -- an entry is true on an outsider's port: its network is that of another port of the outsider, or the outsider has a route of a real way to it by
  -- another port; hops and ticks are as one of our routers would advertise them there
  pub data IsTrueOf : Place → RipEntry → Type 0 where
    own_network : {from : Place} {e : RipEntry} (beside : ℕ) → is_up (up from.router) beside ≡ true → beside ≢ from.port
        → e ≡ told_at (port_of net from).cost (direct_entry (ports_of net from.router) beside) → IsTrueOf from e
    real_route : {from : Place} {e : RipEntry} (s : RouteOffer) → s.port ≢ from.port → IsReal net up from.router s
        → e ≡ told_at (port_of net from).cost (entry_of s) → IsTrueOf from e

  -- where it names that network, it says the outsider's least way there, gone on
  abbrev pub IsLeastOf : Network → Place → RipEntry → Type 0
  IsLeastOf network from e =
      (way : Way) → least net up from.router network ≡ Some way → e.network ≡ network
      → e ≡ record { network = network; hops = way.hops + 1; ticks = way.ticks + (port_of net from).cost }

  -- an entry is true, and of that network the outsider says its least way
  abbrev pub IsTrueAndLeast : Network → Place → RipEntry → Type 0
  IsTrueAndLeast network from e = IsTrueOf from e × IsLeastOf network from e

  module _ (ours : ℕ) where
    -- an outsider's port on the network of a place, with that node
    pub record IsOfOutsider (to : Place) (node : Node) (from : Place) : Type 0 where
      pub outsider : ours ≤ from.router
      pub there : is_up (up from.router) from.port ≡ true
      pub network : network_of net to ≡ network_of net from
      pub same_node : node ≡ (port_of net from).node

    module _ (foreign : List Network) (Says : Place → RipEntry → Type 0) where
      -- an outsider's response, each entry of which names a network of the list, or is such
      abbrev pub IsFromOutsider : Place → Heard → Type 0
      IsFromOutsider to (HeardRip source rip) =
          (rip.operation ≡ Response) × (from : Place) × IsOfOutsider to source.node from
          × AllByRecursion (λ e. (is_among e.network foreign ≡ true) ⊎ Says from e) rip.entries
      IsFromOutsider to (HeardSap source sap) = ⊥

      -- what may come from outside: what tells of routes to networks of the list alone, or an outsider's response for the network where it comes
      abbrev pub MayComeTo : Place → List ℕ → Type 0
      MayComeTo to bytes =
          (m : Heard) → message_of bytes ≡ Some m → TellsOnlyOf foreign m ⊎ (IsForHere (port_of net to) bytes × IsFromOutsider to m)

      -- nothing else comes in a step
      abbrev pub SaysTruly : Step → Type 0
      SaysTruly (Happens router (Packet number bytes)) = MayComeTo (record { router = router; port = number }) bytes
      SaysTruly (Happens router event) = Unit
      SaysTruly Settles = Unit

-- ---- an internet in which tables become right

-- as `IsSettingBeside`, where outsiders are drawn in
abbrev pub IsSettingWith : Internet → (ours most_routes : ℕ) → List Network → List History → Network → Type 0
IsSettingWith net ours most_routes foreign histories network =
    IsInternet net × NodesDiffer net × FifteenSuffice net (ups_with net ours histories) network × AreCheap net × HasRoomBeside net most_routes foreign
    × AreHistories net histories × AreStopped net ours histories × (is_among network foreign ≡ false)

-- ---- outsiders that are heard

-- the least way of one of our routers leads by an outsider: it is the outsider's, gone on
pub record LeadsByOutsider (net : Internet) (up : ℕ → List ℕ) (ours : ℕ) (network : Network) (to from : Place) : Type 0 where
  pub an_outsider : ours ≤ from.router
  pub of_ours : to.router < ours
  pub there : is_up (up from.router) from.port ≡ true
  pub here : is_up (up to.router) to.port ≡ true
  pub one_network : network_of net to ≡ network_of net from
  pub way : Way
  pub its_least : least net up from.router network ≡ Some way
  pub our_least : least net up to.router network ≡ Some (by_port (port_of net from).cost way)
