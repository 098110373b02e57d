-- Networks become no fewer, whatever the line is.
use Rattle.std.proofs.Common.{◌≡◌, ℕ, ◌-◌, ◌<◌, ◌≤◌, Bool, true, false, not, ◌==◌, ◌&&◌, nat_lt, nat_le, if◌then◌else◌, List, length, refl, arith, Option, Some, None, inl, inr}
use Rattle.std.specs.Option.{is_some}
use Rattle.std.proofs.lemmas.Bool.{cases_Bool, ltb-true}
use Rattle.std.proofs.lemmas.List.{length-set}
use Rattle.ipx_settings.specs.declared.addresses.Place.{Place}
use Rattle.ipx_settings.specs.declared.expected.Expected.{Expected}
use Rattle.ipx_settings.specs.declared.internal.InternalBegun.{InternalBegun}
use Rattle.ipx_settings.specs.declared.line.Line.{Line}
use Rattle.ipx_settings.specs.declared.line.Line.TheVariants as line
use Rattle.ipx_settings.specs.declared.link.LinkBegun.{LinkBegun}
use Rattle.ipx_settings.specs.declared.network.NetworkBegun.{NetworkBegun}
use Rattle.ipx_settings.specs.declared.reading.Reading.{Reading}
use Rattle.ipx_settings.specs.declared.statics.RouteBegun.{RouteBegun}
use Rattle.ipx_configuration.specs.Configurations.{nothing, a_network, a_link, a_wrong_network, names_link, network_of, network_fault, after_network, internal_fault, after_internal, now_linked, with_a_link, link_line_fault, link_line, extended_by, route_clash, routed, peer_clash, peered, link_extended_by, is_below_tunnel, is_web, tunnel_fault, below_network_by, below_link_by, taken_below, taken_by, read_in, after}
use Rattle.ipx_configuration.specs.Extends.{network_taken}
use Rattle.ipx_configuration.specs.Memory.{last_network, last_link, with_network, with_last_network}
use Rattle.ipx_configuration.specs.declared.configuration.Capacity.{Capacity}
use Rattle.ipx_configuration.specs.declared.configuration.Configuration.{Configuration}
use Rattle.ipx_configuration.specs.declared.fault.Fault.{Fault}
use Rattle.ipx_configuration.specs.declared.fault.Fault.TheVariants as fault
use Rattle.ipx_configuration.specs.declared.memory.NetworkList.{NetworkList}
use Rattle.ipx_configuration.specs.declared.said.LinkSetting.{LinkSetting}
use Rattle.ipx_configuration.specs.declared.said.NetworkSetting.{NetworkSetting}

pub record Grows (n m : NetworkList) : Type 0 where
  pub no_fewer : n.count ≤ m.count
  pub room : length m.list ≡ length n.list
  pub within : n.count ≤ 32 → m.count ≤ 32

stays : (n : NetworkList) → Grows n n
stays n = record { no_fewer = omega arith; room = refl; within = λ few. few }

one_more : (n : NetworkList) (x : NetworkSetting) → Grows n (with_network n x)
one_more n x = elim (cases_Bool (nat_lt n.count 32)) [
  | inl room ↦
      let less : n.count < 32 = ltb-true n.count 32 room in
      rw room (record { no_fewer = omega arith; room = length-set n.list n.count x; within = λ few. omega (arith, less) })
  | inr full ↦ rw full (stays n)
]

another : (n : NetworkList) (x : NetworkSetting) → Grows n (with_last_network n x)
another n x = elim (cases_Bool (nat_lt 0 n.count && nat_le n.count 32)) [
  | inl some ↦ rw some (record { no_fewer = omega arith; room = length-set n.list (n.count - 1) x; within = λ few. few })
  | inr none ↦ rw none (stays n)
]

network_grows : (capacity : Capacity) (n : ℕ) (b : NetworkBegun) (own : Option Expected) (c : Configuration)
    → Grows c.networks (after_network capacity n b own c).networks
network_grows capacity n b own c = elim (cases_Bool (is_some (network_fault capacity b own c))) [
  | inl wrong ↦ rw wrong (stays c.networks)
  | inr right ↦ rw right (one_more c.networks (network_of n c.links.count b (not (names_link b own))))
]

linked_grows : (n : NetworkList) (o : Option NetworkSetting) → Grows n (now_linked n o)
linked_grows n None = stays n
linked_grows n (Some network) = another n (with_a_link network)

link_grows : (capacity : Capacity) (n : ℕ) (b : LinkBegun) (own : Option Expected) (c : Configuration)
    → Grows c.networks (link_line capacity n b own c).0.networks
link_grows capacity n b own c = elim (cases_Bool (nat_lt c.above a_wrong_network)) [
  | inl looked ↦ rw looked (elim (cases_Bool (is_some (link_line_fault capacity b own c))) [
    | inl wrong ↦ rw wrong (stays c.networks)
    | inr right ↦ rw right (linked_grows c.networks (last_network c.networks))
  ])
  | inr passed ↦ rw passed (stays c.networks)
]

internal_grows : (capacity : Capacity) (n : ℕ) (b : InternalBegun) (own : Option Expected) (c : Configuration)
    → Grows c.networks (after_internal capacity n b own c).networks
internal_grows capacity n b own c = elim (cases_Bool (is_some (internal_fault capacity b own c))) [
  | inl wrong ↦ rw wrong (stays c.networks)
  | inr right ↦ rw right (stays c.networks)
]

extended_grows : (c : Configuration) (n : ℕ) (text : List ℕ) (r : Reading) (o : Option NetworkSetting)
    → Grows c.networks (extended_by c n text r o).0.networks
extended_grows c n text r None = stays c.networks
extended_grows c n text r (Some network) = another c.networks (network_taken n text r network).0

link_extended_grows : (c : Configuration) (n : ℕ) (text : List ℕ) (r : Reading) (o : Option LinkSetting)
    → Grows c.networks (link_extended_by c n text r o).0.networks
link_extended_grows c n text r None = stays c.networks
link_extended_grows c n text r (Some link) = stays c.networks

either : (n : NetworkList) (b : Bool) (x y : Configuration × Option Fault) → Grows n x.0.networks → Grows n y.0.networks
    → Grows n (if b then x else y).0.networks
either n true x y one other = one
either n false x y one other = other

module _ (n : ℕ) (text : List ℕ) (r : Reading) (c : Configuration) where
  routed_grows : (b : RouteBegun) → Grows c.networks (routed n text r b c).0.networks
  routed_grows b =
      either c.networks (is_some (route_clash b c)) (c, route_clash b c) (extended_by c n text r (last_network c.networks)) (stays c.networks)
      (extended_grows c n text r (last_network c.networks))

  peered_grows : (b : Option Place) → Grows c.networks (peered n text r b c).0.networks
  peered_grows b =
      either c.networks (is_some (peer_clash b c)) (c, peer_clash b c) (extended_by c n text r (last_network c.networks)) (stays c.networks)
      (extended_grows c n text r (last_network c.networks))

  below_network_grows : (l : Line) → Grows c.networks (below_network_by n text r l c).0.networks
  below_network_grows line.Nothing = stays c.networks
  below_network_grows (line.Network b) = stays c.networks
  below_network_grows (line.Link b) = stays c.networks
  below_network_grows (line.Extend b) = extended_grows c n text r (last_network c.networks)
  below_network_grows (line.Clients b) = stays c.networks
  below_network_grows (line.Allow b) = stays c.networks
  below_network_grows (line.Trust b) = stays c.networks
  below_network_grows (line.Origins b) = stays c.networks
  below_network_grows (line.Peer b) = stays c.networks
  below_network_grows (line.Rate b) = stays c.networks
  below_network_grows (line.Strangers b) = stays c.networks
  below_network_grows (line.Kilobits b) = stays c.networks
  below_network_grows (line.Nodes b) = stays c.networks
  below_network_grows (line.Internal b) = stays c.networks
  below_network_grows (line.Adopt b) = extended_grows c n text r (last_network c.networks)
  below_network_grows (line.Rule permits b) = extended_grows c n text r (last_network c.networks)
  below_network_grows (line.Route b) = routed_grows b
  below_network_grows (line.Service b) = extended_grows c n text r (last_network c.networks)

  last_grows : Grows c.networks (link_extended_by c n text r (last_link c.links)).0.networks
  last_grows = link_extended_grows c n text r (last_link c.links)

  tunnel_grows : Grows c.networks (if is_below_tunnel c then link_extended_by c n text r (last_link c.links) else (c, Some (tunnel_fault c))).0.networks
  tunnel_grows = either c.networks (is_below_tunnel c) (link_extended_by c n text r (last_link c.links)) (c, Some (tunnel_fault c)) last_grows (stays c.networks)

  below_link_grows : (l : Line) → Grows c.networks (below_link_by n text r l c).0.networks
  below_link_grows line.Nothing = tunnel_grows
  below_link_grows (line.Network b) = tunnel_grows
  below_link_grows (line.Link b) = tunnel_grows
  below_link_grows (line.Extend b) = extended_grows c n text r (last_network c.networks)
  below_link_grows (line.Clients b) = tunnel_grows
  below_link_grows (line.Allow b) = tunnel_grows
  below_link_grows (line.Trust b) = tunnel_grows
  below_link_grows (line.Origins b) = either c.networks (is_web (last_link c.links)) (link_extended_by c n text r (last_link c.links)) (c, Some fault.BelowWeb) last_grows (stays c.networks)
  below_link_grows (line.Peer b) = peered_grows b
  below_link_grows (line.Rate b) = last_grows
  below_link_grows (line.Strangers b) = tunnel_grows
  below_link_grows (line.Kilobits b) = tunnel_grows
  below_link_grows (line.Nodes b) = tunnel_grows
  below_link_grows (line.Internal b) = tunnel_grows
  below_link_grows (line.Adopt b) = extended_grows c n text r (last_network c.networks)
  below_link_grows (line.Rule permits b) = extended_grows c n text r (last_network c.networks)
  below_link_grows (line.Route b) = routed_grows b
  below_link_grows (line.Service b) = extended_grows c n text r (last_network c.networks)

  below_grows : Grows c.networks (taken_below n text r c).0.networks
  below_grows =
      either c.networks (c.above == nothing) _ _ (stays c.networks)
      (either c.networks (c.above == a_network) _ _ (below_network_grows r.line)
      (either c.networks (c.above == a_link) _ _ (below_link_grows r.line) (stays c.networks)))

  taken_grows : (capacity : Capacity) (l : Line) → Grows c.networks (taken_by capacity n text r l c).0.networks
  taken_grows capacity line.Nothing = stays c.networks
  taken_grows capacity (line.Network b) = network_grows capacity n b r.fault c
  taken_grows capacity (line.Link b) = link_grows capacity n b r.fault c
  taken_grows capacity (line.Extend b) = below_grows
  taken_grows capacity (line.Clients b) = below_grows
  taken_grows capacity (line.Allow b) = below_grows
  taken_grows capacity (line.Trust b) = below_grows
  taken_grows capacity (line.Origins b) = below_grows
  taken_grows capacity (line.Peer b) = below_grows
  taken_grows capacity (line.Rate b) = below_grows
  taken_grows capacity (line.Strangers b) = below_grows
  taken_grows capacity (line.Kilobits b) = below_grows
  taken_grows capacity (line.Nodes b) = below_grows
  taken_grows capacity (line.Internal b) = internal_grows capacity n b r.fault c
  taken_grows capacity (line.Adopt b) = below_grows
  taken_grows capacity (line.Rule permits b) = below_grows
  taken_grows capacity (line.Route b) = below_grows
  taken_grows capacity (line.Service b) = below_grows

pub grows : (capacity : Capacity) (n : ℕ) (text : List ℕ) (c : Configuration) → Grows c.networks (after capacity n text c).networks
grows capacity n text c = let r = read_in capacity text c in taken_grows n text r c capacity r.line
