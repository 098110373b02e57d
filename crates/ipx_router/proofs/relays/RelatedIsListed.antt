-- What the relations say is sent on is listed, and no check drops its packet.
use Rattle.std.proofs.Common.{arith}
use Rattle.std.proofs.Common.{◌≡◌, ◌↔◌, refl, sym, ap, ◌∙◌, ℕ, true, List, [], ◌∷◌, None, Some, Result, Ok, Err, inl, inr}
use Rattle.std.specs.List.{flat_map, slice_get}
use Rattle.std.proofs.lemmas.Bool.{and_from, not_from_false, ne_eqb, le-leb}
use Rattle.ipx_wire.specs.Crossed.{IsCrossed, crossed_of, networks_at}
use Rattle.ipx_wire.specs.Packet.{Parts, IsPacket, packet_of}
use Rattle.ipx_wire.specs.Piece.{IsBytes}
use Rattle.ipx_wire.specs.declared.crossed.CrossedFault.{CrossedFault}
use Rattle.ipx_wire.specs.declared.network.Network.{Network}
use Rattle.ipx_router.specs.Outgoing.{Way}
use Rattle.ipx_router.specs.Packets.{IsRelayed}
use Rattle.ipx_router.specs.Port.{Port, port_at}
use Rattle.ipx_router.specs.Relays.{Sent, IsForwarded, IsPropagated, goes_out, propagated_on, relayed}
use Rattle.ipx_router.specs.Why.{first_of, why, is_propagated}
use Rattle.ipx_router.specs.declared.route_offer.RouteOffer.{RouteOffer}
use Rattle.ipx_router.proofs.bytes.FieldsAreBytes.{parts_bytes}
use Rattle.ipx_router.proofs.lists.FoundWherePut.{piece_found}
use Rattle.ipx_router.proofs.verdicts.SentOnPassesChecks.{judged, all_checks, far_passes, propagated_passes}
use Rattle.ipx_router.proofs.relays.ListedIsRelated.{networks_listed}

-- no check drops the packet, and it stands in the list of what is sent on
abbrev Listed : List Port → List ℕ → List RouteOffer → ℕ → List ℕ → Sent → Type 0
Listed ports up routes number bytes s =
    (why ports up routes true number bytes ≡ None)
    × ((p : Parts) × (k : ℕ) × (packet_of bytes ≡ Ok p) × (slice_get (relayed ports up routes number p) k ≡ Some s))

same_networks : (ms ns : List Network) → ◌≡◌ {A = Result (List Network) CrossedFault} (Ok ms) (Ok ns) → ms ≡ ns
same_networks ms ns e = ap (λ (r : Result (List Network) CrossedFault). elim r [ Ok networks ↦ networks | Err fault ↦ ms ]) e

module _
    (packet_read : (bytes : List ℕ) (p : Parts) → IsBytes bytes → (packet_of bytes ≡ Ok p ↔ IsPacket bytes p))
    (crossed_read : (control : ℕ) (payload : List ℕ) (networks : List Network) → IsBytes payload
    → (crossed_of control payload ≡ Ok networks ↔ IsCrossed control payload networks))
    (ports : List Port) (up : List ℕ) (routes : List RouteOffer) (number : ℕ) (bytes : List ℕ) (s : Sent) (are : IsBytes bytes) where
  -- what passes the checks, at its place of the list
  placed : (p : Parts) (k : ℕ) → IsPacket bytes p → first_of (all_checks ports up routes (port_at ports number) number p) ≡ None
      → slice_get (relayed ports up routes number p) k ≡ Some s → Listed ports up routes number bytes s
  placed p k is passed stands =
      let read = (packet_read bytes p are).1 is in
      (ap (judged ports up routes (port_at ports number) number) read ∙ passed, (p, k, read, stands))

  -- ---- a far packet

  one_forwarded : (f : IsForwarded ports up routes number bytes s) → relayed ports up routes number f.packet ≡ s ∷ []
  one_forwarded f = grind arith

  all_forwarded : IsForwarded ports up routes number bytes s → Listed ports up routes number bytes s
  all_forwarded f =
      let way : Way = record { port = s.port; link = s.link } in
      let leaves = f.leaves in
      let passed = far_passes ports up routes (port_at ports number) number f.packet leaves.comes_up way leaves.no_echo leaves.source f.far f.few f.elsewhere f.way leaves.short in
      placed f.packet 0 f.is passed (ap (λ (list : List Sent). slice_get list 0) (one_forwarded f))

  -- ---- a packet for all networks

  -- the networks that it crossed are those that are read
  read_networks : (f : IsPropagated ports up number bytes s) → f.networks ≡ networks_at f.packet.header.control f.packet.payload
  read_networks f =
      let control = f.packet.header.control in
      let payload = f.packet.payload in
      let crossed = (crossed_read control payload f.networks (parts_bytes bytes f.packet are f.is).payload).1 f.crossed in
      same_networks f.networks (networks_at control payload) (sym crossed ∙ networks_listed control payload f.crossed.eight f.crossed.free)

  does_go : (f : IsPropagated ports up number bytes s) → goes_out ports number f.packet s.port ≡ true
  does_go f = grind (arith, not_from_false, ne_eqb, read_networks, and_from, le-leb)

  one_propagated : (f : IsPropagated ports up number bytes s) → propagated_on ports number f.packet s.port ≡ s ∷ []
  one_propagated f = rw (does_go f, sym f.written, sym f.link) refl

  whole : (p : Parts) → is_propagated p.header ≡ true → relayed ports up routes number p ≡ flat_map (propagated_on ports number p) up
  whole p all = rw all refl

  all_propagated : IsPropagated ports up number bytes s → Listed ports up routes number bytes s
  all_propagated f =
      let leaves = f.leaves in
      let crossed = f.crossed in
      let new_here = rw (read_networks f) at f.new_here in
      let passed = propagated_passes ports up routes (port_at ports number) number f.packet leaves.comes_up leaves.no_echo leaves.source f.all crossed.eight crossed.free new_here in
      let there = ap (λ (list : List Sent). slice_get list 0) (one_propagated f) in
      let (k, stands) = piece_found (propagated_on ports number f.packet) up s.port 0 s leaves.leaves_up there in
      placed f.packet k f.is passed (ap (λ (list : List Sent). slice_get list k) (whole f.packet f.all) ∙ stands)

  -- ---- either

  pub all : IsRelayed ports up routes number bytes s → Listed ports up routes number bytes s
  all (inl f) = all_forwarded f
  all (inr f) = all_propagated f
