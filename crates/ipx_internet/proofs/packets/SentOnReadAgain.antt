-- The laws of packets that the proofs rest on.
use Rattle.std.proofs.Common.{◌≡◌, ◌↔◌, subst, ℕ, ◌<◌, ◌≤◌, true, List, [], ◌∷◌, ◌++◌, length, append-nil, arith}
use Rattle.ipx_wire.specs.Crossed.{IsNetwork, IsCrossed}
use Rattle.ipx_wire.specs.Forward.{forwarded, propagated}
use Rattle.ipx_wire.specs.Numbers.{crossed_bytes, crossed_places}
use Rattle.ipx_wire.specs.Packet.{Parts, IsPacket}
use Rattle.ipx_wire.specs.Write.{packet_bytes}
use Rattle.ipx_wire.specs.declared.network.Network.{Network}
use Rattle.ipx_wire.specs.declared.node.Node.{Node}
use Rattle.ipx_router.specs.Numbers.{most_routers}
use Rattle.ipx_router.specs.Port.{same_node}

pub record Wire : Type 0 where
  pub one_packet : (bytes : List ℕ) (p q : Parts) → IsPacket bytes p → IsPacket bytes q → p ≡ q
  pub one_crossed : (control : ℕ) (payload : List ℕ) (ms ns : List Network) → IsCrossed control payload ms → IsCrossed control payload ns → ms ≡ ns
  pub forwarded_again : (bytes : List ℕ) (p : Parts) (further : List ℕ) → IsPacket bytes p → p.header.control < 255
      → IsPacket (packet_bytes (forwarded p) ++ further) (forwarded p)
  pub propagated_again : (bytes : List ℕ) (p : Parts) (arrived outgoing : Network) (further : List ℕ) → IsPacket bytes p → p.header.control < crossed_places
      → crossed_bytes ≤ length p.payload → IsNetwork outgoing → IsPacket (packet_bytes (propagated arrived outgoing p) ++ further) (propagated arrived outgoing p)
  pub crossed_again : (p : Parts) (networks : List Network) (arrived outgoing : Network) → IsCrossed p.header.control p.payload networks
      → (propagated arrived outgoing p).header.control < crossed_places → IsNetwork arrived
      → IsCrossed (propagated arrived outgoing p).header.control (propagated arrived outgoing p).payload (networks ++ arrived ∷ [])
  pub same_nodes : (a b : Node) → (same_node a b ≡ true ↔ a ≡ b)

module _ (w : Wire) (bytes : List ℕ) (p : Parts) (is : IsPacket bytes p) where
  -- what is sent on is read as it was changed
  pub read_forwarded : p.header.control < most_routers → IsPacket (packet_bytes (forwarded p)) (forwarded p)
  read_forwarded few = grind (arith, append-nil)

  pub read_propagated : (arrived outgoing : Network) (networks : List Network) → IsCrossed p.header.control p.payload networks → IsNetwork outgoing
      → IsPacket (packet_bytes (propagated arrived outgoing p)) (propagated arrived outgoing p)
  read_propagated arrived outgoing networks crossed number =
      let P : List ℕ → Type 0 = λ bytes. IsPacket bytes (propagated arrived outgoing p) in
      subst P (append-nil (packet_bytes (propagated arrived outgoing p)))
      (w.propagated_again bytes p arrived outgoing [] is crossed.free crossed.eight number)
