-- A propagated packet leaves by another port, for a network where it wasn't; and what the next router reads of it.
use Rattle.std.proofs.Common.{◌≡◌, ◌≢◌, sym, ◌∙◌, subst, ℕ, ◌<◌, true, false, List, length, Some, inl, inr, lt_trans, lit<, arith}
use Rattle.std.proofs.lemmas.Bool.{and_parts, not-true, both_ways}
use Rattle.ipx_wire.specs.Crossed.{IsNetwork, IsCrossed, is_among}
use Rattle.ipx_wire.specs.Forward.{propagated}
use Rattle.ipx_wire.specs.Packet.{Parts, IsPacket}
use Rattle.ipx_wire.specs.Write.{packet_bytes}
use Rattle.ipx_wire.specs.declared.network.Network.{Network}
use Rattle.ipx_router.specs.Port.{is_up}
use Rattle.ipx_router.specs.Why.{is_propagated}
use Rattle.ipx_internet.specs.Internet.{Internet, Place, network_of, IsPlace, IsInternet}
use Rattle.ipx_internet.specs.Log.{Sending, Reception, reception_at, outlet, IsForward, IsLog}
use Rattle.ipx_internet.proofs.lists.EachElement.{holds_of}
use Rattle.ipx_internet.proofs.packets.SentOnReadAgain.{Wire, read_propagated}
use Rattle.ipx_internet.proofs.places.OneReceiverOfANode.{one_port, apart_at, port_is}

-- the network of a port is one
pub place_network : (net : Internet) → IsInternet net → (place : Place) → IsPlace net place → IsNetwork (network_of net place)
place_network net is place within = lt_trans (port_is net is place within).ordinary_network (lit< tt)

module _ (w : Wire) (net : Internet) (is : IsInternet net) (log : List Reception) (whole : IsLog net log) where
  -- the network of the port where a packet came
  abbrev pub arrival : Sending → Network
  arrival s = network_of net (reception_at log s.place).to

  -- and of the port where it leaves
  abbrev pub departure : Sending → Network
  departure s = network_of net (outlet log s)

  -- it leaves by a port that is up, so by one that there is
  pub leaves_up : (s : Sending) → IsForward net log s → is_up (reception_at log s.place).up s.sent.port ≡ true
  leaves_up s forward = elim forward.relayed [ inl f ↦ f.leaves.leaves_up | inr f ↦ f.leaves.leaves_up ]

  pub outlet_is : (s : Sending) → IsForward net log s → IsPlace net (outlet log s)
  outlet_is s forward = grind (arith, holds_of, leaves_up)

  pub is_network : (place : Place) → IsPlace net place → IsNetwork (network_of net place)
  is_network place within = place_network net is place within

  -- how a packet for all networks is sent on
  pub record Spreads (s : Sending) (p : Parts) : Type 0 where
    pub networks : List Network
    pub crossed : IsCrossed p.header.control p.payload networks
    pub other : s.sent.port ≢ (reception_at log s.place).to.port
    pub new_there : is_among (departure s) networks ≡ false
    pub written : s.sent.bytes ≡ packet_bytes (propagated (arrival s) (departure s) p)

  pub spreads : (s : Sending) (p : Parts) → IsForward net log s → IsPacket (reception_at log s.place).bytes p → is_propagated p.header ≡ true → Spreads s p
  spreads s p forward packet all = elim forward.relayed [
    | inr f ↦
        let P : Parts → Type 0 = λ q. Spreads s q in
        subst P (w.one_packet (reception_at log s.place).bytes f.packet p f.is packet)
        (record { networks = f.networks; crossed = f.crossed; other = f.other; new_there = f.new_there; written = f.written })
    | inl f ↦
        let P : Parts → Type 0 = λ q. is_propagated q.header ≡ false in
        let one = not-true (is_propagated f.packet.header) (and_parts _ _ f.far).0 in
        absurd (both_ways (is_propagated p.header) (subst P (w.one_packet (reception_at log s.place).bytes f.packet p f.is packet) one) all)
  ]

  -- it goes to another network
  pub elsewhere : (s : Sending) (p : Parts) → IsForward net log s → Spreads s p → (arrival s).0 ≡ (departure s).0 → ⊥
  elsewhere s p forward spread e = grind (arith, one_port, apart_at, outlet_is)

  -- what is received of it
  pub received : (child : ℕ) (s : Sending) (p : Parts) → child < length log → (reception_at log child).origin ≡ Some s → IsForward net log s
      → IsPacket (reception_at log s.place).bytes p → Spreads s p
      → IsPacket (reception_at log child).bytes (propagated (arrival s) (departure s) p)
  received child s p within origin forward packet spread =
      let P : List ℕ → Type 0 = λ bytes. IsPacket bytes (propagated (arrival s) (departure s) p) in
      subst P (sym ((whole.origins child s within origin).same ∙ spread.written))
      (read_propagated w (reception_at log s.place).bytes p packet (arrival s) (departure s) spread.networks spread.crossed
      (is_network (outlet log s) (outlet_is s forward)))
