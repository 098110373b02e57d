-- What a router sends on of bytes are bytes.
use Rattle.std.proofs.lemmas.Grind.{common_steps}
use Rattle.std.proofs.Common.{◌≡◌, sym, subst, ℕ, zero, suc, ◌+◌, ◌*◌, ◌/◌, ◌^◌, ◌<◌, ◌≤◌, List, [], ◌∷◌, ◌++◌, take, drop, replicate, length, arith, lit<}
use Rattle.std.specs.Int.{byte_at, bytes_high_first}
use Rattle.std.specs.List.{AllByRecursion}
use Rattle.std.proofs.lemmas.Nat.{mod_below}
use Rattle.ipx_wire.specs.Crossed.{IsCrossed, network_bytes}
use Rattle.ipx_wire.specs.Forward.{forwarded, propagated}
use Rattle.ipx_wire.specs.Numbers.{crossed_bytes, crossed_places}
use Rattle.ipx_wire.specs.Packet.{Parts, IsPacket}
use Rattle.ipx_wire.specs.Piece.{IsBytes, piece}
use Rattle.ipx_wire.specs.Write.{packet_bytes}
use Rattle.ipx_wire.specs.declared.network.Network.{Network}
use Rattle.ipx_router.specs.Numbers.{most_routers}
use Rattle.ipx_internet.proofs.lists.EachElement.{all-append, all_or}

abbrev IsByte : ℕ → Type 0
IsByte b = b < 256

abbrev AreBytes : List ℕ → Type 0
AreBytes bs = AllByRecursion IsByte bs

each_byte : (bs : List ℕ) → IsBytes bs → AreBytes bs
each_byte [] are = tt
each_byte (b ∷ bs) are = (are 0, each_byte bs (λ i. are (suc i)))

at_each_place : (bs : List ℕ) → AreBytes bs → IsBytes bs
at_each_place bs all i = all_or IsByte bs i 0 all (lit< tt)

taken : (n : ℕ) (bs : List ℕ) → AreBytes bs → AreBytes (take n bs)
taken n bs all = grind (arith, common_steps)

dropped : (n : ℕ) (bs : List ℕ) → AreBytes bs → AreBytes (drop n bs)
dropped n bs all = grind (arith, common_steps)

of_number : (k n : ℕ) → AreBytes (bytes_high_first k n)
of_number zero n = tt
of_number (suc k) n = (digit k n, of_number k n)
  where
    digit : (k n : ℕ) → byte_at k n < 256
    digit zero n = mod_below n 256 (lit< tt)
    digit (suc k) n = mod_below (n / 256 ^ suc k) 256 (lit< tt)

of_network : (network : Network) → AreBytes (network_bytes network)
unfolding network_bytes
of_network network = of_number 4 network.0

-- what is sent on, over the bytes that came
pub record SentOn : Type 0 where
  pub forwarded_over : (bytes : List ℕ) (p : Parts) → IsPacket bytes p → p.header.control < 255
      → packet_bytes (forwarded p) ≡ take 4 bytes ++ (p.header.control + 1) ∷ drop 5 (take p.header.length bytes)
  pub propagated_over : (bytes : List ℕ) (p : Parts) (arrived outgoing : Network) → IsPacket bytes p → p.header.control < crossed_places
      → crossed_bytes ≤ length p.payload
      → packet_bytes (propagated arrived outgoing p) ≡ replicate 2 0xff ++ piece bytes 2 2 ++ (p.header.control + 1) ∷ piece bytes 5 1 ++ network_bytes outgoing
      ++ piece bytes 10 (20 + 4 * p.header.control) ++ network_bytes arrived ++ drop (34 + 4 * p.header.control) (take p.header.length bytes)

module _ (laws : SentOn) (bytes : List ℕ) (p : Parts) (are : IsBytes bytes) (is : IsPacket bytes p) where
  all : AreBytes bytes
  all = each_byte bytes are

  pub forwarded_bytes : p.header.control < most_routers → IsBytes (packet_bytes (forwarded p))
  forwarded_bytes few =
      let behind : List ℕ = drop 5 (take p.header.length bytes) in
      at_each_place (packet_bytes (forwarded p))
      (subst (λ (bs : List ℕ). AreBytes bs) (sym (laws.forwarded_over bytes p is (omega (arith, few))))
      (all-append IsByte (take 4 bytes) ((p.header.control + 1) ∷ behind) (taken 4 bytes all)
      (omega (arith, few), dropped 5 (take p.header.length bytes) (taken p.header.length bytes all))))

  pub propagated_bytes : (arrived outgoing : Network) (networks : List Network) → IsCrossed p.header.control p.payload networks
      → IsBytes (packet_bytes (propagated arrived outgoing p))
  propagated_bytes arrived outgoing networks crossed =
      let free = crossed.free in
      let control = p.header.control in
      let cut : (place n : ℕ) → AreBytes (piece bytes place n) = λ place n. taken n (drop place bytes) (dropped place bytes all) in
      let and : (xs ys : List ℕ) → AreBytes xs → AreBytes ys → AreBytes (xs ++ ys) = all-append IsByte in
      let end : List ℕ = drop (34 + 4 * control) (take p.header.length bytes) in
      let to_kind : List ℕ = replicate 2 0xff ++ piece bytes 2 2 ++ (control + 1) ∷ piece bytes 5 1 in
      let to_outgoing : List ℕ = to_kind ++ network_bytes outgoing in
      let to_crossed : List ℕ = to_outgoing ++ piece bytes 10 (20 + 4 * control) in
      let to_arrived : List ℕ = to_crossed ++ network_bytes arrived in
      at_each_place (packet_bytes (propagated arrived outgoing p))
      (subst (λ (bs : List ℕ). AreBytes bs) (sym (laws.propagated_over bytes p arrived outgoing is free crossed.eight))
      (and to_arrived end
      (and to_crossed (network_bytes arrived)
      (and to_outgoing (piece bytes 10 (20 + 4 * control))
      (and to_kind (network_bytes outgoing)
      (and (replicate 2 0xff ++ piece bytes 2 2) ((control + 1) ∷ piece bytes 5 1)
      (and (replicate 2 0xff) (piece bytes 2 2) (lit< tt, (lit< tt, tt)) (cut 2 2)) (omega (arith, free), cut 5 1))
      (of_network outgoing))
      (cut 10 (20 + 4 * control)))
      (of_network arrived))
      (dropped (34 + 4 * control) (take p.header.length bytes) (taken p.header.length bytes all))))
