-- What was written to the front of bytes is read again.
use Rattle.std.proofs.Common.{◌≡◌, sym, subst, arith, ℕ, ◌+◌, ◌<◌, inl, inr, List, ◌++◌, length, take, Ok}
use Rattle.std.proofs.lemmas.Bool.{cases_lt}
use Rattle.std.proofs.lemmas.List.{get_or-append-add, take_at}
use Rattle.std.proofs.Math.ListN.{get_or-append}
use Rattle.std.proofs.lemmas.List.{get_or_past}
use Rattle.ipx_wire.specs.Header.{header_bytes}
use Rattle.ipx_wire.specs.Packet.{Parts, IsPacket, packet_of}
use Rattle.ipx_wire.specs.Piece.{IsBytes}
use Rattle.ipx_wire.specs.Write.{packet_bytes}

-- the front of bytes, and what is behind it
front_bytes : (front rest : List ℕ) → IsBytes (front ++ rest) → IsBytes front
front_bytes front rest all i = elim (cases_lt i (length front)) [
  | inl within ↦ subst (λ (n : ℕ). n < 256) (get_or-append front rest 0 i within) (all i)
  | inr beyond ↦ subst (λ (n : ℕ). n < 256) (sym (get_or_past front i 0 beyond)) (omega arith)
]

rest_bytes : (front rest : List ℕ) → IsBytes (front ++ rest) → IsBytes rest
rest_bytes front rest all i = subst (λ (n : ℕ). n < 256) (get_or-append-add front rest i 0) (all (length front + i))

-- the packet is what stands in front
pub packet_again : (p : Parts) (n : ℕ) (out rest : List ℕ) → out ≡ packet_bytes p ++ rest → length (packet_bytes p) ≡ n → IsBytes out
    → ((bytes : List ℕ) (q : Parts) → IsBytes bytes → IsPacket bytes q → packet_of bytes ≡ Ok q) → IsPacket (packet_bytes p) p → packet_of (take n out) ≡ Ok p
packet_again p n out rest is size all read packet =
    let front : take n out ≡ packet_bytes p = subst (λ (l : List ℕ). take n l ≡ packet_bytes p) (sym is) (take_at (packet_bytes p) rest n size) in
    subst (λ (l : List ℕ). packet_of l ≡ Ok p) (sym front) (read (packet_bytes p) p (front_bytes (packet_bytes p) rest (subst IsBytes is all)) packet)

-- its data are bytes
pub data_bytes : (p : Parts) (out rest : List ℕ) → out ≡ packet_bytes p ++ rest → IsBytes out → IsBytes p.payload
data_bytes p out rest is all = rest_bytes (header_bytes p.header) p.payload (front_bytes (packet_bytes p) rest (subst IsBytes is all))
