-- The header of a packet, by its bytes.
use Rattle.std.proofs.Common.{◌≡◌, ℕ, ◌≤◌, List, length, drop, refl, Result, Ok, Err, subst, arith}
use Rattle.std.specs.Bool.{⊤}
use Rattle.std.proofs.lemmas.List.{drop-drop}
use Rattle.ipx_wire.specs.Address.{address_at}
use Rattle.ipx_wire.specs.Header.{header_at}
use Rattle.ipx_wire.specs.Packet.{Parts, packet_of}
use Rattle.ipx_wire.specs.declared.packet.PacketFault.{PacketFault}

-- an address behind other bytes
pub address_behind : (b : List ℕ) (place : ℕ) → address_at (drop place b) 0 ≡ address_at b place
unfolding address_at
address_behind b place = rw (drop-drop 4 place b, drop-drop 10 place b) refl

-- what is known of the header of a packet
pub record Leads (b : List ℕ) (p : Parts) : Type 0 where
  pub header : p.header ≡ header_at b
  pub whole : 30 ≤ length b

-- the same of whatever was read
abbrev pub Heads : List ℕ → Result Parts PacketFault → Type 0
Heads b (Ok p) = Leads b p
Heads b (Err fault) = ⊤

heads : (b : List ℕ) → Heads b (packet_of b)
unfolding packet_of
heads b = grind arith

-- the header of a packet that was read
pub header_leads : (b : List ℕ) (p : Parts) → packet_of b ≡ Ok p → Leads b p
header_leads b p e = subst (Heads b) e (heads b)
