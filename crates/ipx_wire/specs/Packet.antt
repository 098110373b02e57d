-- A packet: a header, the data that its length counts, and padding (IPX Router Specification).
use Rattle.std.specs.Prelude.{◌≡◌, ℕ, ◌+◌, ◌<◌, ◌≤◌, nat_lt, if◌then◌else◌, List, ◌++◌, length, take, drop, Result, Ok, Err}
use Rattle.ipx_wire.specs.Header.{IsHeader, header_bytes, header_at, length_field}
use Rattle.ipx_wire.specs.declared.header.Header.{Header}
use Rattle.ipx_wire.specs.declared.packet.PacketFault.{PacketFault}
use Rattle.ipx_wire.specs.declared.packet.PacketFault.TheVariants.{Short, LengthSmall, LengthBeyond}

-- what a packet says: its header and its data
pub record Parts : Type 0 where
  pub header : Header
  pub payload : List ℕ

-- the bytes are the header, the data and any padding, which says nothing (own); the length counts header and data
pub record IsPacket (bytes : List ℕ) (p : Parts) : Type 0 where
  pub header : IsHeader p.header
  pub padding : List ℕ
  pub layout : bytes ≡ header_bytes p.header ++ p.payload ++ padding
  pub counted : p.header.length ≡ 30 + length p.payload

-- why bytes are no packet: each fault holds only where those before it don't
abbrev pub IsNoPacket : List ℕ → PacketFault → Type 0
IsNoPacket bytes Short = length bytes < 30
IsNoPacket bytes LengthSmall = (30 ≤ length bytes) × (length_field bytes < 30)
IsNoPacket bytes LengthBeyond = (30 ≤ length bytes) × (30 ≤ length_field bytes) × (length bytes < length_field bytes)

-- what is read from bytes: the packet, or the first fault that holds
unfoldable pub packet_of : List ℕ → Result Parts PacketFault
packet_of bytes =
    if nat_lt (length bytes) 30 then Err Short
    else if nat_lt (length_field bytes) 30 then Err LengthSmall
    else if nat_lt (length bytes) (length_field bytes) then Err LengthBeyond
    else Ok (record { header = header_at bytes; payload = drop 30 (take (length_field bytes) bytes) })
