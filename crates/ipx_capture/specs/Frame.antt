-- Ethernet frames that carry IPX: destination 6, source 6, a type or length field of 2, and the rest (IPX Router Specification, frame formats).
use Rattle.std.specs.Prelude.{◌≡◌, ℕ, ◌<◌, Bool, nat_lt, nat_eq, ◌==◌, if◌then◌else◌, List, [], ◌∷◌, ◌++◌, length, drop, Option, Some, None}
use Rattle.std.specs.List.{starts_with}
use Rattle.std.specs.Int.{from_be_bytes, w16}
use Rattle.ipx_wire.specs.Piece.{piece}

-- how a frame carries a packet
pub data Kind : Type 0 where
  EthernetII : Kind
  Raw : Kind
  Llc : Kind
  Snap : Kind

-- two addresses, the type 8137h, and the packet
pub record IsTyped (bytes packet : List ℕ) : Type 0 where
  pub addresses : List ℕ
  pub twelve : length addresses ≡ 12
  pub layout : bytes ≡ addresses ++ (0x81 ∷ 0x37 ∷ []) ++ packet

-- two addresses, a length under 0600h that says nothing else, a front, and the packet
pub record IsCounted (front bytes packet : List ℕ) : Type 0 where
  pub addresses : List ℕ
  pub field : List ℕ
  pub twelve : length addresses ≡ 12
  pub two : length field ≡ 2
  pub small : from_be_bytes w16 field < 0x600
  pub layout : bytes ≡ addresses ++ field ++ front ++ packet

-- a packet whose checksum field is FFFFh
abbrev pub IsUnsummed : List ℕ → Type 0
IsUnsummed packet = (rest : List ℕ) × (packet ≡ 0xFF ∷ 0xFF ∷ rest)

-- the access points E0h, and 3
abbrev pub llc_front : List ℕ
llc_front = 0xE0 ∷ 0xE0 ∷ 0x03 ∷ []

-- the access points AAh, 3, no organization, and the protocol 8137h
abbrev pub snap_front : List ℕ
snap_front = 0xAA ∷ 0xAA ∷ 0x03 ∷ 0x00 ∷ 0x00 ∷ 0x00 ∷ 0x81 ∷ 0x37 ∷ []

-- the bytes are a frame of that kind, and the packet stands in it to its end
abbrev pub IsFrame : List ℕ → Kind → List ℕ → Type 0
IsFrame bytes EthernetII packet = IsTyped bytes packet
IsFrame bytes Raw packet = IsCounted [] bytes packet × IsUnsummed packet
IsFrame bytes Llc packet = IsCounted llc_front bytes packet
IsFrame bytes Snap packet = IsCounted snap_front bytes packet

-- whether bytes begin so
abbrev pub begins : List ℕ → List ℕ → Bool
begins front bytes = starts_with nat_eq bytes front

-- kind and packet by the bytes behind a length field
abbrev pub by_front : List ℕ → Option (Kind × List ℕ)
by_front rest =
    if begins (0xFF ∷ 0xFF ∷ []) rest then Some (Raw, rest)
    else if begins llc_front rest then Some (Llc, drop 3 rest)
    else if begins snap_front rest then Some (Snap, drop 8 rest)
    else None

-- kind and packet by the type or length field, and what follows it
abbrev pub by_field : ℕ → List ℕ → Option (Kind × List ℕ)
by_field field rest =
    if field == 0x8137 then Some (EthernetII, rest)
    else if nat_lt field 0x600 then by_front rest
    else None

-- kind and packet of a frame, where it carries one
abbrev pub frame_of : List ℕ → Option (Kind × List ℕ)
frame_of bytes = if nat_lt (length bytes) 14 then None else by_field (from_be_bytes w16 (piece bytes 12 2)) (drop 14 bytes)
