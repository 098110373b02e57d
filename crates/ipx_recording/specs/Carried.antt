-- Where an IPX packet stands behind the header of a link: in frames of Ethernet, with and without tags of 802.1Q, in what Linux records of all its
-- interfaces, in frames of PPP, and in datagrams of UDP.
use Rattle.std.specs.Prelude.{ℕ, ◌-◌, ◌*◌, ◌/◌, ◌%◌, nat_lt, nat_le, Bool, ◌&&◌, ◌||◌, ◌==◌, not, if◌then◌else◌, List, [], ◌∷◌, length, drop, slice_index, Option, Some, None}
use Rattle.std.specs.Int.{from_be_bytes, w16}
use Rattle.ipx_wire.specs.Piece.{piece}
use Rattle.ipx_capture.specs.Frame.{Kind, begins, by_field}
use Rattle.ipx_capture.specs.Framed.{framed}
use Rattle.ipx_recording.specs.declared.carrier.Carried.{Carried}
use Rattle.ipx_recording.specs.declared.carrier.Carried.TheVariants as code

-- how a packet is carried: in a frame of that kind, or behind the protocol number of PPP, or in a datagram of UDP
pub data Carrier : Type 0 where
  Framed : (kind : Kind) → Carrier
  Ppp : Carrier
  Udp : Carrier

-- the number in two bytes
abbrev pub u16_at : List ℕ → ℕ → ℕ
u16_at bytes place = from_be_bytes w16 (piece bytes place 2)

-- ports that carry IPX packets: the one that is registered for it, and that of the gateway
abbrev pub is_port : ℕ → Bool
is_port port = (port == 213) || (port == 2130)

-- a packet without a checksum, just as long as it says
abbrev pub is_exact : List ℕ → Bool
is_exact content = begins (0xFF ∷ 0xFF ∷ []) content && (nat_le 30 (length content) && (u16_at content 2 == length content))

-- what a datagram carries: from port 2, to port 2, length 2, checksum 2, content
abbrev pub data_of : List ℕ → List ℕ
data_of datagram = piece datagram 8 (u16_at datagram 4 - 8)

abbrev pub in_datagram : List ℕ → List ℕ → Option (Carrier × List ℕ)
in_datagram datagram content =
    if is_port (u16_at datagram 0) || (is_port (u16_at datagram 2) || is_exact content) then Some (Udp, content) else None

unfoldable pub by_datagram : List ℕ → Option (Carrier × List ℕ)
by_datagram datagram =
    if nat_lt (length datagram) 8 then None
    else if nat_lt (u16_at datagram 4) 8 then None
    else if nat_lt (length datagram) (u16_at datagram 4) then None
    else in_datagram datagram (data_of datagram)

-- how many bytes the header of a packet of IP has, and how many the packet has
abbrev pub ip_header : List ℕ → ℕ
ip_header bytes = 4 * (slice_index bytes 0 % 16)

abbrev pub ip_length : List ℕ → ℕ
ip_length bytes = u16_at bytes 2

-- version 4, no fragment, and UDP
abbrev pub is_udp : List ℕ → Bool
is_udp bytes = (slice_index bytes 0 / 16 == 4) && ((u16_at bytes 6 % 0x4000 == 0) && (slice_index bytes 9 == 17))

-- a packet of IP: version and length of the header 1, service 1, length 2, number 2, fragment 2, hops 1, protocol 1, checksum 2, addresses 8, options
unfoldable pub by_ip : List ℕ → Option (Carrier × List ℕ)
by_ip bytes =
    if nat_lt (length bytes) 20 then None
    else if not (is_udp bytes) then None
    else if nat_lt (ip_header bytes) 20 then None
    else if nat_lt (ip_length bytes) (ip_header bytes) then None
    else if nat_lt (length bytes) (ip_length bytes) then None
    else by_datagram (piece bytes (ip_header bytes) (ip_length bytes - ip_header bytes))

-- in a frame
abbrev pub lifted : Option (Kind × List ℕ) → Option (Carrier × List ℕ)
lifted None = None
lifted (Some (kind, packet)) = Some (Framed kind, packet)

-- by the type of a frame or its length, and what follows that: IP, or one of the four kinds of frames
unfoldable pub by_protocol : ℕ → List ℕ → Option (Carrier × List ℕ)
by_protocol field rest = if field == 0x0800 then by_ip rest else lifted (by_field field rest)

-- types of tags: 802.1Q, and an outer one
abbrev pub is_tag : ℕ → Bool
is_tag field = (field == 0x8100) || (field == 0x88A8)

-- a tag: its network 2, and the type or length of what is tagged 2
unfoldable pub by_inner : ℕ → List ℕ → Option (Carrier × List ℕ)
by_inner field rest =
    if is_tag field then (if nat_lt (length rest) 4 then None else by_protocol (u16_at rest 2) (drop 4 rest)) else by_protocol field rest

-- two tags at most
unfoldable pub by_type : ℕ → List ℕ → Option (Carrier × List ℕ)
by_type field rest =
    if is_tag field then (if nat_lt (length rest) 4 then None else by_inner (u16_at rest 2) (drop 4 rest)) else by_protocol field rest

-- behind a header of so many bytes, which has the type at a place
unfoldable pub behind : ℕ → ℕ → List ℕ → Option (Carrier × List ℕ)
behind size place bytes = if nat_lt (length bytes) size then None else by_type (u16_at bytes place) (drop size bytes)

-- behind the protocol number of IPX, 002Bh, with or without address and control before it
unfoldable pub by_ppp : List ℕ → Option (Carrier × List ℕ)
by_ppp bytes =
    if begins (0xFF ∷ 0x03 ∷ 0x00 ∷ 0x2B ∷ []) bytes then Some (Ppp, drop 4 bytes)
    else if begins (0x00 ∷ 0x2B ∷ []) bytes then Some (Ppp, drop 2 bytes)
    else None

-- link types: Ethernet 1, PPP 9, IP 101, and what Linux records of all its interfaces 113 and 276
unfoldable pub carried_in : ℕ → List ℕ → Option (Carrier × List ℕ)
carried_in link bytes =
    if link == 1 then behind 14 12 bytes
    else if link == 9 then by_ppp bytes
    else if link == 101 then by_ip bytes
    else if link == 113 then behind 16 14 bytes
    else if link == 276 then behind 20 0 bytes
    else None

-- what `carried` returns, as carrier and packet
abbrev pub carried_by : Carried → Option (Carrier × List ℕ)
carried_by (code.Framed frame) = lifted (framed frame)
carried_by (code.Ppp packet) = Some (Ppp, packet.now)
carried_by (code.Udp packet) = Some (Udp, packet.now)
