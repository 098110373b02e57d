-- Words that are addresses with a port, and what may stand in their place.
use Rattle.std.specs.Prelude.{ℕ, ◌-◌, ◌^◌, ◌%◌, Bool, false, not, ◌==◌, ◌&&◌, nat_le, if◌then◌else◌, List, [], ◌∷◌, length, drop, replicate, Option, Some, None, slice_index}
use Rattle.std.specs.Int.{from_be_bytes}
use mir.Syntax.{w32}
use Rattle.std.specs.Option.{option_map}
use Rattle.std.specs.Str.{bytes_eq}
use Rattle.ipx_settings.specs.Cutting.{◌>>=◌, cut_at, colon, slash}
use Rattle.ipx_settings.specs.Hosts.{four_of, six_of}
use Rattle.ipx_settings.specs.Names.{is_host_name, padded, host_room}
use Rattle.ipx_settings.specs.Numbers.{number_of}
use Rattle.ipx_settings.specs.declared.addresses.Address.{Address}
use Rattle.ipx_settings.specs.declared.addresses.Host.{Host}
use Rattle.ipx_settings.specs.declared.addresses.Host.TheVariants.{Four, Six}
use Rattle.ipx_settings.specs.declared.addresses.Place.{Place}
use Rattle.ipx_settings.specs.declared.addresses.Place.TheVariants.{At, Named}
use Rattle.ipx_settings.specs.declared.addresses.HostRange.{HostRange}

abbrev pub opening : ℕ
opening = 91

abbrev pub closing : ℕ
closing = 93

-- the host of an address without one
abbrev pub own_host : List ℕ
own_host = 127 ∷ 0 ∷ 0 ∷ 1 ∷ []

-- a port, 0 to 65535
abbrev pub port_of : List ℕ → Option ℕ
port_of word = number_of 0 65535 word

-- a host by four numbers, or this machine where there is none
abbrev pub host_of : List ℕ → Option (List ℕ)
host_of word = if length word == 0 then Some own_host else four_of word

abbrev pub four_at : List ℕ → ℕ → Address
four_at four port = record { host = Four four; port = port }

abbrev pub six_at : List ℕ → ℕ → Address
six_at six port = record { host = Six six; port = port }

-- PORT, :PORT or HOST:PORT
abbrev pub four_and_port : Option (List ℕ × List ℕ) → List ℕ → Option Address
four_and_port None word = option_map (four_at own_host) (port_of word)
four_and_port (Some parts) word = port_of parts.1 >>= λ port. option_map (λ four. four_at four port) (host_of parts.0)

-- the port behind a bracket and a colon
abbrev pub port_behind : List ℕ → Option ℕ
port_behind text = if slice_index text 0 == colon then port_of (drop 1 text) else None

-- [HOST]:PORT, by what stands behind the first bracket
abbrev pub six_and_port : List ℕ → Option Address
six_and_port text = cut_at closing text >>= λ parts. port_behind parts.1 >>= λ port. option_map (λ six. six_at six port) (six_of parts.0)

abbrev pub address_of : List ℕ → Option Address
address_of word =
    if slice_index word 0 == opening then six_and_port (drop 1 word)
    else four_and_port (cut_at colon word) word

-- NAME:PORT
abbrev pub named_of : List ℕ → Option Place
named_of word =
    cut_at colon word >>= λ parts. port_of parts.1 >>= λ port.
    if is_host_name parts.0 then Some (Named (padded host_room parts.0) port) else None

-- an address, or a name with a port
abbrev pub place_by : Option Address → List ℕ → Option Place
place_by (Some address) word = Some (At address)
place_by None word = named_of word

abbrev pub place_of : List ℕ → Option Place
place_of word = place_by (address_of word) word

-- the port there
abbrev pub port_at : Place → ℕ
port_at (At address) = address.port
port_at (Named name port) = port

-- one that somebody can be reached at
abbrev pub remote_of : List ℕ → Option Place
remote_of word = place_of word >>= λ place. if port_at place == 0 then None else Some place

-- ---- groups, and cards of this machine

-- addresses of IPv4 from 224.0.0.0 to 239.255.255.255
abbrev pub is_multicast : List ℕ → Bool
is_multicast four = nat_le 224 (slice_index four 0) && nat_le (slice_index four 0) 239

abbrev pub is_group_host : Host → Bool
is_group_host (Four four) = is_multicast four
is_group_host (Six six) = false

-- such a one, with a port
abbrev pub is_group : Address → Bool
is_group address = is_group_host address.host && not (address.port == 0)

abbrev pub group_of : List ℕ → Option Address
group_of word = address_of word >>= λ address. if is_group address then Some address else None

-- that of one card: not of none, of a group, or of all
abbrev pub is_card : List ℕ → Bool
is_card four = not (bytes_eq four (replicate 4 0)) && not (is_multicast four) && not (bytes_eq four (replicate 4 255))

abbrev pub card_of : List ℕ → Option (List ℕ)
card_of word = four_of word >>= λ four. if is_card four then Some four else None

abbrev pub is_card_host : Host → Bool
is_card_host (Four four) = is_card four
is_card_host (Six six) = false

-- such a one, with a port that others know
abbrev pub is_at_card : Address → Bool
is_at_card address = is_card_host address.host && not (address.port == 0)

abbrev pub card_address_of : List ℕ → Option Address
card_address_of word = address_of word >>= λ address. if is_at_card address then Some address else None

-- ---- ranges of addresses of IPv4

abbrev pub host_bits : ℕ
host_bits = 32

abbrev pub range_at : List ℕ → ℕ → HostRange
range_at four bits = record { first = four; bits = bits }

-- HOST/BITS, or a HOST alone for all its bits
abbrev pub range_by : Option (List ℕ × List ℕ) → List ℕ → Option HostRange
range_by None word = option_map (λ four. range_at four host_bits) (four_of word)
range_by (Some parts) word = number_of 0 host_bits parts.1 >>= λ bits. option_map (λ four. range_at four bits) (four_of parts.0)

abbrev pub range_of : List ℕ → Option HostRange
range_of word = range_by (cut_at slash word) word

-- its address is 0 behind the bits that count
abbrev pub is_first : HostRange → Bool
is_first range = from_be_bytes w32 range.first % 2 ^ (host_bits - range.bits) == 0
