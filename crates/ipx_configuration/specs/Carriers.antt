-- What carries links.
use Rattle.std.specs.Prelude.{ℕ, Bool, false, not, ◌==◌, ◌&&◌, ◌||◌, if◌then◌else◌, List, replicate, slice_index}
use Rattle.std.specs.Str.{bytes_eq}
use Rattle.ipx_settings.specs.Addresses.{four_at}
use Rattle.ipx_settings.specs.declared.addresses.Place.{Place}
use Rattle.ipx_settings.specs.declared.addresses.Place.TheVariants.{At, Named}
use Rattle.ipx_settings.specs.declared.link.End.{End}
use Rattle.ipx_settings.specs.declared.link.End.TheVariants as ends
use Rattle.ipx_settings.specs.declared.link.Frames.{Frames}
use Rattle.ipx_settings.specs.declared.link.Frames.TheVariants.{Ethernet2, Raw, Llc, Snap, Any}
use Rattle.ipx_settings.specs.declared.link.Link.{Link}
use Rattle.ipx_settings.specs.declared.link.Link.TheVariants.{Tunnel, Framed, Web, Rfc1234}
use Rattle.ipx_configuration.specs.Endpoints.{no_endpoint, endpoint_at, endpoint_of, no_four, no_six, same_endpoint, overlap, is_surely_own}
use Rattle.ipx_configuration.specs.declared.carrier.Carrier.{Carrier}
use Rattle.ipx_configuration.specs.declared.endpoint.Endpoint.{Endpoint}

-- ---- their numbers

abbrev pub tunnel : ℕ
tunnel = 1

abbrev pub udp : ℕ
udp = 2

abbrev pub listen : ℕ
listen = 3

abbrev pub connect : ℕ
connect = 4

abbrev pub tap : ℕ
tap = 5

abbrev pub interface : ℕ
interface = 6

abbrev pub group : ℕ
group = 7

abbrev pub switch : ℕ
switch = 8

abbrev pub web : ℕ
web = 9

abbrev pub peers : ℕ
peers = 10

abbrev pub rfc1234 : ℕ
rfc1234 = 11

-- the kinds of frames: none is that of a tunnel
abbrev pub no_frames : ℕ
no_frames = 0

abbrev pub llc : ℕ
llc = 3

abbrev pub snap : ℕ
snap = 4

abbrev pub any_frames : ℕ
any_frames = 5

abbrev pub frames_number : Frames → ℕ
frames_number Ethernet2 = 1
frames_number Raw = 2
frames_number Llc = llc
frames_number Snap = snap
frames_number Any = any_frames

-- ---- what a line says of them

abbrev pub place_at : Place → Endpoint
place_at (At address) = endpoint_of address
place_at (Named name port) = endpoint_at no_four no_six port false

abbrev pub no_host : List ℕ
no_host = replicate 254 0

abbrev pub no_name : List ℕ
no_name = replicate 16 0

abbrev pub place_name : Place → List ℕ
place_name (At address) = no_host
place_name (Named name port) = name

abbrev pub carrier_at : ℕ → ℕ → Endpoint → Endpoint → List ℕ → List ℕ → Carrier
carrier_at number frames local remote host name =
    record { number = number; frames = frames; local = local; remote = remote; host = host; name = name }

abbrev pub no_carrier : Carrier
no_carrier = carrier_at 0 0 no_endpoint no_endpoint no_host no_name

abbrev pub end_carrier : End → ℕ → Carrier
end_carrier (ends.Udp local remote) frames = carrier_at udp frames (endpoint_of local) (place_at remote) (place_name remote) no_name
end_carrier (ends.Listen local) frames = carrier_at listen frames (endpoint_of local) no_endpoint no_host no_name
end_carrier (ends.Connect remote) frames = carrier_at connect frames no_endpoint (place_at remote) (place_name remote) no_name
end_carrier (ends.Tap name) frames = carrier_at tap frames no_endpoint no_endpoint no_host name
end_carrier (ends.Interface name) frames = carrier_at interface frames no_endpoint no_endpoint no_host name
end_carrier (ends.Group it card) frames = carrier_at group frames (endpoint_of (four_at card 0)) (endpoint_of it) no_host no_name
end_carrier (ends.Web local) frames = carrier_at web frames (endpoint_of local) no_endpoint no_host no_name
end_carrier (ends.Switch path) frames = carrier_at switch frames no_endpoint no_endpoint path no_name
end_carrier (ends.Peers local file) frames = carrier_at peers frames (endpoint_of local) no_endpoint file no_name

abbrev pub carrier_of : Link → Carrier
carrier_of (Tunnel local) = carrier_at tunnel no_frames (endpoint_of local) no_endpoint no_host no_name
carrier_of (Framed end frames) = end_carrier end (frames_number frames)
carrier_of (Web local) = carrier_at web no_frames (endpoint_of local) no_endpoint no_host no_name
carrier_of (Rfc1234 local) = carrier_at rfc1234 no_frames (endpoint_of local) no_endpoint no_host no_name

-- datagrams of clients, whose nodes are theirs alone: of DOSBox, or by WebSocket
abbrev pub has_clients : Carrier → Bool
has_clients a = (a.number == tunnel) || ((a.number == web) && (a.frames == no_frames))

-- it is with the other places that lines of its network say
abbrev pub is_with_peers : Carrier → Bool
is_with_peers a = (a.number == peers) || (a.number == rfc1234)

-- ---- what two of them have in common

-- each link opens one of its own, at whatever address
abbrev pub opens_its_own : Carrier → Bool
opens_its_own a = (a.number == web) || is_with_peers a

-- each link on it has the same one: with port 0, each has a port of its own
abbrev pub is_fixed : Carrier → Bool
is_fixed a =
    (a.number == connect) || (a.number == tap) || (a.number == interface) || (a.number == group) || (a.number == switch)
    || (not (opens_its_own a) && not (a.local.port == 0))

-- two links are on one, which is opened once for both
abbrev pub same_carrier : Carrier → Carrier → Bool
same_carrier a b =
    (a.number == b.number) && bytes_eq a.name b.name && bytes_eq a.host b.host && same_endpoint a.remote b.remote
    && same_endpoint a.local b.local && is_fixed a

abbrev pub takes_datagrams : Carrier → Bool
takes_datagrams a = (a.number == tunnel) || (a.number == udp) || (a.number == group) || is_with_peers a

-- the address that it takes: that of a group itself, whichever card its frames come by
abbrev pub address_taken : Carrier → Endpoint
address_taken a = if a.number == group then a.remote else a.local

-- a group may be taken by several cards
abbrev pub are_of_groups : Carrier → Carrier → Bool
are_of_groups a b = (a.number == group) && (b.number == group)

abbrev pub takes_connections : Carrier → Bool
takes_connections a = (a.number == listen) || (a.number == web)

-- clients by WebSocket come in at one address for both
abbrev pub share_an_address : Carrier → Carrier → Bool
share_an_address a b = (a.number == web) && (b.number == web) && same_endpoint a.local b.local

-- both of frames, or neither
abbrev pub are_of_one_sort : Carrier → Carrier → Bool
are_of_one_sort a b = if a.frames == no_frames then b.frames == no_frames else not (b.frames == no_frames)

-- and by one path, which the network names and whether they are of frames (of port 0 each takes another)
abbrev pub share_a_path : Carrier → Carrier → Bool
share_a_path a b = share_an_address a b && not (a.local.port == 0) && are_of_one_sort a b

-- both would take one address of this machine
abbrev pub take_the_same : Carrier → Carrier → Bool
take_the_same a b =
    ((takes_datagrams a && takes_datagrams b && not (are_of_groups a b)) || (takes_connections a && takes_connections b && not (share_an_address a b)))
    && overlap (address_taken a) (address_taken b)

-- ---- what one of them may be

-- bytes of the longest packet in frames of a kind
abbrev pub longest_on : ℕ → ℕ
longest_on frames =
    if frames == no_frames then 1424
    else if frames == llc then 1497
    else if (frames == snap) || (frames == any_frames) then 1492
    else 1500

-- and by RFC 1234, where a packet is a datagram
abbrev pub longest_of : Carrier → ℕ
longest_of a = if a.number == rfc1234 then 1472 else longest_on a.frames

-- datagrams would go to where they come from
abbrev pub may_hear_itself : Carrier → Bool
may_hear_itself a =
    (a.number == udp) && (slice_index a.host 0 == 0) && (same_endpoint a.local a.remote || is_surely_own a.remote) && overlap a.local a.remote
