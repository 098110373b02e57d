-- The words of a link.
use Rattle.std.specs.Prelude.{ℕ, Bool, true, false, not, if◌then◌else◌, List, Option, Some, None, Result, Ok, Err, codes}
use Rattle.std.specs.Str.{bytes_eq}
use Rattle.ipx_settings.specs.Addresses.{own_host, address_of, remote_of, group_of, card_of, card_address_of}
use Rattle.ipx_settings.specs.Names.{name_of, path_of, file_of}
use Rattle.ipx_settings.specs.declared.addresses.Address.{Address}
use Rattle.ipx_settings.specs.declared.addresses.Host.{Host}
use Rattle.ipx_settings.specs.declared.addresses.Host.TheVariants.{Four, Six}
use Rattle.ipx_settings.specs.declared.addresses.Place.{Place}
use Rattle.ipx_settings.specs.declared.addresses.Place.TheVariants.{At, Named}
use Rattle.ipx_settings.specs.declared.expected.Expected.{Expected}
use Rattle.ipx_settings.specs.declared.expected.Expected.TheVariants as expected
use Rattle.ipx_settings.specs.declared.link.Cards.{Cards}
use Rattle.ipx_settings.specs.declared.link.Cards.TheVariants as has
use Rattle.ipx_settings.specs.declared.link.Frames.{Frames}
use Rattle.ipx_settings.specs.declared.link.Frames.TheVariants.{Ethernet2, Raw, Llc, Snap, Any}
use Rattle.ipx_settings.specs.declared.link.End.TheVariants as ends
use Rattle.ipx_settings.specs.declared.link.Link.{Link}
use Rattle.ipx_settings.specs.declared.link.Link.TheVariants as link
use Rattle.ipx_settings.specs.declared.link.LinkBegun.{LinkBegun}
use Rattle.ipx_settings.specs.declared.link.LinkBegun.TheVariants as begun

-- what is said, or else what was expected
abbrev pub said : {A B : Type 0} → Expected → (A → B) → Option A → Result B Expected
said e f None = Err e
said e f (Some a) = Ok (f a)

abbrev pub is_the : List ℕ → List ℕ → Bool
is_the word name = bytes_eq word name

abbrev pub is_six_host : Host → Bool
is_six_host (Four four) = false
is_six_host (Six six) = true

abbrev pub is_six : Address → Bool
is_six address = is_six_host address.host

-- a place of the same kind: names may be of either
abbrev pub is_like : Address → Place → Bool
is_like local (At remote) = if is_six local then is_six remote else not (is_six remote)
is_like local (Named name port) = true

-- the kinds of frames
abbrev pub frames_of : List ℕ → Option Frames
frames_of word =
    if is_the word (codes "ethernet2") then Some Ethernet2
    else if is_the word (codes "raw") then Some Raw
    else if is_the word (codes "llc") then Some Llc
    else if is_the word (codes "snap") then Some Snap
    else if is_the word (codes "auto") then Some Any
    else None

-- a system has TAPs and switches of VDE, and interfaces; or these alone; or neither
abbrev pub has_taps : Cards → Bool
has_taps has.None = false
has_taps has.All = true
has_taps has.Interfaces = false

abbrev pub has_interfaces : Cards → Bool
has_interfaces has.None = false
has_interfaces has.All = true
has_interfaces has.Interfaces = true

abbrev pub of_card : Bool → LinkBegun → Result LinkBegun Expected
of_card is_there begun = if is_there then Ok begun else Err expected.LinkOfSystem

-- the word that begins a link
abbrev pub link_first : Cards → List ℕ → Result LinkBegun Expected
link_first cards word =
    if is_the word (codes "dosbox") then Ok begun.Tunnel
    else if is_the word (codes "qemu-udp") then Ok begun.Udp
    else if is_the word (codes "udp") then Ok begun.Udp
    else if is_the word (codes "qemu-tcp") then Ok begun.Tcp
    else if is_the word (codes "qemu-mcast") then Ok begun.Multicast
    else if is_the word (codes "web") then Ok begun.Web
    else if is_the word (codes "peers") then Ok begun.Peers
    else if is_the word (codes "rfc1234") then Ok begun.Rfc1234
    else if is_the word (codes "tap") then of_card (has_taps cards) begun.Tap
    else if is_the word (codes "interface") then of_card (has_interfaces cards) begun.Interface
    else if is_the word (codes "vde") then of_card (has_taps cards) begun.Vde
    else Err expected.Link

-- a tunnel's address is of IPv4
abbrev pub tunnel_by : Option Address → Result LinkBegun Expected
tunnel_by None = Err expected.Address
tunnel_by (Some address) = if is_six address then Err expected.AddressOfFour else Ok (begun.Whole (link.Tunnel address))

abbrev pub tunnel_at : List ℕ → Result LinkBegun Expected
tunnel_at word = tunnel_by (address_of word)

-- and so is that of one by WebSocket
abbrev pub web_by : Option Address → Result LinkBegun Expected
web_by None = Err expected.Address
web_by (Some address) = if is_six address then Err expected.AddressOfFour else Ok (begun.Whole (link.Web address))

abbrev pub web_at : List ℕ → Result LinkBegun Expected
web_at word = web_by (address_of word)

-- the other end of datagrams
abbrev pub remote_by : Address → Option Place → Result LinkBegun Expected
remote_by local None = Err expected.Remote
remote_by local (Some remote) =
    if is_like local remote then Ok (begun.End (ends.Udp local remote))
    else if is_six local then Err expected.RemoteOfSix
    else Err expected.RemoteOfFour

abbrev pub remote_behind : Address → List ℕ → Result LinkBegun Expected
remote_behind local word = remote_by local (remote_of word)

abbrev pub connection_of : List ℕ → Result LinkBegun Expected
connection_of word =
    if is_the word (codes "listen") then Ok begun.Listen
    else if is_the word (codes "connect") then Ok begun.Connect
    else Err expected.Connection

-- frames of a group come and go by the card that is said behind it, or else by none but this machine
abbrev pub behind_group : Address → List ℕ → Result LinkBegun Expected
behind_group group word =
    if is_the word (codes "via") then Ok (begun.Via group)
    else said expected.ViaOrFrames (λ frames. begun.Whole (link.Framed (ends.Group group own_host) frames)) (frames_of word)

-- behind a tunnel by WebSocket a kind of frames makes it one of frames; nothing stands behind other links
abbrev pub behind_whole : Link → List ℕ → Result LinkBegun Expected
behind_whole (link.Web address) word =
    said expected.FramesOrNothing (λ frames. begun.Whole (link.Framed (ends.Web address) frames)) (frames_of word)
behind_whole other word = Err expected.Nothing

-- a word more
abbrev pub link_step : Cards → LinkBegun → List ℕ → Result LinkBegun Expected
link_step cards begun.Nothing word = link_first cards word
link_step cards begun.Tunnel word = tunnel_at word
link_step cards begun.Udp word = said expected.Address begun.UdpFrom (address_of word)
link_step cards (begun.UdpFrom local) word = remote_behind local word
link_step cards begun.Tcp word = connection_of word
link_step cards begun.Listen word = said expected.Address (λ address. begun.End (ends.Listen address)) (address_of word)
link_step cards begun.Connect word = said expected.Remote (λ remote. begun.End (ends.Connect remote)) (remote_of word)
link_step cards begun.Tap word = said expected.Tap (λ name. begun.End (ends.Tap name)) (name_of word)
link_step cards begun.Interface word = said expected.Interface (λ name. begun.End (ends.Interface name)) (name_of word)
link_step cards begun.Multicast word = said expected.Group begun.Group (group_of word)
link_step cards (begun.Group group) word = behind_group group word
link_step cards (begun.Via group) word = said expected.Card (λ card. begun.End (ends.Group group card)) (card_of word)
link_step cards begun.Vde word = said expected.Switch (λ path. begun.End (ends.Switch path)) (path_of word)
link_step cards begun.Peers word = said expected.Address begun.PeersAt (address_of word)
link_step cards (begun.PeersAt local) word = said expected.KeyFile (λ file. begun.End (ends.Peers local file)) (file_of word)
link_step cards begun.Rfc1234 word = said expected.CardAndPort (λ address. begun.Whole (link.Rfc1234 address)) (card_address_of word)
link_step cards (begun.End end) word = said expected.Frames (λ frames. begun.Whole (link.Framed end frames)) (frames_of word)
link_step cards begun.Web word = web_at word
link_step cards (begun.Whole whole) word = behind_whole whole word

-- a link may end where all its words were read
abbrev pub link_ends : LinkBegun → Bool
link_ends (begun.Whole whole) = true
link_ends begun = false
