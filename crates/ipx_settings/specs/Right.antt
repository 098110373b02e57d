-- Values that a right line can have.
use Rattle.std.specs.Prelude.{◌≡◌, ℕ, true, false, ◌^◌, ◌<◌, List, length, slice_index, Some}
use Rattle.std.specs.List.{AllByRecursion}
use Rattle.ipx_settings.specs.Addresses.{is_group, is_card, is_at_card}
use Rattle.ipx_settings.specs.Links.{has_taps, has_interfaces, is_six, is_like}
use Rattle.ipx_settings.specs.Names.{name_of, path_of, file_of, is_host_name, padded, host_room}
use Rattle.ipx_settings.specs.Words.{is_blank, is_mark}
use Rattle.ipx_settings.specs.declared.addresses.Address.{Address}
use Rattle.ipx_settings.specs.declared.addresses.Host.{Host}
use Rattle.ipx_settings.specs.declared.addresses.Host.TheVariants.{Four, Six}
use Rattle.ipx_settings.specs.declared.addresses.Place.{Place}
use Rattle.ipx_settings.specs.declared.addresses.Place.TheVariants.{At, Named}
use Rattle.ipx_settings.specs.declared.link.Cards.{Cards}
use Rattle.ipx_settings.specs.declared.link.End.{End}
use Rattle.ipx_settings.specs.declared.link.End.TheVariants as ends
use Rattle.ipx_settings.specs.declared.link.Link.{Link}
use Rattle.ipx_settings.specs.declared.link.Link.TheVariants as link

-- ---- addresses

-- so many numbers, each of so many bits
abbrev pub AreNumbers : ℕ → ℕ → List ℕ → Type 0
AreNumbers count bits numbers = (length numbers ≡ count) × ((k : ℕ) → slice_index numbers k < 2 ^ bits)

abbrev pub IsHost : Host → Type 0
IsHost (Four four) = AreNumbers 4 8 four
IsHost (Six six) = AreNumbers 8 16 six

abbrev pub IsAddress : Address → Type 0
IsAddress address = IsHost address.host × (address.port < 2 ^ 16)

-- a name, with zeros behind it
abbrev pub IsNamed : List ℕ → Type 0
IsNamed host = (name : List ℕ) × (is_host_name name ≡ true) × (host ≡ padded host_room name)

-- where somebody can be reached
abbrev pub IsRemote : Place → Type 0
IsRemote (At address) = IsAddress address × (0 < address.port)
IsRemote (Named host port) = IsNamed host × (0 < port) × (port < 2 ^ 16)

-- ---- links

-- a byte of a word
abbrev pub IsInWord : ℕ → Type 0
IsInWord byte = (is_blank byte ≡ false) × (is_mark byte ≡ false)

abbrev pub IsWord : List ℕ → Type 0
IsWord word = (0 < length word) × AllByRecursion IsInWord word

-- the name of an interface or a TAP
abbrev pub IsName : List ℕ → Type 0
IsName bytes = (name : List ℕ) × IsWord name × (name_of name ≡ Some bytes)

-- the path of a switch
abbrev pub IsPath : List ℕ → Type 0
IsPath bytes = (path : List ℕ) × IsWord path × (path_of path ≡ Some bytes)

-- the path of a file
abbrev pub IsFile : List ℕ → Type 0
IsFile bytes = (file : List ℕ) × IsWord file × (file_of file ≡ Some bytes)

-- the address of a card
abbrev pub IsCard : List ℕ → Type 0
IsCard card = AreNumbers 4 8 card × (is_card card ≡ true)

abbrev pub IsEnd : Cards → End → Type 0
IsEnd cards (ends.Udp local remote) = IsAddress local × IsRemote remote × (is_like local remote ≡ true)
IsEnd cards (ends.Listen local) = IsAddress local
IsEnd cards (ends.Connect remote) = IsRemote remote
IsEnd cards (ends.Tap name) = (has_taps cards ≡ true) × IsName name
IsEnd cards (ends.Interface name) = (has_interfaces cards ≡ true) × IsName name
IsEnd cards (ends.Group group card) = IsAddress group × (is_group group ≡ true) × IsCard card
IsEnd cards (ends.Web address) = IsAddress address × (is_six address ≡ false)
IsEnd cards (ends.Switch path) = (has_taps cards ≡ true) × IsPath path
IsEnd cards (ends.Peers local file) = IsAddress local × IsFile file

-- a link that a system may have, by its cards
abbrev pub IsLink : Cards → Link → Type 0
IsLink cards (link.Tunnel address) = IsAddress address × (is_six address ≡ false)
IsLink cards (link.Framed end frames) = IsEnd cards end
IsLink cards (link.Web address) = IsAddress address × (is_six address ≡ false)
IsLink cards (link.Rfc1234 address) = IsAddress address × (is_at_card address ≡ true)
