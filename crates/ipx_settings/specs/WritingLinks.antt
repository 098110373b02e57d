-- What is written: the words of a link.
use Rattle.std.specs.Prelude.{ℕ, ◌==◌, if◌then◌else◌, List, [], ◌∷◌, ◌++◌, codes, decimal}
use Rattle.std.specs.List.{before_first, join_with_byte}
use Rattle.std.specs.Net.Text.{ipv4_text}
use Rattle.std.specs.Str.{bytes_eq}
use Rattle.ipx_settings.specs.Addresses.{own_host}
use Rattle.ipx_settings.specs.WritingAddresses.{address_words}
use Rattle.ipx_settings.specs.declared.addresses.Place.{Place}
use Rattle.ipx_settings.specs.declared.addresses.Place.TheVariants.{At, Named}
use Rattle.ipx_settings.specs.declared.link.End.{End}
use Rattle.ipx_settings.specs.declared.link.End.TheVariants as ends
use Rattle.ipx_settings.specs.declared.link.Frames.{Frames}
use Rattle.ipx_settings.specs.declared.link.Frames.TheVariants.{Ethernet2, Raw, Llc, Snap, Any}
use Rattle.ipx_settings.specs.declared.link.Link.{Link}
use Rattle.ipx_settings.specs.declared.link.Link.TheVariants as link

-- words with a blank between each two
abbrev pub spaced : List (List ℕ) → List ℕ
spaced words = join_with_byte 32 words

-- a name that has zeros behind it
abbrev pub name_in : List ℕ → List ℕ
name_in bytes = before_first (λ byte. byte == 0) bytes

abbrev pub place_words : Place → List ℕ
place_words (At address) = address_words address
place_words (Named name port) = name_in name ++ codes ":" ++ decimal port

abbrev pub frames_word : Frames → List ℕ
frames_word Ethernet2 = codes "ethernet2"
frames_word Raw = codes "raw"
frames_word Llc = codes "llc"
frames_word Snap = codes "snap"
frames_word Any = codes "auto"

-- the card of a group, where it isn't this machine's own
abbrev pub card_words : List ℕ → List (List ℕ)
card_words card = if bytes_eq card own_host then [] else codes "via" ∷ ipv4_text card ∷ []

abbrev pub end_words : End → List (List ℕ)
end_words (ends.Udp local remote) = codes "qemu-udp" ∷ address_words local ∷ place_words remote ∷ []
end_words (ends.Listen local) = codes "qemu-tcp" ∷ codes "listen" ∷ address_words local ∷ []
end_words (ends.Connect remote) = codes "qemu-tcp" ∷ codes "connect" ∷ place_words remote ∷ []
end_words (ends.Tap name) = codes "tap" ∷ name_in name ∷ []
end_words (ends.Interface name) = codes "interface" ∷ name_in name ∷ []
end_words (ends.Group group card) = codes "qemu-mcast" ∷ address_words group ∷ card_words card
end_words (ends.Web address) = codes "web" ∷ address_words address ∷ []
end_words (ends.Switch path) = codes "vde" ∷ name_in path ∷ []
end_words (ends.Peers local file) = codes "peers" ∷ address_words local ∷ name_in file ∷ []

abbrev pub link_words : Link → List (List ℕ)
link_words (link.Tunnel address) = codes "dosbox" ∷ address_words address ∷ []
link_words (link.Web address) = codes "web" ∷ address_words address ∷ []
link_words (link.Rfc1234 address) = codes "rfc1234" ∷ address_words address ∷ []
link_words (link.Framed end frames) = end_words end ++ frames_word frames ∷ []
