use Rattle.std.proofs.Common.{◌≡◌, ℕ, ◌<◌, ◌&&◌, true, false, not, inl, inr, List, [], ◌∷◌, ◌++◌, length, refl, sym, ap, ◌∙◌, arith, Option, Some}
use Rattle.std.proofs.lemmas.Bool.Decides.{nat_tests}
use Rattle.std.proofs.lemmas.List.{length-append}
use Rattle.std.specs.Char.{digit_value}
use Rattle.std.specs.List.{AllByRecursion, list_all}
use Rattle.std.specs.Prelude.{codes, decimal}
use Rattle.std.specs.Net.Text.{ipv4_text}
use Rattle.std.specs.Str.{bytes_eq}
use Rattle.std.proofs.lemmas.Bool.{cases_Bool}
use Rattle.std.proofs.lemmas.Slice.Eq.{bytes_eq-Decides}
use Rattle.ipx_settings.specs.Addresses.{own_host, is_group, group_of, card_of, is_at_card, card_address_of}
use Rattle.ipx_settings.specs.Beginnings.{link_said}
use Rattle.ipx_settings.specs.Links.{is_the, frames_of}
use Rattle.ipx_settings.specs.Names.{host_room}
use Rattle.ipx_settings.specs.Right.{AreNumbers, IsAddress, IsRemote, IsInWord, IsWord, IsName, IsPath, IsFile, IsCard, IsEnd, IsLink}
use Rattle.ipx_settings.specs.Words.{is_blank, is_mark}
use Rattle.ipx_settings.specs.WritingAddresses.{host_words, address_words}
use Rattle.ipx_settings.specs.WritingLinks.{spaced, name_in, place_words, frames_word, card_words, end_words, link_words}
use Rattle.ipx_settings.specs.declared.addresses.Address.{Address}
use Rattle.ipx_settings.specs.declared.addresses.Place.{Place}
use Rattle.ipx_settings.specs.declared.addresses.Place.TheVariants.{At, Named}
use Rattle.ipx_settings.specs.declared.link.Cards.{Cards}
use Rattle.ipx_settings.specs.declared.link.End.{End}
use Rattle.ipx_settings.specs.declared.link.End.TheVariants as ends
use Rattle.ipx_settings.specs.declared.link.Frames.{Frames}
use Rattle.ipx_settings.specs.declared.link.Frames.TheVariants.{Ethernet2, Raw, Llc, Snap, Any}
use Rattle.ipx_settings.specs.declared.link.Link.{Link}
use Rattle.ipx_settings.specs.declared.link.Link.TheVariants as link
use Rattle.ipx_settings.specs.declared.link.LinkBegun.{LinkBegun}
use Rattle.ipx_settings.specs.declared.link.LinkBegun.TheVariants as begun
use Rattle.ipx_settings.proofs.AddressesAgain.{address_again, each-address}
use Rattle.ipx_settings.proofs.NamesAgain.{each_of, each_weaker, IsNameByte, name_bytes, name_without, name_size, name_is, name_words, path_words, file_words, remote_again, name_again, path_again, file_again}
use Rattle.ipx_settings.proofs.NumbersAgain.{each-decimal, each-four, length-four, four_again}
use Rattle.ipx_settings.proofs.Without.{each-append}
use Rattle.ipx_settings.proofs.WordsAgain.{words_once}

frames_again : (frames : Frames) → frames_of (frames_word frames) ≡ Some frames
frames_again Ethernet2 = refl
frames_again Raw = refl
frames_again Llc = refl
frames_again Snap = refl
frames_again Any = refl

frames_isnt_via : (frames : Frames) → is_the (frames_word frames) (codes "via") ≡ false
frames_isnt_via Ethernet2 = refl
frames_isnt_via Raw = refl
frames_isnt_via Llc = refl
frames_isnt_via Snap = refl
frames_isnt_via Any = refl

group_again : (group : Address) → IsAddress group → is_group group ≡ true → group_of (address_words group) ≡ Some group
group_again group is right = rw (address_again group is, right) refl

card_address_again : (address : Address) → IsAddress address → is_at_card address ≡ true → card_address_of (address_words address) ≡ Some address
card_address_again address is right = rw (address_again address is, right) refl

card_again : (card : List ℕ) → IsCard card → card_of (ipv4_text card) ≡ Some card
card_again card is = rw (four_again card is.0, is.1) refl

multicast_again : (cards : Cards) (group : Address) (card : List ℕ) (frames : Frames) → IsAddress group → is_group group ≡ true → IsCard card
    → link_said cards begun.Nothing (end_words (ends.Group group card) ++ frames_word frames ∷ []) ≡ Some (begun.Whole (link.Framed (ends.Group group card) frames))
multicast_again cards group card frames is right one = elim (cases_Bool (bytes_eq card own_host)) [
  | inl own ↦
      let same : own_host ≡ card = sym ((bytes_eq-Decides card own_host).0 own) in
      rw (own, group_again group is right, frames_isnt_via frames, frames_again frames, same) refl
  | inr other ↦ rw (other, group_again group is right, card_again card one, frames_again frames) refl
]

end_again : (cards : Cards) (end : End) (frames : Frames) → IsEnd cards end
    → link_said cards begun.Nothing (end_words end ++ frames_word frames ∷ []) ≡ Some (begun.Whole (link.Framed end frames))
end_again cards (ends.Udp local remote) frames is = rw (address_again local is.0, remote_again remote is.1, is.2, frames_again frames) refl
end_again cards (ends.Listen local) frames is = rw (address_again local is, frames_again frames) refl
end_again cards (ends.Connect remote) frames is = rw (remote_again remote is, frames_again frames) refl
end_again cards (ends.Tap name) frames is = rw (is.0, name_again name is.1, frames_again frames) refl
end_again cards (ends.Interface name) frames is = rw (is.0, name_again name is.1, frames_again frames) refl
end_again cards (ends.Group group card) frames is = multicast_again cards group card frames is.0 is.1 is.2
end_again cards (ends.Web address) frames is = rw (address_again address is.0, is.1, frames_again frames) refl
end_again cards (ends.Switch path) frames is = rw (is.0, path_again path is.1, frames_again frames) refl
end_again cards (ends.Peers local file) frames is = rw (address_again local is.0, file_again file is.1, frames_again frames) refl

pub link_again : (cards : Cards) (it : Link) → IsLink cards it → link_said cards begun.Nothing (link_words it) ≡ Some (begun.Whole it)
link_again cards (link.Tunnel address) is = rw (address_again address is.0, is.1) refl
link_again cards (link.Framed end frames) is = end_again cards end frames is
link_again cards (link.Web address) is = rw (address_again address is.0, is.1) refl
link_again cards (link.Rfc1234 address) is = rw (card_address_again address is.0 is.1) refl

-- ---- its words are words

in_digit : (c : ℕ) → digit_value c < 16 → IsInWord c
in_digit c low = (grind (arith, nat_tests), grind (arith, nat_tests))

pub address_is_word : (address : Address) → IsAddress address → IsWord (address_words address)
address_is_word address is =
    let each = each-address IsInWord address.host address.port is.0 is.1 in_digit (refl, refl) (refl, refl) (refl, refl) (refl, refl) in
    (omega (arith, length-append (host_words address.host ++ codes ":") (decimal address.port), length-append (host_words address.host) (codes ":")), each)

in_name : (c : ℕ) → IsNameByte c → IsInWord c
in_name c is = (grind (arith, nat_tests), grind (arith, nat_tests))

pub remote_is_word : (place : Place) → IsRemote place → IsWord (place_words place)
remote_is_word (At address) is = address_is_word address is.0
remote_is_word (Named host port) is =
    let (name, right, same) = is.0 in
    let words : name_in host ≡ name = ap name_in same ∙ name_is name host_room (name_size name right) (name_without 0 name right refl) in
    let letters = each_weaker IsNameByte IsInWord in_name name (name_bytes name right) in
    let digits = each-decimal IsInWord port (omega (arith, is.2)) in_digit in
    rw words (
      omega (arith, length-append (name ++ codes ":") (decimal port), length-append name (codes ":")),
      each-append IsInWord (name ++ codes ":") (decimal port) (each-append IsInWord name (codes ":") letters ((refl, refl), tt)) digits,
    )

name_is_word : (bytes : List ℕ) → IsName bytes → IsWord (name_in bytes)
name_is_word bytes is = rw (name_words bytes is) is.1

path_is_word : (bytes : List ℕ) → IsPath bytes → IsWord (name_in bytes)
path_is_word bytes is = rw (path_words bytes is) is.1

file_is_word : (bytes : List ℕ) → IsFile bytes → IsWord (name_in bytes)
file_is_word bytes is = rw (file_words bytes is) is.1

pub literal : (word : List ℕ) → 0 < length word → list_all (λ c. not (is_blank c) && not (is_mark c)) word ≡ true → IsWord word
literal word some all = (some, each_weaker (λ c. (not (is_blank c) && not (is_mark c)) ≡ true) IsInWord both word (each_of (λ c. not (is_blank c) && not (is_mark c)) word all))
  where
    both : (c : ℕ) → (not (is_blank c) && not (is_mark c)) ≡ true → IsInWord c
    both c e = grind arith

frames_is_word : (frames : Frames) → IsWord (frames_word frames)
frames_is_word Ethernet2 = literal (codes "ethernet2") (omega arith) refl
frames_is_word Raw = literal (codes "raw") (omega arith) refl
frames_is_word Llc = literal (codes "llc") (omega arith) refl
frames_is_word Snap = literal (codes "snap") (omega arith) refl
frames_is_word Any = literal (codes "auto") (omega arith) refl

four_is_word : (four : List ℕ) → AreNumbers 4 8 four → IsWord (ipv4_text four)
four_is_word four are = (omega (arith, length-four four are), each-four IsInWord four are in_digit (refl, refl))

card_is_words : (card : List ℕ) (frames : Frames) → AreNumbers 4 8 card → AllByRecursion IsWord (card_words card ++ frames_word frames ∷ [])
card_is_words card frames are = elim (cases_Bool (bytes_eq card own_host)) [
  | inl own ↦ rw own (frames_is_word frames, tt)
  | inr other ↦ rw other (literal (codes "via") (omega arith) refl, (four_is_word card are, (frames_is_word frames, tt)))
]

pub link_is_words : (cards : Cards) (it : Link) → IsLink cards it → AllByRecursion IsWord (link_words it)
link_is_words cards (link.Tunnel address) is = (literal (codes "dosbox") (omega arith) refl, (address_is_word address is.0, tt))
link_is_words cards (link.Framed (ends.Udp local remote) frames) is =
    (literal (codes "qemu-udp") (omega arith) refl, (address_is_word local is.0, (remote_is_word remote is.1, (frames_is_word frames, tt))))
link_is_words cards (link.Framed (ends.Listen local) frames) is =
    (literal (codes "qemu-tcp") (omega arith) refl, (literal (codes "listen") (omega arith) refl, (address_is_word local is, (frames_is_word frames, tt))))
link_is_words cards (link.Framed (ends.Connect remote) frames) is =
    (literal (codes "qemu-tcp") (omega arith) refl, (literal (codes "connect") (omega arith) refl, (remote_is_word remote is, (frames_is_word frames, tt))))
link_is_words cards (link.Framed (ends.Tap name) frames) is = (literal (codes "tap") (omega arith) refl, (name_is_word name is.1, (frames_is_word frames, tt)))
link_is_words cards (link.Framed (ends.Interface name) frames) is =
    (literal (codes "interface") (omega arith) refl, (name_is_word name is.1, (frames_is_word frames, tt)))
link_is_words cards (link.Framed (ends.Group group card) frames) is =
    (literal (codes "qemu-mcast") (omega arith) refl, (address_is_word group is.0, card_is_words card frames is.2.0))
link_is_words cards (link.Web address) is = (literal (codes "web") (omega arith) refl, (address_is_word address is.0, tt))
link_is_words cards (link.Framed (ends.Web address) frames) is =
    (literal (codes "web") (omega arith) refl, (address_is_word address is.0, (frames_is_word frames, tt)))
link_is_words cards (link.Framed (ends.Switch path) frames) is = (literal (codes "vde") (omega arith) refl, (path_is_word path is.1, (frames_is_word frames, tt)))
link_is_words cards (link.Framed (ends.Peers local file) frames) is =
    (literal (codes "peers") (omega arith) refl, (address_is_word local is.0, (file_is_word file is.1, (frames_is_word frames, tt))))
link_is_words cards (link.Rfc1234 address) is = (literal (codes "rfc1234") (omega arith) refl, (address_is_word address is.0, tt))

one_whole : (a b : Link) → Some (begun.Whole a) ≡ Some (begun.Whole b) → a ≡ b
one_whole a b e = ap (λ o. whole o a) e
  where
    whole : Option LinkBegun → Link → Link
    whole (Some (begun.Whole it)) other = it
    whole o other = other

pub links_once : (cards : Cards) (a b : Link) → IsLink cards a → IsLink cards b → spaced (link_words a) ≡ spaced (link_words b) → a ≡ b
links_once cards a b is also same =
    let words = words_once (link_words a) (link_words b) (link_is_words cards a is) (link_is_words cards b also) same in
    one_whole a b (sym (link_again cards a is) ∙ ap (link_said cards begun.Nothing) words ∙ link_again cards b also)
