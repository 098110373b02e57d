use Rattle.std.proofs.Common.{◌≡◌, ℕ, ◌^◌, ◌<◌, ◌==◌, if◌then◌else◌, Bool, true, false, List, [], ◌∷◌, refl, ap, subst, arith, Option, Some, None}
use Rattle.std.specs.List.{AllByRecursion}
use Rattle.std.specs.Prelude.{Result, Ok, Err, codes}
use Rattle.ipx_settings.specs.Addresses.{own_host, port_of, address_of, place_by, place_of, named_of, port_at, remote_of, is_group, group_of, is_card, card_of, is_at_card, card_address_of}
use Rattle.ipx_settings.specs.Beginnings.{if_goes_on, link_said}
use Rattle.ipx_settings.specs.Cutting.{cut_at, colon}
use Rattle.ipx_settings.specs.Hosts.{four_of}
use Rattle.ipx_settings.specs.Links.{said, is_the, has_taps, has_interfaces, is_six, is_like, frames_of, of_card, link_first, tunnel_by, web_by, behind_whole, remote_by, connection_of, behind_group, link_step}
use Rattle.ipx_settings.specs.Names.{is_host_name, padded, host_room, name_of, path_of, file_of}
use Rattle.ipx_settings.specs.Right.{IsAddress, IsNamed, IsRemote, IsWord, IsCard, IsEnd, IsLink}
use Rattle.ipx_settings.specs.declared.addresses.Address.{Address}
use Rattle.ipx_settings.specs.declared.addresses.Place.{Place}
use Rattle.ipx_settings.specs.declared.addresses.Place.TheVariants.{At, Named}
use Rattle.ipx_settings.specs.declared.expected.Expected.{Expected}
use Rattle.ipx_settings.specs.declared.expected.Expected.TheVariants as expected
use Rattle.ipx_settings.specs.declared.link.Cards.{Cards}
use Rattle.ipx_settings.specs.declared.link.End.TheVariants as ends
use Rattle.ipx_settings.specs.declared.link.Link.{Link}
use Rattle.ipx_settings.specs.declared.link.Link.TheVariants as link
use Rattle.ipx_settings.specs.declared.link.LinkBegun.{LinkBegun}
use Rattle.ipx_settings.specs.declared.link.LinkBegun.TheVariants as begun
use Rattle.ipx_settings.proofs.AddressesAgain.{one_value}
use Rattle.ipx_settings.proofs.AddressesRight.{bound, chosen, decimal_within, own_right, four_right, address_right}

-- ---- where somebody is

abbrev PlaceRight : Place → Type 0
PlaceRight (At address) = IsAddress address
PlaceRight (Named host port) = IsNamed host × (port < 2 ^ 16)

no_value : {B : Type 0} (b : B) → None ≡ Some b → ⊥
no_value b bad = cc

named_right : (word : List ℕ) (place : Place) → named_of word ≡ Some place → PlaceRight place
named_right word place e =
    bound PlaceRight (cut_at colon word) _ place (λ cut _ e1.
    bound PlaceRight (port_of cut.1) _ place (λ port is e2.
    chosen PlaceRight (is_host_name cut.0) (Some (Named (padded host_room cut.0) port)) None place
    (λ right f. subst PlaceRight (one_value (Named (padded host_room cut.0) port) place f) ((cut.0, right, refl), omega (arith, decimal_within 0 65535 port cut.1 is)))
    (λ _ f. absurd (no_value place f)) e2) e1) e

place_right : (word : List ℕ) (place : Place) → place_of word ≡ Some place → PlaceRight place
place_right word place e = by (address_of word) refl e
  where
    by : (o : Option Address) → address_of word ≡ o → place_by o word ≡ Some place → PlaceRight place
    by (Some address) is e = subst PlaceRight (one_value (At address) place e) (address_right word address is)
    by None is e = named_right word place e

reached_right : (place : Place) → PlaceRight place → 0 < port_at place → IsRemote place
reached_right (At address) is some = (is, some)
reached_right (Named host port) is some = (is.0, some, is.1)

some_port : (n : ℕ) → (n == 0) ≡ false → 0 < n
some_port n e = grind arith

pub remote_right : (word : List ℕ) (place : Place) → remote_of word ≡ Some place → IsRemote place
remote_right word place e =
    bound IsRemote (place_of word) _ place (λ it is e1.
    chosen IsRemote (port_at it == 0) None (Some it) place (λ _ f. absurd (no_value place f))
    (λ some f. subst IsRemote (one_value it place f) (reached_right it (place_right word it is) (some_port (port_at it) some))) e1) e

-- ---- groups and cards

group_right : (word : List ℕ) (group : Address) → group_of word ≡ Some group → IsAddress group × (is_group group ≡ true)
group_right word group e =
    let P = λ (it : Address). IsAddress it × (is_group it ≡ true) in
    bound P (address_of word) _ group (λ it is e1.
    chosen P (is_group it) (Some it) None group (λ right f. subst P (one_value it group f) (address_right word it is, right)) (λ _ f. absurd (no_value group f)) e1) e

card_address_right : (word : List ℕ) (address : Address) → card_address_of word ≡ Some address → IsAddress address × (is_at_card address ≡ true)
card_address_right word address e =
    let P = λ (it : Address). IsAddress it × (is_at_card it ≡ true) in
    bound P (address_of word) _ address (λ it is e1.
    chosen P (is_at_card it) (Some it) None address (λ right f. subst P (one_value it address f) (address_right word it is, right)) (λ _ f. absurd (no_value address f)) e1) e

card_right : (word card : List ℕ) → card_of word ≡ Some card → IsCard card
card_right word card e =
    bound IsCard (four_of word) _ card (λ it is e1.
    chosen IsCard (is_card it) (Some it) None card (λ right f. subst IsCard (one_value it card f) (four_right word it is, right)) (λ _ f. absurd (no_value card f)) e1) e

-- ---- a word more

-- what was read of a link is right so far
abbrev pub IsPart : Cards → LinkBegun → Type 0
IsPart cards begun.Nothing = Unit {0}
IsPart cards begun.Tunnel = Unit {0}
IsPart cards begun.Udp = Unit {0}
IsPart cards (begun.UdpFrom local) = IsAddress local
IsPart cards begun.Tcp = Unit {0}
IsPart cards begun.Listen = Unit {0}
IsPart cards begun.Connect = Unit {0}
IsPart cards begun.Tap = has_taps cards ≡ true
IsPart cards begun.Interface = has_interfaces cards ≡ true
IsPart cards begun.Multicast = Unit {0}
IsPart cards (begun.Group group) = IsAddress group × (is_group group ≡ true)
IsPart cards (begun.Via group) = IsAddress group × (is_group group ≡ true)
IsPart cards begun.Vde = has_taps cards ≡ true
IsPart cards begun.Web = Unit {0}
IsPart cards begun.Peers = Unit {0}
IsPart cards (begun.PeersAt local) = IsAddress local
IsPart cards begun.Rfc1234 = Unit {0}
IsPart cards (begun.End end) = IsEnd cards end
IsPart cards (begun.Whole it) = IsLink cards it

ok_value : {A : Type 0} (a b : A) → ◌≡◌ {A = Result A Expected} (Ok a) (Ok b) → a ≡ b
ok_value {A} a b e = ap (λ r. value r) e
  where
    value : Result A Expected → A
    value (Ok x) = x
    value (Err why) = a

pub no_error : {A : Type 0} (why : Expected) (a : A) → ◌≡◌ {A = Result A Expected} (Err why) (Ok a) → ⊥
no_error why a bad = cc

-- what is said where something was read
pub said_right : {A B : Type 0} (P : B → Type 0) (e : Expected) (f : A → B) (o : Option A) (b : B) → ((a : A) → o ≡ Some a → P (f a)) → said e f o ≡ Ok b → P b
said_right P e f None b h same = absurd (no_error e b same)
said_right P e f (Some a) b h same = subst P (ok_value (f a) b same) (h a refl)

-- a choice by a test
pub chosen_right : {A : Type 0} (P : A → Type 0) (test : Bool) (first other : Result A Expected) (a : A) → (test ≡ true → first ≡ Ok a → P a) → (test ≡ false → other ≡ Ok a → P a) → (if test then first else other) ≡ Ok a → P a
chosen_right P true first other a left right e = left refl e
chosen_right P false first other a left right e = right refl e

pub ok_right : {A : Type 0} (P : A → Type 0) (a b : A) → P a → ◌≡◌ {A = Result A Expected} (Ok a) (Ok b) → P b
ok_right P a b is e = subst P (ok_value a b e) is

of_card_right : (P : LinkBegun → Type 0) (is_there : Bool) (begun next : LinkBegun) → (is_there ≡ true → P begun) → of_card is_there begun ≡ Ok next → P next
of_card_right P true begun next right e = ok_right P begun next (right refl) e
of_card_right P false begun next right e = absurd (no_error expected.LinkOfSystem next e)

first_right : (cards : Cards) (word : List ℕ) (next : LinkBegun) → link_first cards word ≡ Ok next → IsPart cards next
first_right cards word next e =
    let P = IsPart cards in
    chosen_right P (is_the word (codes "dosbox")) _ _ next (λ _ f. ok_right P begun.Tunnel next tt f) (λ _ e1.
    chosen_right P (is_the word (codes "qemu-udp")) _ _ next (λ _ f. ok_right P begun.Udp next tt f) (λ _ e2.
    chosen_right P (is_the word (codes "udp")) _ _ next (λ _ f. ok_right P begun.Udp next tt f) (λ _ e3.
    chosen_right P (is_the word (codes "qemu-tcp")) _ _ next (λ _ f. ok_right P begun.Tcp next tt f) (λ _ e4.
    chosen_right P (is_the word (codes "qemu-mcast")) _ _ next (λ _ f. ok_right P begun.Multicast next tt f) (λ _ e5.
    chosen_right P (is_the word (codes "web")) _ _ next (λ _ f. ok_right P begun.Web next tt f) (λ _ e6.
    chosen_right P (is_the word (codes "peers")) _ _ next (λ _ f. ok_right P begun.Peers next tt f) (λ _ e7.
    chosen_right P (is_the word (codes "rfc1234")) _ _ next (λ _ f. ok_right P begun.Rfc1234 next tt f) (λ _ e8.
    chosen_right P (is_the word (codes "tap")) _ _ next (λ _ f. of_card_right P (has_taps cards) begun.Tap next (λ is. is) f) (λ _ e9.
    chosen_right P (is_the word (codes "interface")) _ _ next (λ _ f. of_card_right P (has_interfaces cards) begun.Interface next (λ is. is) f) (λ _ e10.
    chosen_right P (is_the word (codes "vde")) _ _ next (λ _ f. of_card_right P (has_taps cards) begun.Vde next (λ is. is) f) (λ _ f. absurd (no_error expected.Link next f))
    e10) e9) e8) e7) e6) e5) e4) e3) e2) e1) e

tunnel_right : (cards : Cards) (word : List ℕ) (o : Option Address) (next : LinkBegun) → address_of word ≡ o → tunnel_by o ≡ Ok next → IsPart cards next
tunnel_right cards word None next is e = absurd (no_error expected.Address next e)
tunnel_right cards word (Some address) next is e =
    chosen_right (IsPart cards) (is_six address) _ _ next (λ _ f. absurd (no_error expected.AddressOfFour next f))
    (λ four f. ok_right (IsPart cards) (begun.Whole (link.Tunnel address)) next (address_right word address is, four) f) e

web_right : (cards : Cards) (word : List ℕ) (o : Option Address) (next : LinkBegun) → address_of word ≡ o → web_by o ≡ Ok next → IsPart cards next
web_right cards word None next is e = absurd (no_error expected.Address next e)
web_right cards word (Some address) next is e =
    chosen_right (IsPart cards) (is_six address) _ _ next (λ _ f. absurd (no_error expected.AddressOfFour next f))
    (λ four f. ok_right (IsPart cards) (begun.Whole (link.Web address)) next (address_right word address is, four) f) e

pub whole_right : (cards : Cards) (it : Link) (next : LinkBegun) (word : List ℕ) → IsLink cards it → behind_whole it word ≡ Ok next → IsPart cards next
whole_right cards (link.Web address) next word is e =
    said_right (IsPart cards) expected.FramesOrNothing (λ frames. begun.Whole (link.Framed (ends.Web address) frames)) (frames_of word) next (λ a read. is) e
whole_right cards (link.Tunnel address) next word is e = absurd (no_error expected.Nothing next e)
whole_right cards (link.Rfc1234 address) next word is e = absurd (no_error expected.Nothing next e)
whole_right cards (link.Framed end frames) next word is e = absurd (no_error expected.Nothing next e)

behind_right : (cards : Cards) (local : Address) (word : List ℕ) (o : Option Place) (next : LinkBegun) → IsAddress local → remote_of word ≡ o → remote_by local o ≡ Ok next → IsPart cards next
behind_right cards local word None next own is e = absurd (no_error expected.Remote next e)
behind_right cards local word (Some remote) next own is e =
    chosen_right (IsPart cards) (is_like local remote) _ _ next (λ like f. ok_right (IsPart cards) (begun.End (ends.Udp local remote)) next (own, remote_right word remote is, like) f)
    (λ _ e1. chosen_right (IsPart cards) (is_six local) _ _ next (λ _ f. absurd (no_error expected.RemoteOfSix next f)) (λ _ f. absurd (no_error expected.RemoteOfFour next f)) e1) e

connection_right : (cards : Cards) (word : List ℕ) (next : LinkBegun) → connection_of word ≡ Ok next → IsPart cards next
connection_right cards word next e =
    chosen_right (IsPart cards) (is_the word (codes "listen")) _ _ next (λ _ f. ok_right (IsPart cards) begun.Listen next tt f)
    (λ _ e1. chosen_right (IsPart cards) (is_the word (codes "connect")) _ _ next (λ _ f. ok_right (IsPart cards) begun.Connect next tt f) (λ _ f. absurd (no_error expected.Connection next f)) e1) e

group_part : (cards : Cards) (group : Address) (word : List ℕ) (next : LinkBegun) → IsAddress group → is_group group ≡ true → behind_group group word ≡ Ok next → IsPart cards next
group_part cards group word next is right e =
    let P = IsPart cards in
    chosen_right P (is_the word (codes "via")) _ _ next (λ _ f. ok_right P (begun.Via group) next (is, right) f)
    (λ _ f. said_right P expected.ViaOrFrames (λ frames. begun.Whole (link.Framed (ends.Group group own_host) frames)) (frames_of word) next (λ a read. (is, right, (own_right, refl))) f) e

pub step_right : (cards : Cards) (b next : LinkBegun) (word : List ℕ) → IsWord word → IsPart cards b → link_step cards b word ≡ Ok next → IsPart cards next
step_right cards begun.Nothing next word is part e = first_right cards word next e
step_right cards begun.Tunnel next word is part e = tunnel_right cards word (address_of word) next refl e
step_right cards begun.Udp next word is part e = said_right (IsPart cards) expected.Address begun.UdpFrom (address_of word) next (λ a read. address_right word a read) e
step_right cards (begun.UdpFrom local) next word is part e = behind_right cards local word (remote_of word) next part refl e
step_right cards begun.Tcp next word is part e = connection_right cards word next e
step_right cards begun.Listen next word is part e =
    said_right (IsPart cards) expected.Address (λ address. begun.End (ends.Listen address)) (address_of word) next (λ a read. address_right word a read) e
step_right cards begun.Connect next word is part e =
    said_right (IsPart cards) expected.Remote (λ remote. begun.End (ends.Connect remote)) (remote_of word) next (λ a read. remote_right word a read) e
step_right cards begun.Tap next word is part e =
    said_right (IsPart cards) expected.Tap (λ name. begun.End (ends.Tap name)) (name_of word) next (λ a read. (part, (word, is, read))) e
step_right cards begun.Interface next word is part e =
    said_right (IsPart cards) expected.Interface (λ name. begun.End (ends.Interface name)) (name_of word) next (λ a read. (part, (word, is, read))) e
step_right cards begun.Multicast next word is part e = said_right (IsPart cards) expected.Group begun.Group (group_of word) next (λ a read. group_right word a read) e
step_right cards (begun.Group group) next word is part e = group_part cards group word next part.0 part.1 e
step_right cards (begun.Via group) next word is part e =
    said_right (IsPart cards) expected.Card (λ card. begun.End (ends.Group group card)) (card_of word) next (λ a read. (part.0, part.1, card_right word a read)) e
step_right cards begun.Vde next word is part e =
    said_right (IsPart cards) expected.Switch (λ path. begun.End (ends.Switch path)) (path_of word) next (λ a read. (part, (word, is, read))) e
step_right cards (begun.End end) next word is part e =
    said_right (IsPart cards) expected.Frames (λ frames. begun.Whole (link.Framed end frames)) (frames_of word) next (λ a read. part) e
step_right cards begun.Web next word is part e = web_right cards word (address_of word) next refl e
step_right cards begun.Peers next word is part e = said_right (IsPart cards) expected.Address begun.PeersAt (address_of word) next (λ a read. address_right word a read) e
step_right cards (begun.PeersAt local) next word is part e =
    said_right (IsPart cards) expected.KeyFile (λ file. begun.End (ends.Peers local file)) (file_of word) next (λ a read. (part, (word, is, read))) e
step_right cards begun.Rfc1234 next word is part e =
    said_right (IsPart cards) expected.CardAndPort (λ address. begun.Whole (link.Rfc1234 address)) (card_address_of word) next (λ a read. card_address_right word a read) e
step_right cards (begun.Whole it) next word is part e = whole_right cards it next word part e

-- what words that are right say of a link is right
said_part : (cards : Cards) (b last : LinkBegun) (ws : List (List ℕ)) → AllByRecursion IsWord ws → IsPart cards b → link_said cards b ws ≡ Some last → IsPart cards last
said_part cards b last [] are part e = subst (IsPart cards) (one_value b last e) part
said_part cards b last (w ∷ ws) are part e = by (λ next. said_part cards next last ws are.1) (link_step cards b w) refl e
  where
    by : ((next : LinkBegun) → IsPart cards next → link_said cards next ws ≡ Some last → IsPart cards last) → (r : Result LinkBegun Expected) → link_step cards b w ≡ r
        → if_goes_on r (λ next. link_said cards next ws) ≡ Some last → IsPart cards last
    by each (Ok next) is said = each next (step_right cards b next w are.0 part is) said
    by each (Err why) is said = absurd (no_value last said)

pub link_right : (cards : Cards) (ws : List (List ℕ)) (it : Link) → AllByRecursion IsWord ws → link_said cards begun.Nothing ws ≡ Some (begun.Whole it) → IsLink cards it
link_right cards ws it are e = said_part cards begun.Nothing (begun.Whole it) ws are tt e
