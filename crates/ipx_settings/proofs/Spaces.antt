use Rattle.std.proofs.Common.{◌≡◌, ℕ, ◌+◌, ◌<◌, List, [], ◌∷◌, ◌++◌, length, refl, sym, ap, ◌∙◌, arith, Option, ◌≤◌, map, flat_map, le-leb, append_assoc, append-nil}
use Rattle.std.proofs.lemmas.List.{length-append, length-map}
use Rattle.std.specs.Prelude.{codes}
use Rattle.ipx_settings.specs.WritingAddresses.{address_words}
use Rattle.ipx_settings.specs.WritingLinks.{spaced, frames_word, card_words, end_words, link_words}
use Rattle.ipx_settings.specs.Writing.{written_size, written_into}
use Rattle.ipx_settings.specs.declared.addresses.Address.{Address}
use Rattle.ipx_settings.specs.declared.addresses.HostRange.{HostRange}
use Rattle.ipx_settings.specs.WritingLines.{socket_word, range_word, sockets_words, list_size, list_into, bytes_digits, head_words, maybe_link_words, network_words}
use Rattle.ipx_settings.specs.declared.link.End.{End}
use Rattle.ipx_settings.specs.declared.link.End.TheVariants as ends
use Rattle.ipx_settings.specs.declared.link.Frames.{Frames}
use Rattle.ipx_settings.specs.declared.link.Link.{Link}
use Rattle.ipx_settings.specs.declared.link.Link.TheVariants as link
use Rattle.ipx_settings.specs.declared.network.Head.{Head}
use Rattle.ipx_settings.specs.declared.network.NetworkBegun.TheVariants as network

-- words behind a word
pub spaced-append : (word : List ℕ) (front more : List (List ℕ)) (next : List ℕ) → spaced ((word ∷ front) ++ next ∷ more) ≡ spaced (word ∷ front) ++ 32 ∷ spaced (next ∷ more)
spaced-append word [] more next = refl
spaced-append word (w ∷ front) more next =
    ap (λ l. word ++ 32 ∷ l) (spaced-append w front more next) ∙ sym (append_assoc word (32 ∷ spaced (w ∷ front)) (32 ∷ spaced (next ∷ more)))

-- a word behind some
pub last_word : (words : List (List ℕ)) (word : List ℕ) → 0 < length words → spaced (words ++ word ∷ []) ≡ spaced words ++ 32 ∷ word
last_word [] word some = absurd (omega (arith, some))
last_word (w ∷ front) word some = spaced-append w front [] word

has_words : (end : End) → 0 < length (end_words end)
has_words (ends.Udp local remote) = omega arith
has_words (ends.Listen local) = omega arith
has_words (ends.Connect remote) = omega arith
has_words (ends.Tap name) = omega arith
has_words (ends.Interface name) = omega arith
has_words (ends.Group group card) = omega arith
has_words (ends.Switch path) = omega arith
has_words (ends.Web address) = omega arith
has_words (ends.Peers local file) = omega arith

pub frames_behind : (end : End) (frames : Frames) → spaced (link_words (link.Framed end frames)) ≡ spaced (end_words end) ++ 32 ∷ frames_word frames
frames_behind end frames = last_word (end_words end) (frames_word frames) (has_words end)

-- a list of words behind one
words_behind : (word : List ℕ) (words : List (List ℕ)) → spaced (word ∷ words) ≡ word ++ flat_map (λ next. 32 ∷ next) words
words_behind word [] = sym (append-nil word)
words_behind word (next ∷ words) = ap (λ l. word ++ 32 ∷ l) (words_behind next words)

pub card_behind : (group : Address) (card : List ℕ)
    → spaced (end_words (ends.Group group card)) ≡ codes "qemu-mcast " ++ (address_words group ++ flat_map (λ next. 32 ∷ next) (card_words card))
card_behind group card = ap (λ l. codes "qemu-mcast " ++ l) (words_behind (address_words group) (card_words card))

-- words behind words
both_spaced : (front more : List (List ℕ)) → 0 < length front → 0 < length more → spaced (front ++ more) ≡ spaced front ++ 32 ∷ spaced more
both_spaced [] more some also = absurd (omega (arith, some))
both_spaced (word ∷ front) [] some also = absurd (omega (arith, also))
both_spaced (word ∷ front) (next ∷ more) some also = spaced-append word front more next

link_some : (it : Link) → 0 < length (link_words it)
link_some (link.Tunnel address) = omega arith
link_some (link.Web address) = omega arith
link_some (link.Rfc1234 address) = omega arith
link_some (link.Framed end frames) = omega (arith, length-append (end_words end) (frames_word frames ∷ []))

head_some : (head : Head) → 0 < length (head_words head)
unfolding head_words
head_some head = omega arith

pub nothing_behind : (head : Head) → spaced (head_words head ++ []) ≡ spaced (head_words head)
nothing_behind head = ap spaced (append-nil (head_words head))

pub link_behind : (head : Head) (it : Link) → spaced (head_words head ++ link_words it) ≡ spaced (head_words head) ++ 32 ∷ spaced (link_words it)
link_behind head it = both_spaced (head_words head) (link_words it) (head_some head) (link_some it)

pub node_behind : (head : Head) (it : Option Link) (node : List ℕ)
    → spaced (network_words (network.Whole head it node)) ≡ spaced (head_words head ++ maybe_link_words it) ++ (codes " node " ++ bytes_digits node)
node_behind head it node =
    both_spaced (head_words head ++ maybe_link_words it) (codes "node" ∷ bytes_digits node ∷ []) (omega (arith, head_some head, length-append (head_words head) (maybe_link_words it))) (omega arith)

-- three texts that are put behind one
pub three_put : (a b c d x y z all : List ℕ) → b ≡ a ++ x → c ≡ b ++ y → d ≡ c ++ z → all ≡ x ++ (y ++ z) → d ≡ a ++ all
three_put a b c d x y z all first second third e =
    third ∙ ap (λ l. l ++ z) (second ∙ ap (λ l. l ++ y) first) ∙ append_assoc (a ++ x) y z ∙ append_assoc a x (y ++ z) ∙ ap (λ l. a ++ l) (sym e)

-- ---- lists

listed : {A : Type 0} (f : A → List ℕ) (word : List ℕ) (xs : List A) → spaced (word ∷ map f xs) ≡ word ++ flat_map (λ x. 32 ∷ f x) xs
listed f word [] = sym (append-nil word)
listed f word (x ∷ xs) = ap (λ l. word ++ 32 ∷ l) (listed f (f x) xs)

pub sockets_listed : (sockets : List ℕ) → spaced (sockets_words sockets) ≡ codes "extend" ++ flat_map (λ socket. 32 ∷ socket_word socket) sockets
sockets_listed sockets = listed socket_word (codes "extend") sockets

pub ranges_listed : (word : List ℕ) (ranges : List HostRange) → spaced (word ∷ map range_word ranges) ≡ word ++ flat_map (λ range. 32 ∷ range_word range) ranges
ranges_listed word ranges = listed range_word word ranges

-- what is given of a list that has room in a line
pub given : (words : List (List ℕ)) (text out : List ℕ) (n : ℕ) → length words ≡ n + 1 → n ≤ 31 → text ≡ spaced words
    → (written_size text out ≡ list_size words out) × (written_into text out ≡ list_into words out)
given words text out n size few same = rw (same, le-leb (length words) 32 (omega (arith, size, few))) (refl, refl)

pub list_length : {A : Type 0} (f : A → List ℕ) (word : List ℕ) (xs : List A) → length (word ∷ map f xs) ≡ length xs + 1
list_length f word xs = omega (arith, length-map xs f)
