-- What each call does in memory is what becomes of the places.
use Rattle.std.proofs.Common.{◌≡◌, ◌∙◌, refl, sym, ap, arith, ℕ, zero, suc, ◌-◌, ◌<◌, ◌%◌, true, nat_lt, max, inl, inr, List, [], ◌∷◌, ◌++◌, length, map, set, get_or, replicate, length-set, length-append}
use Rattle.std.proofs.lemmas.Bool.{cases_Bool, ltb-true}
use Rattle.std.proofs.lemmas.List.{length-map, map-append, map-set, get_or_append_left, get_or-map, set-append_left}
use Rattle.std.proofs.Math.Seq.{set-append_seam}
use Rattle.ipx_peers.specs.declared.opened.Opened.{Opened}
use Rattle.ipx_peers.specs.declared.peer.Peer.{Peer}
use Rattle.ipx_peers.specs.Windows.{is_fresh, newest}
use Rattle.ipx_peers.specs.Places.{same, Place, nobody, first, heard}
use Rattle.ipx_peers.specs.Memory.{highest, slots, peer_of, no_peer, peers_of}
use Rattle.ipx_peers.specs.inside.Kept.{slot_of, has_room_for, heard_in, first_in, yielded_in}
use Rattle.ipx_peers.proofs.Slots.{fresh_by_slot, slot_at, slots_more, slots_none, newest_is}

-- ---- one place

small : (number : ℕ) → number % 256 < 256
small number = grind arith

pub room_kept : (opened : Opened) (place : Place) → 0 < opened.number → has_room_for opened (peer_of place) ≡ is_fresh opened.number place.numbers
room_kept opened place some =
    ap (λ high. nat_lt high opened.number) (slot_at place.numbers (opened.number % 256) (small opened.number))
    ∙ sym (fresh_by_slot opened.number place.numbers some)

abbrev peer_with : List ℕ → List ℕ → ℕ → ℕ → List ℕ → Peer
peer_with session address left newest slots = record { session = session; address = address; left = left; newest = newest; slots = slots }

higher : (opened : Opened) (place : Place) → 0 < opened.number → is_fresh opened.number place.numbers ≡ true → highest (opened.number % 256) place.numbers < opened.number
higher opened place some fresh = ltb-true (highest (opened.number % 256) place.numbers) opened.number (sym (fresh_by_slot opened.number place.numbers some) ∙ fresh)

pub heard_kept : (opened : Opened) (place : Place) → 0 < opened.number → is_fresh opened.number place.numbers ≡ true
    → heard_in opened (peer_of place) ≡ peer_of (heard opened place)
heard_kept opened place some fresh =
    let it = heard opened place in
    ap (λ n. peer_with it.session it.address it.left n (set (slots place.numbers) (slot_of opened.number) opened.number)) (newest_is opened.number place.numbers)
    ∙ ap (λ s. peer_with it.session it.address it.left (newest it.numbers) s) (slots_more opened.number place.numbers (higher opened place some fresh))

pub first_kept : (opened : Opened) → 0 < opened.number → first_in opened ≡ peer_of (first opened)
first_kept opened some =
    let it = first opened in
    let fresh : highest (opened.number % 256) [] < opened.number = omega (arith, some) in
    let at_first : opened.number ≡ newest (opened.number ∷ []) = by opened.number in
    ap (λ n. peer_with it.session it.address it.left n (set (replicate 256 0) (slot_of opened.number) opened.number)) at_first
    ∙ ap (λ s. peer_with it.session it.address it.left (newest it.numbers) (set s (slot_of opened.number) opened.number)) (sym slots_none)
    ∙ ap (λ s. peer_with it.session it.address it.left (newest it.numbers) s) (slots_more opened.number [] fresh)
  where
    by : (n : ℕ) → n ≡ max n 0
    by n = grind arith

-- ---- all places, and none behind them

pub yielded_none : (address : List ℕ) → yielded_in address no_peer ≡ no_peer
yielded_none address = elim (cases_Bool (same no_peer.address address)) [
  | inl e ↦ rw e refl
  | inr e ↦ rw e refl
]

nones : (f : Peer → Peer) → f no_peer ≡ no_peer → (n : ℕ) → map f (replicate n no_peer) ≡ replicate n no_peer
nones f none zero = refl
nones f none (suc n) = ap (λ x. x ∷ map f (replicate n no_peer)) none ∙ ap (λ xs. no_peer ∷ xs) (nones f none n)

alike : (f : Peer → Peer) (g : Place → Place) → ((x : Place) → f (peer_of x) ≡ peer_of (g x)) → (xs : List Place) → map f (map peer_of xs) ≡ map peer_of (map g xs)
alike f g same [] = refl
alike f g same (x ∷ xs) = ap (λ y. y ∷ map f (map peer_of xs)) (same x) ∙ ap (λ ys. peer_of (g x) ∷ ys) (alike f g same xs)

pub all_change : (f : Peer → Peer) (g : Place → Place) → ((x : Place) → f (peer_of x) ≡ peer_of (g x)) → f no_peer ≡ no_peer → (xs : List Place)
    → map f (peers_of xs) ≡ peers_of (map g xs)
all_change f g same none xs =
    map-append f (map peer_of xs) (replicate (64 - length xs) no_peer)
    ∙ ap (λ ys. ys ++ map f (replicate (64 - length xs) no_peer)) (alike f g same xs)
    ∙ ap (λ ys. map peer_of (map g xs) ++ ys) (nones f none (64 - length xs))
    ∙ ap (λ n. map peer_of (map g xs) ++ replicate (64 - n) no_peer) (sym (length-map xs g))

pub at_known : (xs : List Place) (i : ℕ) → i < length xs → get_or (peers_of xs) i no_peer ≡ peer_of (get_or xs i nobody)
at_known xs i within =
    get_or_append_left (map peer_of xs) (replicate (64 - length xs) no_peer) no_peer i (omega (arith, within, length-map xs peer_of))
    ∙ get_or-map peer_of xs i nobody no_peer within

pub set_known : (xs : List Place) (i : ℕ) (y : Place) → i < length xs → set (peers_of xs) i (peer_of y) ≡ peers_of (set xs i y)
set_known xs i y within =
    set-append_left (map peer_of xs) (replicate (64 - length xs) no_peer) i (peer_of y) (omega (arith, within, length-map xs peer_of))
    ∙ ap (λ ys. ys ++ replicate (64 - length xs) no_peer) (sym (map-set peer_of xs i y))
    ∙ ap (λ n. map peer_of (set xs i y) ++ replicate (64 - n) no_peer) (sym (length-set xs i y))

pub set_new : (xs : List Place) (y : Place) → length xs < 64 → set (peers_of xs) (length xs) (peer_of y) ≡ peers_of (xs ++ y ∷ [])
set_new xs y room =
    let rest = 64 - length (xs ++ y ∷ []) in
    let less : 64 - length xs ≡ suc rest = omega (arith, room, length-append xs (y ∷ [])) in
    ap (λ n. set (map peer_of xs ++ replicate n no_peer) (length xs) (peer_of y)) less
    ∙ ap (λ n. set (map peer_of xs ++ replicate (suc rest) no_peer) n (peer_of y)) (sym (length-map xs peer_of))
    ∙ set-append_seam (map peer_of xs) no_peer (replicate rest no_peer) (peer_of y)
    ∙ seam (map peer_of xs) (peer_of y) (replicate rest no_peer)
    ∙ ap (λ ys. ys ++ replicate rest no_peer) (sym (map-append peer_of xs (y ∷ [])))
  where
    seam : (a : List Peer) (b : Peer) (c : List Peer) → a ++ (b ∷ c) ≡ (a ++ b ∷ []) ++ c
    seam [] b c = refl
    seam (x ∷ a) b c = ap (λ ys. x ∷ ys) (seam a b c)
