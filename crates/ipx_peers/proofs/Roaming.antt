-- Where a place is, and how long it is present.
use Rattle.std.proofs.Common.{◌≡◌, ◌∙◌, refl, sym, ap, subst, arith, ℕ, ◌+◌, ◌-◌, ◌<◌, ◌≤◌, true, false, ◌==◌, nat_lt, max, inl, inr, List, [], ◌∷◌, ◌++◌, length, map, set, get_or, length-set, length-append}
use Rattle.std.proofs.lemmas.Bool.{cases_Bool, cases_eq, cases_lt, both_ways, eqb-true, eqb-false, ltb-true, ltb-false}
use Rattle.std.proofs.lemmas.List.{length-map, get_or-set_same, get_or-set_other, get_or_append_left, get_or-append_right, get_or-map, get_or_past}
use Rattle.std.proofs.lemmas.List.Quantifiers.{position-Some}
use Rattle.ipx_peers.specs.declared.opened.Opened.{Opened}
use Rattle.ipx_peers.specs.declared.verdict.Verdict.{Verdict}
use Rattle.ipx_peers.specs.declared.verdict.Verdict.TheVariants.{Dropped, Greet, Repeated, Heard, New, Full, Again}
use Rattle.ipx_peers.specs.Numbers.{place_lasts}
use Rattle.ipx_peers.specs.Windows.{newest}
use Rattle.ipx_peers.specs.Events.{Event, Begins, Hears, Sends, Second, History}
use Rattle.ipx_peers.specs.Places.{same, Place, nobody, is_of, is_away, first, heard, yielded, later}
use Rattle.ipx_peers.specs.States.{State, place_at, verdict, places_after, state}
use Rattle.ipx_peers.specs.Laws.{is_heard, hears, GoesOn, seconds, CameFrom, CameLately}
use Rattle.ipx_peers.proofs.Said.{Says, says}
use Rattle.ipx_peers.proofs.Deciding.{same_is}

-- ---- the places after an event

pub mapped_at : (g : Place → Place) (xs : List Place) (i : ℕ) → i < length xs → place_at i (map g xs) ≡ g (place_at i xs)
mapped_at g xs i within = get_or-map g xs i nobody nobody within

pub before_new : (g : Place → Place) (xs : List Place) (y : Place) (i : ℕ) → i < length xs → place_at i (map g xs ++ y ∷ []) ≡ g (place_at i xs)
before_new g xs y i within =
    get_or_append_left (map g xs) (y ∷ []) nobody i (omega (arith, within, length-map xs g)) ∙ mapped_at g xs i within

pub at_new : (g : Place → Place) (xs : List Place) (y : Place) → place_at (length xs) (map g xs ++ y ∷ []) ≡ y
at_new g xs y =
    let none : length xs - length xs ≡ 0 = omega arith in
    get_or-append_right (map g xs) (y ∷ []) (length xs) (length xs) nobody (length-map xs g) (omega arith) ∙ ap (λ n. get_or (y ∷ []) n nobody) none

-- what holds of each place after a datagram: of the one that says it, of those that may yield, and of all others
each : (opened : Opened) (s : State) (v : Verdict) → Says opened s v → (P : Place → Type 0)
    → ((i : ℕ) → i < length s.places → P (place_at i s.places))
    → ((x : Place) → P x → P (yielded opened.address x))
    → (is_heard v ≡ true → (x : Place) → P x → x.session ≡ opened.session → P (heard opened x))
    → (is_heard v ≡ true → P (first opened))
    → (i : ℕ) → i < length (places_after opened s.places v) → P (place_at i (places_after opened s.places v))
each opened s Dropped said P all yields hears new i within = all i within
each opened s Greet said P all yields hears new i within = all i within
each opened s Repeated said P all yields hears new i within = all i within
each opened s (Heard j) said P all yields hears new i within =
    let (there, here, before) = position-Some (is_of opened.session) s.places j nobody said.1 in
    let y = heard opened (place_at j s.places) in
    elim (cases_eq i j) [
      | inl e ↦
          let same_place : place_at i (set s.places j y) ≡ y = ap (λ n. place_at n (set s.places j y)) e ∙ get_or-set_same s.places j y nobody there in
          subst P (sym same_place) (hears refl (place_at j s.places) (all j there) (same_is (place_at j s.places).session opened.session here))
      | inr differ ↦
          let inside : i < length s.places = omega (arith, within, length-set s.places j y) in
          subst P (sym (get_or-set_other s.places j i y nobody differ)) (all i inside)
    ]
each opened s (New j) said P all yields hears new i within =
    let g = yielded opened.address in
    let more = length-append (map g s.places) (first opened ∷ []) in
    elim (cases_lt i (length s.places)) [
      | inl known ↦ subst P (sym (before_new g s.places (first opened) i known)) (yields (place_at i s.places) (all i known))
      | inr past ↦
          let last : i ≡ length s.places = omega (arith, within, past, more, length-map s.places g) in
          subst P (sym (ap (λ n. place_at n (map g s.places ++ first opened ∷ [])) last ∙ at_new g s.places (first opened))) (new refl)
    ]
each opened s Full said P all yields hears new i within = all i within
each opened s Again said P all yields hears new i within = all i within

-- ---- where it is

longer : (event : Event) (later : History) → GoesOn (event ∷ []) → GoesOn later → GoesOn (event ∷ later)
longer (Begins own) later small goes_on = small
longer (Hears opened) later small goes_on = goes_on
longer Sends later small goes_on = goes_on
longer Second later small goes_on = goes_on

came_longer : (event : Event) (history : History) (place : Place) → GoesOn (event ∷ []) → CameFrom place history → CameFrom place (event ∷ history)
came_longer event history place small came = record {
  later = event ∷ came.later;
  goes_on = longer event came.later small came.goes_on;
  opened = came.opened;
  earlier = came.earlier;
  event = ap (λ h. event ∷ h) came.event;
  heard = came.heard;
  session = came.session;
  address = came.address;
  number = came.number;
}

came_alike : (history : History) (x y : Place) → x.session ≡ y.session → x.address ≡ y.address → x.numbers ≡ y.numbers → CameFrom x history → CameFrom y history
came_alike history x y session address numbers came = record {
  later = came.later;
  goes_on = came.goes_on;
  opened = came.opened;
  earlier = came.earlier;
  event = came.event;
  heard = came.heard;
  session = came.session ∙ session;
  address = came.address ∙ address;
  number = came.number ∙ ap newest numbers;
}

higher : (a b : ℕ) → b < a → a ≡ max a b
higher a b less = grind arith

lower : (a b : ℕ) → a ≤ b → b ≡ max a b
lower a b fits = grind arith

came_heard : (history : History) (opened : Opened) → hears history opened ≡ true → (x : Place) → CameFrom x (Hears opened ∷ history)
    → x.session ≡ opened.session → CameFrom (heard opened x) (Hears opened ∷ history)
came_heard history opened is x came session = elim (cases_Bool (nat_lt (newest x.numbers) opened.number)) [
  | inl e ↦ record {
    later = [];
    goes_on = tt;
    opened = opened;
    earlier = history;
    event = refl;
    heard = is;
    session = sym session;
    address = rw e refl;
    number = higher opened.number (newest x.numbers) (ltb-true (newest x.numbers) opened.number e);
  }
  | inr e ↦ record {
    later = came.later;
    goes_on = came.goes_on;
    opened = came.opened;
    earlier = came.earlier;
    event = came.event;
    heard = came.heard;
    session = came.session;
    address = rw e came.address;
    number = came.number ∙ lower opened.number (newest x.numbers) (ltb-false (newest x.numbers) opened.number e);
  }
]

came_first : (history : History) (opened : Opened) → hears history opened ≡ true → CameFrom (first opened) (Hears opened ∷ history)
came_first history opened is = record {
  later = [];
  goes_on = tt;
  opened = opened;
  earlier = history;
  event = refl;
  heard = is;
  session = refl;
  address = refl;
  number = by opened.number;
}
  where
    by : (n : ℕ) → n ≡ max n 0
    by n = grind arith

pub came : (history : History) (i : ℕ) → i < length (state history).places → CameFrom (place_at i (state history).places) history
came [] i within = absurd (omega (arith, within))
came (Begins session ∷ earlier) i within = absurd (omega (arith, within))
came (Hears opened ∷ earlier) i within =
    let s = state earlier in
    let h = Hears opened ∷ earlier in
    each opened s (verdict opened s) (says opened s) (λ x. CameFrom x h)
    (λ k less. came_longer (Hears opened) earlier (place_at k s.places) tt (came earlier k less))
    (λ x it. came_alike h x (yielded opened.address x) refl refl refl it)
    (λ is x it session. came_heard earlier opened is x it session)
    (λ is. came_first earlier opened is)
    i within
came (Sends ∷ earlier) i within = came_longer Sends earlier (place_at i (state earlier).places) tt (came earlier i within)
came (Second ∷ earlier) i within =
    let xs = (state earlier).places in
    let known : i < length xs = omega (arith, within, length-map xs later) in
    let x = place_at i xs in
    let it = came_longer Second earlier x tt (came earlier i known) in
    subst (λ (y : Place). CameFrom y (Second ∷ earlier)) (sym (mapped_at later xs i known)) (came_alike (Second ∷ earlier) x (later x) refl refl refl it)

-- ---- how long it is present

abbrev IfPresent : History → Place → Type 0
IfPresent history place = is_away place ≡ false → CameLately place history

lately_longer : (event : Event) (history : History) (x y : Place) → GoesOn (event ∷ []) → seconds (event ∷ []) + y.left ≡ x.left → x.session ≡ y.session → CameLately x history
    → CameLately y (event ∷ history)
lately_longer event history x y small passed session came = record {
  later = event ∷ came.later;
  goes_on = longer event came.later small came.goes_on;
  opened = came.opened;
  earlier = came.earlier;
  event = ap (λ h. event ∷ h) came.event;
  heard = came.heard;
  session = came.session ∙ session;
  lately = omega (arith, passed, came.lately, one_more event came.later);
}
  where
    one_more : (event : Event) (h : History) → seconds (event ∷ h) ≡ seconds h + seconds (event ∷ [])
    one_more (Begins own) h = omega arith
    one_more (Hears opened) h = omega arith
    one_more Sends h = omega arith
    one_more Second h = omega arith

lately_now : (history : History) (opened : Opened) → hears history opened ≡ true → (x : Place) → opened.session ≡ x.session → x.left ≡ place_lasts
    → CameLately x (Hears opened ∷ history)
lately_now history opened is x session all = record {
  later = [];
  opened = opened;
  earlier = history;
  event = refl;
  heard = is;
  session = session;
  goes_on = tt;
  lately = omega (arith, all);
}

still_there : (history : History) (address : List ℕ) (x : Place) → IfPresent history x → IfPresent history (yielded address x)
still_there history address x it there = elim (cases_Bool (same x.address address)) [
  | inl e ↦
      let gone : is_away (yielded address x) ≡ true = rw e refl in
      absurd (both_ways (is_away (yielded address x)) there gone)
  | inr e ↦
      let left : (yielded address x).left ≡ x.left = rw e refl in
      let came = it (ap (λ n. n == 0) (sym left) ∙ there) in
      record {
        later = came.later;
        goes_on = came.goes_on;
        opened = came.opened;
        earlier = came.earlier;
        event = came.event;
        heard = came.heard;
        session = came.session;
        lately = omega (arith, came.lately, left);
      }
]

pub lately : (history : History) (i : ℕ) → i < length (state history).places → IfPresent history (place_at i (state history).places)
lately [] i within = absurd (omega (arith, within))
lately (Begins session ∷ earlier) i within = absurd (omega (arith, within))
lately (Hears opened ∷ earlier) i within =
    let s = state earlier in
    let h = Hears opened ∷ earlier in
    each opened s (verdict opened s) (says opened s) (λ x. IfPresent h x)
    (λ k less there. lately_longer (Hears opened) earlier (place_at k s.places) (place_at k s.places) tt (omega arith) refl (lately earlier k less there))
    (λ x it. still_there h opened.address x it)
    (λ is x it session there. lately_now earlier opened is (heard opened x) (sym session) refl)
    (λ is there. lately_now earlier opened is (first opened) refl refl)
    i within
lately (Sends ∷ earlier) i within = λ there. lately_longer Sends earlier (place_at i (state earlier).places) (place_at i (state earlier).places) tt (omega arith) refl (lately earlier i within there)
lately (Second ∷ earlier) i within =
    let xs = (state earlier).places in
    let known : i < length xs = omega (arith, within, length-map xs later) in
    let x = place_at i xs in
    subst (λ (y : Place). IfPresent (Second ∷ earlier) y) (sym (mapped_at later xs i known)) (λ there.
    let more : 0 < x.left - 1 = omega (arith, eqb-false (x.left - 1) 0 there) in
    let there_before : (x.left == 0) ≡ false = grind (arith, more) in
    lately_longer Second earlier x (later x) tt (omega (arith, more)) refl (lately earlier i known there_before))

pub left_most : (history : History) (i : ℕ) → (place_at i (state history).places).left ≤ 180
left_most history i = elim (cases_lt i (length (state history).places)) [
  | inl known ↦ by (place_at i (state history).places) (lately history i known)
  | inr past ↦ omega (arith, ap (λ (x : Place). x.left) (get_or_past (state history).places i nobody past))
]
  where
    by : (x : Place) → IfPresent history x → x.left ≤ 180
    by x it = elim (cases_Bool (is_away x)) [
      | inl e ↦ omega (arith, eqb-true x.left 0 e)
      | inr e ↦ omega (arith, (it e).lately)
    ]
