-- What is less than 256 behind the highest number is heard.
use Rattle.std.proofs.Common.{◌≡◌, ◌∙◌, refl, sym, ap, arith, ℕ, ◌+◌, ◌<◌, ◌≤◌, ◌%◌, true, false, ◌||◌, ◌==◌, not, nat_le, max, inl, inr, List, [], ◌∷◌, length, Option, None, Some}
use Rattle.std.specs.List.{list_any, position}
use Rattle.std.proofs.Math.Nat.{le-max_left, le-max_right}
use Rattle.std.proofs.lemmas.Bool.{cases_Bool, and_parts, eqb-true, eqb-false, leb-true, lt-ltb}
use Rattle.ipx_peers.specs.declared.opened.Opened.{Opened}
use Rattle.ipx_peers.specs.Numbers.{slots_count, most_places}
use Rattle.ipx_peers.specs.Windows.{shuts_out, is_fresh, newest}
use Rattle.ipx_peers.specs.Events.{History}
use Rattle.ipx_peers.specs.Places.{same, is_of}
use Rattle.ipx_peers.specs.States.{State, counts, place_at, verdict_of, verdict, state}
use Rattle.ipx_peers.specs.Laws.{is_heard, hears, numbers_of}
use Rattle.ipx_peers.proofs.Counted.{numbers_known, numbers_unknown}

close : (m n : ℕ) → m % 256 ≡ n % 256 → n ≤ m → m < n + 256 → m ≡ n
close m n same above near = omega (arith, same, above, near)

not_shut : (n m : ℕ) → (m == n) ≡ false → m < n + 256 → shuts_out n m ≡ false
not_shut n m differs near = elim (cases_Bool (shuts_out n m)) [
  | inl e ↦
      let (same, above) = and_parts (m % 256 == n % 256) (nat_le n m) e in
      absurd (eqb-false m n differs (close m n (eqb-true (m % 256) (n % 256) same) (leb-true n m above) near))
  | inr e ↦ e
]

none_shut : (n : ℕ) (numbers : List ℕ) → list_any (λ m. m == n) numbers ≡ false → newest numbers < n + 256 → list_any (shuts_out n) numbers ≡ false
none_shut n [] none near = refl
none_shut n (m ∷ numbers) none near = elim (cases_Bool (m == n)) [
  | inl e ↦
      let here : ((m == n) || list_any (λ k. k == n) numbers) ≡ false = none in
      let both : true ≡ false = rw e at here in
      absurd cc
  | inr e ↦
      let here : ((m == n) || list_any (λ k. k == n) numbers) ≡ false = none in
      let left = le-max_left m (newest numbers) in
      let right = le-max_right m (newest numbers) in
      let high : max m (newest numbers) < n + 256 = near in
      rw (not_shut n m e (omega (arith, left, high))) (none_shut n numbers (rw e at here) (omega (arith, right, high)))
]

-- ---- the verdict of a datagram that counts and echoes the session

verdict_is : (opened : Opened) (s : State) → counts s opened ≡ true → same opened.echo s.session ≡ true
    → verdict opened s ≡ verdict_of opened s.places (position (is_of opened.session) s.places)
verdict_is opened s counted echoes = rw (counted, echoes) refl

of_known : (opened : Opened) (s : State) (i : ℕ) → is_fresh opened.number (place_at i s.places).numbers ≡ true → is_heard (verdict_of opened s.places (Some i)) ≡ true
of_known opened s i fresh = rw fresh refl

of_new : (opened : Opened) (s : State) → length s.places < 64 → is_heard (verdict_of opened s.places None) ≡ true
of_new opened s room = rw (lt-ltb (length s.places) 64 room) refl

pub known_heard : (history : History) (opened : Opened) (some : ℕ) (others : List ℕ) → counts (state history) opened ≡ true
    → same opened.echo (state history).session ≡ true → numbers_of opened.session history ≡ some ∷ others
    → list_any (λ number. number == opened.number) (numbers_of opened.session history) ≡ false
    → newest (numbers_of opened.session history) < opened.number + slots_count → hears history opened ≡ true
known_heard history opened some others counted echoes are unheard near =
    ap is_heard (verdict_is opened (state history) counted echoes) ∙ by (position (is_of opened.session) (state history).places) refl
  where
    by : (o : Option ℕ) → position (is_of opened.session) (state history).places ≡ o → is_heard (verdict_of opened (state history).places o) ≡ true
    by None none =
        let empty : [] ≡ some ∷ others = sym (numbers_unknown history opened.session none) ∙ are in
        absurd cc
    by (Some i) is =
        of_known opened (state history) i
        (ap (λ n. is_fresh opened.number n) (numbers_known history opened.session i is)
        ∙ ap (λ b. not b) (none_shut opened.number (numbers_of opened.session history) unheard near))

pub new_heard : (history : History) (opened : Opened) → counts (state history) opened ≡ true
    → same opened.echo (state history).session ≡ true → numbers_of opened.session history ≡ []
    → length (state history).places < most_places → hears history opened ≡ true
new_heard history opened counted echoes none room =
    ap is_heard (verdict_is opened (state history) counted echoes) ∙ by (position (is_of opened.session) (state history).places) refl
  where
    by : (o : Option ℕ) → position (is_of opened.session) (state history).places ≡ o → is_heard (verdict_of opened (state history).places o) ≡ true
    by None is = of_new opened (state history) room
    by (Some i) is = of_known opened (state history) i (ap (λ n. is_fresh opened.number n) (numbers_known history opened.session i is ∙ none))
