-- Which ports are up after one event more, as a list made of the one before it.
use Rattle.std.proofs.Common.{◌≡◌, refl, sym, ap, ◌∙◌, ℕ, zero, suc, ◌<◌, ◌==◌, ◌&&◌, ◌||◌, nat_lt, Bool, true, false, not, if◌then◌else◌, List, [], ◌∷◌, ◌++◌, filter, length, inl, inr, true≢false, arith, rules}
use Rattle.std.specs.List.{AllByRecursion, list_any}
use Rattle.std.proofs.lemmas.Bool.{cases_Bool, cases_lt, or_left, or_right, eq-eqb, ne_eqb, lt-ltb, le-ltb}
use Rattle.std.proofs.lemmas.List.Elements.{filter-append}
use Rattle.std.proofs.lemmas.List.Folds.{list_any-append}
use Rattle.ipx_router.specs.inside.Following.{runs_after, up_after}
use Rattle.ipx_router.specs.History.{Event, History, Start, Stop, Second, Packet, PortDown, PortUp, IsOnPort, is_start, since_stop, behind_start, running, present_run, is_down, ports_up}
use Rattle.ipx_router.specs.Port.{Port, numbers, is_up}
use Rattle.ipx_router.specs.Sorted.{put}
use Rattle.ipx_router.proofs.lists.EachElement.{all_then, all-filter}
use Rattle.ipx_router.proofs.histories.OneEventMore.{or_none, since_stop-more, running-more, running-stop, is_down-more, filter-same, ports_stay, none_up, up_is}
use Rattle.ipx_router.proofs.port_values.PortOfEachNumber.{numbers_below}

-- ---- running

pub running_then : (history : History) (event : Event) → running (history ++ event ∷ []) ≡ runs_after (running history) event
running_then history event = grind (arith, running-more, or_right, running-stop, or_none)

-- a start that finds the router stopped begins a run
behind_first : (events : List Event) → list_any is_start events ≡ false → behind_start (events ++ Start ∷ []) ≡ []
behind_first [] none = refl
behind_first (event ∷ events) none = elim (cases_Bool (is_start event)) [
  | inl starts ↦ absurd (true≢false (sym (or_left (is_start event) (list_any is_start events) starts) ∙ none))
  | inr other ↦ rw other (behind_first events (rw other at none))
]

pub present_run-first : (history : History) → running history ≡ false → present_run (history ++ Start ∷ []) ≡ []
present_run-first history stopped = ap behind_start (since_stop-more history Start refl) ∙ behind_first (since_stop history) stopped

-- ---- numbers

turned : (a b : ℕ) → (a == b) ≡ (b == a)
turned a b = grind arith

there_is : (n number : ℕ) → number < n → is_up (numbers n) number ≡ true
there_is zero number below = absurd (omega (arith, below))
there_is (suc n) number below =
    list_any-append (λ j. j == number) (numbers n) (n ∷ [])
    ∙ elim (cases_lt number n) [
      | inl before ↦ or_left (is_up (numbers n) number) (is_up (n ∷ []) number) (there_is n number before)
      | inr here ↦ or_right (is_up (numbers n) number) (is_up (n ∷ []) number) (or_left (n == number) false (eq-eqb n number (omega (arith, here, below))))
    ]

filter_both : (p q : ℕ → Bool) (xs : List ℕ) → filter (λ x. p x && q x) xs ≡ filter p (filter q xs)
filter_both p q [] = refl
filter_both p q (x ∷ xs) = grind (arith, filter_both p q xs)

filter_all : (xs : List ℕ) → filter (λ x. true) xs ≡ xs
filter_all [] = refl
filter_all (x ∷ xs) = ap (λ ys. x ∷ ys) (filter_all xs)

-- a greater number behind the place where one is put
put_before : (n m : ℕ) (xs : List ℕ) → nat_lt n m ≡ true → put nat_lt n (xs ++ m ∷ []) ≡ put nat_lt n xs ++ m ∷ []
put_before n m [] less = rw less refl
put_before n m (x ∷ xs) less = grind (arith, put_before n m xs less)

-- a number behind smaller ones
put_last : (n : ℕ) (xs : List ℕ) → AllByRecursion (λ x. x < n) xs → put nat_lt n xs ≡ xs ++ n ∷ []
put_last n [] all = refl
put_last n (x ∷ xs) all = rw (le-ltb n x (omega (arith, all.0))) (ap (λ ys. x ∷ ys) (put_last n xs all.1))

module _ (p : ℕ → Bool) (number : ℕ) where
  -- those that pass, and one more
  abbrev passes : ℕ → Bool
  passes j = (j == number) || p j

  all_others : (xs : List ℕ) → AllByRecursion (λ j. j < number) xs → filter passes xs ≡ filter p xs
  all_others [] all = refl
  all_others (x ∷ xs) all = grind (arith, all_others xs all.1)

  gone : (xs : List ℕ) → xs ++ [] ≡ xs
  gone xs = search (rules)

  -- a greater number, whether it passes or not
  greater : (n : ℕ) → number < n → filter passes (numbers n) ≡ put nat_lt number (filter p (numbers n)) → (b : Bool) → p n ≡ b
      → filter passes (numbers n) ++ filter passes (n ∷ []) ≡ put nat_lt number (filter p (numbers n) ++ filter p (n ∷ []))
  greater n above rest true e =
      let other : (n == number) ≡ false = ne_eqb n number (λ (same : n ≡ number). omega (arith, same, above)) in
      let both : filter passes (n ∷ []) ≡ n ∷ [] = rw (other, e) refl in
      let alone : filter p (n ∷ []) ≡ n ∷ [] = rw e refl in
      ap (λ ys. filter passes (numbers n) ++ ys) both ∙ ap (λ xs. xs ++ n ∷ []) rest
      ∙ sym (put_before number n (filter p (numbers n)) (lt-ltb number n above))
      ∙ ap (λ ys. put nat_lt number (filter p (numbers n) ++ ys)) (sym alone)
  greater n above rest false e =
      let other : (n == number) ≡ false = ne_eqb n number (λ (same : n ≡ number). omega (arith, same, above)) in
      let both : filter passes (n ∷ []) ≡ [] = rw (other, e) refl in
      let alone : filter p (n ∷ []) ≡ [] = rw e refl in
      ap (λ ys. filter passes (numbers n) ++ ys) both ∙ gone (filter passes (numbers n)) ∙ rest
      ∙ ap (put nat_lt number) (sym (gone (filter p (numbers n))))
      ∙ ap (λ ys. put nat_lt number (filter p (numbers n) ++ ys)) (sym alone)

  -- the number itself
  itself : (n : ℕ) → n ≡ number → p number ≡ false
      → filter passes (numbers n) ++ filter passes (n ∷ []) ≡ put nat_lt number (filter p (numbers n) ++ filter p (n ∷ []))
  itself n same fails = grind (arith, eq-eqb, all_then, numbers_below, all_others, put_last, all-filter, gone)

  pub put_among : (n : ℕ) → number < n → p number ≡ false → filter passes (numbers n) ≡ put nat_lt number (filter p (numbers n))
  put_among zero below fails = absurd (omega (arith, below))
  put_among (suc n) below fails =
      filter-append passes (numbers n) (n ∷ [])
      ∙ elim (cases_lt number n) [
        | inl before ↦ greater n before (put_among n before fails) (p n) refl
        | inr here ↦ itself n (omega (arith, here, below)) fails
      ]
      ∙ ap (put nat_lt number) (sym (filter-append p (numbers n) (n ∷ [])))

-- ---- ports that are up

module _ (ports : List Port) (history : History) where
  -- the port is up, of those that there are
  abbrev is_in : History → ℕ → Bool
  is_in h port = running h && not (is_down h port)

  start_up : ports_up ports (history ++ Start ∷ []) ≡ up_after (length ports) (running history) (ports_up ports history) Start
  start_up = from (running history) refl
    where
      same : running history ≡ true → (port : ℕ) → is_in (history ++ Start ∷ []) port ≡ is_in history port
      same runs port =
          let later : running (history ++ Start ∷ []) ≡ true = running_then history Start in
          let down = is_down-more history Start port refl runs in
          rw (later, down, runs) (kept (is_down history port))
        where
          kept : (d : Bool) → not (d && true) ≡ not d
          kept true = refl
          kept false = refl

      first : running history ≡ false → (port : ℕ) → is_in (history ++ Start ∷ []) port ≡ true
      first stopped port =
          let later : running (history ++ Start ∷ []) ≡ true = running_then history Start in
          let none = present_run-first history stopped in
          rw (later, none) refl

      from : (runs : Bool) → running history ≡ runs → ports_up ports (history ++ Start ∷ []) ≡ up_after (length ports) runs (ports_up ports history) Start
      from true runs = filter-same (is_in (history ++ Start ∷ [])) (is_in history) (numbers (length ports)) (same runs)
      from false stopped =
          filter-same (is_in (history ++ Start ∷ [])) (λ port. true) (numbers (length ports)) (first stopped) ∙ filter_all (numbers (length ports))

  -- a port goes down
  down_up : (number : ℕ) → ports_up ports (history ++ PortDown number ∷ []) ≡ filter (λ j. not (j == number)) (ports_up ports history)
  down_up number =
      filter-same (is_in (history ++ PortDown number ∷ [])) (λ j. not (j == number) && is_in history j) (numbers (length ports)) one
      ∙ filter_both (λ j. not (j == number)) (is_in history) (numbers (length ports))
    where
      by : (same d : Bool) → not (same || (d && true)) ≡ (not same && not d)
      by true true = refl
      by true false = refl
      by false true = refl
      by false false = refl

      nothing : (b : Bool) → false ≡ (b && false)
      nothing true = refl
      nothing false = refl

      one : (port : ℕ) → is_in (history ++ PortDown number ∷ []) port ≡ (not (port == number) && is_in history port)
      one port =
          let later : running (history ++ PortDown number ∷ []) ≡ running history = running_then history (PortDown number) in
          elim (cases_Bool (running history)) [
            | inl runs ↦
                let down = is_down-more history (PortDown number) port refl runs in
                rw (later, runs, down, turned port number) (by (number == port) (is_down history port))
            | inr stopped ↦ rw (later, stopped) (nothing (not (port == number)))
          ]

  -- a port comes up
  module _ (number : ℕ) (within : number < length ports) where
    abbrev behind : History
    behind = history ++ PortUp number ∷ []

    later : running behind ≡ running history
    later = running_then history (PortUp number)

    by : (same d : Bool) → not (d && not same) ≡ (same || not d)
    by same d = grind arith

    -- it is up, or it is the one
    one : (port : ℕ) → running history ≡ true → is_in behind port ≡ ((port == number) || is_in history port)
    one port runs = grind (arith, is_down-more, later, turned, by)

    -- where it is up already
    already : is_in history number ≡ true → (port : ℕ) → ((port == number) || is_in history port) ≡ is_in history port
    already is port = grind arith

    is_it : is_up (ports_up ports history) number ≡ is_in history number
    is_it = up_is ports history number ∙ ap (λ b. is_in history number && b) (there_is (length ports) number within) ∙ whole (is_in history number)
      where
        whole : (b : Bool) → (b && true) ≡ b
        whole true = refl
        whole false = refl

    from : (runs up : Bool) → running history ≡ runs → is_up (ports_up ports history) number ≡ up
        → ports_up ports behind ≡ (if runs && not up then put nat_lt number (ports_up ports history) else ports_up ports history)
    from false up stopped e = none_up ports behind (later ∙ stopped) ∙ sym (none_up ports history stopped)
    from true true runs up = filter-same (is_in behind) (is_in history) (numbers (length ports)) (λ port. one port runs ∙ already (sym is_it ∙ up) port)
    from true false runs down =
        filter-same (is_in behind) (λ port. (port == number) || is_in history port) (numbers (length ports)) (λ port. one port runs)
        ∙ put_among (is_in history) number (length ports) within (sym is_it ∙ down)

    up_up : ports_up ports behind ≡ up_after (length ports) (running history) (ports_up ports history) (PortUp number)
    up_up = from (running history) (is_up (ports_up ports history) number) refl refl

-- a port that the router has, runs and isn't down is up
pub up_there : (ports : List Port) (history : History) (number : ℕ) → number < length ports → (running history && not (is_down history number)) ≡ true
    → is_up (ports_up ports history) number ≡ true
up_there ports history number within e = is_it ports history number within ∙ e

pub ups_then : (ports : List Port) (history : History) (event : Event) → IsOnPort ports event
    → ports_up ports (history ++ event ∷ []) ≡ up_after (length ports) (running history) (ports_up ports history) event
ups_then ports history Start on = start_up ports history
ups_then ports history Stop on = none_up ports (history ++ Stop ∷ []) (running-stop history)
ups_then ports history Second on = ports_stay ports history Second refl refl (λ port. refl) (λ port. refl)
ups_then ports history (Packet number bytes) on = ports_stay ports history (Packet number bytes) refl refl (λ port. refl) (λ port. refl)
ups_then ports history (PortDown number) on = down_up ports history number
ups_then ports history (PortUp number) on = up_up ports history number on
