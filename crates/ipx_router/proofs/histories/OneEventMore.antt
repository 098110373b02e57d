-- What one event more does to a history: whether the router runs then, and which of its ports are up.
use Rattle.std.proofs.Common.{◌≡◌, refl, sym, ap, ◌∙◌, ℕ, zero, suc, ◌<◌, arith, ◌==◌, Bool, true, false, not, ◌&&◌, ◌||◌, List, [], ◌∷◌, ◌++◌, filter, length, inl, inr, true≢false, append-nil, append_assoc}
use Rattle.std.specs.List.{AllByRecursion, list_any}
use Rattle.std.proofs.lemmas.Bool.{cases_Bool, cases_lt, and_parts, and_from, or_right, eq-eqb, eqb-true, not-true}
use Rattle.std.proofs.lemmas.List.Elements.{filter-append}
use Rattle.std.proofs.lemmas.List.Folds.{list_any-append}
use Rattle.std.proofs.lemmas.Map.Views.{any-filter_same}
use Rattle.ipx_router.specs.History.{Event, History, Stop, PortDown, PortUp, is_start, is_stop, is_second, takes_down, brings_up, since_stop, behind_start, running, present_run, seconds_run, ends_down, is_down, ports_up}
use Rattle.ipx_router.specs.Port.{Port, numbers, is_up}

-- ---- any history

-- what holds of a history holds of it and what follows, if it goes on holding with each event
pub grown : (P : History → Type 0) (Q : Event → Type 0) → ((history : History) (event : Event) → Q event → P history → P (history ++ event ∷ []))
    → (before rest : History) → AllByRecursion Q rest → P before → P (before ++ rest)
grown P Q step before [] all is = subst_back (append-nil before) is
  where
    subst_back : {x y : History} → x ≡ y → P y → P x
    subst_back e is = rw e is
grown P Q step before (event ∷ rest) all is =
    let e = append_assoc before (event ∷ []) rest in
    rw (sym e) (grown P Q step (before ++ event ∷ []) rest all.1 (step before event all.0 is))

-- ---- running

pub or_none : (b : Bool) → (b || false) ≡ b
or_none b = grind arith

pub since_stop-more : (history : History) (event : Event) → is_stop event ≡ false → since_stop (history ++ event ∷ []) ≡ since_stop history ++ event ∷ []
since_stop-more [] event on = rw on refl
since_stop-more (first ∷ history) event on = grind (arith, since_stop-more history event on, list_any-append, or_none)

pub since_stop-none : (history : History) → since_stop (history ++ Stop ∷ []) ≡ []
since_stop-none [] = refl
since_stop-none (first ∷ history) = grind (arith, since_stop-none history, list_any-append, or_right)

pub running-more : (history : History) (event : Event) → is_stop event ≡ false → running (history ++ event ∷ []) ≡ (running history || (is_start event || false))
running-more history event on = ap (list_any is_start) (since_stop-more history event on) ∙ list_any-append is_start (since_stop history) (event ∷ [])

pub running-stop : (history : History) → running (history ++ Stop ∷ []) ≡ false
running-stop history = ap (list_any is_start) (since_stop-none history)

behind_start-more : (events : List Event) (event : Event) → list_any is_start events ≡ true
    → behind_start (events ++ event ∷ []) ≡ behind_start events ++ event ∷ []
behind_start-more [] event some = absurd (true≢false (sym some))
behind_start-more (first ∷ events) event some = elim (cases_Bool (is_start first)) [
  | inl starts ↦ rw starts refl
  | inr other ↦ rw other (behind_start-more events event (rw other at some))
]

pub present_run-more : (history : History) (event : Event) → is_stop event ≡ false → running history ≡ true
    → present_run (history ++ event ∷ []) ≡ present_run history ++ event ∷ []
present_run-more history event on runs = ap behind_start (since_stop-more history event on) ∙ behind_start-more (since_stop history) event runs

-- ---- ports that are up

pub ends_down-more : (port : ℕ) (events : List Event) (event : Event)
    → ends_down port (events ++ event ∷ []) ≡ (takes_down port event || (ends_down port events && not (brings_up port event)))
ends_down-more port [] event = elim (cases_Bool (takes_down port event)) [ inl e ↦ rw e refl | inr e ↦ rw e refl ]
ends_down-more port (first ∷ events) event =
    let behind = list_any-append (brings_up port) events (event ∷ []) in
    let rest = ends_down-more port events event in
    rw (behind, rest) (by (takes_down port first) (list_any (brings_up port) events) (ends_down port events) (takes_down port event) (brings_up port event))
  where
    by : (t a d takes brings : Bool)
        → ((t && not (a || (brings || false))) || (takes || (d && not brings))) ≡ (takes || (((t && not a) || d) && not brings))
    by true true true true true = refl
    by true true true true false = refl
    by true true true false true = refl
    by true true true false false = refl
    by true true false true true = refl
    by true true false true false = refl
    by true true false false true = refl
    by true true false false false = refl
    by true false true true true = refl
    by true false true true false = refl
    by true false true false true = refl
    by true false true false false = refl
    by true false false true true = refl
    by true false false true false = refl
    by true false false false true = refl
    by true false false false false = refl
    by false a true true true = refl
    by false a true true false = refl
    by false a true false true = refl
    by false a true false false = refl
    by false a false true true = refl
    by false a false true false = refl
    by false a false false true = refl
    by false a false false false = refl

-- a port is up while the router runs, if it exists and isn't down
pub up_is : (ports : List Port) (history : History) (port : ℕ)
    → is_up (ports_up ports history) port ≡ ((running history && not (is_down history port)) && list_any (λ j. j == port) (numbers (length ports)))
up_is ports history port = grind (arith, any-filter_same, eqb-true)

pub is_down-more : (history : History) (event : Event) (port : ℕ) → is_stop event ≡ false → running history ≡ true
    → is_down (history ++ event ∷ []) port ≡ (takes_down port event || (is_down history port && not (brings_up port event)))
is_down-more history event port on runs = ap (ends_down port) (present_run-more history event on runs) ∙ ends_down-more port (present_run history) event

-- a port stays up until an event takes it down, or the router is stopped
pub up_stays : (ports : List Port) (history : History) (event : Event) (port : ℕ) → is_stop event ≡ false → takes_down port event ≡ false
    → is_up (ports_up ports history) port ≡ true → is_up (ports_up ports (history ++ event ∷ [])) port ≡ true
up_stays ports history event port on untaken up = grind (arith, and_parts, up_is, running-more, is_down-more, not-true, and_from)

-- the port that goes down isn't up
pub down_port : (ports : List Port) (history : History) (port : ℕ)
    → (running (history ++ PortDown port ∷ []) && not (is_down (history ++ PortDown port ∷ []) port)) ≡ false
down_port ports history port = elim (cases_Bool (running history)) [
  | inl runs ↦
      ap (λ b. running (history ++ PortDown port ∷ []) && not b)
      (is_down-more history (PortDown port) port refl runs
      ∙ ap (λ b. b || (is_down history port && not (brings_up port (PortDown port)))) (eq-eqb port port refl))
      ∙ none (running (history ++ PortDown port ∷ []))
  | inr stopped ↦ ap (λ b. b && not (is_down (history ++ PortDown port ∷ []) port)) (running-more history (PortDown port) refl ∙ ap (λ b. b || false) stopped)
]
  where
    none : (b : Bool) → (b && not true) ≡ false
    none true = refl
    none false = refl

-- each number below n is among the numbers below n
pub among : (n number : ℕ) → number < n → list_any (λ j. j == number) (numbers n) ≡ true
among zero number below = absurd (omega (arith, below))
among (suc n) number below =
    list_any-append (λ j. j == number) (numbers n) (n ∷ [])
    ∙ elim (cases_lt number n) [
      | inl less ↦ ap (λ b. b || ((n == number) || false)) (among n number less)
      | inr most ↦
          or_right (list_any (λ j. j == number) (numbers n)) ((n == number) || false) (ap (λ b. b || false) (eq-eqb n number (omega (arith, below, most))))
    ]

-- the port that comes up is up, while the router runs
pub port_comes_up : (ports : List Port) (history : History) (port : ℕ) → port < length ports → running history ≡ true
    → is_up (ports_up ports (history ++ PortUp port ∷ [])) port ≡ true
port_comes_up ports history port exists runs =
    let later : running (history ++ PortUp port ∷ []) ≡ true = running-more history (PortUp port) refl ∙ ap (λ b. b || false) runs in
    let undone : is_down (history ++ PortUp port ∷ []) port ≡ false =
    is_down-more history (PortUp port) port refl runs ∙ ap (λ b. is_down history port && not b) (eq-eqb port port refl) ∙ never (is_down history port) in
    up_is ports (history ++ PortUp port ∷ []) port
    ∙ and_from (running (history ++ PortUp port ∷ []) && not (is_down (history ++ PortUp port ∷ []) port)) (list_any (λ j. j == port) (numbers (length ports)))
    (and_from (running (history ++ PortUp port ∷ [])) (not (is_down (history ++ PortUp port ∷ []) port)) later (ap not undone))
    (among (length ports) port exists)
  where
    never : (b : Bool) → (b && false) ≡ false
    never b = grind arith

filter-same_on : {X : Type 0} (p q : X → Bool) (xs : List X) → AllByRecursion (λ x. p x ≡ q x) xs → filter p xs ≡ filter q xs
filter-same_on p q [] same = refl
filter-same_on p q (x ∷ xs) same = grind (arith, filter-same_on p q xs same.1)

pub filter-same : {X : Type 0} (p q : X → Bool) (xs : List X) → ((x : X) → p x ≡ q x) → filter p xs ≡ filter q xs
filter-same {X = X} p q xs same = filter-same_on p q xs (each xs)
  where
    each : (xs : List X) → AllByRecursion (λ x. p x ≡ q x) xs
    each [] = tt
    each (x ∷ xs) = (same x, each xs)

-- while the router runs, an event leaves the ports as they are after which the same of them are down
pub ups_stay : (ports : List Port) (history : History) (event : Event) → is_stop event ≡ false → running history ≡ true
    → AllByRecursion (λ port. is_down (history ++ event ∷ []) port ≡ is_down history port) (numbers (length ports))
    → ports_up ports (history ++ event ∷ []) ≡ ports_up ports history
ups_stay ports history event on runs same =
    filter-same_on (λ port. running (history ++ event ∷ []) && not (is_down (history ++ event ∷ []) port)) (λ port. running history && not (is_down history port))
    (numbers (length ports)) (each (numbers (length ports)) same)
  where
    as_before : running (history ++ event ∷ []) ≡ running history
    as_before = running-more history event on ∙ ap (λ b. b || (is_start event || false)) runs ∙ sym runs

    each : (xs : List ℕ) → AllByRecursion (λ port. is_down (history ++ event ∷ []) port ≡ is_down history port) xs
        → AllByRecursion (λ port. (running (history ++ event ∷ []) && not (is_down (history ++ event ∷ []) port)) ≡ (running history && not (is_down history port))) xs
    each [] all = tt
    each (x ∷ xs) all =
        (ap (λ b. b && not (is_down (history ++ event ∷ []) x)) as_before ∙ ap (λ b. running history && not b) all.0, each xs all.1)

-- and the seconds, if it is no second
pub seconds_stay : (history : History) (event : Event) → is_stop event ≡ false → is_second event ≡ false → running history ≡ true
    → seconds_run (history ++ event ∷ []) ≡ seconds_run history
seconds_stay history event on other runs =
    ap (λ events. length (filter is_second events)) (present_run-more history event on runs)
    ∙ ap length (filter-append is_second (present_run history) (event ∷ []) ∙ ap (λ es. filter is_second (present_run history) ++ es) none ∙ append-nil (filter is_second (present_run history)))
  where
    none : filter is_second (event ∷ []) ≡ []
    none = rw other refl

-- an event that is no start and no stop, and takes no port down and brings none up, leaves the ports as they are
pub ports_stay : (ports : List Port) (history : History) (event : Event) → is_start event ≡ false → is_stop event ≡ false
    → ((port : ℕ) → takes_down port event ≡ false) → ((port : ℕ) → brings_up port event ≡ false)
    → ports_up ports (history ++ event ∷ []) ≡ ports_up ports history
ports_stay ports history event no_start on untaken unbrought =
    filter-same (λ port. running (history ++ event ∷ []) && not (is_down (history ++ event ∷ []) port)) (λ port. running history && not (is_down history port))
    (numbers (length ports)) one
  where
    as_before : running (history ++ event ∷ []) ≡ running history
    as_before = running-more history event on ∙ ap (λ b. running history || (b || false)) no_start ∙ or_none (running history)

    and_not : (d : Bool) → (d && not false) ≡ d
    and_not d = grind arith

    one : (port : ℕ) → (running (history ++ event ∷ []) && not (is_down (history ++ event ∷ []) port)) ≡ (running history && not (is_down history port))
    one port = elim (cases_Bool (running history)) [
      | inl runs ↦
          let stays : is_down (history ++ event ∷ []) port ≡ is_down history port =
          is_down-more history event port on runs
          ∙ ap (λ b. b || (is_down history port && not (brings_up port event))) (untaken port)
          ∙ ap (λ b. is_down history port && not b) (unbrought port)
          ∙ and_not (is_down history port) in
          rw (as_before, stays) refl
      | inr stopped ↦ rw (as_before, stopped) refl
    ]

-- of a stopped router no port is up
pub none_up : (ports : List Port) (history : History) → running history ≡ false → ports_up ports history ≡ []
none_up ports history stopped =
    filter-same (λ port. running history && not (is_down history port)) (λ port. false) (numbers (length ports))
    (λ port. ap (λ b. b && not (is_down history port)) stopped)
    ∙ none (numbers (length ports))
  where
    none : (xs : List ℕ) → filter (λ x. false) xs ≡ []
    none [] = refl
    none (x ∷ xs) = none xs
