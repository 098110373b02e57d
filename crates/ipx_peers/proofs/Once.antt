-- No number is heard twice, and none is sent twice.
use Rattle.std.proofs.Common.{◌≡◌, ◌≢◌, ◌∙◌, refl, sym, ap, arith, ℕ, ◌<◌, ◌≤◌, ◌%◌, Bool, true, false, cond, ◌&&◌, ◌==◌, not, inl, inr, List, [], ◌∷◌, ◌++◌}
use Rattle.std.specs.List.{list_any}
use Rattle.std.proofs.lemmas.Bool.{cases_Bool, both_ways, and_parts, not-true, eqb-true, eq-eqb, le-leb}
use Rattle.ipx_peers.specs.declared.opened.Opened.{Opened}
use Rattle.ipx_peers.specs.declared.verdict.Verdict.{Verdict}
use Rattle.ipx_peers.specs.declared.verdict.Verdict.TheVariants.{Dropped, Greet, Repeated, Heard, New, Full, Again}
use Rattle.ipx_peers.specs.Numbers.{last_number}
use Rattle.ipx_peers.specs.Windows.{shuts_out}
use Rattle.ipx_peers.specs.Events.{Begins, Hears, Sends, Second, History}
use Rattle.ipx_peers.specs.Places.{same, no_session, is_session}
use Rattle.ipx_peers.specs.States.{State, counts, place_at, verdict, next_number, sent_after, state}
use Rattle.ipx_peers.specs.Laws.{is_heard, hears, numbers_of, GoesOn, sessions, AreNew}
use Rattle.ipx_peers.proofs.Said.{IsTaken, Says, says}
use Rattle.ipx_peers.proofs.Deciding.{same_is, same_itself}
use Rattle.ipx_peers.proofs.Counted.{numbers_known, numbers_unknown}

-- ---- what is heard counts, and echoes the session

taken_of : (opened : Opened) (s : State) (v : Verdict) → Says opened s v → is_heard v ≡ true → IsTaken opened s
taken_of opened s Dropped said is = absurd cc
taken_of opened s Greet said is = absurd cc
taken_of opened s Repeated said is = absurd cc
taken_of opened s (Heard i) said is = said.0
taken_of opened s (New i) said is = said.0
taken_of opened s Full said is = absurd cc
taken_of opened s Again said is = absurd cc

pub taken_when_heard : (history : History) (opened : Opened) → hears history opened ≡ true → IsTaken opened (state history)
taken_when_heard history opened is = taken_of opened (state history) (verdict opened (state history)) (says opened (state history)) is

-- ---- a number that was heard

itself : (number : ℕ) → shuts_out number number ≡ true
itself number = rw (eq-eqb (number % 256) (number % 256) refl, le-leb number number (omega arith)) refl

shut : (earlier : History) (opened : Opened) → hears earlier opened ≡ true
    → list_any (shuts_out opened.number) (numbers_of opened.session (Hears opened ∷ earlier)) ≡ true
shut earlier opened is = rw (is, same_itself opened.session) (rw (itself opened.number) refl)

one_more : (number : ℕ) (b : Bool) (heard : ℕ) (numbers : List ℕ) → list_any (shuts_out number) numbers ≡ true
    → list_any (shuts_out number) (cond b (heard ∷ numbers) numbers) ≡ true
one_more number true heard numbers is = elim (cases_Bool (shuts_out number heard)) [
  | inl e ↦ rw e refl
  | inr e ↦ rw e is
]
one_more number false heard numbers is = is

stays_shut : (number : ℕ) (session : List ℕ) (later h : History) → GoesOn later → list_any (shuts_out number) (numbers_of session h) ≡ true
    → list_any (shuts_out number) (numbers_of session (later ++ h)) ≡ true
stays_shut number session [] h goes_on is = is
stays_shut number session (Begins own ∷ later) h goes_on is = absurd goes_on
stays_shut number session (Hears opened ∷ later) h goes_on is =
    one_more number (same opened.session session && hears (later ++ h) opened) opened.number (numbers_of session (later ++ h)) (stays_shut number session later h goes_on is)
stays_shut number session (Sends ∷ later) h goes_on is = stays_shut number session later h goes_on is
stays_shut number session (Second ∷ later) h goes_on is = stays_shut number session later h goes_on is

not_heard : (history : History) (opened : Opened) (v : Verdict) → Says opened (state history) v
    → list_any (shuts_out opened.number) (numbers_of opened.session history) ≡ true → is_heard v ≡ false
not_heard history opened Dropped said is = refl
not_heard history opened Greet said is = refl
not_heard history opened Repeated said is = refl
not_heard history opened (Heard i) said is =
    let numbers = numbers_known history opened.session i said.1 in
    let open_then = not-true (list_any (shuts_out opened.number) (place_at i (state history).places).numbers) said.2 in
    absurd (both_ways (list_any (shuts_out opened.number) (numbers_of opened.session history))
    (ap (λ n. list_any (shuts_out opened.number) n) (sym numbers) ∙ open_then) is)
not_heard history opened (New i) said is =
    let none = numbers_unknown history opened.session said.1 in
    let some : list_any (shuts_out opened.number) [] ≡ true = ap (λ n. list_any (shuts_out opened.number) n) (sym none) ∙ is in
    absurd cc
not_heard history opened Full said is = refl
not_heard history opened Again said is = refl

again_unheard : (later earlier : History) (opened : Opened) → GoesOn later → hears earlier opened ≡ true → (again : Opened) → again.session ≡ opened.session
    → again.number ≡ opened.number → hears (later ++ Hears opened ∷ earlier) again ≡ false
again_unheard later earlier opened goes_on is again session number =
    let h = later ++ Hears opened ∷ earlier in
    let shut_now = stays_shut opened.number opened.session later (Hears opened ∷ earlier) goes_on (shut earlier opened is) in
    let shut_too : list_any (shuts_out again.number) (numbers_of again.session h) ≡ true =
    ap (λ s. list_any (shuts_out again.number) (numbers_of s h)) session
    ∙ ap (λ n. list_any (shuts_out n) (numbers_of opened.session h)) number
    ∙ shut_now in
    not_heard h again (verdict again (state h)) (says again (state h)) shut_too

pub number_once : (later earlier : History) (first again : Opened) → GoesOn later → hears earlier first ≡ true → same again.session first.session ≡ true
    → again.number ≡ first.number → hears (later ++ Hears first ∷ earlier) again ≡ false
number_once later earlier first again goes_on is session number =
    again_unheard later earlier first goes_on is again (same_is again.session first.session session) number

-- ---- sessions that are new

begun_before : (own : List ℕ) (later h : History) → list_any (same own) (sessions h) ≡ true → list_any (same own) (sessions (later ++ h)) ≡ true
begun_before own [] h is = is
begun_before own (Begins session ∷ later) h is = elim (cases_Bool (same own session)) [
  | inl e ↦ rw e refl
  | inr e ↦ rw e (begun_before own later h is)
]
begun_before own (Hears opened ∷ later) h is = begun_before own later h is
begun_before own (Sends ∷ later) h is = begun_before own later h is
begun_before own (Second ∷ later) h is = begun_before own later h is

pub never_back : (own : List ℕ) (later h : History) → AreNew (later ++ h) → list_any (same own) (sessions h) ≡ true
    → same (state (later ++ h)).session own ≡ true → GoesOn later
never_back own [] h new begun is = tt
never_back own (Begins session ∷ later) h new begun is =
    let same_one : session ≡ own = same_is session own is in
    let before : list_any (same session) (sessions (later ++ h)) ≡ true =
    ap (λ s. list_any (same s) (sessions (later ++ h))) same_one ∙ begun_before own later h begun in
    absurd (both_ways (list_any (same session) (sessions (later ++ h))) new.0 before)
never_back own (Hears opened ∷ later) h new begun is = never_back own later h new begun is
never_back own (Sends ∷ later) h new begun is = never_back own later h new begun is
never_back own (Second ∷ later) h new begun is = never_back own later h new begun is

begun : (history : History) → is_session (state history).session ≡ true → list_any (same (state history).session) (sessions history) ≡ true
begun [] is = absurd (both_ways (same no_session no_session) (not-true (same no_session no_session) is) (same_itself no_session))
begun (Begins session ∷ earlier) is = rw (same_itself session) refl
begun (Hears opened ∷ earlier) is = begun earlier is
begun (Sends ∷ earlier) is = begun earlier is
begun (Second ∷ earlier) is = begun earlier is

of_begun : (opened : Opened) (s : State) → counts s opened ≡ true → is_session s.session ≡ true
of_begun opened s counted =
    let began = is_session s.session in
    let numbered = not (opened.number == 0) in
    let (three, other) = and_parts (began && numbered && is_session opened.session) (not (same opened.session s.session)) counted in
    let (two, session) = and_parts (began && numbered) (is_session opened.session) three in
    (and_parts began numbered two).0

pub datagram_once : (later earlier : History) (opened : Opened) → AreNew (later ++ Hears opened ∷ earlier) → hears earlier opened ≡ true
    → hears (later ++ Hears opened ∷ earlier) opened ≡ false
datagram_once later earlier opened new is =
    let h = later ++ Hears opened ∷ earlier in
    elim (cases_Bool (hears h opened)) [
      | inl heard ↦
          let then = taken_when_heard earlier opened is in
          let now = taken_when_heard h opened heard in
          let own = (state earlier).session in
          let echoed_then : opened.echo ≡ own = same_is opened.echo own then.echo in
          let back : same (state h).session own ≡ true =
          ap (λ s. same s own) (sym (same_is opened.echo (state h).session now.echo)) ∙ then.echo in
          let goes_on = never_back own later (Hears opened ∷ earlier) new (begun earlier (of_begun opened (state earlier) then.counts)) back in
          absurd (both_ways (hears h opened) (again_unheard later earlier opened goes_on is opened refl refl) heard)
      | inr unheard ↦ unheard
    ]

pub other_when_heard : (history : History) (opened : Opened) → hears history opened ≡ true → same opened.session (state history).session ≡ false
other_when_heard history opened is =
    let s = state history in
    let began = is_session s.session in
    let numbered = not (opened.number == 0) in
    let (three, other) = and_parts (began && numbered && is_session opened.session) (not (same opened.session s.session)) (taken_when_heard history opened is).counts in
    not-true (same opened.session s.session) other

-- ---- numbers that are sent

one_sent : (s : State) → s.sent ≤ sent_after s
one_sent s = elim (cases_Bool (s.sent == last_number)) [
  | inl e ↦ rw e (omega (arith, eqb-true s.sent last_number e))
  | inr e ↦ rw e (omega arith)
]

sent_since : (later h : History) → GoesOn later → (state h).sent ≤ (state (later ++ h)).sent
sent_since [] h goes_on = omega arith
sent_since (Begins session ∷ later) h goes_on = absurd goes_on
sent_since (Hears opened ∷ later) h goes_on = sent_since later h goes_on
sent_since (Sends ∷ later) h goes_on = omega (arith, sent_since later h goes_on, one_sent (state (later ++ h)))
sent_since (Second ∷ later) h goes_on = sent_since later h goes_on

next_is : (s : State) → next_number s ≢ 0 → s.sent < next_number s
next_is s some = elim (cases_Bool (s.sent == last_number)) [
  | inl e ↦ absurd (some (rw e refl))
  | inr e ↦ rw e (omega arith)
]

next_below : (s : State) → next_number s ≤ sent_after s
next_below s = elim (cases_Bool (s.sent == last_number)) [
  | inl e ↦ rw e (omega arith)
  | inr e ↦ rw e (omega arith)
]

pub number_rises : (later earlier : History) → GoesOn later → next_number (state (later ++ Sends ∷ earlier)) ≢ 0
    → next_number (state earlier) < next_number (state (later ++ Sends ∷ earlier))
number_rises later earlier goes_on some =
    omega (arith, next_below (state earlier), sent_since later (Sends ∷ earlier) goes_on, next_is (state (later ++ Sends ∷ earlier)) some)
