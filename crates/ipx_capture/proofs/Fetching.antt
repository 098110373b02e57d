-- What calls to a source come to, one behind the other.
use Rattle.std.proofs.Common.{◌≡◌, ◌⊎◌, Bool, false, ◌&&◌, ℕ, ◌+◌, ◌<◌, ◌≤◌, List, [], ◌∷◌, ◌++◌, length, refl, sym, ap, ◌∙◌, subst, arith, inl, inr, length-append, append_assoc, append-nil, Result, Err}
use Rattle.std.proofs.lemmas.Bool.{le-ltb, lt-leb, cases_eq}
use Rattle.ipx_wire.specs.declared.failed.Failed.{Failed}
use Rattle.ipx_capture.specs.Asks.{Ask, Asks, Fetched, MeetsEnd, Lacks, TellsNothing, came, all_came}
use Rattle.ipx_capture.specs.Reads.{IsFailing}
use Rattle.ipx_capture.specs.Records.{kept_count}
use Rattle.ipx_capture.specs.declared.order.Order.{Order}
use Rattle.ipx_capture.proofs.First.{kept_count-append, no_bytes}

-- each of these calls gave a byte
abbrev pub AllGave : List Ask → Type 0
AllGave [] = Unit {0}
AllGave (a ∷ later) = (0 < length (came a.buffer a.answer)) × AllGave later

pub all_gave-append : (one two : List Ask) → AllGave one → AllGave two → AllGave (one ++ two)
all_gave-append [] two p q = q
all_gave-append (a ∷ one) two p q = (p.0, all_gave-append one two p.1 q)

pub all_came-append : (one two : List Ask) → all_came (one ++ two) ≡ all_came one ++ all_came two
all_came-append [] two = refl
all_came-append (a ∷ one) two = grind (arith, all_came-append one two, append_assoc)

-- the end that later calls met
pub meets_later : (one two : List Ask) → MeetsEnd two → MeetsEnd (one ++ two)
meets_later one two m = record {
  front = one ++ m.front;
  last = m.last;
  are = ap (λ l. one ++ l) m.are ∙ sym (append_assoc one m.front (m.last ∷ []));
  none = m.none;
}

module _ (asked : ℕ → List ℕ → Result ℕ Failed → ℕ → Type 0) (Lack : List ℕ → Type 0) where
  -- no call
  abbrev pub fetched_none : (old : List ℕ) (state : ℕ) → Fetched asked Lack old [] state state
  fetched_none old state = record { asks = []; calls = refl; gave = refl }

  pub calls_append : (one two : List Ask) (bytes : List ℕ) (before mid after : ℕ) → AllGave one → Asks asked Lack one bytes before mid
      → Asks asked Lack two (bytes ++ all_came one) mid after → Asks asked Lack (one ++ two) bytes before after
  calls_append [] two bytes before mid after all is later = grind (arith, append-nil)
  calls_append (a ∷ one) two bytes before mid after all (lack, room, did, last, rest) later = (
    lack,
    room,
    did,
    λ none. absurd (omega (arith, all.0, ap length none)),
    calls_append one two (bytes ++ came a.buffer a.answer) a.state mid after all.1 rest
        (subst (λ b. Asks asked Lack two b mid after) (sym (append_assoc bytes (came a.buffer a.answer) (all_came one))) later),
  )

  -- a call that failed, or none
  pub fetched_failed : (old : List ℕ) (before after : ℕ) → Lack old → (after ≡ before) ⊎ IsFailing asked before after → Fetched asked Lack old [] before after
  fetched_failed old before after lack (inl same) = record { asks = []; calls = same; gave = refl }
  fetched_failed old before after lack (inr f) = record {
    asks = record { buffer = f.buffer; answer = Err f.fault; state = after } ∷ [];
    calls = (lack, f.room, f.once, λ _. refl, refl);
    gave = refl;
  }

  -- the same bytes before it
  abbrev pub fetched_from : (one two more : List ℕ) (before after : ℕ) → one ≡ two → Fetched asked Lack one more before after → Fetched asked Lack two more before after
  fetched_from one two more before after same p =
      record { asks = p.asks; calls = subst (λ l. Asks asked Lack p.asks l before after) same p.calls; gave = p.gave }

  -- calls behind calls that each gave a byte
  abbrev pub fetched_trans : (old one two : List ℕ) (before between after : ℕ) → (p : Fetched asked Lack old one before between) → AllGave p.asks
      → Fetched asked Lack (old ++ one) two between after → Fetched asked Lack old (one ++ two) before after
  fetched_trans old one two before between after p all q = record {
    asks = p.asks ++ q.asks;
    calls = calls_append p.asks q.asks old before between after all p.calls (subst (λ b. Asks asked Lack q.asks (old ++ b) between after) p.gave q.calls);
    gave = ap (λ l. l ++ two) p.gave ∙ ap (λ l. all_came p.asks ++ l) q.gave ∙ sym (all_came-append p.asks q.asks);
  }

  pub calls_widened : (Other : List ℕ → Type 0) (asks : List Ask) (old : List ℕ) (before after : ℕ) → ((more : List ℕ) → Lack (old ++ more) → Other (old ++ more))
      → Asks asked Lack asks old before after → Asks asked Other asks old before after
  calls_widened Other [] old before after h calls = calls
  calls_widened Other (a ∷ later) old before after h (lack, room, did, last, rest) =
      let more = came a.buffer a.answer in (
        subst Other (append-nil old) (h [] (subst Lack (sym (append-nil old)) lack)),
        room,
        did,
        last,
        calls_widened Other later (old ++ more) a.state after
            (λ further lacks. subst Other (sym (append_assoc old more further)) (h (more ++ further) (subst Lack (append_assoc old more further) lacks))) rest,
      )

  -- where more is lacking
  abbrev pub fetched_widened : (Other : List ℕ → Type 0) (old more : List ℕ) (before after : ℕ) → ((further : List ℕ) → Lack (old ++ further) → Other (old ++ further))
      → Fetched asked Lack old more before after → Fetched asked Other old more before after
  fetched_widened Other old more before after h p =
      record { asks = p.asks; calls = calls_widened Other p.asks old before after h p.calls; gave = p.gave }

-- calls after which nothing lacks each gave a byte
pub all_gave : (asked : ℕ → List ℕ → Result ℕ Failed → ℕ → Type 0) (need : ℕ) (asks : List Ask) (old : List ℕ) (before after : ℕ)
    → Asks asked (Lacks need) asks old before after → need ≤ length (old ++ all_came asks) → AllGave asks
all_gave asked need [] old before after calls enough = tt
all_gave asked need (a ∷ later) old before after (lack, room, did, last, rest) enough =
    let more = came a.buffer a.answer in
    elim (cases_eq (length more) 0) [
      | inl none ↦
          let nothing : all_came later ≡ [] = ap all_came (last (no_bytes more none)) in
          absurd (omega (arith, enough, lack, none, length-append old (more ++ all_came later), length-append more (all_came later), ap length nothing))
      | inr some ↦ (omega (arith, some), all_gave asked need later (old ++ more) a.state after rest (omega (arith, enough, ap length (append_assoc old more (all_came later)))))
    ]

pub and_false : (test : Bool) → (test && false) ≡ false
and_false test = grind arith

-- a header that isn't whole tells nothing
pub no_header : (order : Order) (bytes : List ℕ) → Lacks 16 bytes → TellsNothing order bytes
no_header order bytes few = rw (lt-leb 16 (length bytes) few) refl

-- a record of which a part is there tells nothing
pub no_record : (order : Order) (front : List ℕ) (kept : ℕ) → 16 ≤ length front → kept ≡ kept_count order front → kept ≤ 262144
    → (more : List ℕ) → Lacks (16 + kept) (front ++ more) → TellsNothing order (front ++ more)
no_record order front kept enough is short more few = grind (arith, kept_count-append, le-ltb, lt-leb, and_false)

module _ (asked : ℕ → List ℕ → Result ℕ Failed → ℕ → Type 0) (order : Order) where
  -- asked until a header is there
  abbrev pub header_fetched : (old more : List ℕ) (before after : ℕ) → Fetched asked (Lacks 16) old more before after → Fetched asked (TellsNothing order) old more before after
  header_fetched old more before after =
      fetched_widened asked (Lacks 16) (TellsNothing order) old more before after (λ further few. no_header order (old ++ further) few)

  -- and then until the record is
  abbrev pub record_fetched : (old one two : List ℕ) (before between after kept : ℕ) → Fetched asked (Lacks 16) old one before between
      → Fetched asked (Lacks (16 + kept)) (old ++ one) two between after → 16 ≤ length (old ++ one) → kept ≡ kept_count order (old ++ one) → kept ≤ 262144
      → Fetched asked (TellsNothing order) old (one ++ two) before after
  record_fetched old one two before between after kept p q enough is short =
      fetched_trans asked (TellsNothing order) old one two before between after (header_fetched old one before between p)
      (all_gave asked 16 p.asks old before between p.calls (omega (arith, enough, ap (λ l. length (old ++ l)) p.gave)))
      (fetched_widened asked (Lacks (16 + kept)) (TellsNothing order) (old ++ one) two between after (no_record order (old ++ one) kept enough is short) q)
