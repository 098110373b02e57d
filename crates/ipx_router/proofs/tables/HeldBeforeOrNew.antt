-- What is held after some facts more was held before them or came with them; what a fact ends isn't held after it.
use Rattle.std.proofs.Common.{◌≡◌, refl, ◌≤◌, ◌==◌, ◌&&◌, not, Bool, true, false, nat_lt, List, [], ◌∷◌, ◌++◌, inl, inr, true≢false, sym, arith}
use Rattle.std.specs.List.{AllByRecursion}
use Rattle.std.proofs.lemmas.Bool.{cases_Bool, and_parts, and_from, not-true, ltb-true, lt-ltb}
use Rattle.ipx_table.specs.Accepted.{marked_after, is_accepted}
use Rattle.ipx_table.specs.Alive.{alive, cuts, lasts, lifetime}
use Rattle.ipx_table.specs.Facts.{Fact, Offered, Second as SecondPassed, PortEnd, End, Marked, seconds}
use Rattle.ipx_table.specs.Reading.{Rules}
use Rattle.ipx_table.specs.declared.held.Held.{Held}
use Rattle.ipx_router.proofs.tables.HeldWasOffered.{OfferIs}

module _ {O : Type 0} (rules : Rules O) where
  -- the fact doesn't end the offer
  abbrev pub Spares : Fact O → O → Type 0
  Spares (Offered other) offer = Unit
  Spares SecondPassed offer = Unit
  Spares (PortEnd port) offer = (rules.port offer == port) ≡ false
  Spares End offer = ⊥

  lasts-more : (offer : O) (later : List (Marked O)) (fact : Fact O) (mark : Bool) → lasts rules offer (later ++ (fact, mark) ∷ []) ≡ true
      → (lasts rules offer later ≡ true) × Spares fact offer
  lasts-more offer [] (Offered other) mark e = (refl, tt)
  lasts-more offer [] SecondPassed mark e = (refl, tt)
  lasts-more offer [] (PortEnd port) mark e = (refl, not-true (rules.port offer == port) (and_parts (not (rules.port offer == port)) true e).0)
  lasts-more offer [] End mark e = absurd (true≢false (sym e))
  lasts-more offer ((Offered later, accepted) ∷ rest) fact mark e =
      let parts = and_parts (not (cuts rules later accepted offer)) (lasts rules offer (rest ++ (fact, mark) ∷ [])) e in
      let more = lasts-more offer rest fact mark parts.1 in
      (and_from (not (cuts rules later accepted offer)) (lasts rules offer rest) parts.0 more.0, more.1)
  lasts-more offer ((SecondPassed, m) ∷ rest) fact mark e = lasts-more offer rest fact mark e
  lasts-more offer ((PortEnd port, m) ∷ rest) fact mark e =
      let parts = and_parts (not (rules.port offer == port)) (lasts rules offer (rest ++ (fact, mark) ∷ [])) e in
      let more = lasts-more offer rest fact mark parts.1 in
      (and_from (not (rules.port offer == port)) (lasts rules offer rest) parts.0 more.0, more.1)
  lasts-more offer ((End, m) ∷ rest) fact mark e = absurd (true≢false (sym e))

  seconds-more : (later more : List (Marked O)) → seconds later ≤ seconds (later ++ more)
  seconds-more [] more = omega arith
  seconds-more ((Offered offer, m) ∷ later) more = seconds-more later more
  seconds-more ((SecondPassed, m) ∷ later) more = omega (arith, seconds-more later more)
  seconds-more ((PortEnd port, m) ∷ later) more = seconds-more later more
  seconds-more ((End, m) ∷ later) more = seconds-more later more

  module _ (P : O → Type 0) where
    -- such an offer that the fact doesn't end
    abbrev pub Spared : Fact O → O → Type 0
    Spared fact offer = P offer × Spares fact offer

    one_alive : (offer : O) (mark : Bool) → P offer → AllByRecursion (λ h. Spared (Offered offer) h.offer) (alive rules ((Offered offer, mark) ∷ []))
    one_alive offer mark is = grind arith

    pub alive-more : (ms : List (Marked O)) (fact : Fact O) (mark : Bool) → AllByRecursion (λ h. P h.offer) (alive rules ms) → OfferIs P fact
        → AllByRecursion (λ h. Spared fact h.offer) (alive rules (ms ++ (fact, mark) ∷ []))
    alive-more [] (Offered offer) mark all is = one_alive offer mark is
    alive-more [] SecondPassed mark all is = tt
    alive-more [] (PortEnd port) mark all is = tt
    alive-more [] End mark all is = tt
    alive-more ((Offered offer, false) ∷ later) fact mark all is = alive-more later fact mark all is
    alive-more ((SecondPassed, m) ∷ later) fact mark all is = alive-more later fact mark all is
    alive-more ((PortEnd port, m) ∷ later) fact mark all is = alive-more later fact mark all is
    alive-more ((End, m) ∷ later) fact mark all is = alive-more later fact mark all is
    alive-more ((Offered offer, true) ∷ later) fact mark all is =
        let more = later ++ (fact, mark) ∷ [] in
        elim (cases_Bool (lasts rules offer more && nat_lt (seconds more) lifetime)) [
          | inl lives ↦
              let parts = and_parts (lasts rules offer more) (nat_lt (seconds more) lifetime) lives in
              let last = lasts-more offer later fact mark parts.0 in
              let young = lt-ltb (seconds later) lifetime (omega (arith, seconds-more later ((fact, mark) ∷ []), ltb-true (seconds more) lifetime parts.1)) in
              let was = and_from (lasts rules offer later) (nat_lt (seconds later) lifetime) last.0 young in
              let before = rw was at all in
              rw lives ((before.0, last.1), alive-more later fact mark before.1 is)
          | inr ended ↦ rw ended (alive-more later fact mark (rest (lasts rules offer later && nat_lt (seconds later) lifetime) refl all) is)
        ]
      where
        rest : (b : Bool) → (lasts rules offer later && nat_lt (seconds later) lifetime) ≡ b
            → AllByRecursion (λ h. P h.offer) (alive rules ((Offered offer, true) ∷ later)) → AllByRecursion (λ h. P h.offer) (alive rules later)
        rest b e all = grind arith

    -- all that is alive after more facts, where those are offers
    pub alive_then : (before : List (Marked O)) (more : List (Fact O)) → AllByRecursion (λ h. P h.offer) (alive rules before) → AllByRecursion (OfferIs P) more
        → AllByRecursion (λ h. P h.offer) (alive rules (marked_after rules before more))
    alive_then before [] all are = all
    alive_then before (fact ∷ more) all are =
        let mark = is_accepted rules (alive rules before) fact in
        alive_then (before ++ (fact, mark) ∷ []) more (spared fact (alive rules (before ++ (fact, mark) ∷ [])) (alive-more before fact mark all are.0)) are.1
      where
        spared : (fact : Fact O) (held : List (Held O)) → AllByRecursion (λ h. Spared fact h.offer) held → AllByRecursion (λ h. P h.offer) held
        spared fact [] all = tt
        spared fact (h ∷ held) all = (all.0.0, spared fact held all.1)

  pub marked_after-append : (before : List (Marked O)) (facts more : List (Fact O))
      → marked_after rules before (facts ++ more) ≡ marked_after rules (marked_after rules before facts) more
  marked_after-append before [] more = refl
  marked_after-append before (fact ∷ facts) more =
      marked_after-append (before ++ (fact, is_accepted rules (alive rules before) fact) ∷ []) facts more
