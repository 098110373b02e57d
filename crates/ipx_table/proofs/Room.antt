-- Where all offers came by ports with shares that fit into the capacity, a port below its share finds room.
use Rattle.std.proofs.Common.{◌≡◌, refl, sym, subst, ℕ, ◌≤◌, ◌<◌, ◌==◌, Bool, true, false, true≢false, find, None, List, [], ◌∷◌, ◌++◌, length, inl, inr, arith}
use Rattle.std.specs.List.{AllByRecursion, list_any, sum_by}
use Rattle.std.proofs.lemmas.Bool.{cases_Bool, eqb-true, eq-eqb}
use Rattle.std.proofs.lemmas.List.Sums.{sum_by-cons}
use Rattle.ipx_table.specs.Reading.{Rules, same_key, count_by}
use Rattle.ipx_table.specs.Facts.{Fact, Offered, Second, PortEnd, End, Marked}
use Rattle.ipx_table.specs.Alive.{alive}
use Rattle.ipx_table.specs.Accepted.{is_accepted, marked, marked_after}
use Rattle.ipx_table.specs.Shares.{IsByOneOf, IsSharedBy}
use Rattle.ipx_table.specs.Taken.{taken}
use Rattle.ipx_table.specs.declared.taken.Taken.TheVariants.{Admitted}
use Rattle.ipx_table.specs.declared.held.Held.{Held}
use Rattle.ipx_table.proofs.Singles.{all-append, all-parts}

-- ---- sums over ports

sum-le : (f g : ℕ → ℕ) → ((port : ℕ) → f port ≤ g port) → (ports : List ℕ) → sum_by f ports ≤ sum_by g ports
sum-le f g le [] = omega arith
sum-le f g le (port ∷ ports) = omega (arith, sum-le f g le ports, sum_by-cons)

-- one smaller term makes a smaller sum
sum-less : (f g : ℕ → ℕ) → ((port : ℕ) → f port ≤ g port) → (one : ℕ) → f one < g one → (ports : List ℕ) → list_any (λ port. port == one) ports ≡ true
    → sum_by f ports < sum_by g ports
sum-less f g le one less [] among = absurd (true≢false (sym among))
sum-less f g le one less (port ∷ ports) among =
    let smaller = sum_by-cons f port ports in
    let larger = sum_by-cons g port ports in
    elim (cases_Bool (port == one)) [
      | inl here ↦
          let rest = sum-le f g le ports in
          let first : f port < g port = subst (λ (p : ℕ). f p < g p) (sym (eqb-true port one here)) less in
          omega (arith, rest, first, smaller, larger)
      | inr other ↦
          let rest = sum-less f g le one less ports (rw other at among) in
          let first = le port in
          omega (arith, rest, first, smaller, larger)
    ]

module _ {O : Type 0} (port_by : O → ℕ) where
  one-more : (h : Held O) (held : List (Held O)) (port : ℕ) → count_by port_by port held ≤ count_by port_by port (h ∷ held)
  one-more h held port = grind arith

  -- records by some ports are no more than those of each of them together
  length-by_ports : (ports : List ℕ) (held : List (Held O)) → AllByRecursion (λ h. list_any (λ port. port == port_by h.offer) ports ≡ true) held
      → length held ≤ sum_by (λ port. count_by port_by port held) ports
  length-by_ports ports [] all = omega arith
  length-by_ports ports (h ∷ held) all =
      let ih = length-by_ports ports held all.1 in
      let here : count_by port_by (port_by h.offer) held < count_by port_by (port_by h.offer) (h ∷ held) = rw (eq-eqb (port_by h.offer) (port_by h.offer) refl) (omega arith) in
      let more = sum-less (λ port. count_by port_by port held) (λ port. count_by port_by port (h ∷ held)) (one-more h held) (port_by h.offer) here ports all.0 in
      omega (arith, ih, more)

module _ {O : Type 0} (rules : Rules O) (ports : List ℕ) where
  abbrev IsByThem : Held O → Type 0
  IsByThem h = list_any (λ port. port == rules.port h.offer) ports ≡ true

  -- records within shares that fit, and one port below its share
  room-by_shares : (held : List (Held O)) → AllByRecursion IsByThem held → sum_by rules.share ports ≤ rules.capacity
      → ((port : ℕ) → count_by rules.port port held ≤ rules.share port)
      → (one : ℕ) → list_any (λ port. port == one) ports ≡ true → count_by rules.port one held < rules.share one → length held < rules.capacity
  room-by_shares held all fit within one among less =
      let size = length-by_ports rules.port ports held all in
      let fewer = sum-less (λ port. count_by rules.port port held) rules.share within one less ports among in
      omega (arith, size, fewer, fit)

  abbrev AreByThem : List (Marked O) → Type 0
  AreByThem ms = AllByRecursion (λ m. IsByOneOf rules.port ports m.0) ms

  alive-by_ports : (ms : List (Marked O)) → AreByThem ms → AllByRecursion IsByThem (alive rules ms)
  alive-by_ports [] all = tt
  alive-by_ports ((Offered offer, true) ∷ later) all = grind (arith, alive-by_ports later all.1)
  alive-by_ports ((Offered offer, false) ∷ later) all = alive-by_ports later all.1
  alive-by_ports ((Second, m) ∷ later) all = alive-by_ports later all.1
  alive-by_ports ((PortEnd port, m) ∷ later) all = alive-by_ports later all.1
  alive-by_ports ((End, m) ∷ later) all = alive-by_ports later all.1

  marked_after-by_ports : (before : List (Marked O)) (facts : List (Fact O)) → AreByThem before → AllByRecursion (IsByOneOf rules.port ports) facts
      → AreByThem (marked_after rules before facts)
  marked_after-by_ports before [] one two = one
  marked_after-by_ports before (fact ∷ facts) one two =
      let mark = is_accepted rules (alive rules before) fact in
      marked_after-by_ports (before ++ (fact, mark) ∷ []) facts
      (all-append (λ m. IsByOneOf rules.port ports m.0) before ((fact, mark) ∷ []) one (two.0, tt)) two.1

  -- a port that offers something, and is below its share, leaves a place free
  pub room : (facts : List (Fact O)) (offer : O) → IsSharedBy rules ports (facts ++ Offered offer ∷ [])
      → ((port : ℕ) → count_by rules.port port (alive rules (marked rules facts)) ≤ rules.share port)
      → count_by rules.port (rules.port offer) (alive rules (marked rules facts)) < rules.share (rules.port offer)
      → length (alive rules (marked rules facts)) < rules.capacity
  room facts offer shared within less =
      let parts = all-parts (IsByOneOf rules.port ports) facts (Offered offer ∷ []) shared.came in
      room-by_shares (alive rules (marked rules facts)) (alive-by_ports (marked rules facts) (marked_after-by_ports [] facts tt parts.0)) shared.fit within
      (rules.port offer) parts.1.0 less

-- the answer where there is room
pub admitted_with_room : {O : Type 0} (rules : Rules O) (same_offer : O → O → Bool) (facts : List (Fact O)) (offer : O) → rules.is_down offer ≡ false
    → find (λ h. same_key rules.by_key h.offer offer) (alive rules (marked rules facts)) ≡ None
    → length (alive rules (marked rules facts)) < rules.capacity
    → count_by rules.port (rules.port offer) (alive rules (marked rules facts)) < rules.share (rules.port offer)
    → taken rules same_offer facts offer ≡ Admitted
admitted_with_room rules same_offer facts offer up none room share = grind arith
