-- What receptions and deliveries name: the forward that each came of and the port where it came. No two name the same.
use Rattle.std.proofs.Common.{◌≡◌, ◌≢◌, refl, sym, ap, ap₂, subst, ℕ, zero, suc, ◌<◌, List, [], ◌∷◌, ◌++◌, length, map, flat_map, Option, None, Some, arith}
use Rattle.std.specs.List.{AllByRecursion}
use Rattle.std.proofs.lemmas.Grind.{flat_map-append}
use Rattle.ipx_router.specs.Relays.{Sent}
use Rattle.ipx_internet.specs.Delivery.{delivered}
use Rattle.ipx_internet.specs.Different.{AreDifferent}
use Rattle.ipx_internet.specs.Internet.{Internet, Place}
use Rattle.ipx_internet.specs.Log.{Sending, Reception, reception_at}
use Rattle.ipx_internet.specs.Queue.{deliveries_of}
use Rattle.ipx_internet.specs.Run.{Waiting}
use Rattle.ipx_internet.proofs.lists.EachElement.{all-append, all_mapped, differ-map, differ-flat_map}
use Rattle.ipx_internet.proofs.places.EachPortOnce.{delivered_differ}

pub record Name : Type 0 where
  pub sending : Sending
  pub to : Place

abbrev pub named : Option Sending → Place → List Name
named None to = []
named (Some s) to = record { sending = s; to = to } ∷ []

-- of receptions, and of what waits
abbrev pub names : List Reception → List Name
names log = flat_map (λ r. named r.origin r.to) log

abbrev pub names_waiting : List Waiting → List Name
names_waiting waiting = flat_map (λ w. named w.origin w.delivery.to) waiting

-- ---- two that name the same are one

all_of_name : (P : Name → Type 0) (origin : Option Sending) (to : Place) (s : Sending) (rest : List Name) → origin ≡ Some s
    → AllByRecursion P (named origin to ++ rest) → P (record { sending = s; to = to })
all_of_name P origin to s rest e all = grind arith

behind_name : (P : Name → Type 0) (origin : Option Sending) (to : Place) (rest : List Name) → AllByRecursion P (named origin to ++ rest) → AllByRecursion P rest
behind_name P origin to rest all = grind arith

-- what holds of all names holds of one
has_name : (P : Name → Type 0) (log : List Reception) (k : ℕ) (s : Sending) → AllByRecursion P (names log) → k < length log
    → (reception_at log k).origin ≡ Some s → P (record { sending = s; to = (reception_at log k).to })
has_name P [] k s all within e = absurd (omega (arith, within))
has_name P (r ∷ log) zero s all within e = all_of_name P r.origin r.to s (names log) e all
has_name P (r ∷ log) (suc k) s all within e = has_name P log k s (behind_name P r.origin r.to (names log) all) (omega (arith, within)) e

differ_behind : (origin : Option Sending) (to : Place) (rest : List Name) → AreDifferent (named origin to ++ rest) → AreDifferent rest
differ_behind origin to rest differ = grind arith

others_differ : (origin : Option Sending) (to : Place) (s : Sending) (rest : List Name) → origin ≡ Some s → AreDifferent (named origin to ++ rest)
    → AllByRecursion (λ n. n ≢ record { sending = s; to = to }) rest
others_differ origin to s rest e differ = grind arith

pub named_once : (log : List Reception) → AreDifferent (names log) → (a b : ℕ) (s : Sending) → a < length log → b < length log
    → (reception_at log a).origin ≡ Some s → (reception_at log b).origin ≡ Some s → (reception_at log a).to ≡ (reception_at log b).to → a ≡ b
named_once [] differ a b s at_a at_b from_a from_b e = absurd (omega (arith, at_a))
named_once (r ∷ log) differ zero zero s at_a at_b from_a from_b e = refl
named_once (r ∷ log) differ zero (suc b) s at_a at_b from_a from_b e =
    let name : Place → Name = λ to. record { sending = s; to = to } in
    absurd (has_name (λ n. n ≢ name r.to) log b s (others_differ r.origin r.to s (names log) from_a differ) (omega (arith, at_b)) from_b (ap name (sym e)))
named_once (r ∷ log) differ (suc a) zero s at_a at_b from_a from_b e =
    let name : Place → Name = λ to. record { sending = s; to = to } in
    absurd (has_name (λ n. n ≢ name r.to) log a s (others_differ r.origin r.to s (names log) from_b differ) (omega (arith, at_a)) from_a (ap name e))
named_once (r ∷ log) differ (suc a) (suc b) s at_a at_b from_a from_b e =
    ap suc (named_once log (differ_behind r.origin r.to (names log) differ) a b s (omega (arith, at_a)) (omega (arith, at_b)) from_a from_b e)

-- ---- names of what is sent

-- each name is such, if each forward that is named is
pub all_names : (P : Name → Type 0) (waiting : List Waiting)
    → AllByRecursion (λ w. (s : Sending) → w.origin ≡ Some s → P (record { sending = s; to = w.delivery.to })) waiting → AllByRecursion P (names_waiting waiting)
all_names P [] all = tt
all_names P (w ∷ waiting) all = all-append P (named w.origin w.delivery.to) (names_waiting waiting) (one w.origin all.0) (all_names P waiting all.1)
  where
    one : (o : Option Sending) → ((s : Sending) → o ≡ Some s → P (record { sending = s; to = w.delivery.to })) → AllByRecursion P (named o w.delivery.to)
    one None each = tt
    one (Some s) each = (each s refl, tt)

pub all_names_of_log : (P : Name → Type 0) (log : List Reception)
    → ((k : ℕ) (s : Sending) → k < length log → (reception_at log k).origin ≡ Some s → P (record { sending = s; to = (reception_at log k).to }))
    → AllByRecursion P (names log)
all_names_of_log P [] each = tt
all_names_of_log P (r ∷ log) each =
    all-append P (named r.origin r.to) (names log) (one r.origin (λ s e. each 0 s (omega arith) e))
    (all_names_of_log P log (λ k s within e. each (suc k) s (omega (arith, within)) e))
  where
    one : (o : Option Sending) → ((s : Sending) → o ≡ Some s → P (record { sending = s; to = r.to })) → AllByRecursion P (named o r.to)
    one None each = tt
    one (Some s) each = (each s refl, tt)

module _ (net : Internet) (router : ℕ) (origin : Sent → Option Sending) where
  -- what is sent, as it waits
  abbrev pub waits : Sent → List Waiting
  waits s = map (λ d. record { delivery = d; origin = origin s }) (deliveries_of net router s)

  names_in_pieces : (sents : List Sent) → names_waiting (flat_map waits sents) ≡ flat_map (λ s. names_waiting (waits s)) sents
  names_in_pieces [] = refl
  names_in_pieces (s ∷ sents) = grind (arith, names_in_pieces sents, flat_map-append)

  module _ (place : ℕ) (is_forward : (s : Sent) → origin s ≡ Some (record { place = place; sent = s })) where
    abbrev name : Sent → Place → Name
    name s to = record { sending = record { place = place; sent = s }; to = to }

    names_of : (s : Sent) (tos : List Place)
        → names_waiting (map (λ d. record { delivery = d; origin = origin s }) (map (λ to. record { to = to; bytes = s.bytes }) tos)) ≡ map (name s) tos
    names_of s [] = refl
    names_of s (to ∷ tos) = ap₂ (λ (o : Option Sending) (rest : List Name). named o to ++ rest) (is_forward s) (names_of s tos)

    pub names_differ : (sents : List Sent) → AreDifferent sents → AreDifferent (names_waiting (flat_map waits sents))
    names_differ sents differ =
        subst (λ (ns : List Name). AreDifferent ns) (sym (names_in_pieces sents))
        (differ-flat_map (λ s. Unit {0}) (λ n. n.sending.sent) (λ s. names_waiting (waits s))
        (λ s. subst (λ (ns : List Name). AllByRecursion (λ n. n.sending.sent ≡ s) ns)
        (sym (names_of s (delivered net (record { router = router; port = s.port }) s.link)))
        (all_mapped (λ n. n.sending.sent ≡ s) (name s) (delivered net (record { router = router; port = s.port }) s.link)
        (same s (delivered net (record { router = router; port = s.port }) s.link))))
        (λ s one. subst (λ (ns : List Name). AreDifferent ns) (sym (names_of s (delivered net (record { router = router; port = s.port }) s.link)))
        (differ-map (name s) (λ a b e. ap (λ n. n.to) e) (delivered net (record { router = router; port = s.port }) s.link)
        (delivered_differ net (record { router = router; port = s.port }) s.link)))
        sents (units sents) differ)
      where
        same : (s : Sent) (tos : List Place) → AllByRecursion (λ to. s ≡ s) tos
        same s [] = tt
        same s (to ∷ tos) = (refl, same s tos)

        units : (xs : List Sent) → AllByRecursion (λ s. Unit {0}) xs
        units [] = tt
        units (x ∷ xs) = (tt, units xs)
