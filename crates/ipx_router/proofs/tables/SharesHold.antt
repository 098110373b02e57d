-- Capacities and shares, of the records of every history; and what finds room is among the records.
use Rattle.std.proofs.Common.{◌≡◌, refl, sym, ap, ◌∙◌, ℕ, zero, suc, ◌<◌, nat_lt, Bool, true, false, true≢false, ◌||◌, List, [], ◌∷◌, ◌++◌, map, length, slice_get, drop, Option, None, Some, find, inl, inr, is_some, Ordering, append_assoc, append-nil, arith, lit<}
use Rattle.std.specs.List.{AllByRecursion, list_any}
use Rattle.std.proofs.lemmas.Bool.{cases_Bool}
use Rattle.ipx_table.specs.Accepted.{marked, marked_after, is_accepted, has_share, refreshes, replaces, is_new_with_room}
use Rattle.ipx_table.specs.Alive.{alive, lasts, IsAliveAt}
use Rattle.ipx_table.specs.Facts.{Fact, Offered, Marked, seconds}
use Rattle.ipx_table.specs.Reading.{Rules, share_of, same_key}
use Rattle.ipx_table.specs.Stands.{put, in_order, held, Stands}
use Rattle.ipx_table.specs.Taken.{taken, taken_up, taken_beside}
use Rattle.ipx_table.specs.declared.held.Held.{Held}
use Rattle.ipx_table.specs.declared.taken.Taken.{Taken}
use Rattle.ipx_table.specs.declared.taken.Taken.TheVariants.{Admitted}
use Rattle.ipx_router.specs.Port.{Port, port_at}
use Rattle.ipx_router.specs.Shares.{IsNew, KeepsNew}

-- the share of a port that there is, by its number
pub share_at : (share : Port → ℕ) (capacity : ℕ) (ports : List Port) (number : ℕ) → number < length ports
    → share_of capacity (map share ports) number ≡ share (port_at ports number)
share_at share capacity [] number within = absurd (omega (arith, within))
share_at share capacity (p ∷ ports) zero within = refl
share_at share capacity (p ∷ ports) (suc number) within = share_at share capacity ports number (omega (arith, within))

-- ---- order leaves the number of records

module _ {O : Type 0} (by_key : O → O → Ordering) where
  length-put : (h : Held O) (xs : List (Held O)) → length (put by_key h xs) ≡ suc (length xs)
  length-put h [] = refl
  length-put h (x ∷ xs) = grind (arith, length-put h xs)

  pub length-in_order : (xs : List (Held O)) → length (in_order by_key xs) ≡ length xs
  length-in_order [] = refl
  length-in_order (x ∷ xs) = length-put x (in_order by_key xs) ∙ ap suc (length-in_order xs)

-- ---- an offer that is admitted, and none of its key behind it

slice_get-behind : {X : Type 0} (xs : List X) (x : X) (ys : List X) → slice_get (xs ++ x ∷ ys) (length xs) ≡ Some x
slice_get-behind [] x ys = refl
slice_get-behind (z ∷ xs) x ys = slice_get-behind xs x ys

drop-behind : {X : Type 0} (xs : List X) (x : X) (ys : List X) → drop (suc (length xs)) (xs ++ x ∷ ys) ≡ ys
drop-behind [] x ys = refl
drop-behind (z ∷ xs) x ys = drop-behind xs x ys

none-any : {X : Type 0} (p : X → Bool) (xs : List X) → find p xs ≡ None → list_any p xs ≡ false
none-any p [] e = refl
none-any p (x ∷ xs) e = elim (cases_Bool (p x)) [
  | inl here ↦ absurd (true≢false (ap is_some (rw here at e)))
  | inr other ↦ rw other (none-any p xs (rw other at e))
]

last : (b : Bool) → (b || true) ≡ true
last b = grind arith

module _ {O : Type 0} (rules : Rules O) where
  -- what stands behind an offer that lasts
  record Behind (offer : O) (before after : List (Marked O)) : Type 0 where
    later : List (Marked O)
    is : after ≡ before ++ later
    lasting : lasts rules offer later ≡ true
    young : seconds later ≡ 0

  marked_after-more : (before : List (Marked O)) (xs ys : List (Fact O)) → marked_after rules before (xs ++ ys) ≡ marked_after rules (marked_after rules before xs) ys
  marked_after-more before [] ys = refl
  marked_after-more before (x ∷ xs) ys = marked_after-more (before ++ (x, is_accepted rules (alive rules before) x) ∷ []) xs ys

  behind : (offer : O) (rest : List O) → AllByRecursion (λ later. same_key rules.by_key offer later ≡ false) rest → (before : List (Marked O))
      → Behind offer before (marked_after rules before (map (λ later. Offered later) rest))
  behind offer [] others before = record { later = []; is = sym (append-nil before); lasting = refl; young = refl }
  behind offer (next ∷ rest) others before =
      let mark = is_accepted rules (alive rules before) (Offered next) in
      let more = behind offer rest others.1 (before ++ (Offered next, mark) ∷ []) in
      record {
        later = (Offered next, mark) ∷ more.later;
        is = more.is ∙ append_assoc before ((Offered next, mark) ∷ []) more.later;
        lasting = rw others.0 more.lasting;
        young = more.young;
      }

  -- it is alive at its place
  pub placed : (facts : List (Fact O)) (offer : O) (rest : List O) → is_accepted rules (alive rules (marked rules facts)) (Offered offer) ≡ true
      → AllByRecursion (λ later. same_key rules.by_key offer later ≡ false) rest
      → IsAliveAt rules (marked rules (facts ++ Offered offer ∷ map (λ later. Offered later) rest)) (length (marked rules facts)) (record { offer = offer; age = 0 })
  placed facts offer rest accepted others =
      let before = marked rules facts in
      let next = behind offer rest others (before ++ (Offered offer, true) ∷ []) in
      let whole : marked rules (facts ++ Offered offer ∷ map (λ later. Offered later) rest) ≡ before ++ (Offered offer, true) ∷ next.later =
      marked_after-more [] facts (Offered offer ∷ map (λ later. Offered later) rest)
      ∙ ap (λ (mark : Bool). marked_after rules (before ++ (Offered offer, mark) ∷ []) (map (λ later. Offered later) rest)) accepted
      ∙ next.is ∙ append_assoc before ((Offered offer, true) ∷ []) next.later in
      let after = ap (λ (ms : List (Marked O)). drop (suc (length before)) ms) whole ∙ drop-behind before (Offered offer, true) next.later in
      record {
        accepted = ap (λ (ms : List (Marked O)). slice_get ms (length before)) whole ∙ slice_get-behind before (Offered offer, true) next.later;
        lasting = ap (λ (ms : List (Marked O)). lasts rules offer ms) after ∙ next.lasting;
        age = sym (ap (λ (ms : List (Marked O)). seconds ms) after ∙ next.young);
        young = lit< tt;
      }

  -- ---- what is admitted is accepted

  abbrev is_admitted : Taken → Bool
  is_admitted Admitted = true
  is_admitted other = false

  beside_one : (same : O → O → Bool) (living : List (Held O)) (offer : O) (h : Held O) → is_admitted (taken_up rules same living offer (Some h)) ≡ false
  beside_one same living offer h = grind arith

  accepted_beside : (same : O → O → Bool) (living : List (Held O)) (offer : O) (known : Option (Held O)) → rules.is_down offer ≡ false
      → find (λ h. same_key rules.by_key h.offer offer) living ≡ known → taken_beside rules same living offer known ≡ Admitted
      → is_accepted rules living (Offered offer) ≡ true
  accepted_beside same living offer (Some h) up is e =
      absurd (true≢false (sym (ap is_admitted (rw up at e)) ∙ beside_one same living offer h))
  accepted_beside same living offer None up is e =
      let none = none-any (λ h. same_key rules.by_key h.offer offer) living is in
      elim (cases_Bool (nat_lt (length living) rules.capacity)) [
        | inr full ↦ absurd (true≢false (sym (ap is_admitted (rw (up, full) at e))))
        | inl room ↦ elim (cases_Bool (has_share rules offer living)) [
          | inr over ↦ absurd (true≢false (sym (ap is_admitted (rw (up, room, over) at e))))
          | inl below ↦
              let new : is_new_with_room rules offer living ≡ true = rw (none, room, below) refl in
              rw up (ap (λ (b : Bool). refreshes rules offer living || replaces rules offer living || b) new ∙ last (refreshes rules offer living || replaces rules offer living))
        ]
      ]

  -- whatever is the same offer twice
  pub admitted_by_any : (same other : O → O → Bool) (facts : List (Fact O)) (offer : O) → rules.is_down offer ≡ false → taken rules same facts offer ≡ Admitted
      → taken rules other facts offer ≡ Admitted
  admitted_by_any same other facts offer up e =
      let living = alive rules (marked rules facts) in
      go living (find (λ h. same_key rules.by_key h.offer offer) living) e
    where
      go : (living : List (Held O)) (known : Option (Held O)) → taken_beside rules same living offer known ≡ Admitted → taken_beside rules other living offer known ≡ Admitted
      go living known said = grind arith

  pub accepted : (same : O → O → Bool) (facts : List (Fact O)) (offer : O) → rules.is_down offer ≡ false → taken rules same facts offer ≡ Admitted
      → is_accepted rules (alive rules (marked rules facts)) (Offered offer) ≡ true
  accepted same facts offer up e = grind (arith, accepted_beside)

  -- where what is new is admitted, and what is alive is listed, what is new is kept
  pub kept : (same : O → O → Bool) (facts offered : List (Fact O)) (records : List (Held O)) → Stands rules records (facts ++ offered)
      → ((first : List (Fact O)) (offer : O) (rest : List (Fact O)) → offered ≡ first ++ Offered offer ∷ rest → IsNew rules (held rules (facts ++ first)) offer
      → taken rules same (facts ++ first) offer ≡ Admitted)
      → ((all : List (Fact O)) (place : ℕ) (h : Held O) → Stands rules records all → IsAliveAt rules (marked rules all) place h → (k : ℕ) × (slice_get records k ≡ Some h))
      → KeepsNew rules facts offered records
  kept same facts offered records stand admits listed first offer rest is new others =
      let later = map (λ later. Offered later) rest in
      let all = facts ++ first ++ Offered offer ∷ later in
      let whole : facts ++ offered ≡ all = ap (λ (fs : List (Fact O)). facts ++ fs) is ∙ sym (append_assoc facts first (Offered offer ∷ later)) in
      let admitted = accepted same (facts ++ first) offer new.up (admits first offer later is new) in
      listed all (length (marked rules (facts ++ first))) (record { offer = offer; age = 0 }) (stand ∙ ap (λ (fs : List (Fact O)). held rules fs) whole)
      (placed (facts ++ first) offer rest admitted others)
