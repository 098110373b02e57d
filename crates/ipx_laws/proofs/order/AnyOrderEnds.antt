-- Whichever delivery is taken, it may as well be the first one: what waits weighs the same in any order.
use Rattle.std.proofs.Common.{◌≡◌, refl, sym, ap, ◌∙◌, subst, ℕ, ◌+◌, ◌<◌, ◌≤◌, nat_lt, Bool, true, false, if◌then◌else◌, List, [], ◌∷◌, length, Some, None, slice_get, ◌⊎◌, inl, inr, arith}
use Rattle.std.specs.List.{AllByRecursion, remove}
use Rattle.std.proofs.lemmas.Bool.{lt-ltb, le-ltb}
use Rattle.std.proofs.lemmas.List.Sums.{sum_by-cons, sum_by-remove}
use Rattle.std.proofs.lemmas.Option.{get_or_from_slice_get, slice_get_within, slice_get_cases}
use Rattle.ipx_table.proofs.Placing.{all-remove}
use Rattle.ipx_router.specs.History.{History}
use Rattle.ipx_internet.specs.Internet.{Internet}
use Rattle.ipx_internet.specs.InternetWeight.{delivery_weight, queued_weight}
use Rattle.ipx_internet.specs.Queue.{Delivery, Queued, settled_one}
use Rattle.ipx_internet.specs.Rounds.{IsDelivery}
use Rattle.ipx_internet.specs.Run.{AreHistories}
use Rattle.ipx_internet.proofs.lists.EachElement.{all_at}
use Rattle.ipx_laws.specs.AnyOrder.{settled_at, settled_in, delivered_in, GoesOn}

-- histories and deliveries as they should be
pub record IsSound (net : Internet) (q : Queued) : Type 0 where
  pub are : AreHistories net q.histories
  pub waits : AllByRecursion (IsDelivery net) q.queue

abbrev pub with_first : List History → Delivery → List Delivery → Queued
with_first histories d queue = record { histories = histories; queue = d ∷ queue }

-- what is given of deliveries from the front
pub record Falling (net : Internet) (most_routes most_services : ℕ) : Type 0 where
  pub falls : (histories : List History) (d : Delivery) (queue : List Delivery) → IsSound net (with_first histories d queue)
      → queued_weight net most_routes most_services (settled_one net most_routes most_services (with_first histories d queue))
      < queued_weight net most_routes most_services (with_first histories d queue)
  pub sound : (histories : List History) (d : Delivery) (queue : List Delivery) → IsSound net (with_first histories d queue)
      → IsSound net (settled_one net most_routes most_services (with_first histories d queue))

module _ (net : Internet) (most_routes most_services : ℕ) (falling : Falling net most_routes most_services) where
  abbrev weighs : Queued → ℕ
  weighs = queued_weight net most_routes most_services

  -- ---- one step

  module _ (q : Queued) (place : ℕ) (d : Delivery) (there : slice_get q.queue place ≡ Some d) where
    -- the same deliveries, that one in front
    abbrev fronted : Queued
    fronted = with_first q.histories d (remove q.queue place)

    same_weight : weighs fronted ≡ weighs q
    same_weight =
        let weight = delivery_weight net most_routes most_services in
        let first = sum_by-cons weight d (remove q.queue place) in
        let without = sum_by-remove weight q.queue place d (slice_get_within q.queue place d there) in
        let found = ap weight (get_or_from_slice_get q.queue place d d there) in
        omega (arith, first, without, found)

    sound_fronted : IsSound net q → IsSound net fronted
    sound_fronted sound = record {
      are = sound.are;
      waits = (
        subst (λ (e : Delivery). IsDelivery net e) (get_or_from_slice_get q.queue place d d there)
            (all_at (IsDelivery net) q.queue place d sound.waits (slice_get_within q.queue place d there)),
        all-remove (IsDelivery net) q.queue place sound.waits,
      );
    }

    at_front : settled_at net most_routes most_services q place ≡ settled_one net most_routes most_services fronted
    at_front = rw (there, settled_at) refl

    taken : IsSound net q → IsSound net (settled_at net most_routes most_services q place) × (weighs (settled_at net most_routes most_services q place) < weighs q)
    taken sound =
        let front = sound_fronted sound in
        let less = falling.falls q.histories d (remove q.queue place) front in
        let same = same_weight in
        let after = ap weighs at_front in (
          subst (λ (q : Queued). IsSound net q) (sym at_front) (falling.sound q.histories d (remove q.queue place) front),
          omega (arith, less, same, after),
        )

  nothing_taken : (q : Queued) (place : ℕ) → slice_get q.queue place ≡ None → settled_at net most_routes most_services q place ≡ q
  nothing_taken q place none = rw (none, settled_at) refl

  abbrev count_of : Bool → ℕ
  count_of b = if b then 1 else 0

  -- it delivers something, and what is left weighs less, or it changes nothing
  abbrev StepsTo : Queued → ℕ → Queued → Type 0
  StepsTo q place after = IsSound net after × ((if nat_lt place (length q.queue) then 1 else 0) + weighs after ≤ weighs q)

  step : (q : Queued) (place : ℕ) → IsSound net q → StepsTo q place (settled_at net most_routes most_services q place)
  step q place sound = elim (slice_get_cases q.queue place).1 [
    | inl found ↦
        let (d, within, there, same) = found in
        let (kept, less) = taken q place d there sound in
        let inside : nat_lt place (length q.queue) ≡ true = lt-ltb place (length q.queue) within in
        (kept, rw inside (omega (arith, less)))
    | inr past ↦
        let outside : nat_lt place (length q.queue) ≡ false = le-ltb place (length q.queue) past.0 in
        let stays : StepsTo q place q = (sound, rw outside (omega arith)) in
        subst (λ (after : Queued). StepsTo q place after) (sym (nothing_taken q place past.1)) stays
  ]

  pub lighter : (q : Queued) (place : ℕ) → IsSound net q → place < length q.queue → weighs (settled_at net most_routes most_services q place) < weighs q
  lighter q place sound within =
      let one = ap (λ (b : Bool). count_of b) (lt-ltb place (length q.queue) within) in
      let less = (step q place sound).1 in
      omega (arith, one, less)

  -- ---- one after the other

  pub few : (order : List ℕ) (q : Queued) → IsSound net q
      → delivered_in net most_routes most_services order q + weighs (settled_in net most_routes most_services order q) ≤ weighs q
  few [] q sound = omega arith
  few (place ∷ order) q sound =
      let (kept, first) = step q place sound in
      let rest = few order (settled_at net most_routes most_services q place) kept in
      omega (arith, first, rest)

  rests : (order : List ℕ) (q : Queued) → q.queue ≡ [] → (settled_in net most_routes most_services order q).queue ≡ []
  rests [] q none = none
  rests (place ∷ order) q none =
      let same = nothing_taken q place (rw none refl) in
      rests order (settled_at net most_routes most_services q place) (ap (λ (after : Queued). after.queue) same ∙ none)

  none_or_some : (queue : List Delivery) → (queue ≡ []) ⊎ (0 < length queue)
  none_or_some [] = inl refl
  none_or_some (d ∷ queue) = inr (omega arith)

  pub quiet : (order : List ℕ) (q : Queued) → IsSound net q → GoesOn net most_routes most_services order q → weighs q ≤ length order
      → (settled_in net most_routes most_services order q).queue ≡ []
  quiet [] q sound goes long = elim (none_or_some q.queue) [
    | inl none ↦ none
    | inr some ↦ let less = lighter q 0 sound some in absurd (omega (arith, less, long))
  ]
  quiet (place ∷ order) q sound goes long = elim (none_or_some q.queue) [
    | inl none ↦ rests (place ∷ order) q none
    | inr some ↦
        let within = goes.0 (λ none. let no = ap (λ (queue : List Delivery). length queue) none in omega (arith, some, no)) in
        let less = lighter q place sound within in
        quiet order (settled_at net most_routes most_services q place) (step q place sound).0 goes.1 (omega (arith, less, long))
  ]
