-- A record whose own offer comes once more: what the table stands for then.
use Rattle.std.proofs.Common.{◌≡◌, refl, sym, ap, ◌∙◌, subst, ℕ, zero, suc, ◌<◌, arith, Bool, true, false, not, ◌&&◌, List, [], ◌∷◌, ◌++◌, map, filter, set, slice_get, option_map, length, Option, None, Some, inl, inr, true≢false, Ordering, is_eq}
use Rattle.std.specs.List.{AllByRecursion}
use Rattle.std.specs.Cmp.{IsTotalOrder}
use Rattle.std.proofs.lemmas.List.{length-set, map-set}
use Rattle.std.proofs.lemmas.Option.{slice_get-map, slice_get_cases}
use Rattle.std.proofs.lemmas.Cmp.{tied_itself, nat_eq_equiv, nat_list_eq_equiv}
use Rattle.ipx_wire.specs.declared.node.Node.{Node}
use Rattle.ipx_table.specs.Reading.{Rules, one_source}
use Rattle.ipx_table.specs.Facts.{Fact, Offered}
use Rattle.ipx_table.specs.Alive.{alive, lifetime}
use Rattle.ipx_table.specs.Accepted.{is_accepted, marked}
use Rattle.ipx_table.specs.inside.AfterOffer.{fresh, after_offer}
use Rattle.ipx_table.specs.inside.Clock.{IsSorted}
use Rattle.ipx_table.specs.Slots.{seen, seen_at}
use Rattle.ipx_table.specs.Stands.{Stands, IsAscending, older, is_last}
use Rattle.ipx_table.specs.declared.held.Held.{Held}
use Rattle.ipx_table.proofs.Following.{stands_offered}
use Rattle.ipx_table.proofs.Living.{always_after}
use Rattle.ipx_table.proofs.Offers as offers
use Rattle.ipx_table.proofs.Order as order
use Rattle.ipx_table.proofs.Pairs.{set-same}
use Rattle.ipx_table.proofs.Placing as placing
use Rattle.ipx_table.proofs.Singles.{all-append, all-filter}

-- an offer is of the source of itself
pub own_source : (source : ℕ × Node) → one_source source source ≡ true
own_source (port, node) = rw (nat_eq_equiv.refl port, nat_list_eq_equiv.refl node.0) refl

not_down : (b rest : Bool) → (not b && rest) ≡ true → b ≡ false
not_down b rest e = grind arith

all-got : {X : Type 0} (P : X → Type 0) (xs : List X) (k : ℕ) (x : X) → AllByRecursion P xs → slice_get xs k ≡ Some x → P x
all-got P [] k x all e = absurd (true≢false (sym (ap (λ (o : Option _). elim o [ None ↦ false | Some y ↦ true ]) e)))
all-got P (y ∷ xs) zero x all e = subst P (ap (λ (o : Option _). elim o [ None ↦ y | Some z ↦ z ]) e) all.0
all-got P (y ∷ xs) (suc k) x all e = all-got P xs k x all.1 e

module _ {O : Type 0} (rules : Rules O) (total : IsTotalOrder rules.by_key) where
  -- ---- no record is down

  abbrev IsUp : Held O → Type 0
  IsUp h = rules.is_down h.offer ≡ false

  up_offered : (held : List (Held O)) (offer : O) → AllByRecursion IsUp held → AllByRecursion IsUp (after_offer rules held offer)
  up_offered held offer all = grind (arith, all-append, all-filter, not_down)

  up_older : (held : List (Held O)) → AllByRecursion IsUp held → AllByRecursion IsUp (map older held)
  up_older [] all = tt
  up_older (h ∷ held) all = (all.0, up_older held all.1)

  up_standing : (records : List (Held O)) (facts : List (Fact O)) → Stands rules records facts → AllByRecursion IsUp records
  up_standing records facts stands =
      subst (λ hs. AllByRecursion IsUp hs) (sym stands) (order.all-in_order rules.by_key total IsUp (alive rules (marked rules facts))
      (always_after rules (λ hs. AllByRecursion IsUp hs) tt up_offered
      (λ held all. up_older (filter (λ h. not (is_last h)) held) (all-filter IsUp _ held all)) (λ held port all. all-filter IsUp _ held all) [] tt facts))

  -- ---- the record at that place comes anew

  module _ (old : List (Held O)) (ascending : IsAscending rules.by_key old) (place : ℕ) (known : Held O) (at : slice_get old place ≡ Some known) where
    itself : is_eq (rules.by_key known.offer known.offer) ≡ true
    itself = ap is_eq (tied_itself total known.offer)

    pub still_ascending : IsAscending rules.by_key (set old place (fresh known.offer))
    still_ascending = placing.ascending-set rules.by_key total old place known (fresh known.offer) at itself ascending

    pub renewed_stands : rules.same_source known.offer known.offer ≡ true → (facts : List (Fact O)) → Stands rules old facts
        → Stands rules (set old place (fresh known.offer)) (facts ++ Offered known.offer ∷ [])
    renewed_stands own facts stands =
        let held_at = offers.held_at rules total old place known known.offer at itself (placing.distinct-ascending rules.by_key total old ascending) in
        let up = all-got IsUp old place known (up_standing old facts stands) at in
        let yea : is_accepted rules old (Offered known.offer) ≡ true = offers.held-accepted rules total old place known known.offer held_at ∙ rw (up, own) refl in
        stands_offered rules total old (set old place (fresh known.offer)) facts known.offer ascending
        (sym (placing.in_order-ascending rules.by_key total (set old place (fresh known.offer)) still_ascending)
        ∙ offers.renewed rules total old place known known.offer held_at at yea) stands

-- what stands at a place
pub got : {X : Type 0} (xs : List X) (k : ℕ) → k < length xs → (x : X) × (slice_get xs k ≡ Some x)
got xs k within =
    elim (slice_get_cases xs k).1 [
      | inl (x, _, at, _) ↦ (x, at)
      | inr (past, _) ↦ absurd (omega (arith, past, within))
    ]

-- ---- the records with their slots, of which one is written anew

module _ {O : Type 0} (by_key : O → O → Ordering) (total : IsTotalOrder by_key) (clock : ℕ) (ps qs : List (O × ℕ)) (sorted : IsSorted by_key ps clock) (place : ℕ)
    (within : place < length ps) (step : (kept : O × ℕ) → slice_get ps place ≡ Some kept → qs ≡ set ps place (kept.0, clock)) where
  abbrev told : List (Held O)
  told = seen clock ps

  pub size : length qs ≡ length ps
  size =
      let (kept, at) = got ps place within in
      ap length (step kept at) ∙ length-set ps place (kept.0, clock)

  pub written : (known : Held O) → slice_get told place ≡ Some known → seen clock qs ≡ set told place (fresh known.offer)
  written known at_told =
      let (kept, at) = got ps place within in
      let same : seen_at clock kept ≡ known =
      ap (λ (o : Option (Held O)). elim o [ None ↦ known | Some h ↦ h ]) (sym (slice_get-map (seen_at clock) ps place ∙ ap (option_map (seen_at clock)) at) ∙ at_told) in
      ap (seen clock) (step kept at) ∙ placing.seen-set clock sorted.going ps place kept.0 ∙ ap (λ (h : Held O). set told place (fresh h.offer)) same

  pub known_there : (known : Held O) × (slice_get told place ≡ Some known)
  known_there =
      let (kept, at) = got ps place within in
      (seen_at clock kept, slice_get-map (seen_at clock) ps place ∙ ap (option_map (seen_at clock)) at)

  pub same_offers : map (λ h. h.offer) (seen clock qs) ≡ map (λ h. h.offer) told
  same_offers =
      let (known, at) = known_there in
      ap (map (λ h. h.offer)) (written known at)
      ∙ map-set (λ h. h.offer) told place (fresh known.offer)
      ∙ set-same (map (λ h. h.offer) told) place known.offer (slice_get-map (λ h. h.offer) told place ∙ ap (option_map (λ h. h.offer)) at)

  pub still_sorted : IsSorted by_key qs clock
  still_sorted =
      let (kept, at) = got ps place within in
      let (known, at_told) = known_there in
      record {
        ascending = subst (λ hs. IsAscending by_key hs) (sym (written known at_told))
            (placing.ascending-set by_key total told place known (fresh known.offer) at_told (ap is_eq (tied_itself total known.offer)) sorted.ascending);
        slots = subst (λ (xs : List (O × ℕ)). AllByRecursion (λ p. p.1 < lifetime) xs) (sym (step kept at))
            (placing.all-set (λ p. p.1 < lifetime) ps place (kept.0, clock) sorted.slots sorted.going);
        going = sorted.going;
      }
