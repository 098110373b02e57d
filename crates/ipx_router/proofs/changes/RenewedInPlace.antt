-- A record that is renewed in its place stands for the offer that came once more.
use Rattle.std.proofs.Common.{◌≡◌, sym, ap, ℕ, zero, suc, List, [], ◌∷◌, ◌++◌, Option, None, Some, is_some, true≢false, refl, ◌<◌, length, arith, Ordering}
use Rattle.std.specs.List.{slice_get}
use Rattle.ipx_table.specs.Facts.{Fact, Offered}
use Rattle.ipx_table.specs.Reading.{Rules}
use Rattle.ipx_table.specs.Stands.{Stands}
use Rattle.ipx_table.specs.declared.held.Held.{Held}
use Rattle.ipx_router.specs.Facts.{offers}
use Rattle.ipx_router.specs.inside.Touched.{Touches, offer_at}

-- the record of an offer
record_at : {O : Type 0} (records : List (Held O)) (place : ℕ) (known : O) → slice_get (offers records) place ≡ Some known
    → (h : Held O) × (slice_get records place ≡ Some h) × (h.offer ≡ known)
record_at [] place known at = absurd (true≢false (sym (ap is_some at)))
record_at (h ∷ records) zero known at = (h, refl, ap (λ (o : Option _). elim o [ None ↦ h.offer | Some x ↦ x ]) at)
record_at (h ∷ records) (suc place) known at = record_at records place known at

-- the item at a place that there is
pub item_at : {X : Type 0} (xs : List X) (k : ℕ) → k < length xs → (x : X) × (slice_get xs k ≡ Some x)
item_at [] k within = absurd (omega (arith, within))
item_at (x ∷ xs) zero within = (x, refl)
item_at (x ∷ xs) (suc k) within = item_at xs k (omega (arith, within))

-- where the same offers are there, nothing was touched
pub none_touched : {O K : Type 0} (key_of : O → K) (order : K → K → Ordering) (before now : List O) → now ≡ before → Touches key_of order before now []
none_touched key_of order before now same = record { by_key = tt; recorded = tt; current = tt; others = λ key none. ap (offer_at key_of order key) same }

pub renewed_as : {O : Type 0} (rules : Rules O) (old new : List (Held O)) (place : ℕ) (known : O) (says : List (Fact O))
    → slice_get (offers old) place ≡ Some known → says ≡ Offered known ∷ []
    → ((h : Held O) → slice_get old place ≡ Some h → (facts : List (Fact O)) → Stands rules old facts → Stands rules new (facts ++ Offered h.offer ∷ []))
    → (facts : List (Fact O)) → Stands rules old facts → Stands rules new (facts ++ says)
renewed_as {O} rules old new place known says at means step facts stands = grind (arith, record_at)
