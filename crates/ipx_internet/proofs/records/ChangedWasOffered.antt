-- Each change of an event is of a key that one of its offers told of.
use Rattle.std.proofs.Common.{◌≡◌, refl, sym, ap, ◌∙◌, Bool, true, not, List, [], map, filter, Option, inl, inr, Ordering, true≢false, arith}
use Rattle.std.specs.List.{AllByRecursion}
use Rattle.ipx_table.specs.Reading.{Reading}
use Rattle.ipx_router.specs.Changes.{Change, same_or_none, put_keys, change_at, differs, changes}
use Rattle.ipx_router.specs.inside.Touched.{offer_at}
use Rattle.ipx_internet.proofs.lists.EachElement.{all_of, all_then, all-map, all_passed}
use Rattle.ipx_internet.proofs.records.KeptOrOffered.{Told, Left}

module _ {O K : Type 0} (reading : Reading O K) (order : K → K → Ordering) (same : O → O → Bool) (itself : (o : O) → same o o ≡ true) where
  -- a change is of a key that such an offer is told of
  pub record ToldOf (P : O → Type 0) (before after : List O) (c : Change O) : Type 0 where
    pub key : K
    pub was : c.before ≡ offer_at reading.key order key before
    pub is : c.after ≡ offer_at reading.key order key after
    pub told : Told reading order P key c.after

  alike : (o : Option O) → same_or_none reading.key order same o o ≡ true
  alike o = grind arith

  module _ (P : O → Type 0) (before after : List O)
      (lefts : (key : K) → Left reading order P key (offer_at reading.key order key before) (offer_at reading.key order key after)) where
    -- where a key differs, an offer told of it
    abbrev IfDiffers : Change O → Type 0
    IfDiffers c = differs reading.key order same c ≡ true → ToldOf P before after c

    at_key : (key : K) → IfDiffers (change_at reading.key order same before after key)
    at_key key e = by (lefts key)
      where
        by : Left reading order P key (offer_at reading.key order key before) (offer_at reading.key order key after)
            → ToldOf P before after (change_at reading.key order same before after key)
        by (inr told) = record { key = key; was = refl; is = refl; told = told }
        by (inl stays) =
            let unchanged = ap (λ o. not (same_or_none reading.key order same (offer_at reading.key order key before) o)) stays in
            absurd (true≢false (sym e ∙ unchanged ∙ ap not (alike (offer_at reading.key order key before))))

    pub changed : AllByRecursion (ToldOf P before after) (changes reading.key order same before after)
    changed =
        let keys = put_keys reading.key order same before (put_keys reading.key order same after []) in
        let all = map (change_at reading.key order same before after) keys in
        all_then (λ c. IfDiffers c × (differs reading.key order same c ≡ true)) (ToldOf P before after) (λ c both. both.0 both.1)
        (filter (differs reading.key order same) all)
        (all_passed IfDiffers (differs reading.key order same) all
        (all-map (λ key. Unit {0}) IfDiffers (change_at reading.key order same before after) (λ key one. at_key key) keys (all_of (λ key. Unit {0}) (λ key. tt) keys)))
