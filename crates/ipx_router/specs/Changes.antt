-- What changed in an event (IPX Router Specification, immediate broadcasts): the keys whose offers differ before and
-- after it, by key. That a key has no offer counts as a value.
use Rattle.std.specs.Prelude.{Bool, true, false, not, if◌then◌else◌, List, [], ◌∷◌, map, filter, Option, None, Some}
use Rattle.std.specs.List.{find, list_any}
use Rattle.std.specs.Ordering.{is_eq, is_lt}
use Rattle.std.specs.declared.cmp.Ordering.{Ordering}
use Rattle.ipx_router.specs.Sorted.{put}

-- the offer of a key before an event and after it, where there is one
pub record Change (O : Type 0) : Type 0 where
  pub before : Option O
  pub after : Option O

module _ {O K : Type 0} (key_of : O → K) (order : K → K → Ordering) (same : O → O → Bool) where
  -- the offer of that key, if there is one
  abbrev pub offer_of : K → List O → Option O
  offer_of key offers = find (λ o. is_eq (order (key_of o) key)) offers

  -- the same offer twice, or none twice
  abbrev pub same_or_none : Option O → Option O → Bool
  same_or_none None None = true
  same_or_none None (Some b) = false
  same_or_none (Some a) None = false
  same_or_none (Some a) (Some b) = same a b

  -- a key in its place among others, unless it is one of them
  abbrev pub put_key : K → List K → List K
  put_key key keys = if list_any (λ other. is_eq (order key other)) keys then keys else put (λ a b. is_lt (order a b)) key keys

  -- the keys of offers too, each once
  abbrev pub put_keys : List O → List K → List K
  put_keys [] keys = keys
  put_keys (o ∷ offers) keys = put_key (key_of o) (put_keys offers keys)

  -- the offers of a key before and after
  abbrev pub change_at : List O → List O → K → Change O
  change_at before after key = record { before = offer_of key before; after = offer_of key after }

  -- the two offers differ
  abbrev pub differs : Change O → Bool
  differs change = not (same_or_none change.before change.after)

  -- what changed, by key
  abbrev pub changes : List O → List O → List (Change O)
  changes before after = filter differs (map (change_at before after) (put_keys before (put_keys after [])))
