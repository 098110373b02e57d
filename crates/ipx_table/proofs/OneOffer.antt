-- What one offer does to records with their slots, seen as what the table tells.
use Rattle.std.proofs.Common.{◌≡◌, refl, sym, ap, ◌∙◌, ℕ, ◌≤◌, ◌==◌, zero, suc, Bool, true, false, not, ◌&&◌, ◌||◌, nat_lt, if◌then◌else◌, List, [], ◌∷◌, map, filter, find, length, insert, set, remove, slice_get, Option, None, Some, option_map, is_some, inl, inr, true≢false, append-nil, Ordering, Greater, is_lt, is_eq, arith}
use Rattle.std.specs.List.{list_any}
use Rattle.std.specs.Cmp.{IsTotalOrder}
use Rattle.std.proofs.lemmas.Bool.{cases_Bool}
use Rattle.std.proofs.lemmas.Option.{slice_get-map}
use Rattle.ipx_table.specs.Accepted.{is_accepted, has_share, may_replace}
use Rattle.ipx_table.specs.inside.AfterOffer.{fresh, after_offer}
use Rattle.ipx_table.specs.Alive.{cuts}
use Rattle.ipx_table.specs.Facts.{Offered}
use Rattle.ipx_table.specs.Reading.{Rules, same_key, count_by}
use Rattle.ipx_table.specs.Slots.{seen, seen_at}
use Rattle.ipx_table.specs.inside.Clock.{IsSorted}
use Rattle.ipx_table.specs.Stands.{put, in_order, IsAscending}
use Rattle.ipx_table.specs.inside.Sought.{answers_to}
use Rattle.ipx_table.specs.declared.asking.Found.{Found}
use Rattle.ipx_table.specs.declared.held.Held.{Held}
use Rattle.ipx_table.proofs.Living.{length-left}
use Rattle.ipx_table.proofs.Offers as offers
use Rattle.ipx_table.proofs.Order as order
use Rattle.ipx_table.proofs.Placing as placing
use Rattle.ipx_table.proofs.Refused.{found_place, found_none}
use Rattle.ipx_table.proofs.Searching.{get-below, insert-below, ascends-held}
use Rattle.ipx_table.proofs.Singles.{none_pass, none-find}

-- ---- counting by ports

pub count-seen : {O : Type 0} (port_by : O → ℕ) (port clock : ℕ) (ps : List (O × ℕ))
    → length (filter (λ o. port_by o == port) (map (λ p. p.0) ps)) ≡ count_by port_by port (seen clock ps)
count-seen port_by port clock [] = refl
count-seen port_by port clock (p ∷ ps) = grind (arith, count-seen port_by port clock ps)

any_got : {X : Type 0} (q : X → Bool) (xs : List X) (k : ℕ) (x : X) → slice_get xs k ≡ Some x → q x ≡ true → list_any q xs ≡ true
any_got q [] k x e passes = absurd (true≢false (sym (ap is_some e)))
any_got q (y ∷ xs) zero x e passes = grind arith
any_got q (y ∷ xs) (suc k) x e passes = grind (arith, any_got q xs k x e passes)

-- a port that one of the offers didn't come by has fewer than all
pub fewer_by_port : {O : Type 0} (port_by : O → ℕ) (port : ℕ) (ps : List (O × ℕ)) (place : ℕ) (known : O × ℕ)
    → slice_get ps place ≡ Some known → (port_by known.0 == port) ≡ false
    → suc (length (filter (λ o. port_by o == port) (map (λ p. p.0) ps))) ≤ length (map (λ p. p.0) ps)
fewer_by_port port_by port ps place known at other =
    length-left (λ o. port_by o == port) (λ o. not (port_by o == port)) (λ o e. not_true (port_by o == port) e) (map (λ p. p.0) ps)
    (any_got (λ o. not (port_by o == port)) (map (λ p. p.0) ps) place known.0
    (slice_get-map (λ p. p.0) ps place ∙ ap (option_map (λ p. p.0)) at) (rw other refl))
  where
    not_true : (b : Bool) → not b ≡ true → b ≡ false
    not_true true e = sym e
    not_true false e = refl

module _ {O : Type 0} (rules : Rules O) (total : IsTotalOrder rules.by_key) (clock : ℕ) (ps : List (O × ℕ)) (sorted : IsSorted rules.by_key ps clock) where
  abbrev told : List (Held O)
  told = seen clock ps

  in_place : in_order rules.by_key told ≡ told
  in_place = placing.in_order-ascending rules.by_key total told sorted.ascending

  -- ---- an offer of a new key

  pub left : (offer : O) → list_any (λ h. same_key rules.by_key h.offer offer) told ≡ false
      → (not (rules.is_down offer) && (nat_lt (length told) rules.capacity && has_share rules offer told)) ≡ false
      → told ≡ in_order rules.by_key (after_offer rules told offer)
  left offer none nay = sym in_place ∙ ap (in_order rules.by_key) (offers.not_held-left rules total told offer none nay)

  pub added : (offer : O) (below : ℕ) → below ≡ length (filter (λ h. is_lt (rules.by_key h.offer offer)) told)
      → list_any (λ h. same_key rules.by_key h.offer offer) told ≡ false
      → (not (rules.is_down offer) && (nat_lt (length told) rules.capacity && has_share rules offer told)) ≡ true
      → seen clock (insert ps below (offer, clock)) ≡ in_order rules.by_key (after_offer rules told offer)
  added offer below place none yea =
      placing.seen-insert clock sorted.going ps below offer
      ∙ ap (λ (k : ℕ). insert told k (fresh offer)) place
      ∙ insert-below rules.by_key total told (fresh offer) sorted.ascending none
      ∙ ap (put rules.by_key (fresh offer)) (sym in_place ∙ ap (in_order rules.by_key) (sym (append-nil told)))
      ∙ sym (order.in_order-mid rules.by_key total told (fresh offer) [] (none_pass (λ h. same_key rules.by_key h.offer offer) told none))
      ∙ ap (in_order rules.by_key) (offers.not_held-added rules total told offer none yea)

  -- ---- an offer of the key of a record

  module _ (place : ℕ) (known : O × ℕ) (offer : O) (at : slice_get ps place ≡ Some known) (same : same_key rules.by_key known.0 offer ≡ true) where
    abbrev it : Held O
    it = seen_at clock known

    pub told_at : slice_get told place ≡ Some it
    told_at = slice_get-map (seen_at clock) ps place ∙ ap (option_map (seen_at clock)) at

    pub held_at : offers.HeldAt rules total told place it offer
    held_at = offers.held_at rules total told place it offer told_at same (placing.distinct-ascending rules.by_key total told sorted.ascending)

    pub judged : is_accepted rules told (Offered offer)
        ≡ (not (rules.is_down offer) && (rules.same_source known.0 offer || not (rules.same_source known.0 offer) && rules.is_worse known.0 offer && may_replace rules offer told it))
    judged = offers.held-accepted rules total told place it offer held_at

    pub stays : is_accepted rules told (Offered offer) ≡ false → rules.same_source known.0 offer ≡ false
        → told ≡ in_order rules.by_key (after_offer rules told offer)
    stays nay other = sym in_place ∙ ap (in_order rules.by_key) (sym (offers.unchanged rules total told place it offer held_at nay other))

    pub goes : is_accepted rules told (Offered offer) ≡ false → rules.same_source known.0 offer ≡ true
        → seen clock (remove ps place) ≡ in_order rules.by_key (after_offer rules told offer)
    goes nay own =
        let stay = λ (h : Held O). not (cuts rules offer false h.offer) in
        let left_over : after_offer rules told offer ≡ filter stay told = rw nay (append-nil (filter stay told)) in
        let in_order_left : in_order rules.by_key (filter stay told) ≡ filter stay told =
        sym (order.filter-in_order rules.by_key total stay told) ∙ ap (filter stay) in_place in
        placing.map-remove (seen_at clock) ps place
        ∙ sym (offers.removed rules total told place it offer held_at nay own)
        ∙ left_over ∙ sym in_order_left ∙ ap (in_order rules.by_key) (sym left_over)

    pub renewed : is_accepted rules told (Offered offer) ≡ true
        → seen clock (set ps place (offer, clock)) ≡ in_order rules.by_key (after_offer rules told offer)
    renewed yea =
        placing.seen-set clock sorted.going ps place offer
        ∙ sym (placing.in_order-ascending rules.by_key total (set told place (fresh offer))
        (placing.ascending-set rules.by_key total told place it (fresh offer) told_at same sorted.ascending))
        ∙ offers.renewed rules total told place it offer held_at told_at yea

-- ---- shares

pub false_or : (b x : Bool) → b ≡ false → x ≡ (b || x)
false_or b x e = grind arith

pub and_false : (b : Bool) → (b && false) ≡ false
and_false b = grind arith

module _ {O : Type 0} (rules : Rules O) (clock : ℕ) (ps : List (O × ℕ)) (offer : O) where
  -- what was counted over the offers, as the definitions count records
  pub shared : (port : ℕ) (answer : Bool) (os : List O) → os ≡ map (λ p. p.0) ps → port ≡ rules.port offer
      → answer ≡ nat_lt (length (filter (λ o. rules.port o == port) os)) (rules.share port) → answer ≡ has_share rules offer (seen clock ps)
  shared port answer os all by e = grind (arith, count-seen)

-- ---- the search

module _ {O : Type 0} (clock : ℕ) where
  pub offers-seen : (ps : List (O × ℕ)) → map (λ h. h.offer) (seen clock ps) ≡ map (λ p. p.0) ps
  offers-seen [] = refl
  offers-seen (p ∷ ps) = ap (λ rest. p.0 ∷ rest) (offers-seen ps)

  count-told : (q : O → Bool) (ps : List (O × ℕ)) → length (filter q (map (λ p. p.0) ps)) ≡ length (filter (λ h. q h.offer) (seen clock ps))
  count-told q [] = refl
  count-told q (p ∷ ps) = grind (arith, count-told q ps)

  any-told : (q : O → Bool) (ps : List (O × ℕ)) → list_any q (map (λ p. p.0) ps) ≡ list_any (λ h. q h.offer) (seen clock ps)
  any-told q [] = refl
  any-told q (p ∷ ps) = ap (λ b. q p.0 || b) (any-told q ps)

module _ {O : Type 0} (by_key : O → O → Ordering) (total : IsTotalOrder by_key) (clock : ℕ) (ps : List (O × ℕ)) (ascending : IsAscending by_key (seen clock ps))
    (compare : O → Ordering) (passes : (x y : O) → is_lt (by_key x y) ≡ true → is_lt (compare x) ≡ false → compare y ≡ Greater)
    (found : Found) (below_is : found.below ≡ (answers_to compare (map (λ p. p.0) ps)).below) (held_is : found.held ≡ (answers_to compare (map (λ p. p.0) ps)).held) where
  abbrev pub of_it : Held O → Bool
  of_it h = is_eq (compare h.offer)

  pub below_told : found.below ≡ length (filter (λ h. is_lt (compare h.offer)) (seen clock ps))
  below_told = below_is ∙ count-told clock (λ o. is_lt (compare o)) ps

  held_told : found.held ≡ list_any of_it (seen clock ps)
  held_told = held_is ∙ any-told clock (λ o. is_eq (compare o)) ps

  abbrev pub there : Option (O × ℕ)
  there = if found.held then slice_get ps found.below else None

  pub found_told : option_map (seen_at clock) there ≡ find of_it (seen clock ps)
  found_told = elim (cases_Bool found.held) [
    | inl held ↦
        rw held (sym (slice_get-map (seen_at clock) ps found.below) ∙ ap (slice_get (seen clock ps)) below_told
        ∙ get-below (λ (a b : Held O). by_key a.offer b.offer) (λ h. compare h.offer) (λ a b less e. passes a.offer b.offer less e) (seen clock ps)
        (ascends-held by_key total (seen clock ps) ascending) (sym held_told ∙ held))
    | inr free ↦ rw free (sym (none-find of_it (seen clock ps) (none_pass of_it (seen clock ps) (sym held_told ∙ free))))
  ]

  pub found_known : (known : O × ℕ) → there ≡ Some known
      → (slice_get ps found.below ≡ Some known) × (is_eq (compare known.0) ≡ true) × (find of_it (seen clock ps) ≡ Some (seen_at clock known))
  found_known known e = grind (arith, is_some, slice_get, found_told, option_map, found_place)

  pub found_new : there ≡ None → (list_any of_it (seen clock ps) ≡ false) × (find of_it (seen clock ps) ≡ None)
  found_new e = grind (arith, found_told, option_map, found_none)
