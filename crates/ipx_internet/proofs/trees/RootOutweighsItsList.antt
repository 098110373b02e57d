-- What lists of receptions weigh, whatever is sent on: a list that is bounded stays so when what receives the forwards of its
-- first that waits is put to its end, and is as long as the weight of its root, at most.
use Rattle.std.proofs.Common.{◌≡◌, refl, sym, ap, subst, ℕ, zero, suc, ◌+◌, ◌-◌, ◌*◌, ◌<◌, ◌≤◌, ◌&&◌, nat_lt, Bool, true, false, List, [], ◌∷◌, ◌++◌, length, drop, Some, Result, Ok, Err, slice_get, get_or, arith, mul-le-mul_left}
use Rattle.std.specs.List.{AllByRecursion}
use Rattle.std.proofs.lemmas.Bool.{ltb-true}
use Rattle.ipx_wire.specs.Numbers.{crossed_places}
use Rattle.ipx_wire.specs.Packet.{Parts, packet_of}
use Rattle.ipx_wire.specs.declared.packet.PacketFault.{PacketFault}
use Rattle.ipx_router.specs.Numbers.{most_routers}
use Rattle.ipx_router.specs.Why.{is_propagated, is_far}
use Rattle.ipx_internet.specs.Internet.{Internet, port_of}
use Rattle.ipx_internet.specs.Most.{most_of}
use Rattle.ipx_internet.specs.Tree.{Copy}
use Rattle.ipx_internet.specs.Weight.{weight_by, packet_weight, weight, weights, CanCome, IsBounded}
use Rattle.ipx_internet.proofs.lists.EachElement.{all-append}
use Rattle.ipx_internet.proofs.lists.FoundInAList.{nothing, it_is}

-- ---- how many there can be

pub some_of : (degree n : ℕ) → 1 ≤ most_of degree n
some_of degree zero = omega arith
some_of degree (suc n) = omega arith

-- what may be sent on more often leads to more
pub most_rises : (degree n m : ℕ) → n ≤ m → most_of degree n ≤ most_of degree m
most_rises degree zero m less = some_of degree m
most_rises degree (suc n) zero less = absurd (omega (arith, less))
most_rises degree (suc n) (suc m) less =
    let rest = mul-le-mul_left degree (most_rises degree n m (omega (arith, less))) in
    omega (arith, rest)

module _ (net : Internet) where
  -- ---- what one reception weighs

  -- by what it is read as
  abbrev weight_as : Copy → Result Parts PacketFault → ℕ
  weight_as c q = elim q [ Ok p ↦ packet_weight net (port_of net c.to) p | Err fault ↦ 1 ]

  pub weighs : (c : Copy) (p : Parts) → packet_of c.bytes ≡ Ok p → weight net c ≡ packet_weight net (port_of net c.to) p
  weighs c p read = ap (weight_as c) read

  pub unread_weighs : (c : Copy) (fault : PacketFault) → packet_of c.bytes ≡ Err fault → weight net c ≡ 1
  unread_weighs c fault read = ap (weight_as c) read

  pub at_least_one : (c : Copy) → 1 ≤ weight net c
  at_least_one c = read_as (packet_of c.bytes)
    where
      by : (p : Parts) (all far few : Bool) → few ≡ nat_lt p.header.control most_routers → 1 ≤ weight_by net p.header.control all (far && few)
      by p true far few is = some_of _ (crossed_places - p.header.control)
      by p false true true is = let young = ltb-true p.header.control most_routers (sym is) in omega (arith, young)
      by p false true false is = omega arith
      by p false false few is = omega arith

      read_as : (q : Result Parts PacketFault) → 1 ≤ weight_as c q
      read_as (Err fault) = omega arith
      read_as (Ok p) =
          by p (is_propagated p.header) (is_far (port_of net c.to) p.header) (nat_lt p.header.control most_routers) refl

  -- ---- what several weigh

  pub weights-append : (xs ys : List Copy) → weights net (xs ++ ys) ≡ weights net xs + weights net ys
  weights-append [] ys = omega arith
  weights-append (x ∷ xs) ys = let rest = weights-append xs ys in omega (arith, rest)

  -- as many times as much as each weighs at most
  pub weights_each : (each : ℕ) (xs : List Copy) → AllByRecursion (λ x. weight net x ≤ each) xs → weights net xs ≤ length xs * each
  weights_each each [] all = omega arith
  weights_each each (x ∷ xs) all = grind (arith, weights_each each xs all.1)

  pub no_more_than_weights : (xs : List Copy) → length xs ≤ weights net xs
  no_more_than_weights [] = omega arith
  no_more_than_weights (x ∷ xs) = omega (arith, no_more_than_weights xs, at_least_one)

  -- ---- a list with a mark, behind which the receptions wait

  -- one less waits, and those that are put to the end wait too
  after_one : (xs ys : List Copy) (k : ℕ) (c : Copy) → slice_get xs k ≡ Some c
      → weight net c + weights net (drop (k + 1) (xs ++ ys)) ≡ weights net (drop k xs) + weights net ys
  after_one [] ys k c there = nothing there
  after_one (x ∷ xs) ys zero c there =
      let joined = weights-append xs ys in
      it_is (λ z. weight net z + weights net (xs ++ ys) ≡ (weight net x + weights net xs) + weights net ys) c x there (omega (arith, joined))
  after_one (x ∷ xs) ys (suc k) c there =
      let next : suc k + 1 ≡ suc (k + 1) = omega arith in
      rw next (after_one xs ys k c there)

  -- all that are listed are behind the mark or in front of it
  pub no_more_than_measure : (k : ℕ) (xs : List Copy) → length xs ≤ k + weights net (drop k xs)
  no_more_than_measure zero xs = let all = no_more_than_weights xs in omega (arith, all)
  no_more_than_measure (suc k) [] = omega arith
  no_more_than_measure (suc k) (x ∷ xs) = let rest = no_more_than_measure k xs in omega (arith, rest)

  -- the step of a loop: what is listed and sent on, and the weights of what waits, never rise
  pub never_rises : (xs ys : List Copy) (k : ℕ) (c : Copy) → slice_get xs k ≡ Some c → 1 + weights net ys ≤ weight net c
      → (k + 1) + weights net (drop (k + 1) (xs ++ ys)) ≤ k + weights net (drop k xs)
  never_rises xs ys k c there light = let after = after_one xs ys k c there in omega (arith, after, light)

  pub begins : (c : Copy) → CanCome net c → IsBounded net c 0 (c ∷ [])
  begins c can = record { each = (can, tt); light = omega arith }

  -- what holds of each holds of the one at a place
  pub all_get : {X : Type 0} (P : X → Type 0) (xs : List X) (k : ℕ) (x : X) → AllByRecursion P xs → slice_get xs k ≡ Some x → P x
  all_get P [] k x all there = nothing there
  all_get P (y ∷ xs) zero x all there = it_is P x y there all.0
  all_get P (y ∷ xs) (suc k) x all there = all_get P xs k x all.1 there

  -- what is read at a place of a list is there
  pub there_at : {X : Type 0} (xs : List X) (k : ℕ) (other : X) → k < length xs → slice_get xs k ≡ Some (get_or xs k other)
  there_at [] k other within = absurd (omega (arith, within))
  there_at (x ∷ xs) zero other within = refl
  there_at (x ∷ xs) (suc k) other within = there_at xs k other (omega (arith, within))

  pub goes_on : (root c : Copy) (xs ys : List Copy) (k : ℕ) → IsBounded net root k xs → slice_get xs k ≡ Some c → AllByRecursion (CanCome net) ys
      → 1 + weights net ys ≤ weight net c → IsBounded net root (k + 1) (xs ++ ys)
  goes_on root c xs ys k bounded there can light = grind (arith, never_rises, all-append)

  pub few : (root : Copy) (xs : List Copy) (k : ℕ) → IsBounded net root k xs → length xs ≤ weight net root
  few root xs k bounded = omega (arith, no_more_than_measure)

  -- ---- the same of a list in two parts: what was sent on, and what waits

  abbrev IsLight : Copy → List Copy → List Copy → Type 0
  IsLight root done waiting = length done + weights net waiting ≤ weight net root

  -- what waits is behind the mark
  behind_mark : (done waiting : List Copy) → drop (length done) (done ++ waiting) ≡ waiting
  behind_mark [] waiting = refl
  behind_mark (x ∷ done) waiting = behind_mark done waiting

  -- the two forms are one
  pub in_parts : (root : Copy) (done waiting : List Copy) → IsBounded net root (length done) (done ++ waiting) → IsLight root done waiting
  in_parts root done waiting bounded =
      subst (λ (xs : List Copy). length done + weights net xs ≤ weight net root) (behind_mark done waiting) bounded.light

  pub from_parts : (root : Copy) (done waiting : List Copy) → AllByRecursion (CanCome net) (done ++ waiting) → IsLight root done waiting
      → IsBounded net root (length done) (done ++ waiting)
  from_parts root done waiting each light = grind (arith, behind_mark)

  -- the step, where one that waits goes to those that were sent on, and others come to wait
  pub parts_go_on : (root c : Copy) (done waiting ys : List Copy) → IsLight root done (c ∷ waiting) → 1 + weights net ys ≤ weight net c
      → (length done + 1) + weights net (waiting ++ ys) ≤ weight net root
  parts_go_on root c done waiting ys before light =
      let joined = weights-append waiting ys in
      omega (arith, before, light, joined)

  -- a list is cut at no limit that is as great as the weight of its root
  pub never_cut : (root : Copy) (xs : List Copy) (k limit : ℕ) → IsBounded net root k xs → limit < length xs → limit < weight net root
  never_cut root xs k limit bounded more = let all = few root xs k bounded in omega (arith, all, more)
