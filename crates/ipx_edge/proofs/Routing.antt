-- What is read of routing information.
use Rattle.std.proofs.Common.{◌≡◌, ◌∙◌, refl, subst, ap, arith, ℕ, ◌-◌, ◌/◌, ◌≤◌, nat_lt, Bool, false, if◌then◌else◌, List, length, drop, Option, None, Some, Ok, Err, Result}
use Rattle.std.proofs.lemmas.Bool.{le-ltb}
use Rattle.ipx_wire.specs.Rip.{RipParts, operation_field, operation_of, operated, entries_at, rip_of}
use Rattle.ipx_wire.specs.declared.rip.Operation.{Operation}
use Rattle.ipx_wire.specs.declared.rip.RipFault.{RipFault}
use Rattle.ipx_wire.specs.declared.rip.RipFault.TheVariants.{Short, Operation as UnknownOperation, NoEntry, TooMany}
use Rattle.ipx_edge.proofs.Advertised.{not_less}

abbrev pub read_at : Operation → List ℕ → RipParts
read_at operation payload = record { operation = operation; entries = entries_at ((length payload - 2) / 8) (drop 2 payload) }

-- the operation, the sizes that it may have, and its entries
pub record Lists (payload : List ℕ) (r : RipParts) : Type 0 where
  pub operation : operation_of (operation_field payload) ≡ Some r.operation
  pub least : 10 ≤ length payload
  pub most : length payload ≤ 409
  pub are : r ≡ read_at r.operation payload

listed_by : (small large : Bool) (found r : RipParts) → (if small then Err NoEntry else if large then Err TooMany else Ok found) ≡ Ok r
    → (small ≡ false) × (large ≡ false) × (found ≡ r)
listed_by small large found r is = grind arith

by_operation : (payload : List ℕ) (r : RipParts) (o : Option Operation) → operation_of (operation_field payload) ≡ o
    → operated (operation_field payload) o payload ≡ Ok r → Lists payload r
by_operation payload r None known is = absurd (no_listing (UnknownOperation (operation_field payload)) r is)
  where
    no_listing : (f : RipFault) (r : RipParts) → (let e : Result RipParts RipFault = Err f in e) ≡ Ok r → ⊥
    no_listing f r is = grind arith
by_operation payload r (Some operation) known is =
    let by = listed_by (nat_lt (length payload) 10) (nat_lt 409 (length payload)) (read_at operation payload) r is in
    subst (Lists payload) by.2
    (record { operation = known; least = not_less (length payload) 10 by.0; most = not_less 409 (length payload) by.1; are = refl })

long_enough : (short : Bool) (n : Result RipParts RipFault) (r : RipParts) → (if short then Err Short else n) ≡ Ok r → n ≡ Ok r
long_enough short n r is = grind arith

pub lists : (payload : List ℕ) (r : RipParts) → rip_of payload ≡ Ok r → Lists payload r
unfolding rip_of
lists payload r is =
    by_operation payload r (operation_of (operation_field payload)) refl
    (long_enough (nat_lt (length payload) 2) (operated (operation_field payload) (operation_of (operation_field payload)) payload) r is)

-- what has such an operation and size is read
pub listed : (payload : List ℕ) (o : Operation) → operation_of (operation_field payload) ≡ Some o → 10 ≤ length payload → length payload ≤ 409
    → rip_of payload ≡ Ok (read_at o payload)
unfolding rip_of
listed payload o known least most =
    rw (le-ltb (length payload) 2 (omega (arith, least)))
    (ap (λ (x : Option Operation). operated (operation_field payload) x payload) known
    ∙ rw (le-ltb (length payload) 10 least, le-ltb 409 (length payload) most) refl)
