-- What is read of a response of services.
use Rattle.std.proofs.Common.{◌≡◌, ◌∙◌, refl, sym, ap, arith, ℕ, ◌+◌, ◌-◌, ◌*◌, ◌/◌, ◌<◌, ◌≤◌, ◌==◌, nat_lt, Bool, true, false, if◌then◌else◌, ◌⊎◌, inl, inr, List, length, drop, Ok, Err, Result}
use Rattle.std.specs.Int.{from_be_bytes, w16}
use Rattle.std.proofs.lemmas.Bool.{cases_lt, lt-ltb, false≢true, eqb-true}
use Rattle.ipx_wire.specs.Piece.{piece}
use Rattle.ipx_wire.specs.Rip.{operation_field}
use Rattle.ipx_wire.specs.Sap.{sap_of, numbered_of, query_of, response_of, response_number}
use Rattle.ipx_wire.specs.SapEntries.{sap_entry_at, sap_entries_at}
use Rattle.ipx_edge.specs.Places.{hops_place}
use Rattle.ipx_edge.specs.Numbered.{services_in}
use Rattle.ipx_wire.specs.declared.sap.Sap.{Sap}
use Rattle.ipx_wire.specs.declared.sap.Sap.TheVariants.{Query, Response}
use Rattle.ipx_wire.specs.declared.sap.SapFault.{SapFault}
use Rattle.ipx_wire.specs.declared.sap.SapFault.TheVariants.{Short, Operation as UnknownOperation, NoEntry, TooMany}
use Rattle.ipx_wire.specs.declared.sap_entries.SapEntry.{SapEntry}
use Rattle.ipx_wire.proofs.Items.{length-items}

pub not_less : (m n : ℕ) → nat_lt m n ≡ false → n ≤ m
not_less m n is = elim (cases_lt m n) [ inl less ↦ absurd (false≢true (sym is ∙ lt-ltb m n less)) | inr other ↦ other ]

-- the operation, the sizes that a response may have, and its entries
pub record Advertises (payload : List ℕ) (nearest : Bool) (entries : List SapEntry) : Type 0 where
  pub operation : operation_field payload ≡ response_number nearest
  pub least : 66 ≤ length payload
  pub most : length payload ≤ 513
  pub are : entries ≡ sap_entries_at ((length payload - 2) / 64) (drop 2 payload)

response_by : (small large : Bool) (one other : Bool) (found entries : List SapEntry)
    → (if small then Err NoEntry else if large then Err TooMany else Ok (Response one found)) ≡ Ok (Response other entries)
    → (small ≡ false) × (large ≡ false) × (one ≡ other) × (entries ≡ found)
response_by small large one other found entries is = grind arith

no_response : (small : Bool) (one other : Bool) (kind : ℕ) (entries : List SapEntry)
    → (let r : Result Sap SapFault = if small then Err Short else Ok (Query one kind) in r) ≡ Ok (Response other entries) → ⊥
no_response small one other kind entries is = grind arith

responds : (one nearest : Bool) (payload : List ℕ) (entries : List SapEntry) → operation_field payload ≡ response_number one
    → response_of one payload ≡ Ok (Response nearest entries) → Advertises payload nearest entries
responds one nearest payload entries number is =
    let by = response_by (nat_lt (length payload) 66) (nat_lt 513 (length payload)) one nearest (sap_entries_at ((length payload - 2) / 64) (drop 2 payload)) entries is in
    record {
      operation = number ∙ ap response_number by.2;
      least = not_less (length payload) 66 by.0;
      most = not_less 513 (length payload) by.1;
      are = by.3;
    }

-- one of four numbers decides
chosen : (a b c d : Bool) (w x y z : Result Sap SapFault) (f : SapFault) (s : Sap)
    → (if a then w else if b then x else if c then y else if d then z else Err f) ≡ Ok s
    → ((a ≡ true) × (w ≡ Ok s)) ⊎ (((b ≡ true) × (x ≡ Ok s)) ⊎ (((c ≡ true) × (y ≡ Ok s)) ⊎ ((d ≡ true) × (z ≡ Ok s))))
chosen true b c d w x y z f s is = inl (refl, is)
chosen false true c d w x y z f s is = inr (inl (refl, is))
chosen false false true d w x y z f s is = inr (inr (inl (refl, is)))
chosen false false false true w x y z f s is = inr (inr (inr (refl, is)))
chosen false false false false w x y z f s is = grind arith

numbers : (payload : List ℕ) (nearest : Bool) (entries : List SapEntry) → numbered_of (operation_field payload) payload ≡ Ok (Response nearest entries)
    → Advertises payload nearest entries
numbers payload nearest entries is =
    let n = operation_field payload in
    let small = nat_lt (length payload) 4 in
    let kind = from_be_bytes w16 (piece payload 2 2) in
    elim (chosen (n == 1) (n == 2) (n == 3) (n == 4) (query_of false payload) (response_of false payload) (query_of true payload) (response_of true payload) (UnknownOperation n) (Response nearest entries) is) [
      | inl one ↦ absurd (no_response small false nearest kind entries one.1)
      | inr (inl two) ↦ responds false nearest payload entries (eqb-true n 2 two.0) two.1
      | inr (inr (inl three)) ↦ absurd (no_response small true nearest kind entries three.1)
      | inr (inr (inr four)) ↦ responds true nearest payload entries (eqb-true n 4 four.0) four.1
    ]

long_enough : (short : Bool) (n : Result Sap SapFault) (nearest : Bool) (entries : List SapEntry)
    → (if short then Err Short else n) ≡ Ok (Response nearest entries) → n ≡ Ok (Response nearest entries)
long_enough short n nearest entries is = grind arith

pub advertises : (payload : List ℕ) (nearest : Bool) (entries : List SapEntry) → sap_of payload ≡ Ok (Response nearest entries) → Advertises payload nearest entries
unfolding sap_of
advertises payload nearest entries is =
    numbers payload nearest entries
    (long_enough (nat_lt (length payload) 2) (numbered_of (operation_field payload) payload) nearest entries is)

-- the entries that a response has room for
pub entries_fit : (payload : List ℕ) (nearest : Bool) (entries : List SapEntry) → sap_of payload ≡ Ok (Response nearest entries)
    → 2 + 64 * length entries ≤ length payload
entries_fit payload nearest entries is =
    let told = advertises payload nearest entries is in
    let n = (length payload - 2) / 64 in
    let count : length entries ≡ n = ap length told.are ∙ length-items sap_entry_at 64 n (drop 2 payload) in
    omega (arith, count, told.least)

-- how many services data advertise, and that they are there
pub all_fit : (payload : List ℕ) (r : Result Sap SapFault) (k : ℕ) → sap_of payload ≡ r → k < services_in r → hops_place k + 2 ≤ 30 + length payload
all_fit payload (Ok (Query nearest kind)) k is below = absurd (omega (arith, below))
all_fit payload (Ok (Response nearest entries)) k is below = omega (arith, below, entries_fit payload nearest entries is)
all_fit payload (Err fault) k is below = absurd (omega (arith, below))
