-- The entries of a response, where its data have them.
use Rattle.std.proofs.Common.{◌≡◌, ℕ, ◌+◌, ◌-◌, ◌*◌, ◌/◌, ◌≤◌, nat_lt, Bool, if◌then◌else◌, List, length, drop, arith, Result, Ok, Err, subst}
use Rattle.std.specs.Bool.{⊤}
use Rattle.std.proofs.lemmas.Bool.{cases_lt, lt-ltb, le-ltb}
use Rattle.ipx_wire.specs.Sap.{sap_of, query_of, response_of}
use Rattle.ipx_wire.specs.SapEntries.{sap_entries_at}
use Rattle.ipx_wire.specs.declared.sap.Sap.{Sap}
use Rattle.ipx_wire.specs.declared.sap.Sap.TheVariants.{Query, Response}
use Rattle.ipx_wire.specs.declared.sap.SapFault.{SapFault}
use Rattle.ipx_wire.specs.declared.sap_entries.SapEntry.{SapEntry}
use Rattle.ipx_wire.proofs.Items.{length-items}

-- what is known of the entries of a response
pub record Stand (p : List ℕ) (es : List SapEntry) : Type 0 where
  pub there : es ≡ sap_entries_at (length es) (drop 2 p)
  pub whole : 2 + 64 * length es ≤ length p
  pub few : length es ≤ 7

-- the same of whatever was read
abbrev pub Told : List ℕ → Result Sap SapFault → Type 0
Told p (Ok (Response nearest es)) = Stand p es
Told p (Ok (Query nearest kind)) = ⊤
Told p (Err fault) = ⊤

told_if : (p : List ℕ) (b : Bool) (x y : Result Sap SapFault) → Told p x → Told p y → Told p (if b then x else y)
told_if p b x y first second = grind arith

told_query : (p : List ℕ) (nearest : Bool) → Told p (query_of nearest p)
told_query p nearest = told_if p (nat_lt (length p) 4) _ _ tt tt

stand : (p : List ℕ) → 66 ≤ length p → length p ≤ 513 → Stand p (sap_entries_at ((length p - 2) / 64) (drop 2 p))
stand p low high = grind (arith, length-items)

told_response : (p : List ℕ) (nearest : Bool) → Told p (response_of nearest p)
told_response p nearest = grind (arith, cases_lt, lt-ltb, le-ltb, stand)

told : (p : List ℕ) → Told p (sap_of p)
unfolding sap_of
told p = grind (arith, told_if, told_query, told_response)

-- the entries of a response that was read
pub entries_stand : (p : List ℕ) (nearest : Bool) (es : List SapEntry) → sap_of p ≡ Ok (Response nearest es) → Stand p es
entries_stand p nearest es e = subst (Told p) e (told p)
