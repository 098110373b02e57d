-- A service compared with the bytes of an entry.
use Rattle.std.proofs.Common.{arith}
use Rattle.std.proofs.Common.{rules}
use Rattle.std.proofs.Common.{◌≡◌, sym, ap, ◌∙◌, ℕ, ◌==◌, Bool, true, false, not, subst, ◌&&◌, List, Some, is_eq, nat_eq}
use Rattle.std.specs.Cmp.Lexicographic.{pointwise}
use Rattle.std.specs.Int.{from_be_bytes, w16}
use Rattle.std.specs.Ordering.{nat_cmp, ordering_then}
use Rattle.std.specs.declared.cmp.Ordering.{Ordering}
use Rattle.std.specs.declared.cmp.Ordering.TheVariants.{Equal}
use Rattle.std.proofs.lemmas.Bool.{eqb-true}
use Rattle.std.proofs.lemmas.Cmp.{ranked}
use Rattle.ipx_wire.specs.Address.{address_at}
use Rattle.ipx_wire.specs.Name.{IsServiceName, name_of, name_field, name_order}
use Rattle.ipx_wire.specs.Piece.{piece}
use Rattle.ipx_wire.specs.SapEntries.{sap_entry_at}
use Rattle.ipx_wire.specs.WriteServices.{entry_of}
use Rattle.ipx_wire.specs.declared.address.Address.{Address}
use Rattle.ipx_wire.specs.declared.service.Service.{Service}
use Rattle.ipx_wire.proofs.NameOrder.{equal_is, is_equal}
use Rattle.ipx_wire.proofs.Services.{name_again}

-- the order in which a service stands to the bytes of an entry
abbrev pub entry_order : Service → List ℕ → Ordering
entry_order s bytes = ordering_then (nat_cmp s.kind (from_be_bytes w16 (piece bytes 0 2))) (name_order (name_field s.name) (piece bytes 2 48))

both : (a b : Bool) → (a && b) ≡ true → (a ≡ true) × (b ≡ true)
both a b e = grind arith

abbrev address : ℕ → List ℕ → ℕ → Address
address network node socket = record { network = record { 0 = network }; node = record { 0 = node }; socket = record { 0 = socket } }

abbrev same_address : Address → Address → Bool
same_address a b = (a.network.0 == b.network.0) && (pointwise nat_eq a.node.0 b.node.0 && (a.socket.0 == b.socket.0))

one_address : (a b : Address) → same_address a b ≡ true → a ≡ b
one_address a b e = search (rules, both, eqb-true)

-- addresses that weren't found to differ
pub not_other : (a b c : Address) (other : Bool) → other ≡ not (same_address a b) → other ≡ false → b ≡ c → same_address a c ≡ true
not_other a b c other is none e =
    subst (λ (x : Address). same_address a x ≡ true) e (not_false (same_address a b) (sym is ∙ none))
  where
    not_false : (x : Bool) → not x ≡ false → x ≡ true
    not_false x e = grind arith

equal_parts : (a b : Ordering) → is_eq (ordering_then a b) ≡ true → (a ≡ Equal) × (b ≡ Equal)
equal_parts a b e = grind arith

equal_numbers : (x y : ℕ) → nat_cmp x y ≡ Equal → x ≡ y
equal_numbers x y e = ranked x y Equal (sym e)

-- where all that is compared is equal, the entry is the service
pub entry_is : (s : Service) (bytes : List ℕ) → IsServiceName s.name → s.hops ≡ from_be_bytes w16 (piece bytes 62 2) → same_address s.address (address_at bytes 50) ≡ true
    → is_eq (entry_order s bytes) ≡ true → sap_entry_at bytes ≡ entry_of s
unfolding sap_entry_at
entry_is s bytes named hops from order =
    let parts = equal_parts (nat_cmp s.kind (from_be_bytes w16 (piece bytes 0 2))) (name_order (name_field s.name) (piece bytes 2 48)) order in
    let name = ap name_of (sym (equal_is (name_field s.name) (piece bytes 2 48) parts.1)) ∙ name_again s.name named in
    ap (λ (n : ℕ). record { kind = n; name = name_of (piece bytes 2 48); address = address_at bytes 50; hops = from_be_bytes w16 (piece bytes 62 2) })
    (sym (equal_numbers s.kind (from_be_bytes w16 (piece bytes 0 2)) parts.0))
    ∙ ap (λ o. record { kind = s.kind; name = o; address = address_at bytes 50; hops = from_be_bytes w16 (piece bytes 62 2) }) name
    ∙ ap (λ (a : Address). record { kind = s.kind; name = Some s.name; address = a; hops = from_be_bytes w16 (piece bytes 62 2) }) (sym (one_address s.address (address_at bytes 50) from))
    ∙ ap (λ (n : ℕ). record { kind = s.kind; name = Some s.name; address = s.address; hops = n }) (sym hops)

-- where an entry is the service, and zeros stand behind its name, neither comes first
pub order_of : (s : Service) (bytes : List ℕ) → sap_entry_at bytes ≡ entry_of s → piece bytes 2 48 ≡ name_field s.name → is_eq (entry_order s bytes) ≡ true
unfolding sap_entry_at
order_of s bytes e zeros = grind (arith, is_eq, is_equal)

-- where neither comes first, the entry keeps the name as it is sent
pub zeros_behind : (s : Service) (bytes : List ℕ) → is_eq (entry_order s bytes) ≡ true → piece bytes 2 48 ≡ name_field s.name
zeros_behind s bytes order =
    let parts = equal_parts (nat_cmp s.kind (from_be_bytes w16 (piece bytes 0 2))) (name_order (name_field s.name) (piece bytes 2 48)) order in
    sym (equal_is (name_field s.name) (piece bytes 2 48) parts.1)
