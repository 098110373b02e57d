-- An entry of a service advertising packet and its 64 bytes.
use Rattle.std.proofs.Common.{◌≡◌, ℕ, ◌≤◌, List, ◌++◌, length, take, refl, ap, ◌∙◌, arith, append_assoc, length-append, Option, None, Some, inl, inr}
use Rattle.std.proofs.lemmas.List.{take_at, drop_at}
use Rattle.std.proofs.lemmas.Nat.{from_be_bytes-to_be_bytes_2}
use Rattle.std.specs.Int.{to_be_bytes, from_be_bytes, w16}
use Rattle.ipx_wire.specs.Piece.{piece, IsBytes}
use Rattle.ipx_wire.specs.Address.{address_bytes}
use Rattle.ipx_wire.specs.Name.{name_of}
use Rattle.ipx_wire.specs.SapEntries.{Stored, IsNamed, IsStored, stored_bytes, sap_entry_at}
use Rattle.ipx_wire.specs.declared.address.Address.{Address}
use Rattle.ipx_wire.proofs.Pieces.{glue, length-piece, bytes_16, range_16}
use Rattle.ipx_wire.proofs.Headers.{length-address_bytes, address_again, address_back, address_ranges}
use Rattle.ipx_wire.proofs.Names.{name_only, ways, is_name, nameless, name_of-empty, name_of-whole, name_of-inside}

-- the entry in the first 64 bytes, and the field of its name
abbrev pub stored_at : List ℕ → Stored
stored_at bytes = record { field = piece bytes 2 48; entry = sap_entry_at bytes }

-- the relation of a field and its name is the function
pub is_named : (field : List ℕ) → length field ≡ 48 → IsNamed field (name_of field)
is_named field size =
    elim (ways field size) [
      | inl none ↦ rw (name_of-empty field none) (λ name is. nameless field name (inl none) is)
      | inr (inl whole) ↦ rw (name_of-whole field whole) (λ name is. nameless field name (inr whole) is)
      | inr (inr (some, below)) ↦ rw (name_of-inside field some below) (is_name field size some below)
    ]

pub named_is : (field : List ℕ) (name : Option (List ℕ)) → length field ≡ 48 → IsNamed field name → name_of field ≡ name
named_is field (Some name) size is = name_only field name is
named_is field None size is =
    elim (ways field size) [
      | inl none ↦ name_of-empty field none
      | inr (inl whole) ↦ name_of-whole field whole
      | inr (inr (some, below)) ↦ absurd (is _ (is_name field size some below))
    ]

-- an entry is 64 bytes
pub length-stored_bytes : (s : Stored) → IsStored s → length (stored_bytes s) ≡ 64
unfolding stored_bytes
length-stored_bytes s is = grind (arith, length-append, length-address_bytes)

-- what is read as an entry has the bytes that were read
pub stored_back : (bytes : List ℕ) → IsBytes bytes → 64 ≤ length bytes → stored_bytes (stored_at bytes) ≡ take 64 bytes
unfolding stored_bytes sap_entry_at
stored_back bytes are room =
    let two = bytes_16 bytes 0 are (omega (arith, room)) in
    let fifty = glue _ _ bytes 0 2 2 48 refl two refl in
    let sixty_two = glue _ _ bytes 0 50 50 12 refl fifty (address_back bytes 50 are (omega (arith, room))) in
    glue _ _ bytes 0 62 62 2 refl sixty_two (bytes_16 bytes 62 are (omega (arith, room)))

-- what is read as an entry has numbers of their widths, and the name of its field
pub stored_is : (bytes : List ℕ) → IsBytes bytes → 64 ≤ length bytes → IsStored (stored_at bytes)
unfolding sap_entry_at
stored_is bytes are room = record {
  kind = range_16 bytes 0 are (omega (arith, room));
  size = length-piece bytes 2 48 (omega (arith, room));
  name = is_named (piece bytes 2 48) (length-piece bytes 2 48 (omega (arith, room)));
  address = address_ranges bytes 50 are (omega (arith, room));
  hops = range_16 bytes 62 are (omega (arith, room));
}

-- of three lists, the second
second_of_three : (x y z : List ℕ) (place n : ℕ) → length x ≡ place → length y ≡ n → piece (x ++ y ++ z) place n ≡ y
second_of_three x y z place n before size = grind (arith, append_assoc, drop_at, take_at)

-- five lists, the first two of which stand alone
regrouped : (x y z w v : List ℕ) → (x ++ y ++ z ++ w) ++ v ≡ x ++ y ++ (z ++ (w ++ v))
regrouped x y z w v = append_assoc (x ++ y ++ z) w v ∙ append_assoc (x ++ y) z (w ++ v)

-- stored entries of equal parts are equal
stored_parts : (s : Stored) (kind : ℕ) (field : List ℕ) (name : Option (List ℕ)) (address : Address) (hops : ℕ)
    → kind ≡ s.entry.kind → field ≡ s.field → name ≡ s.entry.name → address ≡ s.entry.address → hops ≡ s.entry.hops
    → (let t : Stored = record { field = field; entry = record { kind = kind; name = name; address = address; hops = hops } } in t) ≡ s
stored_parts s kind field name address hops a b c d e = grind arith

-- the bytes of an entry are read as that entry, whatever follows
pub stored_again : (s : Stored) (further : List ℕ) → IsStored s → stored_at (stored_bytes s ++ further) ≡ s
unfolding stored_bytes sap_entry_at
stored_again s further is =
    let kind = to_be_bytes w16 s.entry.kind in
    let address = address_bytes s.entry.address in
    let hops = to_be_bytes w16 s.entry.hops in
    let bytes = (kind ++ s.field ++ address ++ hops) ++ further in
    let twelve = length-address_bytes s.entry.address is.address.node in
    let fifty : length (kind ++ s.field) ≡ 50 = omega (arith, length-append kind s.field, is.size) in
    let sixty_two : length (kind ++ s.field ++ address) ≡ 62 = omega (arith, length-append (kind ++ s.field) address, fifty, twelve) in
    let field_is : piece bytes 2 48 ≡ s.field =
    ap (λ (b : List ℕ). piece b 2 48) (regrouped kind s.field address hops further) ∙ second_of_three kind s.field (address ++ (hops ++ further)) 2 48 refl is.size in
    let address_is : piece bytes 50 12 ≡ address =
    ap (λ (b : List ℕ). piece b 50 12) (append_assoc (kind ++ s.field ++ address) hops further)
    ∙ second_of_three (kind ++ s.field) address (hops ++ further) 50 12 fifty twelve in
    let hops_is : piece bytes 62 2 ≡ hops = second_of_three (kind ++ s.field ++ address) hops further 62 2 sixty_two refl in
    stored_parts s _ _ _ _ _
    (from_be_bytes-to_be_bytes_2 s.entry.kind is.kind)
    field_is
    (ap name_of field_is ∙ named_is s.field s.entry.name is.size is.name)
    (address_again s.entry.address bytes 50 is.address address_is)
    (ap (from_be_bytes w16) hops_is ∙ from_be_bytes-to_be_bytes_2 s.entry.hops is.hops)
