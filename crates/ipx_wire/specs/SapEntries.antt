-- The entries of a service advertising packet, 64 bytes each (IPX Router Specification).
use Rattle.std.specs.Prelude.{◌≡◌, ℕ, ◌<◌, ◌^◌, List, ◌++◌, length, Option, None, Some}
use Rattle.std.specs.Int.{to_be_bytes, from_be_bytes, w16}
use Rattle.ipx_wire.specs.Piece.{piece}
use Rattle.ipx_wire.specs.Items.{items}
use Rattle.ipx_wire.specs.Address.{IsAddress, address_bytes, address_at}
use Rattle.ipx_wire.specs.Name.{IsName, name_of}
use Rattle.ipx_wire.specs.declared.sap_entries.SapEntry.{SapEntry}

-- an entry, and the 48 bytes that its name was kept in
pub record Stored : Type 0 where
  pub field : List ℕ
  pub entry : SapEntry

-- the field has that name; or it has none, and the entry counts without a name (own)
abbrev pub IsNamed : List ℕ → Option (List ℕ) → Type 0
IsNamed field (Some name) = IsName field name
IsNamed field None = (name : List ℕ) → IsName field name → ⊥

-- each number is of its width, the field has 48 bytes, and the entry's name is the field's
pub record IsStored (s : Stored) : Type 0 where
  pub kind : s.entry.kind < 2 ^ 16
  pub size : length s.field ≡ 48
  pub name : IsNamed s.field s.entry.name
  pub address : IsAddress s.entry.address
  pub hops : s.entry.hops < 2 ^ 16

-- the 64 bytes of an entry: type 2, name 48, address 12, hops 2
unfoldable pub stored_bytes : Stored → List ℕ
stored_bytes s = to_be_bytes w16 s.entry.kind ++ s.field ++ address_bytes s.entry.address ++ to_be_bytes w16 s.entry.hops

-- the entry in the first 64 bytes
unfoldable pub sap_entry_at : List ℕ → SapEntry
sap_entry_at bytes = record {
  kind = from_be_bytes w16 (piece bytes 0 2);
  name = name_of (piece bytes 2 48);
  address = address_at bytes 50;
  hops = from_be_bytes w16 (piece bytes 62 2);
}

-- the first n entries of bytes
abbrev pub sap_entries_at : ℕ → List ℕ → List SapEntry
sap_entries_at n bytes = items sap_entry_at 64 n bytes
