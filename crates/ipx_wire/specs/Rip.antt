-- The data of a routing information packet: an operation and entries (IPX Router Specification).
use Rattle.std.specs.Prelude.{◌≡◌, ℕ, ◌+◌, ◌-◌, ◌/◌, ◌<◌, ◌≤◌, ◌^◌, ◌⊎◌, ◌≢◌, ◌==◌, nat_lt, if◌then◌else◌, List, ◌++◌, length, drop, codes, Option, None, Some, Result, Ok, Err}
use Rattle.std.specs.Int.{to_be_bytes, from_be_bytes, w16, w32}
use Rattle.std.specs.List.{flat_map, AllByRecursion}
use Rattle.ipx_wire.specs.Items.{items}
use Rattle.ipx_wire.specs.Numbers.{most_entries}
use Rattle.ipx_wire.specs.Piece.{piece}
use Rattle.ipx_wire.specs.declared.rip.Operation.{Operation}
use Rattle.ipx_wire.specs.declared.rip.Operation.TheVariants.{Request, Response}
use Rattle.ipx_wire.specs.declared.rip.RipEntry.{RipEntry}
use Rattle.ipx_wire.specs.declared.rip.RipFault.{RipFault}
use Rattle.ipx_wire.specs.declared.rip.RipFault.TheVariants.{Short, Operation as UnknownOperation, NoEntry, TooMany}

-- each field is a number of its width
pub record IsEntry (e : RipEntry) : Type 0 where
  pub network : e.network.0 < 2 ^ 32
  pub hops : e.hops < 2 ^ 16
  pub ticks : e.ticks < 2 ^ 16

-- the eight bytes of an entry: network 4, hops 2, ticks 2
unfoldable pub entry_bytes : RipEntry → List ℕ
entry_bytes e = to_be_bytes w32 e.network.0 ++ to_be_bytes w16 e.hops ++ to_be_bytes w16 e.ticks

-- the entry in the eight bytes from a place on
unfoldable pub entry_at : List ℕ → ℕ → RipEntry
entry_at bytes place = record {
  network = record { 0 = from_be_bytes w32 (piece bytes place 4) };
  hops = from_be_bytes w16 (piece bytes (place + 4) 2);
  ticks = from_be_bytes w16 (piece bytes (place + 6) 2);
}

-- the first n entries of bytes, eight bytes each
abbrev pub entries_at : ℕ → List ℕ → List RipEntry
entries_at n bytes = items (λ b. entry_at b 0) 8 n bytes

-- the number of an operation: 1 request, 2 response
abbrev pub operation_number : Operation → ℕ
operation_number Request = 1
operation_number Response = 2

-- the word of an operation
abbrev pub operation_word : Operation → List ℕ
operation_word Request = codes "request"
operation_word Response = codes "response"

-- the operation of a number, if it has one
abbrev pub operation_of : ℕ → Option Operation
operation_of number = if number == 1 then Some Request else if number == 2 then Some Response else None

-- what the data say: the operation and the entries
pub record RipParts : Type 0 where
  pub operation : Operation
  pub entries : List RipEntry

-- the data are the operation, 1 or more entries up to the most, and fewer than eight further bytes, which say nothing (own)
pub record IsRip (payload : List ℕ) (r : RipParts) : Type 0 where
  pub further : List ℕ
  pub layout : payload ≡ to_be_bytes w16 (operation_number r.operation) ++ flat_map entry_bytes r.entries ++ further
  pub some : 1 ≤ length r.entries
  pub most : length r.entries ≤ most_entries
  pub ignored : length further < 8
  pub ranges : AllByRecursion IsEntry r.entries

-- the number in the place of the operation
abbrev pub operation_field : List ℕ → ℕ
operation_field payload = from_be_bytes w16 (piece payload 0 2)

-- why data are no routing information: each fault holds only where those before it don't
abbrev pub IsNoRip : List ℕ → RipFault → Type 0
IsNoRip payload Short = length payload < 2
IsNoRip payload (UnknownOperation number) =
    (2 ≤ length payload) × (number ≡ operation_field payload) × (number ≢ 1) × (number ≢ 2)
IsNoRip payload NoEntry =
    (2 ≤ length payload) × (length payload < 10) × ((operation_field payload ≡ 1) ⊎ (operation_field payload ≡ 2))
IsNoRip payload TooMany =
    (410 ≤ length payload) × ((operation_field payload ≡ 1) ⊎ (operation_field payload ≡ 2))

-- what is read from data of a known operation: its entries, or why there are none or too many
abbrev pub entries_of : Operation → List ℕ → Result RipParts RipFault
entries_of operation payload =
    if nat_lt (length payload) 10 then Err NoEntry
    else if nat_lt 409 (length payload) then Err TooMany
    else Ok (record { operation = operation; entries = entries_at ((length payload - 2) / 8) (drop 2 payload) })

-- what is read from data whose operation has that number
abbrev pub operated : ℕ → Option Operation → List ℕ → Result RipParts RipFault
operated number None payload = Err (UnknownOperation number)
operated number (Some operation) payload = entries_of operation payload

-- what is read from data: operation and entries, or the first fault that holds
unfoldable pub rip_of : List ℕ → Result RipParts RipFault
rip_of payload =
    if nat_lt (length payload) 2 then Err Short
    else operated (operation_field payload) (operation_of (operation_field payload)) payload
