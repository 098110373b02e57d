-- The data of a service advertising packet: a query, or a response of entries (IPX Router Specification).
use Rattle.std.specs.Prelude.{◌≡◌, ℕ, ◌-◌, ◌/◌, ◌<◌, ◌≤◌, ◌^◌, ◌⊎◌, ◌≢◌, ◌==◌, nat_lt, Bool, true, false, if◌then◌else◌, List, ◌++◌, length, drop, map, Result, Ok, Err}
use Rattle.std.specs.Int.{to_be_bytes, from_be_bytes, w16}
use Rattle.std.specs.List.{flat_map, AllByRecursion}
use Rattle.ipx_wire.specs.Numbers.{most_services}
use Rattle.ipx_wire.specs.Piece.{piece}
use Rattle.ipx_wire.specs.Rip.{operation_field}
use Rattle.ipx_wire.specs.SapEntries.{Stored, IsStored, stored_bytes, sap_entries_at}
use Rattle.ipx_wire.specs.Write.{query_number}
use Rattle.ipx_wire.specs.declared.sap.Sap.{Sap}
use Rattle.ipx_wire.specs.declared.sap.Sap.TheVariants.{Query, Response}
use Rattle.ipx_wire.specs.declared.sap_entries.SapEntry.{SapEntry}
use Rattle.ipx_wire.specs.declared.sap.SapFault.{SapFault}
use Rattle.ipx_wire.specs.declared.sap.SapFault.TheVariants.{Short, Operation as UnknownOperation, NoEntry, TooMany}

-- the number of a response's operation: 2 general, 4 nearest
abbrev pub response_number : Bool → ℕ
response_number nearest = if nearest then 4 else 2

-- the data are a query's operation, the type that is asked for, and any further bytes, which say nothing (own)
pub record IsQuery (payload : List ℕ) (nearest : Bool) (kind : ℕ) : Type 0 where
  pub further : List ℕ
  pub layout : payload ≡ to_be_bytes w16 (query_number nearest) ++ to_be_bytes w16 kind ++ further
  pub range : kind < 2 ^ 16

-- the data are a response's operation, 1 or more entries up to the most, and fewer than 64 further bytes, which say nothing (own)
pub record IsResponse (payload : List ℕ) (nearest : Bool) (entries : List SapEntry) : Type 0 where
  pub stored : List Stored
  pub further : List ℕ
  pub layout : payload ≡ to_be_bytes w16 (response_number nearest) ++ flat_map stored_bytes stored ++ further
  pub told : entries ≡ map (λ s. s.entry) stored
  pub some : 1 ≤ length entries
  pub most : length entries ≤ most_services
  pub ignored : length further < 64
  pub each : AllByRecursion IsStored stored

-- the data are that query or that response
abbrev pub IsSap : List ℕ → Sap → Type 0
IsSap payload (Query nearest kind) = IsQuery payload nearest kind
IsSap payload (Response nearest entries) = IsResponse payload nearest entries

-- the number is that of a query, general or nearest
abbrev pub IsQueryNumber : ℕ → Type 0
IsQueryNumber number = (number ≡ 1) ⊎ (number ≡ 3)

-- the number is that of a response, general or nearest
abbrev pub IsResponseNumber : ℕ → Type 0
IsResponseNumber number = (number ≡ 2) ⊎ (number ≡ 4)

-- why data are no service advertising: each fault holds only where those before it don't
abbrev pub IsNoSap : List ℕ → SapFault → Type 0
IsNoSap payload Short =
    (length payload < 2) ⊎ ((2 ≤ length payload) × (length payload < 4) × IsQueryNumber (operation_field payload))
IsNoSap payload (UnknownOperation number) =
    (2 ≤ length payload) × (number ≡ operation_field payload) × (number ≢ 1) × (number ≢ 2) × (number ≢ 3) × (number ≢ 4)
IsNoSap payload NoEntry =
    (2 ≤ length payload) × (length payload < 66) × IsResponseNumber (operation_field payload)
IsNoSap payload TooMany =
    (514 ≤ length payload) × IsResponseNumber (operation_field payload)

-- what is read from the data of a query
abbrev pub query_of : Bool → List ℕ → Result Sap SapFault
query_of nearest payload =
    if nat_lt (length payload) 4 then Err Short
    else Ok (Query nearest (from_be_bytes w16 (piece payload 2 2)))

-- what is read from the data of a response: its entries, or why there are none or too many
abbrev pub response_of : Bool → List ℕ → Result Sap SapFault
response_of nearest payload =
    if nat_lt (length payload) 66 then Err NoEntry
    else if nat_lt 513 (length payload) then Err TooMany
    else Ok (Response nearest (sap_entries_at ((length payload - 2) / 64) (drop 2 payload)))

-- what is read from data whose operation has that number
abbrev pub numbered_of : ℕ → List ℕ → Result Sap SapFault
numbered_of number payload =
    if number == 1 then query_of false payload
    else if number == 2 then response_of false payload
    else if number == 3 then query_of true payload
    else if number == 4 then response_of true payload
    else Err (UnknownOperation number)

-- what is read from data: the query or the response, or the first fault that holds
unfoldable pub sap_of : List ℕ → Result Sap SapFault
sap_of payload =
    if nat_lt (length payload) 2 then Err Short
    else numbered_of (operation_field payload) payload
