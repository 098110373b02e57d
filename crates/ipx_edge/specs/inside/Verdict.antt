-- What is to be done with a packet that comes to a filter.
use Rattle.std.specs.Prelude.{◌≡◌, ℕ, Bool, ◌+◌, ◌-◌, ◌*◌, ◌/◌, ◌^◌, ◌&&◌, ◌<◌, ◌≤◌, if◌then◌else◌, List, ◌++◌, length, take, drop, Option, None, Some, Result, Ok, Err}
use Rattle.std.specs.List.{filter, concat}
use Rattle.ipx_wire.specs.Items.{items}
use Rattle.ipx_wire.specs.Numbers.{operation_size, entry_size, service_size}
use Rattle.ipx_wire.specs.Packet.{Parts}
use Rattle.ipx_wire.specs.Rip.{rip_of}
use Rattle.ipx_wire.specs.Sap.{sap_of}
use Rattle.ipx_wire.specs.declared.packet.PacketFault.{PacketFault}
use Rattle.ipx_router.specs.Port.{Port}
use Rattle.ipx_edge.specs.Filtered.{is_routing, is_advertising, lists_routes, lists_services, route_passes, service_passes, with_kept}
use Rattle.ipx_edge.specs.Rules.{names_packet, permits}
use Rattle.ipx_edge.specs.declared.listing.Listed.{Listed}
use Rattle.ipx_edge.specs.declared.listing.Listed.TheVariants.{Routes, Services}
use Rattle.ipx_edge.specs.declared.filtering.Verdict.{Verdict}
use Rattle.ipx_edge.specs.declared.filtering.Verdict.TheVariants.{Denied, Whole, Entries}
use Rattle.ipx_edge.specs.declared.rule.Rule.{Rule}
use Rattle.ipx_edge.specs.declared.rule.Way.{Way}

abbrev pub size_of : Listed → ℕ
size_of Routes = entry_size
size_of Services = service_size

abbrev pub passes_of : Way → List Rule → Listed → List ℕ → Bool
passes_of way rules Routes e = route_passes way rules e
passes_of way rules Services e = service_passes way rules e

abbrev pub listed_in : Way → Port → Parts → Verdict
listed_in way port p =
    if is_routing way port p.header && lists_routes (rip_of p.payload) then Entries Routes ((length p.payload - operation_size) / entry_size)
    else if is_advertising way port p.header && lists_services (sap_of p.payload) then Entries Services ((length p.payload - operation_size) / service_size)
    else Whole

abbrev pub verdict : Way → Port → List Rule → Result Parts PacketFault → Verdict
verdict way port rules (Ok p) = if permits (names_packet port p) rules then listed_in way port p else Denied
verdict way port rules (Err fault) = Whole

-- the first entries of bytes, behind header and operation
abbrev pub first : ℕ → ℕ → List ℕ → List (List ℕ)
first size count bytes = items (take size) size count (drop 32 bytes)

-- what a verdict leaves
abbrev pub done : Way → List Rule → Verdict → List ℕ → Option (List ℕ)
done way rules Denied bytes = None
done way rules Whole bytes = Some bytes
done way rules (Entries listed count) bytes = with_kept count (filter (passes_of way rules listed) (first (size_of listed) count bytes)) bytes

-- the entries of a verdict are there, no more than a length counts
abbrev pub Fits : Verdict → List ℕ → Type 0
Fits Denied bytes = Unit
Fits Whole bytes = Unit
Fits (Entries listed count) bytes = (32 + size_of listed * count ≤ length bytes) × (32 + size_of listed * count < 2 ^ 16)

-- k entries of bytes were looked at, which were old before: those that pass stand one behind another up to a place, and what wasn't looked
-- at stands as it did
pub record Keeps (passes : List ℕ → Bool) (size k : ℕ) (old now : List ℕ) (from to : ℕ) : Type 0 where
  pub from_is : from ≡ 32 + size * k
  pub to_is : to ≡ 32 + size * length (filter passes (first size k old))
  pub order : to ≤ from
  pub front : take to now ≡ take 32 old ++ concat (filter passes (first size k old))
  pub rest : drop from now ≡ drop from old
  pub same : to ≡ from → now ≡ old
  pub none : to ≡ 32 → now ≡ old
  pub long : length now ≡ length old
