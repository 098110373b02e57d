-- What C reads of a router.
use Rattle.std.specs.Prelude.{ℕ, ℤ, pos, nat_lt, Bool, true, false, if◌then◌else◌, List, length, slice_get, Option, None, Some, Result, Ok, Err}
use Rattle.ipx_table.specs.declared.held.Held.{Held}
use Rattle.ipx_router.specs.Port.{is_up}
use Rattle.ipx_router.specs.declared.route_offer.RouteOffer.{RouteOffer}
use Rattle.ipx_router.specs.declared.service_offer.ServiceOffer.{ServiceOffer}
use Rattle.ipx_c.specs.Codes.{fault_code, done}
use Rattle.ipx_c.specs.Values.{route_record, service_record}
use Rattle.ipx_c.specs.declared.fault.Fault.{Fault}
use Rattle.ipx_c.specs.declared.fault.Fault.TheVariants.{NoRouter, NoPort, NoRecord}
use Rattle.ipx_c.specs.declared.machine.Machine.{Machine}
use Rattle.ipx_c.specs.declared.values.RouteRecord.{RouteRecord}
use Rattle.ipx_c.specs.declared.values.ServiceRecord.{ServiceRecord}

-- ---- whether it runs

-- yes or no
abbrev pub truth : Bool → ℤ
truth true = pos 1
truth false = pos 0

abbrev pub running_code : Option Machine → ℤ
running_code None = fault_code NoRouter
running_code (Some machine) = truth machine.router.running

-- of a port that there is
abbrev pub up_code : Option Machine → ℕ → ℤ
up_code None port = fault_code NoRouter
up_code (Some machine) port =
    if nat_lt port (length machine.router.ports) then truth (is_up machine.router.up port) else fault_code NoPort

-- ---- its tables

abbrev pub route_count : Option Machine → ℕ
route_count None = 0
route_count (Some machine) = length machine.router.routes

abbrev pub service_count : Option Machine → ℕ
service_count None = 0
service_count (Some machine) = length machine.router.services

-- a record of that number, counted from 0
abbrev pub record_at : {T : Type 0} → List T → ℕ → Result T Fault
record_at records index = elim (slice_get records index) [ Some record' ↦ Ok record' | None ↦ Err NoRecord ]

abbrev pub route_at : Option Machine → ℕ → Result (Held RouteOffer) Fault
route_at None index = Err NoRouter
route_at (Some machine) index = record_at machine.router.routes index

abbrev pub service_at : Option Machine → ℕ → Result (Held ServiceOffer) Fault
service_at None index = Err NoRouter
service_at (Some machine) index = record_at machine.router.services index

-- what C has of it then
abbrev pub route_after : Result (Held RouteOffer) Fault → RouteRecord → RouteRecord
route_after (Ok held) before = route_record held
route_after (Err fault) before = before

abbrev pub service_after : Result (Held ServiceOffer) Fault → ServiceRecord → ServiceRecord
service_after (Ok held) before = service_record held
service_after (Err fault) before = before

-- the number that C hears
abbrev pub read_code : {T : Type 0} → Result T Fault → ℤ
read_code (Ok found) = done
read_code (Err fault) = fault_code fault
