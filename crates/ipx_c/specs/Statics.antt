-- Routes and services in a neighbour's name, as C writes them: by the definitions of `ipx_edge`, over the values that C gives.
use Rattle.std.specs.Prelude.{◌≡◌, ℕ, ◌+◌, ◌*◌, ℤ, ◌⊎◌, List, length, map, None, Some, Result, Err}
use Rattle.ipx_wire.specs.Numbers.{most_entries, most_services}
use Rattle.ipx_wire.specs.Write.{packet_bytes}
use Rattle.ipx_wire.specs.declared.node.Node.{Node}
use Rattle.ipx_router.specs.Port.{Port, IsPort}
use Rattle.ipx_edge.specs.Statics.{static_routes, static_services}
use Rattle.ipx_c.specs.Codes.{count_code}
use Rattle.ipx_c.specs.Edges.{IsRefused}
use Rattle.ipx_c.specs.Values.{port_of}
use Rattle.ipx_c.specs.Writes.{entry_of, services_of, counted, fitted, buffer_written, count_written}
use Rattle.ipx_c.specs.declared.fault.Fault.{Fault}
use Rattle.ipx_c.specs.declared.fault.Fault.TheVariants.{Name}
use Rattle.ipx_c.specs.declared.values.PortValues.{PortValues}
use Rattle.ipx_c.specs.declared.values.RouteEntry.{RouteEntry}
use Rattle.ipx_c.specs.declared.values.ServiceEntry.{ServiceEntry}

-- what is written, or why nothing is: the first reason that holds
abbrev pub routes_written : Port → Node → List RouteEntry → ℕ → Result (List ℕ) Fault
routes_written port node values room =
    counted (length values) most_entries
    (fitted (32 + 8 * length values) (packet_bytes (static_routes port node (map entry_of values))) room)

abbrev pub services_written : Port → Node → List ServiceEntry → ℕ → Result (List ℕ) Fault
services_written port node values room =
    counted (length values) most_services (elim (services_of values) [
      | None ↦ Err Name
      | Some services ↦ fitted (32 + 64 * length values) (packet_bytes (static_services port node services)) room
    ])

-- on the port that has these values, if they are a port's
abbrev pub Writes : PortValues → (Port → Result (List ℕ) Fault) → List ℕ → List ℕ → ℤ → Type 0
Writes v written old new answer =
    (IsPort (port_of v) × (new ≡ buffer_written (written (port_of v)) old) × (answer ≡ count_code (count_written (written (port_of v)))))
    ⊎ IsRefused v old new answer
