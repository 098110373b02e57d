-- What an event does to what a handle has.
use Rattle.std.specs.Prelude.{◌≡◌, ℤ, [], ◌∷◌, ◌++◌, Option, None, Some, Result, Ok, Err}
use Rattle.ipx_router.specs.Bounds.{most_length}
use Rattle.ipx_router.specs.History.{Event, History, IsOnPort}
use Rattle.ipx_router.specs.Needs.{HasRoomFor, TakesRoomFor, packets_needed}
use Rattle.ipx_router.specs.Outbox.{AppendsAtMost, KeepsMemory, KeepsRoom, LeavesRoom}
use Rattle.ipx_router.specs.Outcomes.{outcome}
use Rattle.ipx_router.specs.Sends.{sends}
use Rattle.ipx_router.specs.Shares.{IsWithinCapacity, WithinRouteShares, WithinServiceShares}
use Rattle.ipx_router.specs.Stands.{StandsFor}
use Rattle.ipx_router.specs.declared.outcome.Outcome.{Outcome}
use Rattle.ipx_c.specs.Codes.{fault_code, code_of}
use Rattle.ipx_c.specs.Sizes.{most_routes, most_services}
use Rattle.ipx_c.specs.declared.fault.Fault.{Fault}
use Rattle.ipx_c.specs.declared.fault.Fault.TheVariants.{NoRouter, NoPort, OutOfMemory}
use Rattle.ipx_c.specs.declared.machine.Machine.{Machine}

-- the router of the machine stands for that history
abbrev pub Stands : Machine → History → Type 0
Stands machine history = StandsFor most_routes most_services machine.router history

-- the router took the event: whatever history it stood for, it stands for that history with the event, what the event sends is
-- appended to what is to be sent and takes only the room that it needs, and the outcome is the event's. Its ports are the same.
-- Whatever the history, the event sends at most the stated number of packets, none longer than stated, and the tables stay within
-- their sizes and the ports' shares
pub record Took (m n : Machine) (event : Event) (became : Outcome) : Type 0 where
  pub on_port : IsOnPort m.router.ports event
  pub ports : n.router.ports ≡ m.router.ports
  pub stands : (history : History) → Stands m history → Stands n (history ++ event ∷ [])
  pub room : (history : History) → Stands m history
      → LeavesRoom m.outbox n.outbox (sends m.router.ports most_routes most_services history event)
  pub sends : (history : History) → Stands m history
      → n.outbox.sent ≡ m.outbox.sent ++ sends m.router.ports most_routes most_services history event
  pub outcome : (history : History) → Stands m history → became ≡ outcome m.router.ports most_routes history event
  pub bounds : AppendsAtMost (packets_needed m.router event) (most_length event) m.outbox.sent n.outbox.sent
  pub capacity : IsWithinCapacity most_routes most_services n.router
  pub route_shares : WithinRouteShares n.router.ports n.router.routes
  pub service_shares : WithinServiceShares n.router.ports n.router.services

-- the router and what is to be sent are as they were, and the room that was there is there still
pub record IsSame (m n : Machine) : Type 0 where
  pub router : n.router ≡ m.router
  pub sent : n.outbox.sent ≡ m.outbox.sent
  pub room : KeepsRoom m.outbox n.outbox

-- why the router didn't take the event: it names a port that there is not, or the room for what it may send was missing
-- and memory for it was refused
abbrev pub IsRefused : Machine → Event → Fault → Type 0
IsRefused machine event NoPort = IsOnPort machine.router.ports event → ⊥
IsRefused machine event OutOfMemory = HasRoomFor machine.router event machine.outbox → ⊥
IsRefused machine event fault = ⊥

-- what is to be sent took memory only for the room that the event needs, where that was missing, and none where it was there
pub record TakesMemory (m n : Machine) (event : Event) : Type 0 where
  pub still : HasRoomFor m.router event m.outbox → KeepsMemory m.outbox n.outbox
  pub takes : TakesRoomFor m.router event m.outbox n.outbox

-- the event was taken, or refused and nothing happened but that there may be more room
abbrev pub Meets : Machine → Machine → Event → Result Outcome Fault → Type 0
Meets m n event (Ok became) = Took m n event became × TakesMemory m n event
Meets m n event (Err fault) = IsSame m n × IsRefused m event fault × TakesMemory m n event

-- what a handle has before an event and after it, and the number that C hears: with no router there is none afterwards; with one
-- the event is taken, or refused and nothing happened
abbrev pub Happens : Option Machine → Option Machine → Event → ℤ → Type 0
Happens None after event answer = (after ≡ None) × (answer ≡ fault_code NoRouter)
Happens (Some m) after event answer =
    (n : Machine) × (became : Result Outcome Fault) × (after ≡ Some n) × (answer ≡ code_of became) × Meets m n event became
