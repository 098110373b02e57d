-- Where there was room for what an event sends and for more, and there is no room for this more afterwards, the event wasn't taken; where
-- there was room and there is none, it wasn't refused. So a call that gives room back breaks its contract, whatever else it does.
use Rattle.std.specs.Prelude.{ℕ, ◌+◌, length}
use Rattle.ipx_router.specs.History.{Event, History}
use Rattle.ipx_router.specs.Outbox.{HasRoom, total}
use Rattle.ipx_router.specs.Sends.{sends}
use Rattle.ipx_router.specs.declared.outcome.Outcome.{Outcome}
use Rattle.ipx_c.specs.Happens.{IsSame, Stands, Took}
use Rattle.ipx_c.specs.Sizes.{most_routes, most_services}
use Rattle.ipx_c.specs.declared.machine.Machine.{Machine}

pub not_taken : (m n : Machine) (event : Event) (became : Outcome) (history : History) (packets bytes : ℕ) → Stands m history
    → HasRoom m.outbox (length (sends m.router.ports most_routes most_services history event) + packets)
    (total (sends m.router.ports most_routes most_services history event) + bytes)
    → (HasRoom n.outbox packets bytes → ⊥) → Took m n event became → ⊥
not_taken m n event became history packets bytes stands there gone took = gone (took.room history stands packets bytes there)

pub not_refused : (m n : Machine) (packets bytes : ℕ)
    → HasRoom m.outbox packets bytes → (HasRoom n.outbox packets bytes → ⊥) → IsSame m n → ⊥
not_refused m n packets bytes there gone same = gone (same.room packets bytes there)
