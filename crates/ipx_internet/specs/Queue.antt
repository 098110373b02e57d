-- What waits in an internet: deliveries of what its routers sent, first in first out (own).
use Rattle.std.specs.Prelude.{ℕ, zero, suc, List, [], ◌∷◌, ◌++◌, map, slice_index_or, slice_set}
use Rattle.std.specs.List.{flat_map}
use Rattle.ipx_router.specs.History.{Event, History, Packet}
use Rattle.ipx_router.specs.Relays.{Sent}
use Rattle.ipx_router.specs.Sends.{sends}
use Rattle.ipx_internet.specs.Delivery.{delivered}
use Rattle.ipx_internet.specs.Internet.{Internet, Place, ports_of}

-- bytes on the way to a port
pub record Delivery : Type 0 where
  pub to : Place
  pub bytes : List ℕ

-- the deliveries of one packet that a router sent, by router and port
abbrev pub deliveries_of : Internet → ℕ → Sent → List Delivery
deliveries_of net router s =
    map (λ to. record { to = to; bytes = s.bytes }) (delivered net (record { router = router; port = s.port }) s.link)

-- what happened to each router, and the deliveries that wait, the first one first
pub record Queued : Type 0 where
  pub histories : List History
  pub queue : List Delivery

-- what happened to one router
abbrev pub history_of : List History → ℕ → History
history_of histories router = slice_index_or histories router []

-- one more event
abbrev pub with_event : List History → ℕ → Event → List History
with_event histories router event = slice_set histories router (history_of histories router ++ event ∷ [])

module _ (net : Internet) (most_routes most_services : ℕ) where
  -- what a router sends for an event
  abbrev pub sends_at : List History → ℕ → Event → List Sent
  sends_at histories router event = sends (ports_of net router) most_routes most_services (history_of histories router) event

  -- an event happens: the deliveries of what is sent go to the end of the queue
  abbrev pub queued : Queued → ℕ → Event → Queued
  queued q router event = record {
    histories = with_event q.histories router event;
    queue = q.queue ++ flat_map (deliveries_of net router) (sends_at q.histories router event);
  }

  -- the first delivery, if any waits, happens to its router
  abbrev pub settled_one : Queued → Queued
  settled_one q = elim q.queue [
    | [] ↦ q
    | ◌∷◌ d queue ↦ queued (record q { queue = queue }) d.to.router (Packet d.to.port d.bytes)
  ]

  -- that many deliveries happen, one after the other, as long as any waits
  abbrev pub settled : ℕ → Queued → Queued
  settled zero q = q
  settled (suc n) q = settled n (settled_one q)
