-- Deliveries in any order: each step hands out any one of those that wait, whichever of them came first.
use Rattle.std.specs.Prelude.{◌≢◌, ℕ, ◌+◌, ◌<◌, nat_lt, if◌then◌else◌, List, [], ◌∷◌, length, Some, None, slice_get}
use Rattle.std.specs.List.{remove}
use Rattle.ipx_router.specs.History.{Packet}
use Rattle.ipx_internet.specs.Internet.{Internet}
use Rattle.ipx_internet.specs.Queue.{Queued, queued}

module _ (net : Internet) (most_routes most_services : ℕ) where
  -- the delivery at that place of the queue happens to its router, if there is one; what is sent for it waits behind all others
  abbrev pub settled_at : Queued → ℕ → Queued
  settled_at q place = elim (slice_get q.queue place) [
    | Some d ↦ queued net most_routes most_services (record q { queue = remove q.queue place }) d.to.router (Packet d.to.port d.bytes)
    | None ↦ q
  ]

  -- one after the other, by their places
  abbrev pub settled_in : List ℕ → Queued → Queued
  settled_in [] q = q
  settled_in (place ∷ order) q = settled_in order (settled_at q place)

  -- how many of these steps deliver something
  abbrev pub delivered_in : List ℕ → Queued → ℕ
  delivered_in [] q = 0
  delivered_in (place ∷ order) q = (if nat_lt place (length q.queue) then 1 else 0) + delivered_in order (settled_at q place)

  -- as long as anything waits, each step delivers something
  abbrev pub GoesOn : List ℕ → Queued → Type 0
  GoesOn [] q = Unit
  GoesOn (place ∷ order) q = (q.queue ≢ [] → place < length q.queue) × GoesOn order (settled_at q place)
