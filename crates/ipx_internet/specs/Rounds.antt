-- Rounds of deliveries: in each, all that waits when it begins is handed out, and what is sent for it waits then.
use Rattle.std.specs.Prelude.{ℕ, zero, suc, ◌+◌, ◌-◌, ◌*◌, ◌<◌, max, List, length}
use Rattle.ipx_wire.specs.Piece.{IsBytes}
use Rattle.ipx_router.specs.Bounds.{route_sheets, service_sheets}
use Rattle.ipx_router.specs.History.{Event, Packet, IsOnPort}
use Rattle.ipx_router.specs.Port.{Port}
use Rattle.ipx_internet.specs.Internet.{Internet, IsPlace, ports_of}
use Rattle.ipx_internet.specs.Most.{most_ports, most_on_network}
use Rattle.ipx_internet.specs.Queue.{Delivery, Queued, settled}
use Rattle.ipx_internet.specs.Run.{Step, Happens, Settles}

-- bytes wait for a port that there is
pub record IsDelivery (net : Internet) (d : Delivery) : Type 0 where
  pub place : IsPlace net d.to
  pub bytes : IsBytes d.bytes

module _ (net : Internet) (most_routes most_services : ℕ) where
  -- one round
  abbrev pub round : Queued → Queued
  round q = settled net most_routes most_services (length q.queue) q

  -- that many rounds, one after the other
  abbrev pub rounds : ℕ → Queued → Queued
  rounds zero q = q
  rounds (suc n) q = round (rounds n q)

  -- how many deliveries are handed out in that many rounds
  abbrev pub handed_out : ℕ → Queued → ℕ
  handed_out zero q = 0
  handed_out (suc n) q = handed_out n q + length (rounds n q).queue

-- the most deliveries that one causes: the packets that a router sends for it, with room for that many routes and services, each to
-- all other ports of the largest network
abbrev pub most_caused : Internet → ℕ → ℕ → ℕ
most_caused net most_routes most_services =
    max (most_ports net) (max (route_sheets (most_ports net) most_routes) (service_sheets most_services)) * (most_on_network net - 1)

-- the rounds after which nothing waits: 17 until no packet goes on through routers, 16 until no news says that anything is reached,
-- and one for each router, and one more, until nobody has anything left to end
abbrev pub most_rounds : Internet → ℕ
most_rounds net = 34 + length net

-- an event of a router that is no packet: a start, a stop, a second, or a port of it that goes down or comes up
abbrev pub IsOwnEvent : List Port → Event → Type 0
IsOwnEvent ports (Packet number bytes) = ⊥
IsOwnEvent ports event = IsOnPort ports event

-- such an event, or a delivery of what was sent for one, or for such a delivery
abbrev pub IsOwnStep : Internet → Step → Type 0
IsOwnStep net (Happens router event) = (router < length net) × IsOwnEvent (ports_of net router) event
IsOwnStep net Settles = Unit

-- the rounds after which nothing waits where nothing but such events and deliveries happened: what routers send of their own isn't
-- sent on
abbrev pub most_own_rounds : Internet → ℕ
most_own_rounds net = 17 + length net
