-- What a batch of deliveries is: packets that routers sent, and who receives which of them.
use Rattle.std.specs.Prelude.{ℕ, ◌<◌, List, [], length, map, slice_index_or}
use Rattle.std.specs.List.{AllByRecursion}
use Rattle.ipx_router.specs.Outbox.{Contents}
use Rattle.ipx_router.specs.Port.{Port, broadcast}
use Rattle.ipx_router.specs.Relays.{Sent}
use Rattle.ipx_internet.specs.Queue.{Delivery}
use Rattle.ipx_internet.specs.inside.Stations.{place_of, hearers}
use Rattle.ipx_internet.specs.declared.batch.Pending.{Pending}
use Rattle.ipx_internet.specs.declared.batch.Coming.{Coming}
use Rattle.ipx_internet.specs.declared.stations.Station.{Station}

-- the deliveries in order, and the room that is left: for packets, and for deliveries
pub record Pile : Type 0 where
  pub deliveries : List Delivery
  pub outbox : Contents
  pub places : ℕ

-- ---- how it is kept

-- the packet of that number; past the last, an empty one
abbrev pub sent_at : List Sent → ℕ → Sent
sent_at sent packet = slice_index_or sent packet (record { port = 0; link = broadcast; bytes = [] })

-- what a port receives, of one packet, and of some packets
abbrev pub arriving : Pending → Sent → Delivery
arriving p s = record { to = record { router = p.router; port = p.port }; bytes = s.bytes }

abbrev pub delivery_in : List Sent → Pending → Delivery
delivery_in sent p = arriving p (sent_at sent p.packet)

abbrev pub deliveries_in : List Sent → List Pending → List Delivery
deliveries_in sent pending = map (delivery_in sent) pending

-- there are the packets that are received
abbrev pub AreWithin : List Sent → List Pending → Type 0
AreWithin sent pending = AllByRecursion (λ p. p.packet < length sent) pending

-- a station receives the packet of that number
abbrev pub pending_at : ℕ → Station → Pending
pending_at packet s = record { router = s.router; port = s.port; packet = packet }

-- ---- what goes into it

-- what comes to a port, as it is handed out
abbrev pub delivery_of : Coming → Delivery
delivery_of c = record { to = record { router = c.router; port = c.port }; bytes = c.bytes.now }

-- the deliveries of that packet
abbrev pub reaching : Sent → Station → Delivery
reaching s t = record { to = place_of t; bytes = s.bytes }

abbrev pub heard : List Station → List Port → ℕ → Sent → List Delivery
heard list ports number s = map (reaching s) (hearers list ports number s)
