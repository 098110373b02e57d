-- What it costs to keep tables as they are: while they stay, each router sends the pages of what it advertises once in a period.
use Rattle.std.specs.Prelude.{◌≡◌, ℕ, ◌+◌, ◌*◌, ◌<◌, ◌==◌, ◌&&◌, true, false, List, [], ◌∷◌, length, map, Ok, Some}
use Rattle.std.specs.List.{filter, flat_map}
use Rattle.ipx_wire.specs.Packet.{Parts, packet_of}
use Rattle.ipx_wire.specs.Piece.{IsBytes}
use Rattle.ipx_wire.specs.declared.rip.Operation.TheVariants.{Response}
use Rattle.ipx_wire.specs.declared.sap.Sap.TheVariants.{Query, Response as SapResponse}
use Rattle.ipx_router.specs.Heard.{Heard, HeardRip, HeardSap}
use Rattle.ipx_router.specs.History.{History, Second, Packet}
use Rattle.ipx_router.specs.Numbers.{header_size, operation_size, entry_size, service_size, entries_a_page, services_a_page}
use Rattle.ipx_router.specs.Pages.{sheets}
use Rattle.ipx_router.specs.Port.{Port, is_local}
use Rattle.ipx_router.specs.Relays.{Sent}
use Rattle.ipx_router.specs.Sends.{Holding, holding, broadcasts}
use Rattle.ipx_router.specs.Told.{told, told_services}
use Rattle.ipx_router.specs.Why.{is_propagated}
use Rattle.ipx_internet.specs.Internet.{Internet, Place, ports_of, port_of, IsPlace}
use Rattle.ipx_internet.specs.Queue.{history_of}
use Rattle.ipx_internet.specs.Run.{Step, Happens, Settles, Run, stepped}
use Rattle.ipx_laws.specs.Departure.{Departure}
use Rattle.ipx_laws.specs.Meanwhile.{message_of}

-- ---- what happens meanwhile

-- what is heard asks for no answer
abbrev pub AsksNothing : Heard → Type 0
AsksNothing (HeardRip source rip) = rip.operation ≡ Response
AsksNothing (HeardSap source (Query nearest kind)) = ⊥
AsksNothing (HeardSap source (SapResponse nearest entries)) = Unit

-- a packet that nobody sends on or answers: it is for the network of the port that it comes to, for one destination or all nodes there,
-- and what may be heard of it asks nothing
pub record EndsThere (port : Port) (bytes : List ℕ) : Type 0 where
  pub packet : Parts
  pub read : packet_of bytes ≡ Ok packet
  pub plain : is_propagated packet.header ≡ false
  pub home : is_local port packet.header.destination.network ≡ true
  pub asks : (m : Heard) → message_of bytes ≡ Some m → AsksNothing m

-- a second of a router that there is, a delivery, or such a packet from outside: a host may go on announcing what it has
abbrev pub IsOfUpkeep : Internet → Step → Type 0
IsOfUpkeep net (Happens router Second) = router < length net
IsOfUpkeep net (Happens router (Packet number bytes)) =
    let place : Place = record { router = router; port = number } in
    (router < length net) × IsPlace net place × IsBytes bytes × EndsThere (port_of net place) bytes
IsOfUpkeep net (Happens router event) = ⊥
IsOfUpkeep net Settles = Unit

module _ (net : Internet) (most_routes most_services : ℕ) where
  -- what a router has after its history: ports that are up, routes and services
  abbrev pub has : List History → ℕ → Holding
  has histories router = holding (ports_of net router) most_routes most_services (history_of histories router)

  -- each router has the routes and the services that it has after other histories; their ages may differ
  abbrev pub HaveTheSame : List History → List History → Type 0
  HaveTheSame old new =
      (router : ℕ) → router < length net → ((has new router).routes ≡ (has old router).routes) × ((has new router).services ≡ (has old router).services)

  -- after each of some steps each router has what it had after those histories
  abbrev pub TablesStay : List History → Run → List Step → Type 0
  TablesStay old run [] = Unit
  TablesStay old run (step ∷ steps) =
      let next = stepped net most_routes most_services run step in
      HaveTheSame old next.histories × TablesStay old next steps

  -- the same of services alone
  abbrev pub HaveTheServices : List History → List History → Type 0
  HaveTheServices old new = (router : ℕ) → router < length net → (has new router).services ≡ (has old router).services

  abbrev pub ServicesStay : List History → Run → List Step → Type 0
  ServicesStay old run [] = Unit
  ServicesStay old run (step ∷ steps) =
      let next = stepped net most_routes most_services run step in
      HaveTheServices old next.histories × ServicesStay old next steps

-- the steps of ticks, one after the other
abbrev pub steps_of : List (List Step) → List Step
steps_of ticks = flat_map (λ steps. steps) ticks

-- ---- what is sent

-- what a router sent on one of its ports
abbrev pub sent_by : ℕ → ℕ → List Departure → List Sent
sent_by router number departures = map (λ d. d.sent) (filter (λ d. (d.router == router) && (d.sent.port == number)) departures)

-- the pages of all that a router advertises on a port
abbrev pub all_pages : List Port → Holding → ℕ → List Sent
all_pages ports has number = broadcasts ports number (told ports has.up has.routes number) (told_services has.services number)

-- ---- how much that is

-- the packets for that many networks and services
abbrev pub upkeep_packets : ℕ → ℕ → ℕ
upkeep_packets networks services = sheets entries_a_page networks + sheets services_a_page services

-- their bytes: a header and an operation each, and the entries
abbrev pub upkeep_bytes : ℕ → ℕ → ℕ
upkeep_bytes networks services =
    (header_size + operation_size) * upkeep_packets networks services + entry_size * networks + service_size * services
