-- What a history means for the tables of routes and of services, and what they hold after it.
use Rattle.std.specs.Prelude.{ℕ, Bool, if◌then◌else◌, List, [], ◌∷◌, ◌++◌, map, Option, None, Some}
use Rattle.ipx_table.specs.Facts.{Fact, Offered, Second as SecondPassed, PortEnd, End}
use Rattle.ipx_table.specs.Stands.{held}
use Rattle.ipx_table.specs.declared.held.Held.{Held}
use Rattle.ipx_wire.specs.declared.node.Node.{Node}
use Rattle.ipx_wire.specs.declared.rip.Operation.TheVariants.{Request, Response as RipResponse}
use Rattle.ipx_wire.specs.declared.rip.RipEntry.{RipEntry}
use Rattle.ipx_wire.specs.declared.sap.Sap.TheVariants.{Query, Response as SapResponse}
use Rattle.ipx_wire.specs.declared.sap_entries.SapEntry.{SapEntry}
use Rattle.ipx_router.specs.Heard.{Heard, HeardRip, HeardSap, heard}
use Rattle.ipx_router.specs.History.{Event, History, Start, Stop, Second, Packet, PortDown, PortUp, running, ports_up}
use Rattle.ipx_router.specs.Port.{Port, is_up, takes_no_route}
use Rattle.ipx_router.specs.Routes.{route_rules}
use Rattle.ipx_router.specs.Services.{service_rules}
use Rattle.ipx_router.specs.declared.route_offer.RouteOffer.{RouteOffer}
use Rattle.ipx_router.specs.declared.service_offer.ServiceOffer.{ServiceOffer}

-- ---- what a packet offers

-- an entry as an offer of the neighbour that sent it, with hops and ticks as they were heard
abbrev pub route_offer : ℕ → Node → RipEntry → RouteOffer
route_offer number node entry = record { network = entry.network; hops = entry.hops; ticks = entry.ticks; port = number; node = node }

-- the entries as offers, in order, but for networks to which no route is taken
abbrev pub routes_offered : List Port → ℕ → Node → List RipEntry → List (Fact RouteOffer)
routes_offered ports number node [] = []
routes_offered ports number node (entry ∷ entries) =
    (if takes_no_route ports entry.network then [] else Offered (route_offer number node entry) ∷ []) ++ routes_offered ports number node entries

-- what a RIP response offers: its entries; a request offers nothing
abbrev pub routes_heard : List Port → ℕ → Option Heard → List (Fact RouteOffer)
routes_heard ports number None = []
routes_heard ports number (Some (HeardRip source rip)) =
    elim rip.operation [ RipResponse ↦ routes_offered ports number source.node rip.entries | Request ↦ [] ]
routes_heard ports number (Some (HeardSap source sap)) = []

-- the entries that have a name, as offers, in order; any address is taken, also without a route to it (own)
abbrev pub services_offered : ℕ → Node → List SapEntry → List (Fact ServiceOffer)
services_offered number node [] = []
services_offered number node (entry ∷ entries) =
    elim entry.name [
      | None ↦ []
      | Some name ↦ Offered (record {
        service = record { kind = entry.kind; name = name; address = entry.address; hops = entry.hops };
        port = number;
        node = node;
      }) ∷ []
    ] ++ services_offered number node entries

-- what a SAP response offers: its entries; a query offers nothing
abbrev pub services_heard : ℕ → Option Heard → List (Fact ServiceOffer)
services_heard number None = []
services_heard number (Some (HeardRip source rip)) = []
services_heard number (Some (HeardSap source (Query nearest kind))) = []
services_heard number (Some (HeardSap source (SapResponse nearest entries))) = services_offered number source.node entries

-- ---- what an event means

-- what an event means for a table, with those ports up and the router running or not, where `offered` says what a packet offers:
-- a stop ends all offers, a port that goes down ends those that came by it, and a stopped router hears nothing
abbrev pub facts_of : {O : Type 0} → List ℕ → Bool → (ℕ → List ℕ → List (Fact O)) → Event → List (Fact O)
facts_of up runs offered Start = []
facts_of up runs offered Stop = if runs then End ∷ [] else []
facts_of up runs offered Second = if runs then SecondPassed ∷ [] else []
facts_of up runs offered (Packet number bytes) = offered number bytes
facts_of up runs offered (PortDown number) = if is_up up number then PortEnd number ∷ [] else []
facts_of up runs offered (PortUp number) = []

module _ (ports : List Port) where
  -- what is heard of a packet that comes after a history
  abbrev pub heard_after : History → ℕ → List ℕ → Option Heard
  heard_after history number bytes = heard ports (ports_up ports history) (running history) number bytes

  -- what an event after a history means for the routes, and for the services
  abbrev pub route_facts_of : History → Event → List (Fact RouteOffer)
  route_facts_of history event =
      facts_of (ports_up ports history) (running history) (λ number bytes. routes_heard ports number (heard_after history number bytes)) event

  abbrev pub service_facts_of : History → Event → List (Fact ServiceOffer)
  service_facts_of history event =
      facts_of (ports_up ports history) (running history) (λ number bytes. services_heard number (heard_after history number bytes)) event

-- what events mean, one after the other, each after those before it
abbrev pub facts_from : {O : Type 0} → (History → Event → List (Fact O)) → History → List Event → List (Fact O)
facts_from says history [] = []
facts_from says history (event ∷ events) = says history event ++ facts_from says (history ++ event ∷ []) events

-- what a history means for the routes, and for the services
abbrev pub route_facts : List Port → History → List (Fact RouteOffer)
route_facts ports history = facts_from (route_facts_of ports) [] history

abbrev pub service_facts : List Port → History → List (Fact ServiceOffer)
service_facts ports history = facts_from (service_facts_of ports) [] history

-- ---- what is held

-- the routes that are alive after a history, by network, in a router with room for `capacity` of them
abbrev pub routes_held : List Port → ℕ → History → List (Held RouteOffer)
routes_held ports capacity history = held (route_rules ports capacity) (route_facts ports history)

-- the services that are alive after a history, by type and name
abbrev pub services_held : List Port → ℕ → History → List (Held ServiceOffer)
services_held ports capacity history = held (service_rules ports capacity) (service_facts ports history)

-- the offers of records
abbrev pub offers : {O : Type 0} → List (Held O) → List O
offers records = map (λ h. h.offer) records
