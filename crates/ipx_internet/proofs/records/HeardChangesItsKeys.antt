-- What a packet leaves the tables with: each key has what it had, or an entry that was heard told of it.
use Rattle.std.proofs.Common.{◌≡◌, refl, ℕ, List, [], ◌∷◌, ◌++◌, Option, None, Some, IfSome, arith}
use Rattle.std.specs.List.{AllByRecursion}
use Rattle.ipx_table.specs.Facts.{Offered}
use Rattle.ipx_wire.specs.declared.network.Network.{Network}
use Rattle.ipx_wire.specs.declared.node.Node.{Node}
use Rattle.ipx_wire.specs.declared.rip.Operation.{Operation}
use Rattle.ipx_wire.specs.declared.rip.Operation.TheVariants.{Request, Response}
use Rattle.ipx_wire.specs.declared.rip.RipEntry.{RipEntry}
use Rattle.ipx_wire.specs.declared.sap.Sap.TheVariants.{Query, Response as SapResponse}
use Rattle.ipx_wire.specs.declared.sap_entries.SapEntry.{SapEntry}
use Rattle.ipx_router.specs.Facts.{route_offer, routes_offered, routes_heard, services_offered, services_heard, heard_after, routes_held, services_held, offers}
use Rattle.ipx_router.specs.Heard.{Heard, HeardRip, HeardSap}
use Rattle.ipx_router.specs.History.{History, Packet}
use Rattle.ipx_router.specs.Port.{Port}
use Rattle.ipx_router.specs.Routes.{route_reading, network_order}
use Rattle.ipx_router.specs.Services.{service_reading, service_order}
use Rattle.ipx_router.specs.inside.Touched.{offer_at}
use Rattle.ipx_router.specs.declared.route_offer.RouteOffer.{RouteOffer}
use Rattle.ipx_router.specs.declared.service_offer.ServiceOffer.{ServiceOffer}
use Rattle.ipx_router.proofs.bounds.PacketsOfEachEvent.{network_total, service_total}
use Rattle.ipx_router.proofs.tables.OffersOfAMessage.{facts_from-more}
use Rattle.ipx_internet.proofs.lists.EachElement.{all-append}
use Rattle.ipx_internet.proofs.records.KeptOrOffered.{OffersOf, Left, several}

-- the offer of an entry with that name
abbrev pub service_offer : ℕ → Node → SapEntry → List ℕ → ServiceOffer
service_offer number node e name = record {
  service = record { kind = e.kind; name = name; address = e.address; hops = e.hops };
  port = number;
  node = node;
}

-- all entries of what is heard are such; a request and a query have none that are told of
abbrev pub EachHeard : (RipEntry → Type 0) → (SapEntry → Type 0) → Heard → Type 0
EachHeard E S (HeardRip source rip) = AllByRecursion E rip.entries
EachHeard E S (HeardSap source (Query nearest kind)) = Unit
EachHeard E S (HeardSap source (SapResponse nearest entries)) = AllByRecursion S entries

module _ (E : RipEntry → Type 0) (S : SapEntry → Type 0) (P : RouteOffer → Type 0) (Q : ServiceOffer → Type 0) (number : ℕ)
    (route : (node : Node) (e : RipEntry) → E e → P (route_offer number node e))
    (service : (node : Node) (e : SapEntry) (name : List ℕ) → e.name ≡ Some name → S e → Q (service_offer number node e name)) where
  -- ---- what entries offer

  pub routes_are : (ports : List Port) (node : Node) (entries : List RipEntry) → AllByRecursion E entries
      → AllByRecursion (OffersOf P) (routes_offered ports number node entries)
  routes_are ports node [] all = tt
  routes_are ports node (e ∷ entries) all = grind (arith, routes_are ports node entries all.1)

  pub services_are : (node : Node) (entries : List SapEntry) → AllByRecursion S entries → AllByRecursion (OffersOf Q) (services_offered number node entries)
  services_are node [] all = tt
  services_are node (e ∷ entries) all =
      all-append (OffersOf Q) _ (services_offered number node entries) (by e.name (λ name is. service node e name is all.0)) (services_are node entries all.1)
    where
      by : (name : Option (List ℕ)) → ((given : List ℕ) → name ≡ Some given → Q (service_offer number node e given)) → AllByRecursion (OffersOf Q) (elim name [
        | None ↦ []
        | Some name ↦ Offered (service_offer number node e name) ∷ []
      ])
      by None step = tt
      by (Some name) step = (step name refl, tt)

  -- ---- what is heard offers

  by_operation : (ports : List Port) (node : Node) (operation : Operation) (entries : List RipEntry) → AllByRecursion E entries
      → AllByRecursion (OffersOf P) (elim operation [ Response ↦ routes_offered ports number node entries | Request ↦ [] ])
  by_operation ports node operation entries all = grind (arith, routes_are)

  pub heard_routes : (ports : List Port) (o : Option Heard) → IfSome o (EachHeard E S) → AllByRecursion (OffersOf P) (routes_heard ports number o)
  heard_routes ports None all = tt
  heard_routes ports (Some (HeardSap source sap)) all = tt
  heard_routes ports (Some (HeardRip source rip)) all = by_operation ports source.node rip.operation rip.entries all

  pub heard_services : (o : Option Heard) → IfSome o (EachHeard E S) → AllByRecursion (OffersOf Q) (services_heard number o)
  heard_services o all = grind (arith, services_are)

  -- ---- over a history

  module _ (ports : List Port) (history : History) (bytes : List ℕ) (all : IfSome (heard_after ports history number bytes) (EachHeard E S)) (capacity : ℕ) where
    pub routes_left : (key : Network)
        → Left route_reading network_order P key (offer_at route_reading.key network_order key (offers (routes_held ports capacity history)))
        (offer_at route_reading.key network_order key (offers (routes_held ports capacity (history ++ Packet number bytes ∷ []))))
    routes_left key = grind (arith, Left, facts_from-more, several, network_total, heard_routes)

    pub services_left : (key : ℕ × List ℕ)
        → Left service_reading service_order Q key (offer_at service_reading.key service_order key (offers (services_held ports capacity history)))
        (offer_at service_reading.key service_order key (offers (services_held ports capacity (history ++ Packet number bytes ∷ []))))
    services_left key = grind (arith, Left, facts_from-more, several, service_total, heard_services)
