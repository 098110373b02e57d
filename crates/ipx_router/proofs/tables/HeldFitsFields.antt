-- What is held fits into the fields of a packet.
use Rattle.std.proofs.Common.{◌≡◌, refl, ℕ, List, [], ◌∷◌, Option, None, Some, IfSome, arith, rules}
use Rattle.std.specs.List.{AllByRecursion}
use Rattle.ipx_table.specs.Facts.{Offered}
use Rattle.ipx_wire.specs.Name.{IsServiceName}
use Rattle.ipx_wire.specs.Piece.{IsBytes}
use Rattle.ipx_wire.specs.Rip.{IsEntry}
use Rattle.ipx_wire.specs.declared.node.Node.{Node}
use Rattle.ipx_wire.specs.declared.rip.Operation.{Operation}
use Rattle.ipx_wire.specs.declared.rip.Operation.TheVariants.{Request, Response}
use Rattle.ipx_wire.specs.declared.rip.RipEntry.{RipEntry}
use Rattle.ipx_wire.specs.declared.sap.Sap.TheVariants.{Query, Response as SapResponse}
use Rattle.ipx_wire.specs.declared.sap_entries.SapEntry.{SapEntry}
use Rattle.ipx_router.specs.Facts.{routes_offered, routes_heard, routes_held, services_offered, services_heard, services_held, offers}
use Rattle.ipx_router.specs.Heard.{Heard, HeardRip, HeardSap}
use Rattle.ipx_router.specs.History.{History, IsOfBytes}
use Rattle.ipx_router.specs.Port.{Port}
use Rattle.ipx_router.specs.Told.{entry_of}
use Rattle.ipx_router.specs.declared.route_offer.RouteOffer.{RouteOffer}
use Rattle.ipx_router.specs.declared.service_offer.ServiceOffer.{ServiceOffer}
use Rattle.ipx_router.proofs.bytes.FieldsAreBytes.{IsTellable}
use Rattle.ipx_router.proofs.verdicts.HeardIsAsLayoutsAllow.{IsAdvertised, IsHeard, heard_is}
use Rattle.ipx_router.proofs.tables.HeldWasOffered.{all-append, OfferIs, routes_all, services_all}
use Rattle.ipx_router.proofs.bytes.LawsOfLayouts.{Readings}

-- a route's network, hops and ticks are such as an entry has
abbrev pub RouteFits : RouteOffer → Type 0
RouteFits route = IsEntry (entry_of route)

abbrev pub ServiceFits : ServiceOffer → Type 0
ServiceFits offer = IsTellable offer.service

-- ---- what is offered fits

routes_fit : (ports : List Port) (number : ℕ) (node : Node) (entries : List RipEntry) → AllByRecursion IsEntry entries
    → AllByRecursion (OfferIs RouteFits) (routes_offered ports number node entries)
routes_fit ports number node [] all = tt
routes_fit ports number node (entry ∷ entries) all = grind (arith, routes_fit ports number node entries all.1)

services_fit : (number : ℕ) (node : Node) (entries : List SapEntry) → AllByRecursion IsAdvertised entries
    → AllByRecursion (OfferIs ServiceFits) (services_offered number node entries)
services_fit number node [] all = tt
services_fit number node (entry ∷ entries) all =
    all-append (OfferIs ServiceFits) _ (services_offered number node entries) (one entry.name all.0.named all.0.of_bytes) (services_fit number node entries all.1)
  where
    one : (name : Option (List ℕ)) → IfSome name IsServiceName → IfSome name IsBytes → AllByRecursion (OfferIs ServiceFits) (elim name [
      | None ↦ []
      | Some name ↦ Offered (record {
        service = record { kind = entry.kind; name = name; address = entry.address; hops = entry.hops };
        port = number;
        node = node;
      }) ∷ []
    ])
    one None named bytes = tt
    one (Some name) named bytes = (
      record {
        ranges = record { kind = all.0.kind; named = named; address = all.0.address; hops = all.0.hops };
        name = bytes;
        node = all.0.node;
      },
      tt,
    )

-- ---- what is heard offers what fits

by_operation : (ports : List Port) (number : ℕ) (operation : Operation) (node : Node) (entries : List RipEntry) → AllByRecursion IsEntry entries
    → AllByRecursion (OfferIs RouteFits) (elim operation [ Response ↦ routes_offered ports number node entries | Request ↦ [] ])
by_operation ports number operation node entries all = grind (arith, routes_fit)

heard_routes : (ports : List Port) (number : ℕ) (o : Option Heard) → ((m : Heard) → o ≡ Some m → IsHeard m)
    → AllByRecursion (OfferIs RouteFits) (routes_heard ports number o)
heard_routes ports number None is = tt
heard_routes ports number (Some (HeardSap source sap)) is = tt
heard_routes ports number (Some (HeardRip source rip)) is = by_operation ports number rip.operation source.node rip.entries (is (HeardRip source rip) refl).said

heard_services : (number : ℕ) (o : Option Heard) → ((m : Heard) → o ≡ Some m → IsHeard m) → AllByRecursion (OfferIs ServiceFits) (services_heard number o)
heard_services number None is = tt
heard_services number (Some (HeardRip source rip)) is = tt
heard_services number (Some (HeardSap source (Query nearest kind))) is = tt
heard_services number (Some (HeardSap source (SapResponse nearest entries))) is =
    services_fit number source.node entries (is (HeardSap source (SapResponse nearest entries)) refl).said

-- ---- over histories

module _ (readings : Readings) (ports : List Port) where
  pub held_routes_fit : (capacity : ℕ) (history : History) → AllByRecursion IsOfBytes history
      → AllByRecursion RouteFits (offers (routes_held ports capacity history))
  held_routes_fit capacity history are = search (rules, routes_all, heard_routes, heard_is)

  pub held_services_fit : (capacity : ℕ) (history : History) → AllByRecursion IsOfBytes history
      → AllByRecursion ServiceFits (offers (services_held ports capacity history))
  held_services_fit capacity history are = search (rules, services_all, heard_services, heard_is)
