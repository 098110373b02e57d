-- What a history offers came by the ports on which its packets came, and these share the tables if their shares fit.
use Rattle.std.proofs.Common.{◌≡◌, refl, sym, ap, ◌∙◌, subst, append_assoc, ℕ, zero, suc, ◌+◌, ◌≤◌, ◌==◌, true, List, [], ◌∷◌, ◌++◌, map, length, Option, None, Some, arith}
use Rattle.std.specs.List.{AllByRecursion, list_any, sum, sum_by}
use Rattle.std.proofs.lemmas.List.{length-map}
use Rattle.std.proofs.lemmas.List.Sums.{sum_by-cons, sum_by_push}
use Rattle.ipx_table.specs.Facts.{Fact, Offered}
use Rattle.ipx_table.specs.Reading.{Rules, share_of}
use Rattle.ipx_table.specs.Shares.{IsByOneOf, IsSharedBy}
use Rattle.ipx_wire.specs.declared.node.Node.{Node}
use Rattle.ipx_wire.specs.declared.rip.Operation.{Operation}
use Rattle.ipx_wire.specs.declared.rip.Operation.TheVariants.{Request, Response}
use Rattle.ipx_wire.specs.declared.rip.RipEntry.{RipEntry}
use Rattle.ipx_wire.specs.declared.sap_entries.SapEntry.{SapEntry}
use Rattle.ipx_router.specs.Facts.{heard_after, route_facts, routes_offered, routes_heard, service_facts, services_offered, services_heard}
use Rattle.ipx_router.specs.Heard.{Heard, HeardRip, HeardSap}
use Rattle.ipx_router.specs.History.{Event, History, Start, Stop, Second, Packet, PortDown, PortUp, IsOnPort}
use Rattle.ipx_router.specs.Port.{Port, numbers}
use Rattle.ipx_router.specs.Routes.{route_rules}
use Rattle.ipx_router.specs.Services.{service_rules}
use Rattle.ipx_router.specs.Shares.{ShareOut, CameOnOneOf}
use Rattle.ipx_router.specs.declared.route_offer.RouteOffer.{RouteOffer}
use Rattle.ipx_router.specs.declared.service_offer.ServiceOffer.{ServiceOffer}
use Rattle.ipx_router.proofs.lists.EachElement.{all_then, all_before}
use Rattle.ipx_router.proofs.histories.OneEventMore.{among}
use Rattle.ipx_router.proofs.tables.HeldWasOffered.{OfferIs, history_all, routes_after, services_after}

by_ports : {O : Type 0} (port_by : O → ℕ) (sharers : List ℕ) (facts : List (Fact O))
    → AllByRecursion (OfferIs (λ o. list_any (λ port. port == port_by o) sharers ≡ true)) facts → AllByRecursion (IsByOneOf port_by sharers) facts
by_ports port_by sharers facts all = grind arith

module _ (ports : List Port) (sharers : List ℕ) (number : ℕ) (within : list_any (λ port. port == number) sharers ≡ true) where
  abbrev OfRoute : Fact RouteOffer → Type 0
  OfRoute = OfferIs (λ (r : RouteOffer). list_any (λ port. port == r.port) sharers ≡ true)

  abbrev OfService : Fact ServiceOffer → Type 0
  OfService = OfferIs (λ (s : ServiceOffer). list_any (λ port. port == s.port) sharers ≡ true)

  routes_within : (node : Node) (entries : List RipEntry) → AllByRecursion OfRoute (routes_offered ports number node entries)
  routes_within node [] = tt
  routes_within node (entry ∷ entries) = grind (arith, routes_within node entries)

  operation_within : (operation : Operation) (node : Node) (entries : List RipEntry)
      → AllByRecursion OfRoute (elim operation [ Response ↦ routes_offered ports number node entries | Request ↦ [] ])
  operation_within operation node entries = grind (arith, routes_within)

  heard_within : (o : Option Heard) → AllByRecursion OfRoute (routes_heard ports number o)
  heard_within None = tt
  heard_within (Some (HeardSap source sap)) = tt
  heard_within (Some (HeardRip source rip)) = operation_within rip.operation source.node rip.entries

  one_within : (node : Node) (entry : SapEntry) (rest : List (Fact ServiceOffer)) (name : Option (List ℕ)) → AllByRecursion OfService rest
      → AllByRecursion OfService (elim name [
        | None ↦ []
        | Some name ↦ Offered (record {
          service = record { kind = entry.kind; name = name; address = entry.address; hops = entry.hops };
          port = number;
          node = node;
        }) ∷ []
      ] ++ rest)
  one_within node entry rest name all = grind arith

  services_within : (node : Node) (entries : List SapEntry) → AllByRecursion OfService (services_offered number node entries)
  services_within node [] = tt
  services_within node (entry ∷ entries) = one_within node entry (services_offered number node entries) entry.name (services_within node entries)

  sap_within : (o : Option Heard) → AllByRecursion OfService (services_heard number o)
  sap_within o = grind (arith, services_within)

pub routes_shared : (ports : List Port) (capacity : ℕ) (sharers : List ℕ) (history : History) → AllByRecursion (CameOnOneOf sharers) history
    → sum_by (route_rules ports capacity).share sharers ≤ capacity → IsSharedBy (route_rules ports capacity) sharers (route_facts ports history)
routes_shared ports capacity sharers history on fit = record {
  came = by_ports (λ (r : RouteOffer). r.port) sharers (route_facts ports history)
      (history_all (λ (r : RouteOffer). list_any (λ port. port == r.port) sharers ≡ true) (CameOnOneOf sharers) ports (routes_after ports)
      (λ before number bytes within. heard_within ports sharers number within (heard_after ports before number bytes)) [] history on);
  fit = fit;
}

pub services_shared : (ports : List Port) (capacity : ℕ) (sharers : List ℕ) (history : History) → AllByRecursion (CameOnOneOf sharers) history
    → sum_by (service_rules ports capacity).share sharers ≤ capacity → IsSharedBy (service_rules ports capacity) sharers (service_facts ports history)
services_shared ports capacity sharers history on fit = record {
  came = by_ports (λ (s : ServiceOffer). s.port) sharers (service_facts ports history)
      (history_all (λ (s : ServiceOffer). list_any (λ port. port == s.port) sharers ≡ true) (CameOnOneOf sharers) ports (services_after ports)
      (λ before number bytes within. sap_within ports sharers number within (heard_after ports before number bytes)) [] history on);
  fit = fit;
}

-- ---- all ports

-- a packet on a port that there is came on one of all ports
pub came_on_one : (ports : List Port) (history : History) → AllByRecursion (IsOnPort ports) history → AllByRecursion (CameOnOneOf (numbers (length ports))) history
came_on_one ports history on = all_then (IsOnPort ports) (CameOnOneOf (numbers (length ports))) one history on
  where
    one : (event : Event) → IsOnPort ports event → CameOnOneOf (numbers (length ports)) event
    one Start is = tt
    one Stop is = tt
    one Second is = tt
    one (Packet number bytes) is = among (length ports) number is
    one (PortDown number) is = tt
    one (PortUp number) is = tt

first_apart : (f : ℕ → ℕ) (n : ℕ) → sum_by f (numbers (suc n)) ≡ f 0 + sum_by (λ k. f (suc k)) (numbers n)
first_apart f zero = let one = sum_by-cons f 0 [] in omega (arith, one)
first_apart f (suc n) = omega (arith, first_apart f n, sum_by_push)

-- the shares of all ports, by their numbers
sum_shares : (capacity : ℕ) (shares : List ℕ) → sum_by (share_of capacity shares) (numbers (length shares)) ≡ sum shares
sum_shares capacity [] = refl
sum_shares capacity (share ∷ shares) = omega (arith, sum_shares capacity shares, first_apart, sum_by-cons)

pub all_shares : (share : Port → ℕ) (ports : List Port) (capacity : ℕ) → ShareOut share ports capacity
    → sum_by (share_of capacity (map share ports)) (numbers (length ports)) ≤ capacity
all_shares share ports capacity fits = grind (arith, length-map, sum_shares)

-- ---- up to a place of an event

-- ports that share a table after an event share it up to an offer of the event
pub shared_before : {O : Type 0} (rules : Rules O) (sharers : List ℕ) (all facts offered first : List (Fact O)) (offer : O) (rest : List (Fact O))
    → all ≡ facts ++ offered → offered ≡ first ++ Offered offer ∷ rest → IsSharedBy rules sharers all → IsSharedBy rules sharers (facts ++ first ++ Offered offer ∷ [])
shared_before {O} rules sharers all facts offered first offer rest whole is shared =
    let split : all ≡ facts ++ first ++ Offered offer ∷ [] ++ rest =
    whole ∙ ap (λ (fs : List (Fact O)). facts ++ fs) is ∙ sym (append_assoc facts first (Offered offer ∷ rest)) ∙ sym (append_assoc (facts ++ first) (Offered offer ∷ []) rest) in
    record {
      came = all_before (IsByOneOf rules.port sharers) (facts ++ first ++ Offered offer ∷ []) rest
          (subst (λ (fs : List (Fact O)). AllByRecursion (IsByOneOf rules.port sharers) fs) split shared.came);
      fit = shared.fit;
    }
