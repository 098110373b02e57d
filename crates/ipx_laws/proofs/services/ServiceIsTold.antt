-- A router tells on a port, in each periodic broadcast, each service that it has and didn't learn there; and what it tells waits for its neighbours.
use Rattle.std.proofs.Common.{◌≡◌, ◌≢◌, refl, sym, ap, ap₂, subst, ℕ, Bool, true, false, if◌then◌else◌, List, [], ◌∷◌, ◌++◌, map, filter, flat_map, arith, rules}
use Rattle.std.specs.List.{AllByRecursion}
use Rattle.ipx_wire.specs.declared.node.Node.{Node}
use Rattle.ipx_wire.specs.declared.service.Service.{Service}
use Rattle.ipx_router.specs.Facts.{services_held, offers}
use Rattle.ipx_router.specs.History.{History, Second, IsOfBytes, running}
use Rattle.ipx_router.specs.News.{news_services}
use Rattle.ipx_router.specs.Numbers.{services_a_page}
use Rattle.ipx_router.specs.Pages.{pages}
use Rattle.ipx_router.specs.Port.{Port, IsPort, broadcast, port_at, own_services, every_server}
use Rattle.ipx_router.specs.Relays.{Sent}
use Rattle.ipx_router.specs.Sends.{Holding, holding, is_periodic, second_on, sap_broadcast, services_sent}
use Rattle.ipx_router.specs.Told.{name_before, farther, is_service_told, told_services}
use Rattle.ipx_router.specs.declared.service_offer.ServiceOffer.{ServiceOffer}
use Rattle.ipx_router.proofs.bytes.FieldsAreBytes.{IsTellable}
use Rattle.ipx_router.proofs.bytes.LawsOfLayouts.{Readings, Rereadings}
use Rattle.ipx_router.proofs.changes.ChangesFitFields.{news_services_fit}
use Rattle.ipx_router.proofs.lists.EachElement.{all_sorted}
use Rattle.ipx_router.proofs.lists.ItemsOfPages.{IsPage, all_pages}
use Rattle.ipx_router.proofs.port_values.PortOfEachNumber.{port-all}
use Rattle.ipx_router.proofs.tables.HeldFitsFields.{held_services_fit}
use Rattle.ipx_router.proofs.telling.ToldFitsFields.{told_services_fit}
use Rattle.ipx_internet.specs.Delivery.{receives, delivered}
use Rattle.ipx_internet.specs.Internet.{Internet, Place, IsInternet, IsPlace, ports_of, port_of, network_of, places}
use Rattle.ipx_internet.specs.Queue.{Delivery, deliveries_of, history_of, sends_at}
use Rattle.ipx_internet.specs.Run.{AreHistories}
use Rattle.ipx_internet.proofs.lists.EachElement.{all_of, all_then, all-append}
use Rattle.ipx_internet.proofs.packets.PagesReadAgain.{IsSapPage, Tellable, every_server_is, sap_again}
use Rattle.ipx_internet.proofs.packets.SentOnOrReply.{Layouts}
use Rattle.ipx_internet.proofs.places.OneReceiverOfANode.{ports_at}
use Rattle.ipx_laws.proofs.lists.SomeElement.{AnyIs, any_and_all, any_in_front, any_behind, any-map, any-filter, any-flat_map, any-sorted}
use Rattle.ipx_laws.proofs.tables.LeastWays.{all_places}
use Rattle.ipx_laws.proofs.tables.SaysItsLeastWay.{any-pages}

-- all services
abbrev pub AnyService : Service → Type 0
AnyService s = Unit {0}

-- what a router has, but didn't learn on a port, is among what it tells there
pub told_there : (services : List ServiceOffer) (j : ℕ) (s : Service) → AnyIs (λ o. (o.service ≡ s) × (is_service_told j o ≡ true)) services
    → AnyIs (λ t. t ≡ farther s) (told_services services j)
told_there services j s any =
    any-sorted (λ t. t ≡ farther s) name_before (map (λ o. farther o.service) (filter (is_service_told j) services))
    (any-map (λ o. (o.service ≡ s) × (is_service_told j o ≡ true)) (λ t. t ≡ farther s) (λ o. farther o.service) (λ o is. ap farther is.0)
    (filter (is_service_told j) services)
    (any-filter (λ o. (o.service ≡ s) × (is_service_told j o ≡ true)) (is_service_told j) (λ o is. is.1) services any))

-- ---- a periodic broadcast has it

module _ (ports : List Port) (Is : Service → Type 0) where
  -- a packet that names such a service leaves on a port, to all
  pub record TellsService (j : ℕ) (sent : Sent) : Type 0 where
    pub port : sent.port ≡ j
    pub link : sent.link ≡ broadcast
    pub page : IsSapPage AnyService (own_services (port_at ports j)) (every_server (port_at ports j)) false sent.bytes
    pub has : AnyIs Is page.page

  module _ (readings : Readings) (again : Rereadings) (j : ℕ) (is_port : IsPort (port_at ports j)) where
    sap_tells : (services : List Service) → AllByRecursion IsTellable services → AnyIs Is services → AnyIs (TellsService j) (sap_broadcast ports j services)
    sap_tells services all any =
        any-map (λ page. AnyIs Is page × IsPage services_a_page (Tellable AnyService) page) (TellsService j)
        (services_sent ports j (every_server (port_at ports j)) false)
        (λ page both.
        let read = sap_again readings again ports j is_port AnyService (every_server (port_at ports j)) (every_server_is (port_at ports j) is_port) false page both.1 in
        record {
          port = refl;
          link = refl;
          page = record { page = page; some = both.1.some; each = all_of AnyService (λ t. tt) page; read = read.0; says = read.1 };
          has = both.0;
        })
        (pages services_a_page services)
        (any_and_all (λ page. AnyIs Is page) (IsPage services_a_page (Tellable AnyService)) (pages services_a_page services) (any-pages Is services_a_page services any)
        (all_pages (Tellable AnyService) services_a_page (omega arith) services (all_then IsTellable (Tellable AnyService) (λ t is. (is, tt)) services all)))

    module _ (before after : Holding) (on : AnyIs (λ k. k ≡ j) after.up) (fit : AllByRecursion IsTellable (told_services after.services j))
        (changed : AllByRecursion IsTellable (news_services before.services after.services j)) (any : AnyIs Is (told_services after.services j)) where
      here_tells : AnyIs (TellsService j) (second_on ports before after true j)
      here_tells = grind (arith, any_behind, sap_tells, all_sorted, IsTellable, all-append, any-sorted, any_in_front)

      pub second_tells : AnyIs (TellsService j) (flat_map (second_on ports before after true) after.up)
      second_tells =
          any-flat_map (λ k. k ≡ j) (TellsService j) (second_on ports before after true)
          (λ k same. subst (λ (i : ℕ). AnyIs (TellsService j) (second_on ports before after true i)) (sym same) here_tells) after.up on

-- ---- in an internet

module _ (net : Internet) (from here : Place) (Is : Service → Type 0) where
  -- a delivery for a port names such a service, from another port
  pub record NamesTo (d : Delivery) : Type 0 where
    pub to : d.to ≡ here
    pub page : IsSapPage AnyService (own_services (port_of net from)) (every_server (port_of net from)) false d.bytes
    pub has : AnyIs Is page.page

  module _ (other : here.router ≢ from.router) (there : IsPlace net here) (network : network_of net here ≡ network_of net from) where
    received : (link : Node) → link ≡ broadcast → receives net from link here ≡ true
    received link all = grind arith

    -- what is told there to all waits for that port
    waits_of_one : (sent : Sent) → TellsService (ports_of net from.router) Is from.port sent → AnyIs NamesTo (deliveries_of net from.router sent)
    waits_of_one sent tells =
        let at_port : Place = record { router = from.router; port = sent.port } in
        let is_from : at_port ≡ from = ap (λ k. record { router = from.router; port = k }) tells.port in
        any-map (λ p. p ≡ here) NamesTo (λ to. record { to = to; bytes = sent.bytes }) (λ p same. record { to = same; page = tells.page; has = tells.has })
        (delivered net at_port sent.link)
        (any-filter (λ p. p ≡ here) (receives net at_port sent.link)
        (λ p same. subst (λ (q : Place). receives net at_port sent.link q ≡ true) (sym same)
        (subst (λ (g : Place). receives net g sent.link here ≡ true) (sym is_from) (received sent.link tells.link)))
        (places net) (all_places net here there))

    pub waits_for : (sents : List Sent) → AnyIs (TellsService (ports_of net from.router) Is from.port) sents → AnyIs NamesTo (flat_map (deliveries_of net from.router) sents)
    waits_for sents any = search (rules, any-flat_map, waits_of_one)

-- what a router sends at a periodic second
module _ (net : Internet) (laws : Layouts) (is : IsInternet net) (most_routes most_services : ℕ) (histories : List History) (are : AreHistories net histories)
    (from : Place) (there : IsPlace net from) (Is : Service → Type 0) where
  abbrev ports : List Port
  ports = ports_of net from.router

  abbrev past : History
  past = history_of histories from.router

  abbrev now : History
  now = past ++ Second ∷ []

  abbrev bef : Holding
  bef = holding ports most_routes most_services past

  abbrev aft : Holding
  aft = holding ports most_routes most_services now

  pub second_says : running past ≡ true → is_periodic past ≡ true → AnyIs (λ k. k ≡ from.port) aft.up
      → AnyIs Is (told_services (offers (services_held ports most_services now)) from.port)
      → AnyIs (TellsService ports Is from.port) (sends_at net most_routes most_services histories from.router Second)
  second_says runs periodic on any =
      let still = all-append IsOfBytes past (Second ∷ []) (are.of_bytes from.router) (tt, tt) in
      let fit = held_services_fit laws.readings ports most_services now still in
      let same : sends_at net most_routes most_services histories from.router Second ≡ flat_map (second_on ports bef aft true) aft.up =
      ap₂ (λ (r p : Bool). if r then flat_map (second_on ports bef aft p) aft.up else []) runs periodic in
      subst (λ (ss : List Sent). AnyIs (TellsService ports Is from.port) ss) (sym same)
      (second_tells ports Is laws.readings laws.again from.port (port-all IsPort ports from.port (ports_at net is from.router) there) bef aft on
      (told_services_fit aft.services from.port fit)
      (news_services_fit bef.services aft.services from.port (held_services_fit laws.readings ports most_services past (are.of_bytes from.router)) fit) any)
