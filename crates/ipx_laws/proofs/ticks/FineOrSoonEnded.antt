-- What a router has and hears while anything happens: what is fine, or so old that it soon ends. What is sent takes `delay` seconds at most,
-- and whatever flew at first is over by `slack`; in ticks both are 0.
use Rattle.std.proofs.Common.{◌≡◌, ◌≢◌, refl, sym, subst, ◌⊎◌, ℕ, ◌+◌, ◌<◌, ◌≤◌, true, List, [], ◌∷◌, ◌++◌, map, Option, Some, None, IfSome, inl, arith, true≢false, rules}
use Rattle.std.specs.List.{AllByRecursion}
use Rattle.ipx_table.specs.Facts.{Fact}
use Rattle.ipx_wire.specs.declared.address.Address.{Address}
use Rattle.ipx_wire.specs.declared.network.Network.{Network}
use Rattle.ipx_wire.specs.declared.node.Node.{Node}
use Rattle.ipx_wire.specs.declared.rip.Operation.{Operation}
use Rattle.ipx_wire.specs.declared.rip.Operation.TheVariants.{Request, Response}
use Rattle.ipx_wire.specs.declared.rip.RipEntry.{RipEntry}
use Rattle.ipx_wire.specs.declared.sap.Sap.TheVariants.{Query, Response as SapResponse}
use Rattle.ipx_wire.specs.declared.sap_entries.SapEntry.{SapEntry}
use Rattle.ipx_wire.specs.declared.service.Service.{Service}
use Rattle.ipx_router.specs.Facts.{route_offer, routes_offered, routes_heard, services_heard, heard_after, route_facts, service_facts, route_facts_of, service_facts_of, routes_held, services_held, offers}
use Rattle.ipx_router.specs.Heard.{Heard, HeardRip, HeardSap}
use Rattle.ipx_router.specs.History.{Event, History, Packet, running, ports_up}
use Rattle.ipx_router.specs.Numbers.{unreachable, rip_socket, sap_socket}
use Rattle.ipx_router.specs.Port.{Port, is_up}
use Rattle.ipx_router.specs.Routes.{route_reading, network_order}
use Rattle.ipx_router.specs.Services.{service_reading, service_order}
use Rattle.ipx_router.specs.Told.{farther}
use Rattle.ipx_router.specs.declared.route_offer.RouteOffer.{RouteOffer}
use Rattle.ipx_router.specs.declared.service_offer.ServiceOffer.{ServiceOffer}
use Rattle.ipx_router.proofs.bounds.PacketsOfEachEvent.{network_total, service_total}
use Rattle.ipx_router.proofs.histories.OneEventMore.{none_up}
use Rattle.ipx_router.proofs.tables.OffersOfAMessage.{facts_from-more}
use Rattle.ipx_router.proofs.tables.HeldCameByPortsUp.{held_routes_up, held_services_up}
use Rattle.ipx_internet.proofs.lists.EachElement.{all_then}
use Rattle.ipx_internet.proofs.records.HeardChangesItsKeys.{service_offer, routes_are, services_are}
use Rattle.ipx_internet.proofs.records.KeptOrOffered.{OffersOf}
use Rattle.ipx_laws.specs.Announces.{service_of, IsAccepted}
use Rattle.ipx_laws.specs.Meanwhile.{message_of}
use Rattle.ipx_laws.proofs.packets.SentOnSaysTheSame.{heard_message}
use Rattle.ipx_laws.proofs.records.RecordsGrowOld.{IsWithin, Aged, IsOldOffer, passed, at_first, after_event}

-- nothing is there by a port of which there is none
none_by : {O : Type 0} (port_of : O → ℕ) (up : List ℕ) (xs : List O) → up ≡ [] → AllByRecursion (λ o. is_up up (port_of o) ≡ true) xs → AllByRecursion (λ o. ⊥) xs
none_by port_of up xs none all = all_then (λ o. is_up up (port_of o) ≡ true) (λ o. ⊥) (λ o on. by o on) xs all
  where
    by : (o : _) → is_up up (port_of o) ≡ true → ⊥
    by o on =
        let none_on : is_up [] (port_of o) ≡ true = subst (λ (us : List ℕ). is_up us (port_of o) ≡ true) none on in
        true≢false (sym none_on)

-- a service, as it was said with so many hops
abbrev pub said_with : ℕ → Service → Service
said_with hops s = record s { hops = hops }

module _ (IsFine : Network → Type 0) (IsServed : Service → Type 0) where
  -- a service is fine that is served so, or was nearer
  abbrev pub IsFineService : Service → Type 0
  IsFineService s = (hops : ℕ) × (hops ≤ s.hops) × IsServed (said_with hops s)

  -- one hop farther too
  pub farther_fine : (s : Service) → IsFineService s → IsFineService (farther s)
  farther_fine s fine = grind arith

module _ (delay slack : ℕ) (IsFine : Network → Type 0) (IsServed : Service → Type 0) where
  -- ---- what is said, when so many ticks have begun: of what is reached, what is fine, or was told soon enough

  abbrev pub IsSoon : ℕ → ℕ → Type 0
  IsSoon begun hops = IsWithin delay slack hops (delay + begun)

  abbrev pub RouteSaid : ℕ → RipEntry → Type 0
  RouteSaid begun e = e.hops < unreachable → IsFine e.network ⊎ IsSoon begun e.hops

  abbrev pub ServiceSaid : ℕ → Service → Type 0
  ServiceSaid begun s = s.hops < unreachable → IsFineService IsFine IsServed s ⊎ IsSoon begun s.hops

  abbrev pub EntrySaid : ℕ → SapEntry → Type 0
  EntrySaid begun e = e.hops < unreachable → (name : List ℕ) → e.name ≡ Some name → IsFineService IsFine IsServed (service_of e name) ⊎ IsSoon begun e.hops

  -- whatever may be said of networks, and of services, is such
  abbrev pub AnyRoute : ℕ → Type 0
  AnyRoute begun = (e : RipEntry) → RouteSaid begun e

  abbrev pub AnyService : ℕ → Type 0
  AnyService begun = (e : SapEntry) → EntrySaid begun e

  -- a request isn't answered to the process of SAP, nor a query to that of RIP, unless the answer does no harm there
  abbrev pub RipAsks : ℕ → Address → Operation → Type 0
  RipAsks begun source Response = Unit
  RipAsks begun source Request = (source.socket.0 ≢ sap_socket) ⊎ AnyService begun

  abbrev pub Asks : ℕ → Heard → Type 0
  Asks begun (HeardRip source rip) = RipAsks begun source rip.operation
  Asks begun (HeardSap source (Query nearest kind)) = (source.socket.0 ≢ rip_socket) ⊎ AnyRoute begun
  Asks begun (HeardSap source (SapResponse nearest entries)) = Unit

  -- and a response says such
  abbrev pub RipSaid : ℕ → Address → Operation → List RipEntry → Type 0
  RipSaid begun source Response entries = AllByRecursion (RouteSaid begun) entries
  RipSaid begun source Request entries = RipAsks begun source Request

  abbrev pub Said : ℕ → Heard → Type 0
  Said begun (HeardRip source rip) = RipSaid begun source rip.operation rip.entries
  Said begun (HeardSap source (Query nearest kind)) = Asks begun (HeardSap source (Query nearest kind))
  Said begun (HeardSap source (SapResponse nearest entries)) = AllByRecursion (EntrySaid begun) entries

  abbrev pub Tells : ℕ → List ℕ → Type 0
  Tells begun bytes = (m : Heard) → message_of bytes ≡ Some m → Said begun m

  rip_asks : (begun : ℕ) (source : Address) (operation : Operation) (entries : List RipEntry) → RipSaid begun source operation entries → RipAsks begun source operation
  rip_asks begun source Response entries said = tt
  rip_asks begun source Request entries said = said

  pub said_asks : (begun : ℕ) (m : Heard) → Said begun m → Asks begun m
  said_asks begun (HeardRip source rip) said = rip_asks begun source rip.operation rip.entries said
  said_asks begun (HeardSap source (Query nearest kind)) said = said
  said_asks begun (HeardSap source (SapResponse nearest entries)) said = tt

  module _ (ports : List Port) (most_routes most_services : ℕ) where
    -- a packet that comes tells of such, if the router hears it or sends it on
    abbrev pub EventTells : ℕ → History → Event → Type 0
    EventTells begun history (Packet number bytes) = IsAccepted ports most_routes most_services history number bytes → Tells begun bytes
    EventTells begun history event = Unit

    -- ---- what a router has that had so many seconds

    abbrev pub FineRoute : RouteOffer → Type 0
    FineRoute r = IsFine r.network

    abbrev pub FineService : ServiceOffer → Type 0
    FineService s = IsFineService IsFine IsServed s.service

    abbrev pub RoutesAged : ℕ → List (Fact RouteOffer) → Type 0
    RoutesAged = Aged route_reading network_order network_total most_routes (map (λ p. p.route_share) ports) (λ r. r.hops) (λ r. refl) delay slack FineRoute

    abbrev pub ServicesAged : ℕ → List (Fact ServiceOffer) → Type 0
    ServicesAged = Aged service_reading service_order service_total most_services (map (λ p. p.service_share) ports) (λ s. s.service.hops) (λ s. refl) delay slack FineService

    pub record Abides (had : ℕ) (history : History) : Type 0 where
      pub routes : RoutesAged had (route_facts ports history)
      pub services : ServicesAged had (service_facts ports history)

    pub abides_first : (history : History) → Abides 0 history
    abides_first history = search (rules, at_first, network_total, service_total)

    -- ---- what is heard

    module _ (had begun number : ℕ) (late : had ≤ delay + begun) where
      abbrev RouteOld : RouteOffer → Type 0
      RouteOld = IsOldOffer route_reading network_order network_total most_routes (map (λ p. p.route_share) ports) (λ r. r.hops) (λ r. refl) delay slack FineRoute had

      abbrev ServiceOld : ServiceOffer → Type 0
      ServiceOld =
          IsOldOffer service_reading service_order service_total most_services (map (λ p. p.service_share) ports) (λ s. s.service.hops) (λ s. refl) delay slack FineService had

      sooner : {A : Type 0} (hops : ℕ) → A ⊎ IsSoon begun hops → A ⊎ IsWithin delay slack hops had
      sooner hops given = grind arith

      route_old : (node : Node) (e : RipEntry) → RouteSaid begun e → RouteOld (route_offer number node e)
      route_old node e said near = sooner e.hops (said near)

      service_old : (node : Node) (e : SapEntry) (name : List ℕ) → e.name ≡ Some name → EntrySaid begun e → ServiceOld (service_offer number node e name)
      service_old node e name is said near = sooner e.hops (said near name is)

      by_operation : (source : Address) (operation : Operation) (entries : List RipEntry) → RipSaid begun source operation entries
          → AllByRecursion (OffersOf RouteOld) (elim operation [ Response ↦ routes_offered ports number source.node entries | Request ↦ [] ])
      by_operation source Response entries said =
          routes_are (RouteSaid begun) (EntrySaid begun) RouteOld ServiceOld number route_old service_old ports source.node entries said
      by_operation source Request entries said = tt

      heard_routes : (o : Option Heard) → IfSome o (Said begun) → AllByRecursion (OffersOf RouteOld) (routes_heard ports number o)
      heard_routes None said = tt
      heard_routes (Some (HeardSap source sap)) said = tt
      heard_routes (Some (HeardRip source rip)) said = by_operation source rip.operation rip.entries said

      heard_services : (o : Option Heard) → IfSome o (Said begun) → AllByRecursion (OffersOf ServiceOld) (services_heard number o)
      heard_services None said = tt
      heard_services (Some (HeardRip source rip)) said = tt
      heard_services (Some (HeardSap source (Query nearest kind))) said = tt
      heard_services (Some (HeardSap source (SapResponse nearest entries))) said =
          services_are (RouteSaid begun) (EntrySaid begun) RouteOld ServiceOld number route_old service_old source.node entries said

      -- what was heard was told
      pub heard_said : (history : History) (bytes : List ℕ) → (IsAccepted ports most_routes most_services history number bytes → Tells begun bytes)
          → IfSome (heard_after ports history number bytes) (Said begun)
      heard_said history bytes tells = by (heard_after ports history number bytes) (λ m e. tells (inl (m, e)) m (heard_message ports history number bytes m e))
        where
          by : (o : Option Heard) → ((m : Heard) → o ≡ Some m → Said begun m) → IfSome o (Said begun)
          by None each = tt
          by (Some m) each = each m refl

    -- ---- any event

    module _ (had begun : ℕ) (late : had ≤ delay + begun) (history : History) (event : Event) (tells : EventTells begun history event) (abides : Abides had history) where
      told : (number : ℕ) (bytes : List ℕ) → event ≡ Packet number bytes → IfSome (heard_after ports history number bytes) (Said begun)
      told number bytes same = heard_said had begun number late history bytes (subst (λ (x : Event). EventTells begun history x) same tells)

      pub event_abides : Abides (passed event had) (history ++ event ∷ [])
      event_abides =
          let up = ports_up ports history in
          let runs = running history in
          let routes = offers (routes_held ports most_routes history) in
          let services = offers (services_held ports most_services history) in
          record {
            routes =
                subst (λ (fs : List (Fact RouteOffer)). RoutesAged (passed event had) fs) (sym (facts_from-more (route_facts_of ports) [] history event))
                (after_event route_reading network_order network_total most_routes (map (λ p. p.route_share) ports) (λ r. r.hops) (λ r. refl) delay slack FineRoute
                had (route_facts ports history) abides.routes up runs (λ number bytes. routes_heard ports number (heard_after ports history number bytes)) event
                (λ stopped. none_by (λ r. r.port) up routes (none_up ports history stopped) (held_routes_up ports most_routes history))
                (λ number bytes same. heard_routes had begun number late (heard_after ports history number bytes) (told number bytes same)));
            services =
                subst (λ (fs : List (Fact ServiceOffer)). ServicesAged (passed event had) fs) (sym (facts_from-more (service_facts_of ports) [] history event))
                (after_event service_reading service_order service_total most_services (map (λ p. p.service_share) ports) (λ s. s.service.hops) (λ s. refl) delay slack FineService
                had (service_facts ports history) abides.services up runs (λ number bytes. services_heard number (heard_after ports history number bytes)) event
                (λ stopped. none_by (λ s. s.port) up services (none_up ports history stopped) (held_services_up ports most_services history))
                (λ number bytes same. heard_services had begun number late (heard_after ports history number bytes) (told number bytes same)));
          }
