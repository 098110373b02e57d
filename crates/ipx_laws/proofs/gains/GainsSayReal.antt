-- What a router sends where it starts, where a port of it comes up and where a packet of another router comes says what is of real ways.
use Rattle.std.proofs.Common.{◌≡◌, ◌≢◌, refl, sym, subst, ℕ, ◌<◌, ◌==◌, if◌then◌else◌, Bool, true, false, List, [], ◌∷◌, ◌++◌, length, flat_map, inl, inr, arith, rules}
use Rattle.std.specs.List.{AllByRecursion}
use Rattle.std.proofs.lemmas.Bool.{cases_Bool, eqb-false, eqb-true}
use Rattle.ipx_wire.specs.Rip.{IsEntry}
use Rattle.ipx_wire.specs.declared.address.Address.{Address}
use Rattle.ipx_wire.specs.declared.rip.Operation.{Operation}
use Rattle.ipx_wire.specs.declared.rip.Operation.TheVariants.{Request, Response}
use Rattle.ipx_wire.specs.declared.rip.RipEntry.{RipEntry}
use Rattle.ipx_wire.specs.declared.sap.Sap.TheVariants.{Query, Response as SapResponse}
use Rattle.ipx_wire.specs.declared.service.Service.{Service}
use Rattle.ipx_router.specs.Facts.{routes_held, offers}
use Rattle.ipx_router.specs.Heard.{Heard, HeardRip, HeardSap}
use Rattle.ipx_router.specs.History.{Event, History, IsOfBytes, ports_up}
use Rattle.ipx_router.specs.News.{news, news_services}
use Rattle.ipx_router.specs.Numbers.{rip_socket}
use Rattle.ipx_router.specs.Port.{Port, IsPort, port_at, is_up, everyone, own_address, own_services, reply_to}
use Rattle.ipx_router.specs.Relays.{Sent}
use Rattle.ipx_router.specs.Sends.{Holding, holding, rip_sends, sap_sends, rip_broadcast, sap_broadcast, broadcasts, routes_request, services_query, introduction, port_up_on, news_on, heard_sends, asked, of_kind, nearest_of}
use Rattle.ipx_router.specs.Told.{told, told_services, told_at, direct_entry, entry_of, dead}
use Rattle.ipx_router.specs.declared.route_offer.RouteOffer.{RouteOffer}
use Rattle.ipx_router.specs.declared.service_offer.ServiceOffer.{ServiceOffer}
use Rattle.ipx_router.proofs.bytes.FieldsAreBytes.{IsPlace as IsPlaced, IsTellable}
use Rattle.ipx_router.proofs.changes.ChangesFitFields.{news_fit, news_services_fit}
use Rattle.ipx_router.proofs.lists.EachElement.{all_both}
use Rattle.ipx_router.proofs.port_values.PortOfEachNumber.{port-all, ports_up-within, members, one_up}
use Rattle.ipx_router.proofs.sending.OwnPacketsAreValid.{Writable, reply_is}
use Rattle.ipx_router.proofs.tables.HeldFitsFields.{RouteFits, ServiceFits, held_routes_fit, held_services_fit}
use Rattle.ipx_router.proofs.tables.HeldWasOffered.{source_of}
use Rattle.ipx_router.proofs.telling.ToldFitsFields.{told_fits, told_services_fit, told_at_fits, direct_fits}
use Rattle.ipx_internet.specs.Internet.{Internet, Place, IsInternet, ports_of}
use Rattle.ipx_internet.proofs.lists.EachElement.{all_then, all-append, all-filter, all-flat_map}
use Rattle.ipx_internet.proofs.packets.AdvertisedIsHeld.{told_all, news_told}
use Rattle.ipx_internet.proofs.packets.NearestIsOneOfThem.{either, nearest_all}
use Rattle.ipx_internet.proofs.packets.PagesReadAgain.{IsRipPage, IsSapPage, Tellable, everyone_is, every_server_is, rip_pages, sap_pages}
use Rattle.ipx_internet.proofs.packets.SentOnOrReply.{Layouts}
use Rattle.ipx_internet.proofs.places.OneReceiverOfANode.{ports_at}
use Rattle.ipx_laws.specs.Real.{IsReal, next, farther}
use Rattle.ipx_laws.proofs.gains.OwnPacketsSayReal.{AnyService, RealSaid, FineHeard, IsOwn, rip_page_own, sap_page_own, request_own, query_own}

module _ (net : Internet) (laws : Layouts) (is : IsInternet net) (up : ℕ → List ℕ) (most_routes most_services router : ℕ) where
  abbrev ports : List Port
  ports = ports_of net router

  abbrev place : ℕ → Place
  place j = record { router = router; port = j }

  -- it leaves on a port that is up, and is such
  abbrev pub IsSaid : Sent → Type 0
  IsSaid s = IsOwn net up (place s.port) s.bytes × (is_up (up router) s.port ≡ true)

  is_port : (j : ℕ) → j < length ports → IsPort (port_at ports j)
  is_port j there = port-all IsPort ports j (ports_at net is router) there

  -- ---- pages

  module _ (j : ℕ) (there : j < length ports) (on : is_up (up router) j ≡ true) where
    moved : (P : ℕ → Sent → Type 0) (s : Sent) → s.port ≡ j → P j s → P s.port s
    moved P s same is_so = subst (λ (k : ℕ). P k s) (sym same) is_so

    abbrev At : ℕ → Sent → Type 0
    At k s = IsOwn net up (place k) s.bytes × (is_up (up router) k ≡ true)

    entries_said : (to : Address) → IsPlaced to → to.network ≡ (port_at ports j).network → (entries : List RipEntry)
        → AllByRecursion (Writable (RealSaid net up (place j))) entries → AllByRecursion IsSaid (rip_sends ports j to Response entries)
    entries_said to to_is home entries written =
        all_then (λ s. IsRipPage (RealSaid net up (place j)) (own_address (port_at ports j)) to s.bytes × (s.port ≡ j)) IsSaid
        (λ s page. moved At s page.1 (rip_page_own net up (place j) to s.bytes home page.0, on)) (rip_sends ports j to Response entries)
        (rip_pages laws.readings laws.again ports j (is_port j there) (RealSaid net up (place j)) to to_is entries written)

    services_said : (to : Address) → IsPlaced to → to.network ≡ (port_at ports j).network → to.socket.0 ≢ rip_socket → (nearest : Bool) (services : List Service)
        → AllByRecursion IsTellable services → AllByRecursion IsSaid (sap_sends ports j to nearest services)
    services_said to to_is home apart nearest services tellable =
        all_then (λ s. IsSapPage AnyService (own_services (port_at ports j)) to nearest s.bytes × (s.port ≡ j)) IsSaid
        (λ s page. moved At s page.1 (sap_page_own net up (place j) to nearest s.bytes home apart page.0, on)) (sap_sends ports j to nearest services)
        (sap_pages laws.readings laws.again ports j (is_port j there) AnyService to to_is nearest services
        (all_then IsTellable (Tellable AnyService) (λ s fits. (fits, tt)) services tellable))

    rip_said : (entries : List RipEntry) → AllByRecursion (Writable (RealSaid net up (place j))) entries → AllByRecursion IsSaid (rip_broadcast ports j entries)
    rip_said entries written = entries_said (everyone (port_at ports j)) (everyone_is (port_at ports j) (is_port j there)) refl entries written

    sap_said : (services : List Service) → AllByRecursion IsTellable services → AllByRecursion IsSaid (sap_broadcast ports j services)
    sap_said services tellable = grind (arith, services_said, every_server_is, is_port)

    both_said : (entries : List RipEntry) (services : List Service) → AllByRecursion (Writable (RealSaid net up (place j))) entries
        → AllByRecursion IsTellable services → AllByRecursion IsSaid (broadcasts ports j entries services)
    both_said entries services written tellable = grind (arith, all-append, rip_said, sap_said)

    request_said : AllByRecursion IsSaid (routes_request ports j)
    request_said = ((request_own net up (place j) laws (is_port j there), on), tt)

    query_said : AllByRecursion IsSaid (services_query ports j)
    query_said = ((query_own net up (place j) laws (is_port j there), on), tt)

  -- ---- entries, where those ports are up now and such routes are held

  module _ (now : List ℕ) (more : (j : ℕ) → is_up now j ≡ true → is_up (up router) j ≡ true) where
    beside : (j other : ℕ) → is_up now other ≡ true → (other == j) ≡ false
        → RealSaid net up (place j) (told_at (port_at ports j).cost (direct_entry ports other))
    beside j other on apart near to reaches hears =
        next (place j) other (more other on) (eqb-false other j apart)
        (record { other = reaches.other; here = hears.up_here; there = reaches.on; network = reaches.network; wanted = hears.wanted; offer = refl })

    route : (j : ℕ) (r : RouteOffer) → IsReal net up router r → (r.port == j) ≡ false → RealSaid net up (place j) (told_at (port_at ports j).cost (entry_of r))
    route j r real apart near to reaches hears =
        farther (place j) r (eqb-false r.port j apart)
        (record { other = reaches.other; here = hears.up_here; there = reaches.on; network = reaches.network; wanted = hears.wanted; offer = refl }) near real

    ended : (j : ℕ) (e : RipEntry) → RealSaid net up (place j) (dead e)
    ended j e near = absurd (omega (arith, near))

    told_real : (routes : List RouteOffer) → AllByRecursion (IsReal net up router) routes → (j : ℕ) → AllByRecursion (RealSaid net up (place j)) (told ports now routes j)
    told_real routes all j = told_all ports now (λ k. RealSaid net up (place k)) (IsReal net up router) beside route ended routes all j

    news_real : (before after : List RouteOffer) → AllByRecursion (IsReal net up router) after → (j : ℕ)
        → AllByRecursion (RealSaid net up (place j)) (news ports before after j)
    news_real before after all j = news_told ports now (λ k. RealSaid net up (place k)) (IsReal net up router) beside route ended before after all j

  -- ---- an event after a history

  module _ (history : History) (of_bytes : AllByRecursion IsOfBytes history) (event : Event) (event_bytes : IsOfBytes event)
      (more : (j : ℕ) → is_up (ports_up ports history) j ≡ true → is_up (up router) j ≡ true)
      (more_now : (j : ℕ) → is_up (ports_up ports (history ++ event ∷ [])) j ≡ true → is_up (up router) j ≡ true)
      (real : AllByRecursion (IsReal net up router) (offers (routes_held ports most_routes history)))
      (real_now : AllByRecursion (IsReal net up router) (offers (routes_held ports most_routes (history ++ event ∷ [])))) where
    abbrev before : Holding
    before = holding ports most_routes most_services history

    abbrev after : Holding
    after = holding ports most_routes most_services (history ++ event ∷ [])

    still : AllByRecursion IsOfBytes (history ++ event ∷ [])
    still = all-append IsOfBytes history (event ∷ []) of_bytes (event_bytes, tt)

    ups : AllByRecursion (λ j. j < length ports) before.up
    ups = ports_up-within ports history

    ups_now : AllByRecursion (λ j. j < length ports) after.up
    ups_now = ports_up-within ports (history ++ event ∷ [])

    there : (j : ℕ) → is_up after.up j ≡ true → j < length ports
    there j on = one_up (λ k. k < length ports) after.up j ups_now on

    fit : AllByRecursion RouteFits before.routes
    fit = held_routes_fit laws.readings ports most_routes history of_bytes

    fit_now : AllByRecursion RouteFits after.routes
    fit_now = held_routes_fit laws.readings ports most_routes (history ++ event ∷ []) still

    each_port : (f : ℕ → List Sent) → ((j : ℕ) → is_up after.up j ≡ true → AllByRecursion IsSaid (f j)) → AllByRecursion IsSaid (flat_map f after.up)
    each_port f step = all-flat_map (λ j. is_up after.up j ≡ true) IsSaid f step after.up (members after.up)

    pub introduces : (routes : List RouteOffer) (services : List ServiceOffer) → AllByRecursion RouteFits routes → AllByRecursion ServiceFits services
        → AllByRecursion (IsReal net up router) routes → (j : ℕ) → is_up after.up j ≡ true → AllByRecursion IsSaid (introduction ports after.up routes services j)
    introduces routes services fits offered all j on =
        let here = there j on in
        let on_last = more_now j on in
        let told_here = rip_broadcast ports j (told ports after.up routes j) in
        let request = routes_request ports j in
        let named = sap_broadcast ports j (told_services services j) in
        all-append IsSaid ((told_here ++ request) ++ named) (services_query ports j)
        (all-append IsSaid (told_here ++ request) named
        (all-append IsSaid told_here request
        (rip_said j here on_last (told ports after.up routes j)
        (all_both IsEntry (RealSaid net up (place j)) (told ports after.up routes j) (told_fits ports (ports_at net is router) after.up routes j ups_now fits)
        (told_real after.up more_now routes all j)))
        (request_said j here on_last))
        (sap_said j here on_last (told_services services j) (told_services_fit services j offered)))
        (query_said j here on_last)

    pub port_up_says : (number : ℕ) → number < length ports → is_up after.up number ≡ true → (j : ℕ) → is_up after.up j ≡ true
        → AllByRecursion IsSaid (port_up_on ports after number j)
    port_up_says number exists comes j on = elim (cases_Bool (j == number)) [
      | inl own ↦
          rw own (introduces after.routes after.services fit_now (held_services_fit laws.readings ports most_services (history ++ event ∷ []) still) real_now j on)
      | inr other ↦
          let cost = (port_at ports j).cost in
          let back : (number == j) ≡ false = turned j number other in
          rw other (rip_said j (there j on) (more_now j on) (told_at cost (direct_entry ports number) ∷ [])
          ((told_at_fits cost (direct_entry ports number) (direct_fits ports (ports_at net is router) number exists), beside after.up more_now j number comes back), tt))
    ]
      where
        turned : (a b : ℕ) → (a == b) ≡ false → (b == a) ≡ false
        turned a b apart = elim (cases_Bool (b == a)) [
          | inr other ↦ other
          | inl same ↦ absurd (eqb-false a b apart (sym (eqb-true b a same)))
        ]

    pub all_news : AllByRecursion IsSaid (flat_map (news_on ports before after) after.up)
    all_news =
        each_port (news_on ports before after) (λ j on.
        both_said j (there j on) (more_now j on) (news ports before.routes after.routes j) (news_services before.services after.services j)
        (all_both IsEntry (RealSaid net up (place j)) (news ports before.routes after.routes j) (news_fit ports before.routes after.routes j fit fit_now)
        (news_real after.up more_now before.routes after.routes real_now j))
        (news_services_fit before.services after.services j (held_services_fit laws.readings ports most_services history of_bytes)
        (held_services_fit laws.readings ports most_services (history ++ event ∷ []) still)))

    -- what is heard on a port that is up
    module _ (number : ℕ) (on : is_up before.up number ≡ true) where
      here : number < length ports
      here = one_up (λ k. k < length ports) before.up number ups on

      rip_answered : (source : Address) (operation : Operation) (entries : List RipEntry) → IsPlaced source → AllByRecursion IsSaid (elim operation [
        | Response ↦ flat_map (news_on ports before after) after.up
        | Request ↦ rip_sends ports number (reply_to (port_at ports number) source) Response (asked entries (told ports before.up before.routes number))
      ])
      rip_answered source Response entries from = all_news
      rip_answered source Request entries from = search (rules, entries_said, here, reply_is, is_port, all-filter, Writable, RealSaid, all_both, told_fits, ports_at, ups, fit, told_real)

      pub heard_says : (from : Place) (m : Heard) → IsPlaced (source_of m) → FineHeard net up from m → AllByRecursion IsSaid (heard_sends ports before after number m)
      heard_says from (HeardRip source rip) placed fine = rip_answered source rip.operation rip.entries placed
      heard_says from (HeardSap source (SapResponse nearest entries)) placed fine = all_news
      heard_says from (HeardSap source (Query nearest kind)) placed fine =
          let all = told_services before.services number in
          let services = of_kind kind all in
          let fits : AllByRecursion IsTellable services =
          all-filter IsTellable _ all (told_services_fit before.services number (held_services_fit laws.readings ports most_services history of_bytes)) in
          services_said number here (more number on) (reply_to (port_at ports number) source) (reply_is (port_at ports number) source (is_port number here) placed) refl
          fine nearest (if nearest then nearest_of services else services)
          (either IsTellable nearest (nearest_of services) services (nearest_all IsTellable services fits) fits)
