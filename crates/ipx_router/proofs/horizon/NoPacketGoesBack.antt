-- Packets on one port that say nothing of a route where it was learned.
use Rattle.std.proofs.Common.{◌≡◌, refl, sym, subst, ℕ, ◌<◌, true, false, length, List, [], ◌∷◌, ◌++◌, map, lit<, arith, rules}
use Rattle.std.specs.List.{AllByRecursion}
use Rattle.std.specs.List.Sorted.{IsStrictlyIncreasing}
use Rattle.ipx_wire.specs.Rip.{IsEntry}
use Rattle.ipx_wire.specs.declared.address.Address.{Address}
use Rattle.ipx_wire.specs.declared.rip.Operation.{Operation}
use Rattle.ipx_wire.specs.declared.rip.Operation.TheVariants.{Request, Response}
use Rattle.ipx_wire.specs.declared.rip.RipEntry.{RipEntry}
use Rattle.ipx_wire.specs.declared.service.Service.{Service}
use Rattle.ipx_router.specs.Horizon.{EachEntryReadIs, IsFromElsewhere}
use Rattle.ipx_router.specs.News.{news}
use Rattle.ipx_router.specs.Numbers.{entries_a_page, services_a_page}
use Rattle.ipx_router.specs.Packets.{IsRouting, IsBroadcast}
use Rattle.ipx_router.specs.Pages.{pages}
use Rattle.ipx_router.specs.Port.{Port, IsPort, port_at, is_up, everyone, every_server}
use Rattle.ipx_router.specs.Relays.{Sent, IsTableRoute}
use Rattle.ipx_router.specs.Sends.{entries_sent, services_sent, rip_sends, rip_broadcast, sap_broadcast, broadcasts, routes_request, services_query, every_route, introduction}
use Rattle.ipx_router.specs.Told.{told, told_services, by_network, network_before}
use Rattle.ipx_router.specs.declared.route_offer.RouteOffer.{RouteOffer}
use Rattle.ipx_router.specs.declared.service_offer.ServiceOffer.{ServiceOffer}
use Rattle.ipx_router.proofs.bytes.FieldsAreBytes.{IsPlace, IsTellable}
use Rattle.ipx_router.proofs.bytes.EntriesReadAreThoseWritten.{routing_read, broadcast_read}
use Rattle.ipx_router.proofs.lists.EachElement.{all_then, all_both, all_sorted, all-map}
use Rattle.ipx_router.proofs.tables.HeldFitsFields.{RouteFits, ServiceFits}
use Rattle.ipx_router.proofs.horizon.NoEntryGoesBack.{asking_elsewhere, told_elsewhere, ports_elsewhere, news_elsewhere}
use Rattle.ipx_router.proofs.changes.ChangesFitFields.{anything, news_fit}
use Rattle.ipx_router.proofs.sending.OwnPacketsAreValid.{IsOwned, Writable, query_owned, rip_owned, everyone_owned, servers_owned}
use Rattle.ipx_router.proofs.tables.HeldWasOffered.{all-append}
use Rattle.ipx_router.proofs.telling.ToldFitsFields.{told_fits, told_services_fit}
use Rattle.ipx_router.proofs.bytes.LawsOfLayouts.{Readings, Rereadings}

module _ (readings : Readings) (again : Rereadings) (ports : List Port) (are : AllByRecursion IsPort ports) (routes : List RouteOffer)
    (table : AllByRecursion (IsTableRoute ports) routes) (rise : IsStrictlyIncreasing (map (λ r. r.network.0) routes))
    (up : List ℕ) (within : AllByRecursion (λ j. j < length ports) up) (number : ℕ) (there : is_up up number ≡ true) where
  -- an entry on this port, and a packet on any
  abbrev pub Elsewhere : RipEntry → Type 0
  Elsewhere entry = IsFromElsewhere routes number entry

  abbrev Keeps : Sent → Type 0
  Keeps s = EachEntryReadIs (IsFromElsewhere routes s.port) s.bytes

  abbrev Own : (Sent → Type 0) → Sent → Type 0
  Own Is s = IsOwned Elsewhere ports up Is s × (s.port ≡ number)

  -- ---- one packet

  cast_keeps : (s : Sent) → Own (IsBroadcast ports up) s → Keeps s
  cast_keeps s is =
      subst (λ (j : ℕ). EachEntryReadIs (IsFromElsewhere routes j) s.bytes) (sym is.1)
      (broadcast_read readings Elsewhere ports up s is.0.bytes is.0.own is.0.entries)

  answer_keeps : (to : Address) (s : Sent) → Own (IsRouting ports up to) s → Keeps s
  answer_keeps to s is =
      subst (λ (j : ℕ). EachEntryReadIs (IsFromElsewhere routes j) s.bytes) (sym is.1)
      (routing_read readings Elsewhere ports up s is.0.bytes to is.0.own is.0.entries)

  -- ---- pages of entries or of services

  on_port : (to : Address) (operation : Operation) (entries : List RipEntry) → AllByRecursion (λ s. s.port ≡ number) (rip_sends ports number to operation entries)
  on_port to operation entries =
      all-map (λ page. Unit {0}) (λ s. s.port ≡ number) (entries_sent ports number to operation) (λ page here. refl) (pages entries_a_page entries)
      (anything (pages entries_a_page entries))

  services_on_port : (services : List Service) → AllByRecursion (λ s. s.port ≡ number) (sap_broadcast ports number services)
  services_on_port services =
      all-map (λ page. Unit {0}) (λ s. s.port ≡ number) (services_sent ports number (every_server (port_at ports number)) false) (λ page here. refl)
      (pages services_a_page services) (anything (pages services_a_page services))

  pub entries_keep : (operation : Operation) (entries : List RipEntry) → AllByRecursion (Writable Elsewhere) entries
      → AllByRecursion Keeps (rip_sends ports number (everyone (port_at ports number)) operation entries)
  entries_keep operation entries fit =
      let to = everyone (port_at ports number) in
      let sent = rip_sends ports number to operation entries in
      all_then (Own (IsBroadcast ports up)) Keeps cast_keeps sent
      (all_both (IsOwned Elsewhere ports up (IsBroadcast ports up)) (λ s. s.port ≡ number) sent
      (everyone_owned readings again Elsewhere ports are up within number there operation entries fit) (on_port to operation entries))

  services_keep : (services : List Service) → AllByRecursion IsTellable services → AllByRecursion Keeps (sap_broadcast ports number services)
  services_keep services fit =
      let sent = sap_broadcast ports number services in
      all_then (Own (IsBroadcast ports up)) Keeps cast_keeps sent
      (all_both (IsOwned Elsewhere ports up (IsBroadcast ports up)) (λ s. s.port ≡ number) sent
      (servers_owned readings again Elsewhere ports are up within number there services fit) (services_on_port services))

  query_keeps : AllByRecursion Keeps (services_query ports number)
  query_keeps =
      all_then (Own (IsBroadcast ports up)) Keeps cast_keeps (services_query ports number)
      (((query_owned readings again Elsewhere ports are up within number there).0, refl), tt)

  pub broadcasts_keep : (entries : List RipEntry) (services : List Service) → AllByRecursion (Writable Elsewhere) entries → AllByRecursion IsTellable services
      → AllByRecursion Keeps (broadcasts ports number entries services)
  broadcasts_keep entries services fit fits = grind (arith, all-append, entries_keep, services_keep)

  pub answers_keep : (to : Address) (entries : List RipEntry) → IsPlace to → AllByRecursion (Writable Elsewhere) entries
      → AllByRecursion Keeps (rip_sends ports number to Response entries)
  answers_keep to entries is fit =
      let sent = rip_sends ports number to Response entries in
      all_then (Own (IsRouting ports up to)) Keeps (answer_keeps to) sent
      (all_both (IsOwned Elsewhere ports up (IsRouting ports up to)) (λ s. s.port ≡ number) sent
      (rip_owned readings again Elsewhere ports are up within number there (IsRouting ports up to) to Response entries (λ page one. one) is fit)
      (on_port to Response entries))

  -- ---- entries that can be written, and are such

  pub told_written : (ups : List ℕ) → AllByRecursion (λ j. j < length ports) ups → AllByRecursion RouteFits routes
      → AllByRecursion (Writable Elsewhere) (told ports ups routes number)
  told_written ups exist fit = search (rules, all_both, told_fits, told_elsewhere)

  pub ports_written : (ups : List ℕ) → AllByRecursion (λ j. j < length ports) ups → AllByRecursion (Writable Elsewhere) (told ports ups [] number)
  ports_written ups exist = search (rules, all_both, told_fits, ports_elsewhere)

  -- where no route is left
  pub any_written : routes ≡ [] → (entries : List RipEntry) → AllByRecursion IsEntry entries → AllByRecursion (Writable Elsewhere) entries
  any_written none entries all = grind (arith, all_then, Writable)

  pub news_written : (before : List RouteOffer) → AllByRecursion RouteFits before → AllByRecursion RouteFits routes
      → AllByRecursion (Writable Elsewhere) (news ports before routes number)
  news_written before old new = search (rules, all_both, news_fit, news_elsewhere)

  pub in_place : (entries : List RipEntry) → AllByRecursion (Writable Elsewhere) entries → AllByRecursion (Writable Elsewhere) (by_network entries)
  in_place entries all = all_sorted (Writable Elsewhere) network_before entries all

  -- ---- a port comes up

  pub introduction_keeps : (known : List RouteOffer) (services : List ServiceOffer) → AllByRecursion (Writable Elsewhere) (told ports up known number)
      → AllByRecursion ServiceFits services → AllByRecursion Keeps (introduction ports up known services number)
  introduction_keeps known services fit fits =
      let entries = told ports up known number in
      let told_here = told_services services number in
      let answer = rip_broadcast ports number entries in
      let request = routes_request ports number in
      let advertised = sap_broadcast ports number told_here in
      all-append Keeps (answer ++ request ++ advertised) (services_query ports number)
      (all-append Keeps (answer ++ request) advertised
      (all-append Keeps answer request (entries_keep Response entries fit)
      (entries_keep Request (every_route ∷ [])
      ((record { network = lit< tt; hops = lit< tt; ticks = lit< tt }, asking_elsewhere ports routes table rise number), tt)))
      (services_keep told_here (told_services_fit services number fits)))
      query_keeps
