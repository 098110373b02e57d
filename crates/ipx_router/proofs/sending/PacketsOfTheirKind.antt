-- Each packet that an event sends has the layout of its kind.
use Rattle.std.proofs.Common.{◌≡◌, refl, sym, subst, ℕ, ◌<◌, ◌==◌, inl, inr, Bool, true, false, if◌then◌else◌, length, List, [], ◌∷◌, ◌++◌, map, lit<, arith}
use Rattle.std.specs.List.{AllByRecursion, flat_map}
use Rattle.std.proofs.lemmas.Bool.{cases_Bool}
use Rattle.ipx_wire.specs.Packet.{Parts, IsPacket}
use Rattle.ipx_wire.specs.Rip.{IsEntry}
use Rattle.ipx_wire.specs.declared.address.Address.{Address}
use Rattle.ipx_wire.specs.declared.rip.Operation.{Operation}
use Rattle.ipx_wire.specs.declared.rip.Operation.TheVariants.{Request, Response}
use Rattle.ipx_wire.specs.declared.rip.RipEntry.{RipEntry}
use Rattle.ipx_wire.specs.declared.sap.Sap.TheVariants.{Query, Response as SapResponse}
use Rattle.ipx_wire.specs.declared.service.Service.{Service}
use Rattle.ipx_router.specs.Heard.{Heard, HeardRip, HeardSap}
use Rattle.ipx_router.specs.News.{news, news_services}
use Rattle.ipx_router.specs.Packets.{IsRouting, IsAdvertising, IsBroadcast, IsAnswer, IsForRip, IsForHeard}
use Rattle.ipx_router.specs.Port.{Port, IsPort, port_at, is_up, reply_to}
use Rattle.ipx_router.specs.Relays.{Sent}
use Rattle.ipx_router.specs.Sends.{entries_sent, services_sent, rip_broadcast, rip_sends, sap_broadcast, routes_request, services_query, every_route, introduction, asked, of_kind, is_nearer, nearest_of, Holding, second_on, stop_on, news_on, port_down_on, port_up_on, heard_sends}
use Rattle.ipx_router.specs.Told.{told, told_services, told_at, direct_entry, entry_of, by_network, network_before, dead, dead_service}
use Rattle.ipx_router.specs.declared.route_offer.RouteOffer.{RouteOffer}
use Rattle.ipx_router.specs.declared.service_offer.ServiceOffer.{ServiceOffer}
use Rattle.ipx_router.proofs.bytes.FieldsAreBytes.{IsTellable}
use Rattle.ipx_router.proofs.telling.EachEntryHolds.{Opens, told_are, news_are}
use Rattle.ipx_router.proofs.lists.EachElement.{all_both, all-filter, all_sorted, all-map, all-flat_map}
use Rattle.ipx_router.proofs.tables.HeldFitsFields.{RouteFits, ServiceFits}
use Rattle.ipx_router.proofs.verdicts.HeardIsAsLayoutsAllow.{IsHeard}
use Rattle.ipx_router.proofs.changes.ChangesFitFields.{news_fit, news_services_fit}
use Rattle.ipx_router.proofs.sending.OwnPacketsAreValid.{IsOwned, Writable, is_port, reply_is, query_owned, rip_owned, sap_owned, everyone_owned, servers_owned, broadcasts_owned}
use Rattle.ipx_router.proofs.port_values.PortOfEachNumber.{members}
use Rattle.ipx_router.proofs.tables.HeldWasOffered.{all-append, source_of}
use Rattle.ipx_router.proofs.telling.ToldFitsFields.{told_at_fits, direct_fits, told_fits, told_services_fit, by_name_fit, dead_fits, down_fits}
use Rattle.ipx_router.proofs.bytes.LawsOfLayouts.{Readings, Rereadings}

-- all that is held fits, its routes are such, and the ports that are up exist
pub record Fits (K : RouteOffer → Type 0) (ports : List Port) (held : Holding) : Type 0 where
  pub ups : AllByRecursion (λ j. j < length ports) held.up
  pub routes : AllByRecursion RouteFits held.routes
  pub services : AllByRecursion ServiceFits held.services
  pub table : AllByRecursion K held.routes

-- such is the entry that asks for all routes, each that is unreachable, and a route that K holds of, as any port advertises it
pub record Allows (P : RipEntry → Type 0) (K : RouteOffer → Type 0) : Type 0 where
  pub asking : P every_route
  pub gone : (entry : RipEntry) → P (dead entry)
  pub heard : (route : RouteOffer) (cost : ℕ) → K route → P (told_at cost (entry_of route))

-- ---- the nearest service

nearest_fits : (services : List Service) → AllByRecursion IsTellable services → AllByRecursion IsTellable (nearest_of services)
nearest_fits [] all = tt
nearest_fits (service ∷ services) all = nearer (nearest_of services) (nearest_fits services all.1)
  where
    nearer : (found : List Service) → AllByRecursion IsTellable found → AllByRecursion IsTellable (elim found [
      | [] ↦ service ∷ []
      | ◌∷◌ best rest ↦ if is_nearer best service then best ∷ [] else service ∷ []
    ])
    nearer [] some = (all.0, tt)
    nearer (best ∷ rest) some = elim (cases_Bool (is_nearer best service)) [
      | inl e ↦ rw e (some.0, tt)
      | inr e ↦ rw e (all.0, tt)
    ]

either_fits : (c : Bool) (xs ys : List Service) → AllByRecursion IsTellable xs → AllByRecursion IsTellable ys → AllByRecursion IsTellable (if c then xs else ys)
either_fits c xs ys one two = grind arith

module _ (readings : Readings) (again : Rereadings) (P : RipEntry → Type 0) (K : RouteOffer → Type 0) (allows : Allows P K) (ports : List Port)
    (are : AllByRecursion IsPort ports) (up : List ℕ) (within : AllByRecursion (λ j. j < length ports) up) where
  -- such a packet to all on its network
  abbrev Told : Sent → Type 0
  Told s = IsOwned P ports up (IsBroadcast ports up) s

  -- what each port that is up sends
  pub each_owned : (Own : Sent → Type 0) (f : ℕ → List Sent) → ((number : ℕ) → is_up up number ≡ true → AllByRecursion Own (f number))
      → AllByRecursion Own (flat_map f up)
  each_owned Own f step = all-flat_map (λ number. is_up up number ≡ true) Own f step up (members up)

  -- ---- entries that can be written, and are such

  told_written : (ups : List ℕ) (routes : List RouteOffer) (number : ℕ) → AllByRecursion (λ j. j < length ports) ups → Opens P ports ups
      → AllByRecursion RouteFits routes → AllByRecursion K routes → AllByRecursion (Writable P) (told ports ups routes number)
  told_written ups routes number exist opens fit table =
      all_both IsEntry P (told ports ups routes number) (told_fits ports are ups routes number exist fit)
      (told_are P K ports allows.heard ups routes number opens table)

  gone_written : (entries : List RipEntry) → AllByRecursion IsEntry entries → AllByRecursion (Writable P) (map dead entries)
  gone_written entries all = all-map IsEntry (Writable P) dead (λ e is. (dead_fits e is, allows.gone e)) entries all

  in_place : (entries : List RipEntry) → AllByRecursion (Writable P) entries → AllByRecursion (Writable P) (by_network entries)
  in_place entries all = all_sorted (Writable P) network_before entries all

  -- ---- a port comes up

  pub introduction_owned : (routes : List RouteOffer) (services : List ServiceOffer) → Opens P ports up → AllByRecursion RouteFits routes → AllByRecursion K routes
      → AllByRecursion ServiceFits services → (number : ℕ) → is_up up number ≡ true → AllByRecursion Told (introduction ports up routes services number)
  introduction_owned routes services opens fit table fits number there =
      let entries = told ports up routes number in
      let told_here = told_services services number in
      let answer = rip_broadcast ports number entries in
      let request = routes_request ports number in
      let advertised = sap_broadcast ports number told_here in
      all-append Told (answer ++ request ++ advertised) (services_query ports number)
      (all-append Told (answer ++ request) advertised
      (all-append Told answer request
      (everyone_owned readings again P ports are up within number there Response entries (told_written up routes number within opens fit table))
      (everyone_owned readings again P ports are up within number there Request (every_route ∷ [])
      ((record { network = lit< tt; hops = lit< tt; ticks = lit< tt }, allows.asking), tt)))
      (servers_owned readings again P ports are up within number there told_here (told_services_fit services number fits)))
      (query_owned readings again P ports are up within number there)

  pub port_up_owned : (after : Holding) → after.up ≡ up → Opens P ports up → Fits K ports after → (port : ℕ) → port < length ports → is_up up port ≡ true
      → (number : ℕ) → is_up up number ≡ true → AllByRecursion Told (port_up_on ports after port number)
  port_up_owned after same opens new port exists comes number there = elim (cases_Bool (number == port)) [
    | inl own ↦ rw (own, same) (introduction_owned after.routes after.services opens new.routes new.table new.services number there)
    | inr other ↦
        let cost = (port_at ports number).cost in
        rw other (everyone_owned readings again P ports are up within number there Response (told_at cost (direct_entry ports port) ∷ [])
        ((told_at_fits cost (direct_entry ports port) (direct_fits ports are port exists), opens port cost comes), tt))
  ]

  module _ (before after : Holding) (old : Fits K ports before) (new : Fits K ports after) where
    pub stop_owned : (number : ℕ) → is_up up number ≡ true → AllByRecursion Told (stop_on ports before number)
    stop_owned number there =
        let entries = told ports before.up before.routes number in
        let services = told_services before.services number in
        broadcasts_owned readings again P ports are up within number there (map dead entries) (map dead_service services)
        (gone_written entries (told_fits ports are before.up before.routes number old.ups old.routes))
        (all-map IsTellable IsTellable dead_service down_fits services (told_services_fit before.services number old.services))

    news_written : (number : ℕ) → AllByRecursion (Writable P) (news ports before.routes after.routes number)
    news_written number =
        all_both IsEntry P (news ports before.routes after.routes number) (news_fit ports before.routes after.routes number old.routes new.routes)
        (news_are P K ports allows.heard (λ route is. allows.gone (entry_of route)) before.routes after.routes number old.table new.table)

    pub news_owned : (number : ℕ) → is_up up number ≡ true → AllByRecursion Told (news_on ports before after number)
    news_owned number there = grind (arith, broadcasts_owned, news_written, news_services_fit)

    pub second_owned : Opens P ports after.up → (periodic : Bool) (number : ℕ) → is_up up number ≡ true
        → AllByRecursion Told (second_on ports before after periodic number)
    second_owned opens false number there = news_owned number there
    second_owned opens true number there = grind (arith, broadcasts_owned, in_place, all-append, Writable, told_written, news_written, by_name_fit, IsTellable, told_services_fit, news_services_fit)

    pub port_down_owned : (port : ℕ) → port < length ports → (number : ℕ) → is_up up number ≡ true
        → AllByRecursion Told (port_down_on ports before after port number)
    port_down_owned port exists number there =
        let ended = news ports before.routes after.routes number in
        let network = direct_entry ports port in
        broadcasts_owned readings again P ports are up within number there (by_network (dead network ∷ ended))
        (news_services before.services after.services number)
        (in_place (dead network ∷ ended) ((dead_fits network (direct_fits ports are port exists).0, allows.gone network), news_written number))
        (news_services_fit before.services after.services number old.services new.services)

    -- ---- what was heard

    module _ (number : ℕ) (there : is_up up number ≡ true) (bytes : List ℕ) (asked_in : Parts) (came : IsPacket bytes asked_in) where
      -- a packet to the one that asked
      answer_to : {Own : Address → Sent → Type 0} (source : Address) (s : Sent) → asked_in.header.source ≡ source → s.port ≡ number
          → Own (reply_to (port_at ports number) source) s → IsAnswer Own ports number bytes s
      answer_to {Own = Own} source s from on is = grind arith

      everywhere : after.up ≡ up → AllByRecursion Told (flat_map (news_on ports before after) after.up)
      everywhere same =
          subst (λ (ups : List ℕ). AllByRecursion Told (flat_map (news_on ports before after) ups)) (sym same)
          (each_owned Told (news_on ports before after) news_owned)

      pub heard_owned : after.up ≡ up → Opens P ports before.up → (m : Heard) → asked_in.header.source ≡ source_of m → IsHeard m
          → AllByRecursion (IsOwned P ports up (IsForHeard ports up number bytes m)) (heard_sends ports before after number m)
      heard_owned same opens (HeardRip source rip) from is = by_operation rip.operation
        where
          by_operation : (operation : Operation) → AllByRecursion (IsOwned P ports up (IsForRip ports up number bytes operation)) (elim operation [
            | Response ↦ flat_map (news_on ports before after) after.up
            | Request ↦
                rip_sends ports number (reply_to (port_at ports number) source) Response (asked rip.entries (told ports before.up before.routes number))
          ])
          by_operation Response = everywhere same
          by_operation Request =
              let to = reply_to (port_at ports number) source in
              rip_owned readings again P ports are up within number there (IsAnswer (IsRouting ports up) ports number bytes) to Response
              (asked rip.entries (told ports before.up before.routes number))
              (λ page one. answer_to {Own = IsRouting ports up} source (entries_sent ports number to Response page) from refl one)
              (reply_is (port_at ports number) source (is_port readings again P ports are up within number there) is.source)
              (all-filter (Writable P) _ (told ports before.up before.routes number)
              (told_written before.up before.routes number old.ups opens old.routes old.table))
      heard_owned same opens (HeardSap source (SapResponse nearest entries)) from is = everywhere same
      heard_owned same opens (HeardSap source (Query nearest kind)) from is =
          let services = of_kind kind (told_services before.services number) in
          let fits : AllByRecursion IsTellable services =
          all-filter IsTellable _ (told_services before.services number) (told_services_fit before.services number old.services) in
          let to = reply_to (port_at ports number) source in
          sap_owned readings again P ports are up within number there (IsAnswer (IsAdvertising ports up) ports number bytes) to nearest
          (if nearest then nearest_of services else services)
          (λ page one. answer_to {Own = IsAdvertising ports up} source (services_sent ports number to nearest page) from refl one)
          (reply_is (port_at ports number) source (is_port readings again P ports are up within number there) is.source)
          (either_fits nearest (nearest_of services) services (nearest_fits services fits) fits)
