-- What a router sends for a second, or for a packet that asks apart, says of a service that hosts announce what it may say, if its advertisement and
-- its changes do.
use Rattle.std.proofs.Common.{◌≡◌, refl, sym, subst, ℕ, ◌<◌, Bool, true, List, [], ◌∷◌, ◌++◌, length, flat_map, Option, Some, None, inl, inr, if◌then◌else◌}
use Rattle.std.specs.List.{AllByRecursion}
use Rattle.ipx_wire.specs.Piece.{IsBytes}
use Rattle.ipx_wire.specs.Rip.{IsEntry}
use Rattle.ipx_wire.specs.declared.address.Address.{Address}
use Rattle.ipx_wire.specs.declared.rip.Operation.{Operation}
use Rattle.ipx_wire.specs.declared.rip.Operation.TheVariants.{Request, Response}
use Rattle.ipx_wire.specs.declared.rip.RipEntry.{RipEntry}
use Rattle.ipx_wire.specs.declared.sap.Sap.TheVariants.{Query, Response as SapResponse}
use Rattle.ipx_wire.specs.declared.service.Service.{Service}
use Rattle.ipx_router.specs.Facts.{heard_after, services_held, offers}
use Rattle.ipx_router.specs.Heard.{Heard, HeardRip, HeardSap}
use Rattle.ipx_router.specs.History.{History, Second, Packet, IsOnPort, IsOfBytes, running, ports_up}
use Rattle.ipx_router.specs.News.{news_services}
use Rattle.ipx_router.specs.Port.{Port, IsPort, port_at, is_up, own_address, own_services, reply_to}
use Rattle.ipx_router.specs.Relays.{Sent}
use Rattle.ipx_router.specs.Sends.{Holding, holding, sends, rip_sends, sap_sends, news_on, heard_sends, asked, of_kind, nearest_of}
use Rattle.ipx_router.specs.Told.{told, told_services}
use Rattle.ipx_router.proofs.bytes.FieldsAreBytes.{IsPlace as IsPlaced, IsTellable}
use Rattle.ipx_router.proofs.lists.EachElement.{all_both}
use Rattle.ipx_router.proofs.port_values.PortOfEachNumber.{port-all, ports_up-within}
use Rattle.ipx_router.proofs.sending.OwnPacketsAreValid.{Writable, reply_is}
use Rattle.ipx_router.proofs.tables.HeldFitsFields.{held_routes_fit, held_services_fit}
use Rattle.ipx_router.proofs.tables.HeldWasOffered.{source_of, heard_up}
use Rattle.ipx_router.proofs.telling.ToldFitsFields.{told_fits, told_services_fit}
use Rattle.ipx_router.proofs.verdicts.HeardIsAsLayoutsAllow.{heard_is}
use Rattle.ipx_internet.specs.Internet.{Internet, IsInternet, ports_of}
use Rattle.ipx_internet.proofs.lists.EachElement.{all_of, all_then, all-filter}
use Rattle.ipx_internet.proofs.packets.NearestIsOneOfThem.{either, nearest_all}
use Rattle.ipx_internet.proofs.packets.PagesReadAgain.{IsRipPage, IsSapPage, Tellable, rip_pages, sap_pages}
use Rattle.ipx_internet.proofs.packets.SentOnOrReply.{Layouts, IsCast, IsOnward, unsaid, said_so, all_news}
use Rattle.ipx_internet.proofs.places.OneReceiverOfANode.{ports_at}
use Rattle.ipx_laws.specs.Announces.{AsksApart}
use Rattle.ipx_laws.specs.Meanwhile.{message_of, AsksElsewhere}
use Rattle.ipx_laws.specs.Servers.{Server}
use Rattle.ipx_laws.proofs.packets.BroadcastEachSecond.{all_cast}
use Rattle.ipx_laws.proofs.packets.SentOnSaysTheSame.{heard_message}
use Rattle.ipx_laws.proofs.services.SpokenOfAServer.{at, Silent, ServiceSaid, IsOwnServices, IsSpoken, routes_silent, cast_spoken}

module _ (net : Internet) (laws : Layouts) (is : IsInternet net) (most_routes most_services : ℕ) (up : ℕ → List ℕ) (server : Server) (Listed : ℕ × List ℕ → Type 0)
    (delay slack : ℕ) (Speaks : ℕ → Service → Type 0) where
  -- all routes
  abbrev AnyRoute : ℕ → RipEntry → Type 0
  AnyRoute j e = Unit {0}

  anything : {X : Type 0} (xs : List X) → AllByRecursion (λ x. Unit {0}) xs
  anything xs = all_of (λ x. Unit {0}) (λ x. tt) xs

  -- ---- what a router sends

  module _ (begun router : ℕ) (history : History) (on : AllByRecursion (IsOnPort (ports_of net router)) history) (of_bytes : AllByRecursion IsOfBytes history) where
    abbrev ports : List Port
    ports = ports_of net router

    abbrev Said : ℕ → Service → Type 0
    Said j = ServiceSaid net up server Listed delay slack Speaks begun (at net up server Listed router j)

    abbrev Spoken : Sent → Type 0
    Spoken s = IsSpoken net up server Listed delay slack Speaks begun router s

    casts : (us : List ℕ) (sent : List Sent) → us ≡ up router → AllByRecursion (IsCast us AnyRoute Said ports) sent → AllByRecursion Spoken sent
    casts us sent same all =
        all_then (IsCast (up router) AnyRoute Said ports) Spoken (cast_spoken net up server Listed delay slack Speaks begun router AnyRoute) sent
        (subst (λ (vs : List ℕ). AllByRecursion (IsCast vs AnyRoute Said ports) sent) same all)

    pub second_spoken : let now = history ++ Second ∷ [] in
        ports_up ports now ≡ up router
        → ((j : ℕ) → AllByRecursion (Said j) (told_services (offers (services_held ports most_services now)) j))
        → ((j : ℕ) → AllByRecursion (Said j) (news_services (offers (services_held ports most_services history)) (offers (services_held ports most_services now)) j))
        → AllByRecursion Spoken (sends ports most_routes most_services history Second)
    second_spoken same all changed =
        casts (ports_up ports (history ++ Second ∷ [])) (sends ports most_routes most_services history Second) same
        (all_cast laws ports (ports_at net is router) most_routes most_services history of_bytes AnyRoute Said (λ j. anything _) (λ j. anything _) all changed)

    module _ (number : ℕ) (bytes : List ℕ) (within : number < length ports) (are_bytes : IsBytes bytes)
        (asks : (m : Heard) → message_of bytes ≡ Some m → AsksApart m)
        (onward : (sent : List ℕ) → IsOnward (port_at (ports_of net router) number) bytes sent → Silent net up server Listed sent)
        (ups_before : ports_up ports history ≡ up router) (ups_after : ports_up ports (history ++ Packet number bytes ∷ []) ≡ up router)
        (all : (j : ℕ) → AllByRecursion (Said j) (told_services (offers (services_held ports most_services history)) j))
        (changed : (j : ℕ) → AllByRecursion (Said j)
        (news_services (offers (services_held ports most_services history)) (offers (services_held ports most_services (history ++ Packet number bytes ∷ []))) j)) where
      abbrev here : Port
      here = port_at ports number

      abbrev before : Holding
      before = holding ports most_routes most_services history

      abbrev after : Holding
      after = holding ports most_routes most_services (history ++ Packet number bytes ∷ [])

      is_here : IsPort here
      is_here = port-all IsPort ports number (ports_at net is router) within

      changes_spoken : AllByRecursion Spoken (flat_map (news_on ports before after) after.up)
      changes_spoken =
          casts after.up (flat_map (news_on ports before after) after.up) ups_after
          (all_news laws ports (ports_at net is router) most_routes most_services history on of_bytes number bytes within are_bytes AnyRoute Said (λ j. anything _) changed)

      -- answers
      rip_spoken : (source : Address) (operation : Operation) (entries : List RipEntry) → IsPlaced source → AsksElsewhere source operation
          → AllByRecursion Spoken (elim operation [
            | Response ↦ flat_map (news_on ports before after) after.up
            | Request ↦ rip_sends ports number (reply_to here source) Response (asked entries (told ports before.up before.routes number))
          ])
      rip_spoken source Response entries from apart = changes_spoken
      rip_spoken source Request entries from apart =
          let known = told ports before.up before.routes number in
          let to = reply_to here source in
          all_then (λ s. IsRipPage (AnyRoute number) (own_address here) to s.bytes × (s.port ≡ number)) Spoken
          (λ s page. inr (routes_silent net up server Listed (AnyRoute number) (own_address here) to s.bytes apart page.0))
          (rip_sends ports number to Response (asked entries known))
          (rip_pages laws.readings laws.again ports number is_here (AnyRoute number) to (reply_is here source is_here from) (asked entries known)
          (all-filter (Writable (AnyRoute number)) _ known
          (all_both IsEntry (AnyRoute number) known
          (told_fits ports (ports_at net is router) before.up before.routes number (ports_up-within ports history) (held_routes_fit laws.readings ports most_routes history of_bytes))
          (anything known))))

      sap_spoken : is_up (up router) number ≡ true → (source : Address) (nearest : Bool) (kind : ℕ) → IsPlaced source
          → AllByRecursion Spoken (heard_sends ports before after number (HeardSap source (Query nearest kind)))
      sap_spoken here_up source nearest kind from =
          let known = told_services before.services number in
          let services = of_kind kind known in
          let to = reply_to here source in
          let fits : AllByRecursion (Tellable (Said number)) services =
          all-filter (Tellable (Said number)) _ known
          (all_both IsTellable (Said number) known (told_services_fit before.services number (held_services_fit laws.readings ports most_services history of_bytes)) (all number)) in
          let answer = if nearest then nearest_of services else services in
          all_then (λ s. IsSapPage (Said number) (own_services here) to nearest s.bytes × (s.port ≡ number)) Spoken
          (λ s page. inl (subst (λ (k : ℕ). (is_up (up router) k ≡ true) × IsOwnServices net up server Listed delay slack Speaks begun (at net up server Listed router k) s.bytes) (sym page.1)
          (here_up, record { to = to; home = refl; nearest = nearest; page = page.0 })))
          (sap_sends ports number to nearest answer)
          (sap_pages laws.readings laws.again ports number is_here (Said number) to (reply_is here source is_here from) nearest answer
          (either (Tellable (Said number)) nearest (nearest_of services) services (nearest_all (Tellable (Said number)) services fits) fits))

      heard_spoken : (m : Heard) → is_up (up router) number ≡ true → IsPlaced (source_of m) → AsksApart m
          → AllByRecursion Spoken (heard_sends ports before after number m)
      heard_spoken (HeardRip source rip) here_up from apart = rip_spoken source rip.operation rip.entries from apart
      heard_spoken (HeardSap source (Query nearest kind)) here_up from apart = sap_spoken here_up source nearest kind from
      heard_spoken (HeardSap source (SapResponse nearest entries)) here_up from apart = changes_spoken

      pub packet_spoken : AllByRecursion Spoken (sends ports most_routes most_services history (Packet number bytes))
      packet_spoken = by (heard_after ports history number bytes) refl
        where
          these : List Sent
          these = sends ports most_routes most_services history (Packet number bytes)

          by : (o : Option Heard) → heard_after ports history number bytes ≡ o → AllByRecursion Spoken these
          by None e =
              all_then (λ s. IsOnward here bytes s.bytes) Spoken (λ s is. inr (onward s.bytes is)) these
              (unsaid laws ports (ports_at net is router) most_routes most_services history on of_bytes number bytes within are_bytes e)
          by (Some m) e =
              let here_up = subst (λ (us : List ℕ). is_up us number ≡ true) ups_before (heard_up ports (ports_up ports history) number (running history) bytes m e) in
              subst (λ (ss : List Sent). AllByRecursion Spoken ss)
              (sym (said_so laws ports (ports_at net is router) most_routes most_services history on of_bytes number bytes within are_bytes m e))
              (heard_spoken m here_up (heard_is laws.readings ports (ports_up ports history) number bytes are_bytes (running history) m e).source
              (asks m (heard_message ports history number bytes m e)))
