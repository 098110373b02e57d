-- Whatever happens, what a router sends says nothing of a route where it was learned.
use Rattle.std.proofs.Common.{◌≡◌, refl, sym, ap, ◌∙◌, subst, ℕ, ◌<◌, ◌==◌, Bool, true, false, true≢false, length, List, [], ◌∷◌, ◌++◌, map, Option, None, Some, Ok, Err, inl, inr, append-nil, arith, rules}
use Rattle.std.specs.List.{AllByRecursion, flat_map}
use Rattle.std.specs.List.Sorted.{IsStrictlyIncreasing}
use Rattle.std.proofs.lemmas.Bool.{cases_Bool}
use Rattle.ipx_wire.specs.Packet.{packet_of}
use Rattle.ipx_wire.specs.Piece.{IsBytes}
use Rattle.ipx_wire.specs.Rip.{IsEntry}
use Rattle.ipx_wire.specs.declared.rip.Operation.{Operation}
use Rattle.ipx_wire.specs.declared.rip.Operation.TheVariants.{Request, Response}
use Rattle.ipx_wire.specs.declared.rip.RipEntry.{RipEntry}
use Rattle.ipx_wire.specs.declared.sap.Sap.TheVariants.{Query, Response as SapResponse}
use Rattle.ipx_router.specs.Facts.{routes_offered, routes_heard, routes_held, offers}
use Rattle.ipx_router.specs.Heard.{Heard, HeardRip, HeardSap, heard}
use Rattle.ipx_router.specs.History.{Event, History, Start, Stop, Second, Packet, PortDown, PortUp, IsOnPort, IsOfBytes, running, ports_up}
use Rattle.ipx_router.specs.Horizon.{EachEntryReadIs, IsFromElsewhere}
use Rattle.ipx_router.specs.News.{news, news_services}
use Rattle.ipx_router.specs.Packets.{IsForPacket, IsSentFor}
use Rattle.ipx_router.specs.Port.{Port, IsPort, port_at, is_up, reply_to}
use Rattle.ipx_router.specs.Relays.{Sent, IsTableRoute, relayed}
use Rattle.ipx_router.specs.Sends.{Holding, introduction, second_on, stop_on, news_on, port_down_on, port_up_on, heard_sends, packet_sends, sends_of, holding, is_periodic, ports_sending, sends, asked, rip_sends}
use Rattle.ipx_router.specs.Told.{told, told_services, told_at, direct_entry, by_network, dead, dead_service}
use Rattle.ipx_router.specs.Why.{why}
use Rattle.ipx_router.specs.declared.route_offer.RouteOffer.{RouteOffer}
use Rattle.ipx_router.specs.declared.why.Why.{Why}
use Rattle.ipx_router.proofs.bytes.FieldsAreBytes.{IsTellable}
use Rattle.ipx_router.proofs.bytes.EntriesReadAreThoseWritten.{services_read, relayed_read}
use Rattle.ipx_router.proofs.lists.EachElement.{all_then, all_both, all_before, all_behind, all-filter, all-map, all-flat_map}
use Rattle.ipx_router.proofs.tables.HeldFitsFields.{held_routes_fit, held_services_fit}
use Rattle.ipx_router.proofs.verdicts.HeardIsAsLayoutsAllow.{heard_is}
use Rattle.ipx_router.proofs.histories.OneEventMore.{running-stop, ports_stay, none_up}
use Rattle.ipx_router.proofs.horizon.NoEntryGoesBack.{direct_elsewhere}
use Rattle.ipx_router.proofs.horizon.NoPacketGoesBack.{entries_keep, broadcasts_keep, answers_keep, told_written, ports_written, any_written, news_written, in_place, introduction_keeps}
use Rattle.ipx_router.proofs.changes.ChangesFitFields.{anything, news_services_fit}
use Rattle.ipx_router.proofs.tables.OffersOfAMessage.{facts_from-more}
use Rattle.ipx_router.proofs.sending.OwnPacketsAreValid.{Writable, reply_is}
use Rattle.ipx_router.proofs.port_values.PortOfEachNumber.{port-all, one_up, members, ports_up-within}
use Rattle.ipx_router.proofs.sending.PacketsOfTheirKind.{Fits}
use Rattle.ipx_router.proofs.tables.HeldWasOffered.{all-append, heard_up}
use Rattle.ipx_router.proofs.telling.ToldFitsFields.{told_at_fits, direct_fits, told_fits, told_services_fit, by_name_fit, dead_fits, down_fits}
use Rattle.ipx_router.proofs.tables.HeldCameByPortsUp.{held_routes_up}
use Rattle.ipx_router.proofs.bytes.LawsOfLayouts.{Readings, Rereadings}

-- any route
abbrev AnyRoute : RouteOffer → Type 0
AnyRoute route = Unit

-- where no port is up, no route is held
none_held : (up : List ℕ) (routes : List RouteOffer) → up ≡ [] → AllByRecursion (λ r. is_up up r.port ≡ true) routes → routes ≡ []
none_held up [] none all = refl
none_held up (r ∷ routes) none all = absurd (true≢false (sym all.0 ∙ ap (λ (ports : List ℕ). is_up ports r.port) none))

module _ (readings : Readings) (again : Rereadings) (ports : List Port) (are : AllByRecursion IsPort ports) where
  module _ (before after : Holding) (old : Fits AnyRoute ports before) (new : Fits AnyRoute ports after)
      (table : AllByRecursion (IsTableRoute ports) after.routes) (rise : IsStrictlyIncreasing (map (λ r. r.network.0) after.routes)) where
    abbrev Keeps : Sent → Type 0
    Keeps s = EachEntryReadIs (IsFromElsewhere after.routes s.port) s.bytes

    each_keeps : (f : ℕ → List Sent) (up : List ℕ) → ((number : ℕ) → is_up up number ≡ true → AllByRecursion Keeps (f number)) → AllByRecursion Keeps (flat_map f up)
    each_keeps f up step = all-flat_map (λ number. is_up up number ≡ true) Keeps f step up (members up)

    -- ---- on one port that is up after the event

    module _ (number : ℕ) (there : is_up after.up number ≡ true) where
      abbrev Written : List RipEntry → Type 0
      Written entries = AllByRecursion (Writable (IsFromElsewhere after.routes number)) entries

      changed : Written (news ports before.routes after.routes number)
      changed = news_written readings again ports are after.routes table rise after.up new.ups number there before.routes old.routes new.routes

      all_told : Written (told ports after.up after.routes number)
      all_told = told_written readings again ports are after.routes table rise after.up new.ups number there after.up new.ups new.routes

      placed : (entries : List RipEntry) → Written entries → Written (by_network entries)
      placed = in_place readings again ports are after.routes table rise after.up new.ups number there

      news_keep : AllByRecursion Keeps (news_on ports before after number)
      news_keep = grind (arith, broadcasts_keep, changed, news_services_fit)

      second_keeps : (periodic : Bool) → AllByRecursion Keeps (second_on ports before after periodic number)
      second_keeps false = news_keep
      second_keeps true = grind (arith, broadcasts_keep, placed, all-append, Writable, all_told, changed, by_name_fit, IsTellable, told_services_fit, news_services_fit)

      down_keeps : (port : ℕ) → port < length ports → AllByRecursion Keeps (port_down_on ports before after port number)
      down_keeps port exists =
          let ended = news ports before.routes after.routes number in
          let network = direct_entry ports port in
          broadcasts_keep readings again ports are after.routes table rise after.up new.ups number there (by_network (dead network ∷ ended))
          (news_services before.services after.services number)
          (placed (dead network ∷ ended)
          ((dead_fits network (direct_fits ports are port exists).0, direct_elsewhere ports after.routes table rise number port exists), changed))
          (news_services_fit before.services after.services number old.services new.services)

      introduced : AllByRecursion Keeps (introduction ports after.up after.routes after.services number)
      introduced = grind (arith, introduction_keeps, all_told)

      first_introduced : AllByRecursion Keeps (introduction ports after.up [] [] number)
      first_introduced =
          introduction_keeps readings again ports are after.routes table rise after.up new.ups number there [] []
          (ports_written readings again ports are after.routes table rise after.up new.ups number there after.up new.ups) tt

      up_keeps : (port : ℕ) → port < length ports → AllByRecursion Keeps (port_up_on ports after port number)
      up_keeps port exists = elim (cases_Bool (number == port)) [
        | inl own ↦ rw own introduced
        | inr other ↦
            let cost = (port_at ports number).cost in
            rw other (entries_keep readings again ports are after.routes table rise after.up new.ups number there Response
            (told_at cost (direct_entry ports port) ∷ []) (
              (
                told_at_fits cost (direct_entry ports port) (direct_fits ports are port exists),
                direct_elsewhere ports after.routes table rise number port exists,
              ),
              tt,
            ))
      ]

    -- ---- a stop, on the ports that were up

    stopped_keep : after.routes ≡ [] → (number : ℕ) → is_up before.up number ≡ true → AllByRecursion Keeps (stop_on ports before number)
    stopped_keep none number there =
        let entries = told ports before.up before.routes number in
        let services = told_services before.services number in
        broadcasts_keep readings again ports are after.routes table rise before.up old.ups number there (map dead entries) (map dead_service services)
        (any_written readings again ports are after.routes table rise before.up old.ups number there none (map dead entries)
        (all-map IsEntry IsEntry dead dead_fits entries (told_fits ports are before.up before.routes number old.ups old.routes)))
        (all-map IsTellable IsTellable dead_service down_fits services (told_services_fit before.services number old.services))

    -- ---- each event but a packet

    start_keeps : (runs periodic : Bool) → AllByRecursion Keeps (sends_of ports before after runs periodic Start)
    start_keeps runs periodic = grind (arith, each_keeps, first_introduced)

    stop_keeps : (runs periodic : Bool) → after.routes ≡ [] → AllByRecursion Keeps (sends_of ports before after runs periodic Stop)
    stop_keeps runs periodic none = grind (arith, each_keeps, stopped_keep)

    seconds_keep : (runs periodic : Bool) → AllByRecursion Keeps (sends_of ports before after runs periodic Second)
    seconds_keep runs periodic = grind (arith, each_keeps, second_keeps)

    port_down_keeps : (runs periodic : Bool) (port : ℕ) → port < length ports → AllByRecursion Keeps (sends_of ports before after runs periodic (PortDown port))
    port_down_keeps runs periodic port exists = grind (arith, each_keeps, down_keeps)

    port_up_keeps : (runs periodic : Bool) (port : ℕ) → port < length ports → AllByRecursion Keeps (sends_of ports before after runs periodic (PortUp port))
    port_up_keeps runs periodic port exists = grind (arith, each_keeps, up_keeps)

    -- ---- a packet

    module _ (number : ℕ) (bytes : List ℕ) (are_bytes : IsBytes bytes) (runs : Bool) (table_stays : (m : Heard) → heard ports before.up runs number bytes ≡ Some m
        → routes_heard ports number (Some m) ≡ [] → before.routes ≡ after.routes) where
      -- what is sent has the layouts that it should have
      abbrev IsShaped : Option Heard → Sent → Type 0
      IsShaped o s = IsForPacket ports before.up before.routes number bytes o s × IsBytes s.bytes

      -- what was heard
      heard_keeps : (m : Heard) → heard ports before.up runs number bytes ≡ Some m
          → AllByRecursion (IsShaped (Some m)) (heard_sends ports before after number m) → AllByRecursion Keeps (heard_sends ports before after number m)
      heard_keeps (HeardRip source rip) e shaped = by rip.operation refl
        where
          by : (operation : Operation) → rip.operation ≡ operation → AllByRecursion Keeps (elim operation [
            | Response ↦ flat_map (news_on ports before after) after.up
            | Request ↦
                rip_sends ports number (reply_to (port_at ports number) source) Response (asked rip.entries (told ports before.up before.routes number))
          ])
          by Response is = each_keeps (news_on ports before after) after.up news_keep
          by Request is =
              let there = heard_up ports before.up number runs bytes (HeardRip source rip) e in
              let same : before.routes ≡ after.routes = table_stays (HeardRip source rip) e
              (ap (λ (o : Operation). elim o [ Response ↦ routes_offered ports number source.node rip.entries | Request ↦ [] ]) is) in
              let from = (heard_is readings ports before.up number bytes are_bytes runs (HeardRip source rip) e).source in
              let to = reply_to (port_at ports number) source in
              let port : IsPort (port_at ports number) = port-all IsPort ports number are (one_up (λ j. j < length ports) before.up number old.ups there) in
              let entries : AllByRecursion (Writable (IsFromElsewhere after.routes number)) (told ports before.up before.routes number) =
              subst (λ (routes : List RouteOffer). AllByRecursion (Writable (IsFromElsewhere after.routes number)) (told ports before.up routes number)) (sym same)
              (told_written readings again ports are after.routes table rise before.up old.ups number there before.up old.ups new.routes) in
              answers_keep readings again ports are after.routes table rise before.up old.ups number there to
              (asked rip.entries (told ports before.up before.routes number)) (reply_is (port_at ports number) source port from)
              (all-filter (Writable (IsFromElsewhere after.routes number)) _ (told ports before.up before.routes number) entries)
      heard_keeps (HeardSap source (SapResponse nearest entries)) e shaped = each_keeps (news_on ports before after) after.up news_keep
      heard_keeps (HeardSap source (Query nearest kind)) e shaped =
          all_then (IsShaped (Some (HeardSap source (Query nearest kind)))) Keeps
          (λ s is. services_read readings (IsFromElsewhere after.routes s.port) ports before.up s is.1
          (reply_to (port_at ports number) is.0.asked.header.source) is.0.answers)
          (heard_sends ports before after number (HeardSap source (Query nearest kind))) shaped

      -- the packet itself, sent on
      relayed_keep : (sent : List Sent) → AllByRecursion (IsShaped None) sent → AllByRecursion Keeps sent
      relayed_keep sent shaped =
          all_then (IsShaped None) Keeps
          (λ s is. relayed_read readings (IsFromElsewhere after.routes s.port) again ports are before.up before.routes number bytes s are_bytes is.0) sent shaped

      -- what is sent, by the checks and by what was heard
      abbrev sent_by : Option Why → Option Heard → List Sent
      sent_by o h =
          elim o [
            | Some reason ↦ []
            | None ↦ elim h [
              | Some message ↦ heard_sends ports before after number message
              | None ↦ elim (packet_of bytes) [ Ok p ↦ relayed ports before.up before.routes number p | Err fault ↦ [] ]
            ]
          ]

      packet_keeps : AllByRecursion (IsShaped (heard ports before.up runs number bytes)) (packet_sends ports before after runs number bytes)
          → AllByRecursion Keeps (packet_sends ports before after runs number bytes)
      packet_keeps shaped = by (why ports before.up before.routes runs number bytes) (heard ports before.up runs number bytes) refl shaped
        where
          by : (o : Option Why) (h : Option Heard) → heard ports before.up runs number bytes ≡ h → AllByRecursion (IsShaped h) (sent_by o h)
              → AllByRecursion Keeps (sent_by o h)
          by (Some reason) h e all = tt
          by None (Some m) e all = heard_keeps m e all
          by None None e all = relayed_keep (sent_by None None) all

  -- ---- over histories

  module _ (most_routes most_services : ℕ) (history : History) where
    abbrev held_after : History → List RouteOffer
    held_after events = offers (routes_held ports most_routes events)

    abbrev having : History → Holding
    having events = holding ports most_routes most_services events

    abbrev next : Event → History
    next event = history ++ event ∷ []

    fits : (events : History) → AllByRecursion IsOfBytes events → Fits AnyRoute ports (having events)
    fits events bytes = search (rules, ports_up-within, held_routes_fit, held_services_fit, anything)

    -- what offers nothing changes no route
    unchanged : (number : ℕ) (packet : List ℕ) (m : Heard) → heard ports (ports_up ports history) (running history) number packet ≡ Some m
        → routes_heard ports number (Some m) ≡ [] → held_after history ≡ held_after (next (Packet number packet))
    unchanged number packet m e none = grind (arith, facts_from-more, append-nil)

    -- what an event sends, by what the layouts and the tables of routers say
    pub events_keep : (event : Event) → AllByRecursion (IsOnPort ports) (next event) → AllByRecursion IsOfBytes (next event)
        → AllByRecursion (IsTableRoute ports) (held_after (next event)) → IsStrictlyIncreasing (map (λ r. r.network.0) (held_after (next event)))
        → AllByRecursion (IsSentFor ports (ports_sending ports history event) (held_after history) (running history) event)
        (sends ports most_routes most_services history event)
        → AllByRecursion (λ s. IsBytes s.bytes) (sends ports most_routes most_services history event)
        → AllByRecursion (λ s. EachEntryReadIs (IsFromElsewhere (held_after (next event)) s.port) s.bytes)
        (sends ports most_routes most_services history event)
    events_keep Start on bytes table rise shaped sent_bytes =
        start_keeps (having history) (having (next Start)) (fits history (all_before IsOfBytes history (Start ∷ []) bytes)) (fits (next Start) bytes)
        table rise (running history) (is_periodic history)
    events_keep Stop on bytes table rise shaped sent_bytes =
        stop_keeps (having history) (having (next Stop)) (fits history (all_before IsOfBytes history (Stop ∷ []) bytes)) (fits (next Stop) bytes)
        table rise (running history) (is_periodic history)
        (none_held (ports_up ports (next Stop)) (held_after (next Stop)) (none_up ports (next Stop) (running-stop history))
        (held_routes_up ports most_routes (next Stop)))
    events_keep Second on bytes table rise shaped sent_bytes =
        seconds_keep (having history) (having (next Second)) (fits history (all_before IsOfBytes history (Second ∷ []) bytes)) (fits (next Second) bytes)
        table rise (running history) (is_periodic history)
    events_keep (PortDown port) on bytes table rise shaped sent_bytes =
        port_down_keeps (having history) (having (next (PortDown port))) (fits history (all_before IsOfBytes history (PortDown port ∷ []) bytes))
        (fits (next (PortDown port)) bytes) table rise (running history) (is_periodic history) port
        (all_behind (IsOnPort ports) history (PortDown port ∷ []) on).0
    events_keep (PortUp port) on bytes table rise shaped sent_bytes =
        port_up_keeps (having history) (having (next (PortUp port))) (fits history (all_before IsOfBytes history (PortUp port ∷ []) bytes))
        (fits (next (PortUp port)) bytes) table rise (running history) (is_periodic history) port
        (all_behind (IsOnPort ports) history (PortUp port ∷ []) on).0
    events_keep (Packet number packet) on bytes table rise shaped sent_bytes =
        let sent = sends ports most_routes most_services history (Packet number packet) in
        let stay = ports_stay ports history (Packet number packet) refl refl (λ port. refl) (λ port. refl) in
        let Shaped : List ℕ → Sent → Type 0 =
        λ up s. IsForPacket ports up (held_after history) number packet (heard ports up (running history) number packet) s in
        packet_keeps (having history) (having (next (Packet number packet))) (fits history (all_before IsOfBytes history (Packet number packet ∷ []) bytes))
        (fits (next (Packet number packet)) bytes) table rise number packet (all_behind IsOfBytes history (Packet number packet ∷ []) bytes).0
        (running history) (unchanged number packet)
        (all_both (Shaped (ports_up ports history)) (λ s. IsBytes s.bytes) sent
        (subst (λ (up : List ℕ). AllByRecursion (Shaped up) sent) stay shaped) sent_bytes)
