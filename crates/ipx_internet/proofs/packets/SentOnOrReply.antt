-- What a router sends for a packet that comes: that packet, sent on, or replies, which nobody sends on and which ask nothing.
use Rattle.std.proofs.Common.{◌≡◌, refl, sym, ap, ◌∙◌, subst, ◌⊎◌, ℕ, ◌+◌, ◌<◌, ◌==◌, Bool, true, false, not, if◌then◌else◌, List, [], ◌∷◌, ◌++◌, length, flat_map, Option, Some, None, Ok, Err, inl, inr, arith, true≢false, append-nil}
use Rattle.std.specs.List.{AllByRecursion}
use Rattle.std.proofs.lemmas.Bool.{cases_Bool, and_parts, both_ways, eq-eqb, or_right}
use Rattle.ipx_wire.specs.Forward.{forwarded, propagated}
use Rattle.ipx_wire.specs.Packet.{Parts, IsPacket, packet_of}
use Rattle.ipx_wire.specs.Piece.{IsBytes}
use Rattle.ipx_wire.specs.Rip.{IsEntry, RipParts}
use Rattle.ipx_wire.specs.Write.{packet_bytes}
use Rattle.ipx_wire.specs.declared.address.Address.{Address}
use Rattle.ipx_wire.specs.declared.network.Network.{Network}
use Rattle.ipx_wire.specs.declared.rip.Operation.{Operation}
use Rattle.ipx_wire.specs.declared.rip.Operation.TheVariants.{Request, Response}
use Rattle.ipx_wire.specs.declared.rip.RipEntry.{RipEntry}
use Rattle.ipx_wire.specs.declared.sap.Sap.TheVariants.{Query, Response as SapResponse}
use Rattle.ipx_wire.specs.declared.service.Service.{Service}
use Rattle.ipx_router.specs.Facts.{heard_after, routes_held, offers}
use Rattle.ipx_router.specs.Heard.{Heard, HeardRip, HeardSap, heard, heard_in}
use Rattle.ipx_router.specs.History.{Event, History, Packet, IsOnPort, IsOfBytes, running}
use Rattle.ipx_router.specs.News.{news, news_services}
use Rattle.ipx_router.specs.Numbers.{most_routers}
use Rattle.ipx_router.specs.Packets.{IsSentFor, IsForPacket, IsRelayed}
use Rattle.ipx_router.specs.Port.{Port, IsPort, port_at, is_up, is_local, own_address, everyone, own_services, every_server, reply_to}
use Rattle.ipx_router.specs.Relays.{Sent, relayed}
use Rattle.ipx_router.specs.Sends.{Holding, holding, sends, ports_sending, rip_sends, sap_sends, rip_broadcast, sap_broadcast, broadcasts, news_on, heard_sends, asked, of_kind, is_nearer, nearest_of}
use Rattle.ipx_router.specs.Told.{told, told_services}
use Rattle.ipx_router.specs.Why.{why, is_propagated, is_far}
use Rattle.ipx_router.specs.declared.route_offer.RouteOffer.{RouteOffer}
use Rattle.ipx_router.specs.declared.why.Why.{Why}
use Rattle.ipx_router.proofs.bytes.FieldsAreBytes.{IsPlace as IsPlaced, IsTellable}
use Rattle.ipx_router.proofs.lists.EachElement.{all_both}
use Rattle.ipx_router.proofs.tables.HeldFitsFields.{held_routes_fit, held_services_fit}
use Rattle.ipx_router.proofs.verdicts.HeardIsAsLayoutsAllow.{heard_is}
use Rattle.ipx_router.proofs.verdicts.HeardPassesAllChecks.{heard_passes}
use Rattle.ipx_router.proofs.histories.OneEventMore.{ports_stay}
use Rattle.ipx_router.proofs.changes.ChangesFitFields.{news_fit, news_services_fit}
use Rattle.ipx_router.proofs.sending.OwnPacketsAreValid.{Writable, reply_is}
use Rattle.ipx_router.proofs.port_values.PortOfEachNumber.{port-all, ports_up-within, members, one_up}
use Rattle.ipx_router.proofs.bytes.ReadInOneWay.{one_read}
use Rattle.ipx_router.proofs.bytes.SentIsBytes.{relayed_bytes}
use Rattle.ipx_router.proofs.bounds.LengthsOfWhatIsSent.{network_fits}
use Rattle.ipx_router.proofs.tables.HeldWasOffered.{source_of}
use Rattle.ipx_router.proofs.telling.ToldFitsFields.{told_fits, told_services_fit}
use Rattle.ipx_router.proofs.bytes.LawsOfLayouts.{Readings, Rereadings}
use Rattle.ipx_internet.proofs.lists.EachElement.{all_of, all_then, all-append, all-filter, all-flat_map}
use Rattle.ipx_internet.proofs.packets.PagesReadAgain.{IsRipPage, IsSapPage, Tellable, everyone_is, every_server_is, rip_pages, sap_pages}
use Rattle.ipx_internet.proofs.packets.ResponsesAskNothing.{Answers, IsAnswering}

-- the laws of packets and of routers that settling rests on
pub record Layouts : Type 0 where
  pub readings : Readings
  pub again : Rereadings
  pub layouts : (ports : List Port) (most_routes most_services : ℕ) (history : History) (event : Event)
      → AllByRecursion IsPort ports → AllByRecursion (IsOnPort ports) (history ++ event ∷ []) → AllByRecursion IsOfBytes (history ++ event ∷ [])
      → AllByRecursion (IsSentFor ports (ports_sending ports history event) (offers (routes_held ports most_routes history)) (running history) event)
      (sends ports most_routes most_services history event)
  pub bytes : (ports : List Port) (most_routes most_services : ℕ) (history : History) (event : Event)
      → AllByRecursion IsPort ports → AllByRecursion (IsOnPort ports) (history ++ event ∷ []) → AllByRecursion IsOfBytes (history ++ event ∷ [])
      → AllByRecursion (λ s. IsBytes s.bytes) (sends ports most_routes most_services history event)

-- ---- replies

-- a packet for the port's own network, that is sent on by nobody, and asks nothing
pub record IsReply (port : Port) (bytes : List ℕ) : Type 0 where
  pub packet : Parts
  pub read : packet_of bytes ≡ Ok packet
  pub plain : is_propagated packet.header ≡ false
  pub home : packet.header.destination.network ≡ port.network
  pub answers : Answers packet.payload

pub rip_reply : (P : RipEntry → Type 0) (port : Port) (from to : Address) (bytes : List ℕ) → to.network ≡ port.network → IsRipPage P from to bytes → IsReply port bytes
rip_reply P port from to bytes home is = grind arith

pub sap_reply : (Q : Service → Type 0) (port : Port) (from to : Address) (nearest : Bool) (bytes : List ℕ) → to.network ≡ port.network → IsSapPage Q from to nearest bytes
    → IsReply port bytes
sap_reply Q port from to nearest bytes home is = grind arith

-- a page of changes, broadcast on a port
abbrev pub IsNewsSent : (RipEntry → Type 0) → (Service → Type 0) → Port → List ℕ → Type 0
IsNewsSent P Q port bytes =
    IsRipPage P (own_address port) (everyone port) bytes ⊎ IsSapPage Q (own_services port) (every_server port) false bytes

-- such a page leaves on a port that is up, where what is asked of entries and services is asked by the port
pub record IsCast (up : List ℕ) (P : ℕ → RipEntry → Type 0) (Q : ℕ → Service → Type 0) (ports : List Port) (s : Sent) : Type 0 where
  pub on : is_up up s.port ≡ true
  pub news : IsNewsSent (P s.port) (Q s.port) (port_at ports s.port) s.bytes

pub news_reply : (P : RipEntry → Type 0) (Q : Service → Type 0) (port : Port) (bytes : List ℕ) → IsNewsSent P Q port bytes → IsReply port bytes
news_reply P Q port bytes given = grind arith

-- ---- what is sent on

-- a packet that came on a port and was sent on: it had come through fewer than sixteen routers, and came through one more; it is still a
-- propagated one, or says what it said
pub record IsOnward (port : Port) (came sent : List ℕ) : Type 0 where
  pub packet : Parts
  pub read : packet_of came ≡ Ok packet
  pub few : packet.header.control < most_routers
  pub goes : (is_propagated packet.header ≡ true) ⊎ (is_far port packet.header ≡ true)
  pub further : Parts
  pub reread : packet_of sent ≡ Ok further
  pub more : further.header.control ≡ packet.header.control + 1
  pub socket : further.header.destination.socket.0 ≡ packet.header.destination.socket.0
  pub source : further.header.source ≡ packet.header.source
  pub keeps : ((is_propagated packet.header ≡ true) × (is_propagated further.header ≡ true))
      ⊎ ((is_propagated further.header ≡ is_propagated packet.header) × (heard_in further ≡ heard_in packet))

-- nobody sends on what is for the port's own network, and not propagated
pub not_onward : (port : Port) (came sent : List ℕ) (p : Parts) → packet_of came ≡ Ok p → is_propagated p.header ≡ false
    → p.header.destination.network ≡ port.network → IsOnward port came sent → ⊥
not_onward port came sent p read is_plain is_home on = by on.goes
  where
    same : p ≡ on.packet
    same = one_read (packet_of came) p on.packet read on.read

    plain : is_propagated on.packet.header ≡ false
    plain = subst (λ (q : Parts). is_propagated q.header ≡ false) same is_plain

    home : on.packet.header.destination.network ≡ port.network
    home = subst (λ (q : Parts). q.header.destination.network ≡ port.network) same is_home

    local : is_local port on.packet.header.destination.network ≡ true
    local = subst (λ (n : Network). is_local port n ≡ true) (sym home) (or_right (port.network.0 == 0) (port.network.0 == port.network.0) (eq-eqb port.network.0 port.network.0 refl))

    by : (is_propagated on.packet.header ≡ true) ⊎ (is_far port on.packet.header ≡ true) → ⊥
    by (inl all) = both_ways (is_propagated on.packet.header) plain all
    by (inr far) =
        let there = (and_parts (not (is_propagated on.packet.header)) (not (is_local port on.packet.header.destination.network)) far).1 in
        true≢false (sym there ∙ ap not local)

-- so nobody sends a reply on
pub no_reply : (port : Port) (came sent : List ℕ) → IsReply port came → IsOnward port came sent → ⊥
no_reply port came sent reply on = not_onward port came sent reply.packet reply.read reply.plain reply.home on

module _ (laws : Layouts) (ports : List Port) (are : AllByRecursion IsPort ports) where
  pub onward : (up : List ℕ) (routes : List RouteOffer) (number : ℕ) (bytes : List ℕ) → IsBytes bytes → (s : Sent) → IsRelayed ports up routes number bytes s
      → IsOnward (port_at ports number) bytes s.bytes
  onward up routes number bytes are_bytes s (inl is) =
      let p = is.packet in
      let few = is.few in
      let sent : IsBytes s.bytes = relayed_bytes ports up routes number bytes s are_bytes (inl is) in
      let again : IsPacket s.bytes (forwarded p) =
      subst (λ bs. IsPacket bs (forwarded p)) (append-nil (packet_bytes (forwarded p)) ∙ sym is.written)
      (laws.again.forwarded_again bytes p [] is.is (omega (arith, few))) in
      record {
        packet = p;
        read = (laws.readings.packet_read bytes p are_bytes).1 is.is;
        few = few;
        goes = inr is.far;
        further = forwarded p;
        reread = (laws.readings.packet_read s.bytes (forwarded p) sent).1 again;
        more = refl;
        socket = refl;
        source = refl;
        keeps = inr (refl, refl);
      }
  onward up routes number bytes are_bytes s (inr is) =
      let p = is.packet in
      let free = is.crossed.free in
      let crossing = propagated (port_at ports number).network (port_at ports s.port).network p in
      let sent : IsBytes s.bytes = relayed_bytes ports up routes number bytes s are_bytes (inr is) in
      let again : IsPacket s.bytes crossing =
      subst (λ bs. IsPacket bs crossing) (append-nil (packet_bytes crossing) ∙ sym is.written)
      (laws.again.propagated_again bytes p (port_at ports number).network (port_at ports s.port).network [] is.is is.crossed.free is.crossed.eight
      (network_fits ports s.port are)) in
      record {
        packet = p;
        read = (laws.readings.packet_read bytes p are_bytes).1 is.is;
        few = omega (arith, free);
        goes = inl is.all;
        further = crossing;
        reread = (laws.readings.packet_read s.bytes crossing sent).1 again;
        more = refl;
        socket = refl;
        source = refl;
        keeps = inl (is.all, is.all);
      }

  -- ---- the nearest service

  pub nearest_fits : (services : List Service) → AllByRecursion IsTellable services → AllByRecursion IsTellable (nearest_of services)
  nearest_fits [] all = tt
  nearest_fits (service ∷ services) all = nearer (nearest_of services) (nearest_fits services all.1)
    where
      nearer : (found : List Service) → AllByRecursion IsTellable found → AllByRecursion IsTellable (elim found [
        | [] ↦ service ∷ []
        | ◌∷◌ best rest ↦ if is_nearer best service then best ∷ [] else service ∷ []
      ])
      nearer [] some = (all.0, tt)
      nearer (best ∷ rest) some = elim (cases_Bool (is_nearer best service)) [
        | inl e ↦ rw e (some.0, tt)
        | inr e ↦ rw e (all.0, tt)
      ]

  pub either_fits : (c : Bool) (xs ys : List Service) → AllByRecursion IsTellable xs → AllByRecursion IsTellable ys → AllByRecursion IsTellable (if c then xs else ys)
  either_fits c xs ys one two = grind arith

  -- ---- broadcasts

  module _ (up : List ℕ) (ups : AllByRecursion (λ j. j < length ports) up) (P : ℕ → RipEntry → Type 0) (Q : ℕ → Service → Type 0) where
    pub broadcast_cast : (j : ℕ) → is_up up j ≡ true → (entries : List RipEntry) (services : List Service) → AllByRecursion (Writable (P j)) entries
        → AllByRecursion (Tellable (Q j)) services → AllByRecursion (IsCast up P Q ports) (broadcasts ports j entries services)
    broadcast_cast j on entries services written tellable =
        let port = port_at ports j in
        let is_port : IsPort port = port-all IsPort ports j are (one_up (λ k. k < length ports) up j ups on) in
        let P_at : ℕ → Sent → Type 0 = λ k s. IsRipPage (P k) (own_address (port_at ports k)) (everyone (port_at ports k)) s.bytes in
        let Q_at : ℕ → Sent → Type 0 = λ k s. IsSapPage (Q k) (own_services (port_at ports k)) (every_server (port_at ports k)) false s.bytes in
        let Up : ℕ → Type 0 = λ k. is_up up k ≡ true in
        all-append (IsCast up P Q ports) (rip_broadcast ports j entries) (sap_broadcast ports j services)
        (all_then (λ s. P_at j s × (s.port ≡ j)) (IsCast up P Q ports)
        (λ s is. record { on = subst Up (sym is.1) on; news = inl (subst (λ (k : ℕ). P_at k s) (sym is.1) is.0) }) (rip_broadcast ports j entries)
        (rip_pages laws.readings laws.again ports j is_port (P j) (everyone port) (everyone_is port is_port) entries written))
        (all_then (λ s. Q_at j s × (s.port ≡ j)) (IsCast up P Q ports)
        (λ s is. record { on = subst Up (sym is.1) on; news = inr (subst (λ (k : ℕ). Q_at k s) (sym is.1) is.0) }) (sap_broadcast ports j services)
        (sap_pages laws.readings laws.again ports j is_port (Q j) (every_server port) (every_server_is port is_port) false services tellable))

    -- what each port that is up sends
    pub each_cast : (f : ℕ → List Sent) → ((j : ℕ) → is_up up j ≡ true → AllByRecursion (IsCast up P Q ports) (f j)) → AllByRecursion (IsCast up P Q ports) (flat_map f up)
    each_cast f step = all-flat_map (λ j. is_up up j ≡ true) (IsCast up P Q ports) f step up (members up)

  -- ---- a packet that comes after a history

  module _ (most_routes most_services : ℕ) (history : History) (on : AllByRecursion (IsOnPort ports) history) (of_bytes : AllByRecursion IsOfBytes history)
      (number : ℕ) (bytes : List ℕ) (within : number < length ports) (are_bytes : IsBytes bytes) where
    abbrev pub event : Event
    event = Packet number bytes

    abbrev pub before : Holding
    before = holding ports most_routes most_services history

    abbrev pub after : Holding
    after = holding ports most_routes most_services (history ++ event ∷ [])

    abbrev pub sent : List Sent
    sent = sends ports most_routes most_services history event

    abbrev pub heard_now : Option Heard
    heard_now = heard_after ports history number bytes

    all_on : AllByRecursion (IsOnPort ports) (history ++ event ∷ [])
    all_on = all-append (IsOnPort ports) history (event ∷ []) on (within, tt)

    all_of_bytes : AllByRecursion IsOfBytes (history ++ event ∷ [])
    all_of_bytes = all-append IsOfBytes history (event ∷ []) of_bytes (are_bytes, tt)

    -- the packet itself, where nothing was heard of it
    pub unsaid : heard_now ≡ None → AllByRecursion (λ s. IsOnward (port_at ports number) bytes s.bytes) sent
    unsaid e =
        let stay = ports_stay ports history event refl refl (λ port. refl) (λ port. refl) in
        let laid = laws.layouts ports most_routes most_services history event are all_on all_of_bytes in
        let here : AllByRecursion (IsForPacket ports before.up before.routes number bytes heard_now) sent =
        subst (λ (up : List ℕ). AllByRecursion (λ s. IsForPacket ports up before.routes number bytes (heard ports up (running history) number bytes) s) sent) stay laid in
        all_then (IsRelayed ports before.up before.routes number bytes) (λ s. IsOnward (port_at ports number) bytes s.bytes)
        (λ s is. onward before.up before.routes number bytes are_bytes s is) sent
        (subst (λ (o : Option Heard). AllByRecursion (λ s. IsForPacket ports before.up before.routes number bytes o s) sent) e here)

    -- what was heard decides, if anything was
    pub said : (m : Heard) → heard_now ≡ Some m → (sent ≡ []) ⊎ (sent ≡ heard_sends ports before after number m)
    said m e = by (why ports before.up before.routes (running history) number bytes) refl
      where
        relays : List Sent
        relays = elim (packet_of bytes) [ Ok p ↦ relayed ports before.up before.routes number p | Err fault ↦ [] ]

        for : Option Heard → List Sent
        for o = elim o [ Some message ↦ heard_sends ports before after number message | None ↦ relays ]

        judged : Option Why → List Sent
        judged o = elim o [ Some reason ↦ [] | None ↦ for heard_now ]

        by : (o : Option Why) → why ports before.up before.routes (running history) number bytes ≡ o → (sent ≡ []) ⊎ (sent ≡ heard_sends ports before after number m)
        by (Some reason) w = inl (ap judged w)
        by None w = inr (ap judged w ∙ ap for e)

    -- and something was
    pub said_so : (m : Heard) → heard_now ≡ Some m → sent ≡ heard_sends ports before after number m
    said_so m e = ap judged passes ∙ ap for e
      where
        passes : why ports before.up before.routes (running history) number bytes ≡ None
        passes = heard_passes ports before.up before.routes number bytes (running history) m e

        relays : List Sent
        relays = elim (packet_of bytes) [ Ok p ↦ relayed ports before.up before.routes number p | Err fault ↦ [] ]

        for : Option Heard → List Sent
        for o = elim o [ Some message ↦ heard_sends ports before after number message | None ↦ relays ]

        judged : Option Why → List Sent
        judged o = elim o [ Some reason ↦ [] | None ↦ for heard_now ]

    said_all : (P : Sent → Type 0) (m : Heard) → heard_now ≡ Some m → AllByRecursion P (heard_sends ports before after number m) → AllByRecursion P sent
    said_all P m e all = grind (arith, said)

    is_port : (j : ℕ) → j < length ports → IsPort (port_at ports j)
    is_port j there = port-all IsPort ports j are there

    routes_fit : AllByRecursion IsEntry (told ports before.up before.routes number)
    routes_fit = told_fits ports are before.up before.routes number (ports_up-within ports history) (held_routes_fit laws.readings ports most_routes history of_bytes)

    services_fit : AllByRecursion IsTellable (told_services before.services number)
    services_fit = told_services_fit before.services number (held_services_fit laws.readings ports most_services history of_bytes)

    -- ---- changes

    module _ (P : ℕ → RipEntry → Type 0) (Q : ℕ → Service → Type 0) (routes : (j : ℕ) → AllByRecursion (P j) (news ports before.routes after.routes j))
        (services : (j : ℕ) → AllByRecursion (Q j) (news_services before.services after.services j)) where
      abbrev IsNews : Sent → Type 0
      IsNews s = IsCast after.up P Q ports s

      pub all_news : AllByRecursion IsNews (flat_map (news_on ports before after) after.up)
      all_news =
          let ups = ports_up-within ports (history ++ event ∷ []) in
          each_cast after.up ups P Q (news_on ports before after) (λ j on.
          let entries = news ports before.routes after.routes j in
          let told_now = news_services before.services after.services j in
          broadcast_cast after.up ups P Q j on entries told_now
          (all_both IsEntry (P j) entries (news_fit ports before.routes after.routes j (held_routes_fit laws.readings ports most_routes history of_bytes)
          (held_routes_fit laws.readings ports most_routes (history ++ event ∷ []) all_of_bytes)) (routes j))
          (all_both IsTellable (Q j) told_now (news_services_fit before.services after.services j (held_services_fit laws.readings ports most_services history of_bytes)
          (held_services_fit laws.readings ports most_services (history ++ event ∷ []) all_of_bytes)) (services j)))

      -- for a response, pages of changes
      pub answered : (m : Heard) → heard_now ≡ Some m → IsAnswering m → AllByRecursion IsNews sent
      answered m e is = said_all IsNews m e (by m is)
        where
          by_operation : (source : Address) (rip : RipParts) (operation : Operation) → operation ≡ Response → AllByRecursion IsNews (elim operation [
            | Response ↦ flat_map (news_on ports before after) after.up
            | Request ↦ rip_sends ports number (reply_to (port_at ports number) source) Response (asked rip.entries (told ports before.up before.routes number))
          ])
          by_operation source rip Response e = all_news
          by_operation source rip Request e = absurd (not_request e)
            where
              not_request : Request ≡ Response → ⊥
              not_request e = true≢false (ap (λ (o : Operation). elim o [ Request ↦ true | Response ↦ false ]) e)

          by : (m : Heard) → IsAnswering m → AllByRecursion IsNews (heard_sends ports before after number m)
          by (HeardRip source rip) is = by_operation source rip rip.operation is
          by (HeardSap source (Query nearest kind)) is = absurd is
          by (HeardSap source (SapResponse nearest entries)) is = all_news

    -- ---- whatever was heard

    anything : {X : Type 0} (xs : List X) → AllByRecursion (λ x. Unit {0}) xs
    anything xs = all_of (λ x. Unit {0}) (λ x. tt) xs

    abbrev Replies : Sent → Type 0
    Replies s = IsReply (port_at ports s.port) s.bytes

    all_news_reply : AllByRecursion Replies (flat_map (news_on ports before after) after.up)
    all_news_reply =
        let P : ℕ → RipEntry → Type 0 = λ j e. Unit {0} in
        let Q : ℕ → Service → Type 0 = λ j s. Unit {0} in
        all_then (IsCast after.up P Q ports) Replies (λ s is. news_reply (P s.port) (Q s.port) (port_at ports s.port) s.bytes is.news)
        (flat_map (news_on ports before after) after.up)
        (all_news P Q (λ j. anything (news ports before.routes after.routes j)) (λ j. anything (news_services before.services after.services j)))

    writable : (entries : List RipEntry) → AllByRecursion IsEntry entries → AllByRecursion (Writable (λ e. Unit {0})) entries
    writable entries all = all_then IsEntry (Writable (λ e. Unit {0})) (λ e is. (is, tt)) entries all

    tellable : (services : List Service) → AllByRecursion IsTellable services → AllByRecursion (Tellable (λ s. Unit {0})) services
    tellable services all = all_then IsTellable (Tellable (λ s. Unit {0})) (λ s is. (is, tt)) services all

    pub all_reply : (m : Heard) → heard_now ≡ Some m → AllByRecursion Replies sent
    all_reply m e = said_all Replies m e (by m (heard_is laws.readings ports before.up number bytes are_bytes (running history) m e).source)
      where
        port : Port
        port = port_at ports number

        by_operation : (source : Address) (rip : RipParts) → IsPlaced source → (operation : Operation) → AllByRecursion Replies (elim operation [
          | Response ↦ flat_map (news_on ports before after) after.up
          | Request ↦ rip_sends ports number (reply_to port source) Response (asked rip.entries (told ports before.up before.routes number))
        ])
        by_operation source rip from Response = all_news_reply
        by_operation source rip from Request =
            let entries = told ports before.up before.routes number in
            let to = reply_to port source in
            all_then (λ s. IsRipPage (λ e. Unit {0}) (own_address port) to s.bytes × (s.port ≡ number)) Replies
            (λ s is. subst (λ (k : ℕ). IsReply (port_at ports k) s.bytes) (sym is.1) (rip_reply (λ e. Unit {0}) port (own_address port) to s.bytes refl is.0))
            (rip_sends ports number to Response (asked rip.entries entries))
            (rip_pages laws.readings laws.again ports number (is_port number within) (λ e. Unit {0}) to (reply_is port source (is_port number within) from)
            (asked rip.entries entries) (writable (asked rip.entries entries) (all-filter IsEntry _ entries routes_fit)))

        by : (m : Heard) → IsPlaced (source_of m) → AllByRecursion Replies (heard_sends ports before after number m)
        by (HeardRip source rip) from = by_operation source rip from rip.operation
        by (HeardSap source (SapResponse nearest entries)) from = all_news_reply
        by (HeardSap source (Query nearest kind)) from =
            let told_here = told_services before.services number in
            let services = of_kind kind told_here in
            let to = reply_to port source in
            let fits : AllByRecursion IsTellable services = all-filter IsTellable _ told_here services_fit in
            let answer = if nearest then nearest_of services else services in
            all_then (λ s. IsSapPage (λ e. Unit {0}) (own_services port) to nearest s.bytes × (s.port ≡ number)) Replies
            (λ s is. subst (λ (k : ℕ). IsReply (port_at ports k) s.bytes) (sym is.1) (sap_reply (λ e. Unit {0}) port (own_services port) to nearest s.bytes refl is.0))
            (sap_sends ports number to nearest answer)
            (sap_pages laws.readings laws.again ports number (is_port number within) (λ e. Unit {0}) to (reply_is port source (is_port number within) from) nearest
            answer (tellable answer (either_fits nearest (nearest_of services) services (nearest_fits services fits) fits)))
