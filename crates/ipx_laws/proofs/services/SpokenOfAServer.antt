-- What waits for a port, of a service that hosts announce: what the router or the host that sends it may say there. A router sends nothing
-- else, neither at a second nor for such a packet.
use Rattle.std.proofs.Common.{◌≡◌, ◌≢◌, refl, sym, ap, ◌∙◌, ◌⊎◌, ℕ, ◌+◌, ◌<◌, Bool, true, false, not, List, map, Some, None, Result, Ok, Err, inl, inr, arith, true≢false, rules}
use Rattle.std.specs.List.{AllByRecursion}
use Rattle.std.proofs.lemmas.Bool.{cases_Bool, and_parts, eqb-true}
use Rattle.ipx_wire.specs.Packet.{Parts}
use Rattle.ipx_wire.specs.Rip.{RipParts, rip_of}
use Rattle.ipx_wire.specs.Write.{rip_packet_parts}
use Rattle.ipx_wire.specs.WriteServices.{entry_of as sap_entry, sap_packet_parts}
use Rattle.ipx_wire.specs.declared.address.Address.{Address}
use Rattle.ipx_wire.specs.declared.node.Node.{Node}
use Rattle.ipx_wire.specs.declared.rip.Operation.{Operation}
use Rattle.ipx_wire.specs.declared.rip.Operation.TheVariants.{Response}
use Rattle.ipx_wire.specs.declared.rip.RipEntry.{RipEntry}
use Rattle.ipx_wire.specs.declared.rip.RipFault.{RipFault}
use Rattle.ipx_wire.specs.declared.sap.Sap.TheVariants.{Query, Response as SapResponse}
use Rattle.ipx_wire.specs.declared.sap_entries.SapEntry.{SapEntry}
use Rattle.ipx_wire.specs.declared.service.Service.{Service}
use Rattle.ipx_router.specs.Heard.{Heard, HeardRip, HeardSap, heard_in}
use Rattle.ipx_router.specs.Numbers.{rip_socket, sap_socket, unreachable}
use Rattle.ipx_router.specs.Port.{Port, port_at, is_local, is_up, own_address, own_services, everyone, every_server}
use Rattle.ipx_router.specs.Relays.{Sent}
use Rattle.ipx_router.specs.Why.{is_propagated, is_far, is_for_rip}
use Rattle.ipx_router.specs.declared.service_offer.ServiceOffer.{ServiceOffer}
use Rattle.ipx_router.proofs.lists.EachElement.{all_both}
use Rattle.ipx_internet.specs.Internet.{Internet, Place, port_of, ports_of, network_of}
use Rattle.ipx_internet.proofs.lists.EachElement.{all_then, all_mapped}
use Rattle.ipx_internet.proofs.lists.FoundInAList.{nothing, it_is}
use Rattle.ipx_internet.proofs.packets.PagesReadAgain.{IsRipPage, IsSapPage}
use Rattle.ipx_internet.proofs.packets.ResponsesAskNothing.{rip_answers, sap_answers, IsAnswering, answering}
use Rattle.ipx_internet.proofs.packets.SentOnOrReply.{IsNewsSent, IsCast, IsOnward, sap_reply, no_reply}
use Rattle.ipx_internet.proofs.records.HeardChangesItsKeys.{service_offer}
use Rattle.ipx_internet.proofs.rounds.RepliesTellChanges.{services_heard_of}
use Rattle.ipx_internet.proofs.rounds.SentOnRunsOut.{reply_moves}
use Rattle.ipx_laws.specs.Announces.{service_of, AsksApart}
use Rattle.ipx_laws.specs.Meanwhile.{message_in, message_of, AsksElsewhere}
use Rattle.ipx_laws.specs.Servers.{Server, IsOf, IsAnnouncedOn, IsSilentOf, SaysAsAnnounced, IsForHere, MaySay, NamesOnly, IsServed, announced}
use Rattle.ipx_laws.proofs.packets.SentOnSaysTheSame.{of_packet, for_rip, for_sap, message_heard, sent_on_message}
use Rattle.ipx_laws.proofs.records.RecordsGrowOld.{IsWithin}
use Rattle.ipx_laws.proofs.ticks.RealOrSoonEnded.{Reaches}

-- a response isn't answered at all
asks_elsewhere : (source : Address) (operation : Operation) → operation ≡ Response → AsksElsewhere source operation
asks_elsewhere source operation e = grind arith

-- a packet that is for the port's own network, and of which anything may be heard, is sent on by nobody
pub here_stays : (port : Port) (came sent : List ℕ) (m : Heard) → message_of came ≡ Some m → IsForHere port came → IsOnward port came sent → ⊥
here_stays port came sent m e here on = by on.goes
  where
    said : message_in on.packet ≡ Some m
    said = of_packet came on.packet m on.read e

    by : (is_propagated on.packet.header ≡ true) ⊎ (is_far port on.packet.header ≡ true) → ⊥
    by (inl all) = nothing (rw all at said)
    by (inr far) =
        let there = (and_parts (not (is_propagated on.packet.header)) (not (is_local port on.packet.header.destination.network)) far).1 in
        true≢false (sym there ∙ ap not (here on.packet on.read))

module _ (net : Internet) (up : ℕ → List ℕ) (server : Server) (Listed : ℕ × List ℕ → Type 0) where
  abbrev pub at : ℕ → ℕ → Place
  at router j = record { router = router; port = j }

  -- a service of a router has a listed name, and is another one or as the router may know it
  abbrev pub IsFine : ℕ → ServiceOffer → Type 0
  IsFine router s = Listed (s.service.kind, s.service.name) × (IsOf server s.service → IsServed net up server router s)

  -- a service that is sent on a port: whoever learns of it there may know it so, or it was said soon enough
  abbrev pub IsSoon : (delay slack begun : ℕ) → Place → Service → Type 0
  IsSoon delay slack begun from s =
      s.hops < unreachable
      → ((to : Place) → Reaches net up from to → is_up (up to.router) to.port ≡ true
      → IsFine to.router (record { service = s; port = to.port; node = (port_of net from).node })) ⊎ IsWithin delay slack s.hops (delay + begun)

  -- ---- what doesn't name it

  -- whatever may be heard of the bytes asks apart, doesn't name it, and names listed ones alone
  abbrev pub Silent : List ℕ → Type 0
  Silent bytes = (m : Heard) → message_of bytes ≡ Some m → AsksApart m × IsSilentOf server m × NamesOnly Listed m

  -- what may be heard of a packet names listed ones alone
  abbrev pub Names : List ℕ → Type 0
  Names bytes = (m : Heard) → message_of bytes ≡ Some m → NamesOnly Listed m

  -- a page of routes doesn't name it, where it isn't for the process of services
  pub routes_silent : (P : RipEntry → Type 0) (from to : Address) (bytes : List ℕ) → to.socket.0 ≢ sap_socket → IsRipPage P from to bytes → Silent bytes
  routes_silent P from to bytes apart page m e =
      let parts = rip_packet_parts from to Response page.page in
      let here : message_in parts ≡ Some m = of_packet bytes parts m page.read e in
      elim (cases_Bool (is_for_rip parts.header)) [
        | inl rip ↦ by parts (rip_of parts.payload) (for_rip parts m rip here) (answering parts (rip_answers page.page) m (message_heard parts m here))
        | inr other ↦ let sap = for_sap parts m other here in absurd (apart (eqb-true to.socket.0 sap_socket sap.0))
      ]
    where
      by : (p : Parts) (r : Result RipParts RipFault) → elim r [ Ok rip ↦ Some (HeardRip p.header.source rip) | Err fault ↦ None ] ≡ Some m
          → IsAnswering m → AsksApart m × IsSilentOf server m × NamesOnly Listed m
      by p (Err fault) e answers = nothing e
      by p (Ok rip) e answers =
          it_is (λ (h : Heard). IsAnswering h → AsksApart h × IsSilentOf server h × NamesOnly Listed h) m (HeardRip p.header.source rip) e
          (λ is. (asks_elsewhere p.header.source rip.operation is, tt, tt)) answers

  -- ---- what is said of it, where routers say such words

  module _ (delay slack : ℕ) (Speaks : ℕ → Service → Type 0) where
    -- who says something of it on a port: who announces it there, or the port of another router that says so
    abbrev pub Who : Place → Node → Service → Type 0
    Who to node s =
        IsAnnouncedOn server (network_of net to) node s
        ⊎ ((from : Place) × Reaches net up from to × (node ≡ (port_of net from).node) × Speaks from.router s)

    -- an entry that a node says on a port, when so many ticks have begun: such a node says it, and whoever learns of it may know it so, or it was
    -- said soon enough
    pub record EntrySaid (begun : ℕ) (to : Place) (node : Node) (e : SapEntry) : Type 0 where
      pub who : (name : List ℕ) → e.name ≡ Some name → IsOf server (service_of e name) → Who to node (service_of e name)
      pub fine : is_up (up to.router) to.port ≡ true → e.hops < unreachable → (name : List ℕ) → e.name ≡ Some name
          → IsFine to.router (service_offer to.port node e name) ⊎ IsWithin delay slack e.hops (delay + begun)

    abbrev pub Told : ℕ → Place → Heard → Type 0
    Told begun to (HeardRip source rip) = AsksElsewhere source rip.operation
    Told begun to (HeardSap source (Query nearest kind)) = Unit
    Told begun to (HeardSap source (SapResponse nearest entries)) = AllByRecursion (EntrySaid begun to source.node) entries

    pub told_asks : (begun : ℕ) (to : Place) (m : Heard) → Told begun to m → AsksApart m
    told_asks begun to (HeardRip source rip) tells = tells
    told_asks begun to (HeardSap source sap) tells = tt

    -- what comes to a port tells of such; and sent on from there, it doesn't name it
    pub record Waits (begun : ℕ) (to : Place) (bytes : List ℕ) : Type 0 where
      pub tells : (m : Heard) → message_of bytes ≡ Some m → Told begun to m
      pub onward : (sent : List ℕ) → IsOnward (port_of net to) bytes sent → Silent sent

    -- ---- what doesn't name it

    told_silent : (begun : ℕ) (to : Place) (m : Heard) → AsksApart m → IsSilentOf server m → NamesOnly Listed m → Told begun to m
    told_silent begun to (HeardRip source rip) apart silent listed = apart
    told_silent begun to (HeardSap source (Query nearest kind)) apart silent listed = tt
    told_silent begun to (HeardSap source (SapResponse nearest entries)) apart silent listed =
        let None_of : SapEntry → Type 0 = λ e. (name : List ℕ) → e.name ≡ Some name → IsOf server (service_of e name) → ⊥ in
        let Named : SapEntry → Type 0 = λ e. (name : List ℕ) → e.name ≡ Some name → Listed (e.kind, name) in
        all_then (λ e. None_of e × Named e) (EntrySaid begun to source.node)
        (λ e both. record {
          who = λ name is of. absurd (both.0 name is of);
          fine = λ here near name is. inl (both.1 name is, (λ of. absurd (both.0 name is of)));
        }) entries (all_both None_of Named entries silent listed)

    pub silent_waits : (begun : ℕ) (to : Place) (bytes : List ℕ) → Silent bytes → Waits begun to bytes
    silent_waits begun to bytes silent = grind (arith, told_silent, sent_on_message)

    -- ---- what a host says

    told_announced : (begun : ℕ) (to : Place) (m : Heard) → AsksApart m → SaysAsAnnounced server (network_of net to) m → NamesOnly Listed m → Told begun to m
    told_announced begun to (HeardRip source rip) apart says listed = apart
    told_announced begun to (HeardSap source (Query nearest kind)) apart says listed = tt
    told_announced begun to (HeardSap source (SapResponse nearest entries)) apart says listed =
        let As_announced : SapEntry → Type 0 = λ e. (name : List ℕ) → e.name ≡ Some name → IsOf server (service_of e name)
        → IsAnnouncedOn server (network_of net to) source.node (service_of e name) in
        let Named : SapEntry → Type 0 = λ e. (name : List ℕ) → e.name ≡ Some name → Listed (e.kind, name) in
        all_then (λ e. As_announced e × Named e) (EntrySaid begun to source.node)
        (λ e both. record {
          who = λ name is of. inl (both.0 name is of);
          fine = λ here near name is. inl (both.1 name is, (λ of. announced here (both.0 name is of)));
        }) entries (all_both As_announced Named entries says listed)

    pub host_waits : (begun : ℕ) (to : Place) (bytes : List ℕ) → MaySay net server to bytes → Names bytes → Waits begun to bytes
    host_waits begun to bytes may names = record {
      tells = λ m e. let both = may m e in elim both.1 [
        | inl silent ↦ told_silent begun to m both.0 silent (names m e)
        | inr says ↦ told_announced begun to m both.0 says.1 (names m e)
      ];
      onward = λ sent on m e.
          let came = sent_on_message (port_of net to) bytes sent on m e in
          let both = may m came in
          elim both.1 [
            | inl silent ↦ (both.0, silent, names m came)
            | inr says ↦ absurd (here_stays (port_of net to) bytes sent m came says.0 on)
          ];
    }

    -- ---- what a router says

    -- a service that is sent on a port: the router says so, and it is soon enough
    abbrev pub ServiceSaid : ℕ → Place → Service → Type 0
    ServiceSaid begun from s = Speaks from.router s × IsSoon delay slack begun from s

    -- a page of services that a port sends to its own network, to all or to who asked
    pub record IsOwnServices (begun : ℕ) (from : Place) (bytes : List ℕ) : Type 0 where
      pub to : Address
      pub home : to.network ≡ (port_of net from).network
      pub nearest : Bool
      pub page : IsSapPage (ServiceSaid begun from) (own_services (port_of net from)) to nearest bytes

    abbrev pub IsSpoken : ℕ → ℕ → Sent → Type 0
    IsSpoken begun router s = ((is_up (up router) s.port ≡ true) × IsOwnServices begun (at router s.port) s.bytes) ⊎ Silent s.bytes

    pub cast_spoken : (begun router : ℕ) (P : ℕ → RipEntry → Type 0) (s : Sent) → IsCast (up router) P (λ j. ServiceSaid begun (at router j)) (ports_of net router) s
        → IsSpoken begun router s
    cast_spoken begun router P s is = by is.news
      where
        port : Port
        port = port_at (ports_of net router) s.port

        by : IsNewsSent (P s.port) (ServiceSaid begun (at router s.port)) port s.bytes → IsSpoken begun router s
        by (inl page) = inr (routes_silent (P s.port) (own_address port) (everyone port) s.bytes (λ (e : rip_socket ≡ sap_socket). omega (arith, e)) page)
        by (inr page) = inl (is.on, record { to = every_server port; home = refl; nearest = false; page = page })

    -- what a port says waits for those that it reaches
    module _ (begun : ℕ) (from to : Place) (bytes : List ℕ) (reaches : Reaches net up from to) (is : IsOwnServices begun from bytes) where
      abbrev port : Port
      port = port_of net from

      abbrev parts : Parts
      parts = sap_packet_parts (own_services port) is.to is.nearest is.page.page

      entry_said : (s : Service) → ServiceSaid begun from s → EntrySaid begun to port.node (sap_entry s)
      entry_said s said = record {
        who = λ name is of.
            inr (from, reaches, refl, it_is (λ (n : List ℕ). Speaks from.router (service_of (sap_entry s) n)) name s.name is said.0);
        fine = λ here near name same. by here name same (said.1 near);
      }
        where
          by : is_up (up to.router) to.port ≡ true → (name : List ℕ) → Some s.name ≡ Some name
              → ((other : Place) → Reaches net up from other → is_up (up other.router) other.port ≡ true
              → IsFine other.router (record { service = s; port = other.port; node = port.node })) ⊎ IsWithin delay slack s.hops (delay + begun)
              → IsFine to.router (service_offer to.port port.node (sap_entry s) name) ⊎ IsWithin delay slack s.hops (delay + begun)
          by here name same (inr soon) = inr soon
          by here name same (inl fine) =
              inl (it_is (λ (n : List ℕ). IsFine to.router (service_offer to.port port.node (sap_entry s) n)) name s.name same (fine to reaches here))

      read_as_routes : (m : Heard) (r : Result RipParts RipFault)
          → elim r [ Ok rip ↦ Some (HeardRip parts.header.source rip) | Err fault ↦ None ] ≡ Some m → IsAnswering m → Told begun to m
      read_as_routes m r e answers = grind arith

      page_tells : (m : Heard) → message_of bytes ≡ Some m → Told begun to m
      page_tells m e =
          let here : message_in parts ≡ Some m = of_packet bytes parts m is.page.read e in
          let heard : heard_in parts ≡ Some m = message_heard parts m here in
          elim (cases_Bool (is_for_rip parts.header)) [
            | inl rip ↦
                read_as_routes m (rip_of parts.payload) (for_rip parts m rip here) (answering parts (sap_answers is.nearest is.page.page) m heard)
            | inr other ↦
                it_is (Told begun to) m (HeardSap (own_services port) (SapResponse is.nearest (map sap_entry is.page.page)))
                (services_heard_of (ServiceSaid begun from) (own_services port) is.to is.nearest bytes other is.page parts m is.page.read heard)
                (all_mapped (EntrySaid begun to port.node) sap_entry is.page.page
                (all_then (ServiceSaid begun from) (λ s. EntrySaid begun to port.node (sap_entry s)) entry_said is.page.page is.page.each))
          ]

      pub own_waits : Waits begun to bytes
      own_waits = search (rules, page_tells, no_reply, reply_moves, sap_reply)

    pub spoken_waits : (begun router : ℕ) (s : Sent) (to : Place) → (is_up (up router) s.port ≡ true → Reaches net up (at router s.port) to) → IsSpoken begun router s
        → Waits begun to s.bytes
    spoken_waits begun router s to reaches (inl own) = own_waits begun (at router s.port) to s.bytes (reaches own.0) own.1
    spoken_waits begun router s to reaches (inr silent) = silent_waits begun to s.bytes silent

  -- what is told where routers say such words is told where they say what follows from them
  module _ (delay slack : ℕ) (P Q : ℕ → Service → Type 0) (so : (router : ℕ) (s : Service) → P router s → Q router s) (begun : ℕ) (to : Place) where
    who_so : (node : Node) (s : Service) → Who delay slack P to node s → Who delay slack Q to node s
    who_so node s (inl announces) = inl announces
    who_so node s (inr (from, reaches, same, says)) = inr (from, reaches, same, so from.router s says)

    entry_so : (node : Node) (e : SapEntry) → EntrySaid delay slack P begun to node e → EntrySaid delay slack Q begun to node e
    entry_so node e said = record { who = λ name named of. who_so node (service_of e name) (said.who name named of); fine = said.fine }

    pub told_so : (m : Heard) → Told delay slack P begun to m → Told delay slack Q begun to m
    told_so (HeardRip source rip) said = said
    told_so (HeardSap source (Query nearest kind)) said = said
    told_so (HeardSap source (SapResponse nearest entries)) said =
        all_then (EntrySaid delay slack P begun to source.node) (EntrySaid delay slack Q begun to source.node) (entry_so source.node) entries said

    pub waits_so : (bytes : List ℕ) → Waits delay slack P begun to bytes → Waits delay slack Q begun to bytes
    waits_so bytes waits = record { tells = λ m e. told_so m (waits.tells m e); onward = waits.onward }
