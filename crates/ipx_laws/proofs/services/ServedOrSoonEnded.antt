-- What a router has and says of a service that hosts announce: what it may know of it, or what is so old that it soon ends.
use Rattle.std.proofs.Common.{◌≡◌, refl, sym, subst, ◌⊎◌, ℕ, ◌+◌, ◌≤◌, true, false, List, [], ◌∷◌, ◌++◌, map, Option, Some, None, inl, inr, arith, true≢false, rules}
use Rattle.std.specs.List.{AllByRecursion}
use Rattle.ipx_wire.specs.declared.node.Node.{Node}
use Rattle.ipx_wire.specs.declared.sap_entries.SapEntry.{SapEntry}
use Rattle.ipx_wire.specs.declared.service.Service.{Service}
use Rattle.ipx_table.specs.Facts.{Fact, Offered}
use Rattle.ipx_router.specs.Facts.{services_offered, services_heard, heard_after, service_facts, services_held, offers}
use Rattle.ipx_router.specs.Heard.{Heard}
use Rattle.ipx_router.specs.History.{Event, History, Packet, running, ports_up}
use Rattle.ipx_router.specs.News.{news_services}
use Rattle.ipx_router.specs.Port.{Port, is_up}
use Rattle.ipx_router.specs.Services.{service_reading, service_order}
use Rattle.ipx_router.specs.Told.{told_services, farther, dead_service}
use Rattle.ipx_router.specs.declared.service_offer.ServiceOffer.{ServiceOffer}
use Rattle.ipx_router.proofs.bounds.PacketsOfEachEvent.{service_total}
use Rattle.ipx_router.proofs.histories.OneEventMore.{ports_stay, none_up}
use Rattle.ipx_router.proofs.lists.EachElement.{all_both}
use Rattle.ipx_router.proofs.tables.OffersOfAMessage.{facts_from-more}
use Rattle.ipx_router.proofs.tables.HeldWasOffered.{heard_up}
use Rattle.ipx_router.proofs.tables.HeldCameByPortsUp.{held_services_up}
use Rattle.ipx_internet.specs.Internet.{Internet, Place, ports_of, port_of}
use Rattle.ipx_internet.specs.Run.{Happens}
use Rattle.ipx_internet.proofs.lists.EachElement.{all_then, all-append}
use Rattle.ipx_internet.proofs.packets.AdvertisedIsHeld.{told_services_all, news_services_told}
use Rattle.ipx_internet.proofs.records.HeardChangesItsKeys.{service_offer}
use Rattle.ipx_internet.proofs.records.KeptOrOffered.{OffersOf}
use Rattle.ipx_laws.specs.Meanwhile.{LeavesPorts}
use Rattle.ipx_laws.specs.Servers.{Server, passed_on}
use Rattle.ipx_laws.proofs.packets.SentOnSaysTheSame.{heard_message}
use Rattle.ipx_laws.proofs.records.RecordsGrowOld.{IsWithin, IsBelow, Aged, IsOldOffer, IsOldHeld, passed, at_first, after_event, old_held}
use Rattle.ipx_laws.proofs.services.SpokenOfAServer.{IsFine, EntrySaid, Told, Waits, IsSoon, ServiceSaid}
use Rattle.ipx_laws.proofs.ticks.RealOrSoonEnded.{Reaches}

module _ (delay slack : ℕ) (net : Internet) (up : ℕ → List ℕ) (server : Server) (Listed : ℕ × List ℕ → Type 0) (most_services router : ℕ) where
  abbrev pub ports : List Port
  ports = ports_of net router

  abbrev pub Fine : ServiceOffer → Type 0
  Fine = IsFine net up server Listed router

  abbrev pub ServicesAged : ℕ → List (Fact ServiceOffer) → Type 0
  ServicesAged = Aged service_reading service_order service_total most_services (map (λ p. p.service_share) ports) (λ s. s.service.hops) (λ s. refl) delay slack Fine

  -- what a router has that had so many seconds
  pub record Endures (had : ℕ) (history : History) : Type 0 where
    pub services : ServicesAged had (service_facts ports history)
    pub ups : ports_up ports history ≡ up router

  pub at_begin : (history : History) → ports_up ports history ≡ up router → Endures 0 history
  at_begin history same = search (rules, at_first, service_total)

  -- ---- an event

  ups_stay : (history : History) (event : Event) → LeavesPorts (Happens router event) → ports_up ports (history ++ event ∷ []) ≡ ports_up ports history
  ups_stay history event leaves = grind (arith, ports_stay)

  module _ (had begun : ℕ) (late : had ≤ delay + begun) where
    abbrev pub ServiceOld : ServiceOffer → Type 0
    ServiceOld =
        IsOldOffer service_reading service_order service_total most_services (map (λ p. p.service_share) ports) (λ s. s.service.hops) (λ s. refl) delay slack Fine had

    module _ (Speaks : ℕ → Service → Type 0) where
      services_old : (number : ℕ) → is_up (up router) number ≡ true → (node : Node) (entries : List SapEntry)
          → AllByRecursion (EntrySaid net up server Listed delay slack Speaks begun (record { router = router; port = number }) node) entries
          → AllByRecursion (OffersOf ServiceOld) (services_offered number node entries)
      services_old number on node [] all = tt
      services_old number on node (e ∷ entries) all =
          all-append (OffersOf ServiceOld) _ (services_offered number node entries) (by e.name (λ name is near. sooner (all.0.fine on near name is)))
          (services_old number on node entries all.1)
        where
          sooner : {A : Type 0} → A ⊎ IsWithin delay slack e.hops (delay + begun) → A ⊎ IsWithin delay slack e.hops had
          sooner (inl fine) = inl fine
          sooner (inr soon) = inr (omega (arith, soon, late))

          by : (name : Option (List ℕ)) → ((given : List ℕ) → name ≡ Some given → ServiceOld (service_offer number node e given))
              → AllByRecursion (OffersOf ServiceOld) (elim name [
                | None ↦ []
                | Some name ↦ Offered (service_offer number node e name) ∷ []
              ])
          by None step = tt
          by (Some name) step = (step name refl, tt)

      heard_old : (number : ℕ) → is_up (up router) number ≡ true → (m : Heard) → Told net up server Listed delay slack Speaks begun (record { router = router; port = number }) m
          → AllByRecursion (OffersOf ServiceOld) (services_heard number (Some m))
      heard_old number on m said = grind (arith, services_old)

      module _ (history : History) (endures : Endures had history) where
        packet_old : (number : ℕ) (bytes : List ℕ) → Waits net up server Listed delay slack Speaks begun (record { router = router; port = number }) bytes
            → AllByRecursion (OffersOf ServiceOld) (services_heard number (heard_after ports history number bytes))
        packet_old number bytes waits = by (heard_after ports history number bytes) refl
          where
            by : (o : Option Heard) → heard_after ports history number bytes ≡ o → AllByRecursion (OffersOf ServiceOld) (services_heard number o)
            by None e = tt
            by (Some m) e =
                let on = subst (λ (us : List ℕ). is_up us number ≡ true) endures.ups (heard_up ports (ports_up ports history) number (running history) bytes m e) in
                heard_old number on m (waits.tells m (heard_message ports history number bytes m e))

        none_where : running history ≡ false → AllByRecursion (λ o. ⊥) (offers (services_held ports most_services history))
        none_where stopped =
            all_then (λ s. is_up (ports_up ports history) s.port ≡ true) (λ s. ⊥) (λ s on. none s.port on) (offers (services_held ports most_services history))
            (held_services_up ports most_services history)
          where
            none : (port : ℕ) → is_up (ports_up ports history) port ≡ true → ⊥
            none port on =
                let none_on : is_up [] port ≡ true = subst (λ (us : List ℕ). is_up us port ≡ true) (none_up ports history stopped) on in
                true≢false (sym none_on)

        pub event_endures : (event : Event) → LeavesPorts (Happens router event)
            → ((number : ℕ) (bytes : List ℕ) → event ≡ Packet number bytes → Waits net up server Listed delay slack Speaks begun (record { router = router; port = number }) bytes)
            → Endures (passed event had) (history ++ event ∷ [])
        event_endures event leaves waits = search (rules, passed, facts_from-more, after_event, service_total, none_where, packet_old, ups_stay)

  -- ---- what it says

  module _ (had begun : ℕ) (soon : begun ≤ had + 1) (history : History) (endures : Endures had history) where
    abbrev ServiceHeld : ServiceOffer → Type 0
    ServiceHeld =
        IsOldHeld service_reading service_order service_total most_services (map (λ p. p.service_share) ports) (λ s. s.service.hops) (λ s. refl) delay slack Fine had

    services_are : AllByRecursion ServiceHeld (offers (services_held ports most_services history))
    services_are = search (rules, old_held, service_total)

    learned_said : (j : ℕ) (s : ServiceOffer) → ServiceHeld s → IsSoon net up server Listed delay slack begun (record { router = router; port = j }) (farther s.service)
    learned_said j s held near = by held.0
      where
        from : Place
        from = record { router = router; port = j }

        by : Fine s ⊎ IsBelow delay slack (s.service.hops + 1) had
            → ((to : Place) → Reaches net up from to → is_up (up to.router) to.port ≡ true
            → IsFine net up server Listed to.router (record { service = farther s.service; port = to.port; node = (port_of net from).node }))
            ⊎ IsWithin delay slack (s.service.hops + 1) (delay + begun)
        by (inr old) = inr (omega (arith, old, soon))
        by (inl fine) = inl (λ to reaches here. (fine.0, (λ of. passed_on from s reaches.other here reaches.on reaches.network refl refl near (fine.1 of))))

    ended_said : (j : ℕ) (s : Service) → IsSoon net up server Listed delay slack begun (record { router = router; port = j }) (dead_service s)
    ended_said j s near = absurd (omega (arith, near))

    pub services_said : (Speaks : ℕ → Service → Type 0) (j : ℕ) → AllByRecursion (Speaks router) (told_services (offers (services_held ports most_services history)) j)
        → AllByRecursion (ServiceSaid net up server Listed delay slack Speaks begun (record { router = router; port = j }))
        (told_services (offers (services_held ports most_services history)) j)
    services_said Speaks j say =
        let Soon = IsSoon net up server Listed delay slack begun (record { router = router; port = j }) in
        all_both (Speaks router) Soon (told_services (offers (services_held ports most_services history)) j) say
        (told_services_all Soon ServiceHeld (learned_said j) (ended_said j) (offers (services_held ports most_services history)) services_are j)

    pub changes_said : (Speaks : ℕ → Service → Type 0) (before : List ServiceOffer) (j : ℕ)
        → AllByRecursion (Speaks router) (news_services before (offers (services_held ports most_services history)) j)
        → AllByRecursion (ServiceSaid net up server Listed delay slack Speaks begun (record { router = router; port = j }))
        (news_services before (offers (services_held ports most_services history)) j)
    changes_said Speaks before j say =
        let Soon = IsSoon net up server Listed delay slack begun (record { router = router; port = j }) in
        all_both (Speaks router) Soon (news_services before (offers (services_held ports most_services history)) j) say
        (news_services_told Soon ServiceHeld (learned_said j) (ended_said j) before (offers (services_held ports most_services history)) services_are j)
