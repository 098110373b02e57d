-- What is held came by a port that is up.
use Rattle.std.proofs.Common.{◌≡◌, refl, sym, ap, ◌∙◌, subst, ℕ, ◌==◌, true, false, List, [], ◌∷◌, ◌++◌, Option, None, Some, inl, inr, true≢false, arith}
use Rattle.std.specs.List.{AllByRecursion}
use Rattle.std.proofs.lemmas.Bool.{cases_Bool, eq-eqb, eqb-true}
use Rattle.ipx_table.specs.Accepted.{marked, marked_after}
use Rattle.ipx_table.specs.Alive.{alive}
use Rattle.ipx_table.specs.Facts.{Fact, Offered, Second as SecondPassed, PortEnd, End, Marked}
use Rattle.ipx_table.specs.Reading.{Rules}
use Rattle.ipx_table.specs.Stands.{held as held_after, in_order}
use Rattle.ipx_table.specs.declared.held.Held.{Held}
use Rattle.ipx_wire.specs.declared.node.Node.{Node}
use Rattle.ipx_wire.specs.declared.rip.Operation.{Operation}
use Rattle.ipx_wire.specs.declared.rip.Operation.TheVariants.{Request, Response}
use Rattle.ipx_wire.specs.declared.rip.RipEntry.{RipEntry}
use Rattle.ipx_wire.specs.declared.sap_entries.SapEntry.{SapEntry}
use Rattle.ipx_router.specs.Facts.{facts_of, facts_from, heard_after, routes_offered, routes_heard, routes_held, services_offered, services_heard, services_held, offers}
use Rattle.ipx_router.specs.Heard.{Heard, HeardRip, HeardSap}
use Rattle.ipx_router.specs.History.{Event, History, Start, Stop, Second, Packet, PortDown, PortUp, is_stop, takes_down, running, ports_up}
use Rattle.ipx_router.specs.Port.{Port, is_up}
use Rattle.ipx_router.specs.Routes.{route_rules}
use Rattle.ipx_router.specs.Services.{service_rules}
use Rattle.ipx_router.specs.declared.route_offer.RouteOffer.{RouteOffer}
use Rattle.ipx_router.specs.declared.service_offer.ServiceOffer.{ServiceOffer}
use Rattle.ipx_router.proofs.lists.EachElement.{all_then}
use Rattle.ipx_router.proofs.histories.OneEventMore.{grown, none_up, up_stays}
use Rattle.ipx_router.proofs.tables.HeldBeforeOrNew.{Spared, alive-more, alive_then, marked_after-append}
use Rattle.ipx_router.proofs.tables.OffersOfAMessage.{facts_from-more}
use Rattle.ipx_router.proofs.tables.HeldWasOffered.{OfferIs, all_in_order, all_offers, heard_up, routes_after, services_after}

-- ---- over any offers of packets that come on ports that are up

module _ {O : Type 0} (rules : Rules O) (ports : List Port) (offered : History → ℕ → List ℕ → List (Fact O))
    (heard_ups : (history : History) (number : ℕ) (bytes : List ℕ)
    → AllByRecursion (OfferIs (λ o. is_up (ports_up ports history) (rules.port o) ≡ true)) (offered history number bytes)) where
  abbrev says : History → Event → List (Fact O)
  says history event = facts_of (ports_up ports history) (running history) (offered history) event

  -- the offer came by a port that is up after a history
  abbrev ByUp : History → O → Type 0
  ByUp history offer = is_up (ports_up ports history) (rules.port offer) ≡ true

  abbrev AllByUp : History → List (Held O) → Type 0
  AllByUp history held = AllByRecursion (λ h. ByUp history h.offer) held

  module _ (history : History) (event : Event) where
    -- after an event that spares it
    later_up : is_stop event ≡ false → (held : List (Held O)) → AllByRecursion (λ h. takes_down (rules.port h.offer) event ≡ false) held
        → AllByUp history held → AllByUp (history ++ event ∷ []) held
    later_up on [] spared all = tt
    later_up on (h ∷ held) spared all = grind (arith, later_up on held spared.1 all.1, up_stays)

    all_spared : ((port : ℕ) → takes_down port event ≡ false) → (held : List (Held O)) → AllByRecursion (λ h. takes_down (rules.port h.offer) event ≡ false) held
    all_spared spares [] = tt
    all_spared spares (h ∷ held) = (spares (rules.port h.offer), all_spared spares held)

  -- of a stopped router nothing is held that came by a port that is up
  none_held : (A : Type 0) (history : History) (offer : O) → running history ≡ false → ByUp history offer → A
  none_held A history offer stopped up = grind (arith, none_up)

  -- a port isn't the one that goes down
  apart : (history : History) (number port : ℕ) → is_up (ports_up ports history) number ≡ false → is_up (ports_up ports history) port ≡ true
      → (number == port) ≡ false
  apart history number port down up = grind arith

  turned : (number port : ℕ) → (port == number) ≡ false → (number == port) ≡ false
  turned number port other = elim (cases_Bool (number == port)) [
    | inr e ↦ e
    | inl same ↦ absurd (true≢false (sym (ap (λ n. n == number) (sym (eqb-true number port same)) ∙ itself number) ∙ other))
  ]
    where
      itself : (n : ℕ) → (n == n) ≡ true
      itself n = eq-eqb n n refl

  step : (history : History) (event : Event) (ms : List (Marked O)) → AllByUp history (alive rules ms)
      → AllByUp (history ++ event ∷ []) (alive rules (marked_after rules ms (says history event)))
  step history Start ms all = later_up history Start refl (alive rules ms) (all_spared history Start (λ port. refl) (alive rules ms)) all
  step history (PortUp number) ms all =
      later_up history (PortUp number) refl (alive rules ms) (all_spared history (PortUp number) (λ port. refl) (alive rules ms)) all
  step history (Packet number bytes) ms all =
      let after = alive rules (marked_after rules ms (offered history number bytes)) in
      later_up history (Packet number bytes) refl after (all_spared history (Packet number bytes) (λ port. refl) after)
      (alive_then rules (ByUp history) ms (offered history number bytes) all (heard_ups history number bytes))
  step history Second ms all = elim (cases_Bool (running history)) [
    | inl runs ↦
        let after = alive rules (ms ++ (SecondPassed, false) ∷ []) in
        rw runs (later_up history Second refl after (all_spared history Second (λ port. refl) after)
        (all_then (λ h. Spared rules (ByUp history) SecondPassed h.offer) (λ h. ByUp history h.offer) (λ h is. is.0) after
        (alive-more rules (ByUp history) ms SecondPassed false all tt)))
    | inr stopped ↦ rw stopped (later_up history Second refl (alive rules ms) (all_spared history Second (λ port. refl) (alive rules ms)) all)
  ]
  step history Stop ms all = elim (cases_Bool (running history)) [
    | inl runs ↦
        let after = alive rules (ms ++ (End, false) ∷ []) in
        rw runs (all_then (λ h. Spared rules (ByUp history) End h.offer) (λ h. ByUp (history ++ Stop ∷ []) h.offer) (λ h is. absurd is.1) after
        (alive-more rules (ByUp history) ms End false all tt))
    | inr stopped ↦
        rw stopped (all_then (λ h. ByUp history h.offer) (λ h. ByUp (history ++ Stop ∷ []) h.offer)
        (λ h up. none_held (ByUp (history ++ Stop ∷ []) h.offer) history h.offer stopped up) (alive rules ms) all)
  ]
  step history (PortDown number) ms all = elim (cases_Bool (is_up (ports_up ports history) number)) [
    | inl up ↦
        let after = alive rules (ms ++ (PortEnd number, false) ∷ []) in
        let spared = alive-more rules (ByUp history) ms (PortEnd number) false all tt in
        rw up (later_up history (PortDown number) refl after
        (all_then (λ h. Spared rules (ByUp history) (PortEnd number) h.offer) (λ h. takes_down (rules.port h.offer) (PortDown number) ≡ false)
        (λ h is. turned number (rules.port h.offer) is.1) after spared)
        (all_then (λ h. Spared rules (ByUp history) (PortEnd number) h.offer) (λ h. ByUp history h.offer) (λ h is. is.0) after spared))
    | inr down ↦
        rw down (later_up history (PortDown number) refl (alive rules ms)
        (all_then (λ h. ByUp history h.offer) (λ h. takes_down (rules.port h.offer) (PortDown number) ≡ false)
        (λ h up. apart history number (rules.port h.offer) down up) (alive rules ms) all)
        all)
  ]

  -- after any history
  all_up : (history : History) → AllByUp history (alive rules (marked rules (facts_from says [] history)))
  all_up history =
      grown (λ h. AllByUp h (alive rules (marked rules (facts_from says [] h)))) (λ event. Unit {0}) one [] history (anything history) tt
    where
      one : (before : History) (event : Event) → Unit {0} → AllByUp before (alive rules (marked rules (facts_from says [] before)))
          → AllByUp (before ++ event ∷ []) (alive rules (marked rules (facts_from says [] (before ++ event ∷ []))))
      one before event it all =
          let e : marked rules (facts_from says [] (before ++ event ∷ [])) ≡ marked_after rules (marked rules (facts_from says [] before)) (says before event) =
          ap (marked rules) (facts_from-more says [] before event) ∙ marked_after-append rules [] (facts_from says [] before) (says before event) in
          subst (λ (ms : List (Marked O)). AllByUp (before ++ event ∷ []) (alive rules ms)) (sym e)
          (step before event (marked rules (facts_from says [] before)) all)

      anything : (events : History) → AllByRecursion (λ event. Unit {0}) events
      anything [] = tt
      anything (event ∷ events) = (tt, anything events)

  pub held_up : (history : History) → AllByRecursion (ByUp history) (offers (held_after rules (facts_from says [] history)))
  held_up history =
      let all = alive rules (marked rules (facts_from says [] history)) in
      all_offers (ByUp history) (in_order rules.by_key all) (all_in_order (ByUp history) rules.by_key all (all_up history))

-- ---- what packets offer

module _ (ports : List Port) (up : List ℕ) (number : ℕ) (is : is_up up number ≡ true) where
  routes_up : (node : Node) (entries : List RipEntry) → AllByRecursion (OfferIs (λ (r : RouteOffer). is_up up r.port ≡ true)) (routes_offered ports number node entries)
  routes_up node [] = tt
  routes_up node (entry ∷ entries) = grind (arith, routes_up node entries)

  operation_up : (operation : Operation) (node : Node) (entries : List RipEntry)
      → AllByRecursion (OfferIs (λ (r : RouteOffer). is_up up r.port ≡ true)) (elim operation [ Response ↦ routes_offered ports number node entries | Request ↦ [] ])
  operation_up operation node entries = grind (arith, routes_up)

  one_up : (node : Node) (entry : SapEntry) (rest : List (Fact ServiceOffer)) (name : Option (List ℕ))
      → AllByRecursion (OfferIs (λ (s : ServiceOffer). is_up up s.port ≡ true)) rest
      → AllByRecursion (OfferIs (λ (s : ServiceOffer). is_up up s.port ≡ true)) (elim name [
        | None ↦ []
        | Some name ↦ Offered (record {
          service = record { kind = entry.kind; name = name; address = entry.address; hops = entry.hops };
          port = number;
          node = node;
        }) ∷ []
      ] ++ rest)
  one_up node entry rest name all = grind arith

  services_up : (node : Node) (entries : List SapEntry) → AllByRecursion (OfferIs (λ (s : ServiceOffer). is_up up s.port ≡ true)) (services_offered number node entries)
  services_up node [] = tt
  services_up node (entry ∷ entries) = one_up node entry (services_offered number node entries) entry.name (services_up node entries)

module _ (ports : List Port) (up : List ℕ) (number : ℕ) where
  heard_routes_up : (o : Option Heard) → ((m : Heard) → o ≡ Some m → is_up up number ≡ true)
      → AllByRecursion (OfferIs (λ (r : RouteOffer). is_up up r.port ≡ true)) (routes_heard ports number o)
  heard_routes_up None ups = tt
  heard_routes_up (Some (HeardSap source sap)) ups = tt
  heard_routes_up (Some (HeardRip source rip)) ups = operation_up ports up number (ups (HeardRip source rip) refl) rip.operation source.node rip.entries

  heard_services_up : (o : Option Heard) → ((m : Heard) → o ≡ Some m → is_up up number ≡ true)
      → AllByRecursion (OfferIs (λ (s : ServiceOffer). is_up up s.port ≡ true)) (services_heard number o)
  heard_services_up o ups = grind (arith, services_up)

-- ---- over histories

pub held_routes_up : (ports : List Port) (capacity : ℕ) (history : History)
    → AllByRecursion (λ r. is_up (ports_up ports history) r.port ≡ true) (offers (routes_held ports capacity history))
held_routes_up ports capacity history =
    held_up (route_rules ports capacity) ports (routes_after ports)
    (λ before number bytes.
    heard_routes_up ports (ports_up ports before) number (heard_after ports before number bytes)
    (heard_up ports (ports_up ports before) number (running before) bytes))
    history

pub held_services_up : (ports : List Port) (capacity : ℕ) (history : History)
    → AllByRecursion (λ s. is_up (ports_up ports history) s.port ≡ true) (offers (services_held ports capacity history))
held_services_up ports capacity history =
    held_up (service_rules ports capacity) ports (services_after ports)
    (λ before number bytes.
    heard_services_up ports (ports_up ports before) number (heard_after ports before number bytes)
    (heard_up ports (ports_up ports before) number (running before) bytes))
    history
