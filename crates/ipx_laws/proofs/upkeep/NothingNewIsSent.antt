-- What one event sends where the tables are the same after it: at a periodic second all that is advertised, and else nothing.
use Rattle.std.proofs.Common.{◌≡◌, refl, sym, ap, ◌∙◌, subst, ◌⊎◌, ℕ, ◌<◌, ◌==◌, ◌||◌, Bool, true, false, not, if◌then◌else◌, List, [], ◌∷◌, ◌++◌, length, flat_map, Option, Some, None, inl, inr, true≢false, arith}
use Rattle.std.specs.List.{AllByRecursion}
use Rattle.std.proofs.lemmas.Bool.{cases_Bool, and_parts, both_ways, eq-eqb, or_right}
use Rattle.ipx_wire.specs.Packet.{Parts, packet_of}
use Rattle.ipx_wire.specs.Piece.{IsBytes}
use Rattle.ipx_wire.specs.declared.network.Network.{Network}
use Rattle.ipx_wire.specs.declared.rip.Operation.{Operation}
use Rattle.ipx_wire.specs.declared.rip.Operation.TheVariants.{Request, Response}
use Rattle.ipx_wire.specs.declared.sap.Sap.TheVariants.{Query, Response as SapResponse}
use Rattle.ipx_router.specs.Facts.{heard_after}
use Rattle.ipx_router.specs.Heard.{Heard, HeardRip, HeardSap, heard_in}
use Rattle.ipx_router.specs.History.{History, Second, Packet, IsOnPort, IsOfBytes, running}
use Rattle.ipx_router.specs.News.{news, news_services}
use Rattle.ipx_router.specs.Port.{Port, IsPort, port_at, is_local, reply_to}
use Rattle.ipx_router.specs.Relays.{Sent}
use Rattle.ipx_router.specs.Sends.{Holding, holding, sends, is_periodic, second_on, news_on, heard_sends, rip_sends, asked}
use Rattle.ipx_router.specs.Told.{told}
use Rattle.ipx_router.specs.Why.{is_propagated, is_far, is_for_rip, is_for_sap}
use Rattle.ipx_router.specs.declared.route_offer.RouteOffer.{RouteOffer}
use Rattle.ipx_router.proofs.bytes.ReadInOneWay.{one_read}
use Rattle.ipx_router.proofs.ended.EndedRises.{told_with, services_with}
use Rattle.ipx_router.proofs.telling.LawsOfTold.{no_route_news, no_service_news}
use Rattle.ipx_internet.proofs.lists.FoundInAList.{nothing}
use Rattle.ipx_internet.proofs.packets.ResponsesAskNothing.{IsAnswering, answering}
use Rattle.ipx_internet.proofs.packets.SentOnOrReply.{Layouts, IsReply, IsOnward, unsaid, said}
use Rattle.ipx_laws.specs.Meanwhile.{message_in}
use Rattle.ipx_laws.specs.Upkeep.{AsksNothing, EndsThere, all_pages}
use Rattle.ipx_laws.proofs.packets.SentOnSaysTheSame.{of_packet, heard_message}

-- ---- packets that end where they come

-- a reply does
pub reply_ends : (port : Port) (bytes : List ℕ) → IsReply port bytes → EndsThere port bytes
reply_ends port bytes reply = record {
  packet = reply.packet;
  read = reply.read;
  plain = reply.plain;
  home =
      subst (λ (n : Network). is_local port n ≡ true) (sym reply.home)
      (or_right (port.network.0 == 0) (port.network.0 == port.network.0) (eq-eqb port.network.0 port.network.0 refl));
  asks = λ m e. asks_none m (answering reply.packet reply.answers m (heard m (of_packet bytes reply.packet m reply.read e)));
}
  where
    heard : (m : Heard) → message_in reply.packet ≡ Some m → heard_in reply.packet ≡ Some m
    heard m e = elim (cases_Bool (is_propagated reply.packet.header || not (is_for_rip reply.packet.header || is_for_sap reply.packet.header))) [
      | inl other ↦ nothing (rw other at e)
      | inr here ↦ rw here at e
    ]

    asks_none : (m : Heard) → IsAnswering m → AsksNothing m
    asks_none (HeardRip source rip) is = is
    asks_none (HeardSap source (Query nearest kind)) is = is
    asks_none (HeardSap source (SapResponse nearest entries)) is = tt

-- nobody sends it on
pub never_onward : (port : Port) (came sent : List ℕ) → EndsThere port came → IsOnward port came sent → ⊥
never_onward port came sent ends on = by on.goes
  where
    same : ends.packet ≡ on.packet
    same = one_read (packet_of came) ends.packet on.packet ends.read on.read

    by : (is_propagated on.packet.header ≡ true) ⊎ (is_far port on.packet.header ≡ true) → ⊥
    by (inl all) = both_ways (is_propagated on.packet.header) (subst (λ (p : Parts). is_propagated p.header ≡ false) same ends.plain) all
    by (inr far) =
        let there = (and_parts (not (is_propagated on.packet.header)) (not (is_local port on.packet.header.destination.network)) far).1 in
        let local = subst (λ (p : Parts). is_local port p.header.destination.network ≡ true) same ends.home in
        true≢false (sym there ∙ ap not local)

none_such : {X : Type 0} (P : X → Type 0) → ((x : X) → P x → ⊥) → (xs : List X) → AllByRecursion P xs → xs ≡ []
none_such P never [] all = refl
none_such P never (x ∷ xs) all = absurd (never x all.0)

-- ---- tables that are the same before and after

none_of_each : {X Y : Type 0} (f : X → List Y) → ((x : X) → f x ≡ []) → (xs : List X) → flat_map f xs ≡ []
none_of_each f none [] = refl
none_of_each f none (x ∷ xs) = let e = none x in rw e (none_of_each f none xs)

module _ (ports : List Port) (before after : Holding) (routes : after.routes ≡ before.routes) (services : after.services ≡ before.services) where
  no_news : (j : ℕ) → news ports before.routes after.routes j ≡ []
  no_news j = subst (λ (rs : List RouteOffer). news ports before.routes rs j ≡ []) (sym routes) (no_route_news ports before.routes j)

  no_more_services : (j : ℕ) → news_services before.services after.services j ≡ []
  no_more_services j = grind (arith, no_service_news)

  -- no news are sent
  pub no_news_on : (j : ℕ) → news_on ports before after j ≡ []
  no_news_on j = grind (arith, no_news, no_more_services)

  -- at a second, all or nothing
  pub second_is : (periodic : Bool) (j : ℕ) → second_on ports before after periodic j ≡ (if periodic then all_pages ports after j else [])
  second_is periodic j = grind (arith, no_news_on, no_news, no_more_services, told_with, services_with)

  -- for what asks nothing, nothing
  pub none_for : (number : ℕ) (m : Heard) → AsksNothing m → heard_sends ports before after number m ≡ []
  none_for number (HeardRip source rip) is = by_operation rip.operation is
    where
      by_operation : (operation : Operation) → operation ≡ Response → ◌≡◌ {A = List Sent} (elim operation [
        | Response ↦ flat_map (news_on ports before after) after.up
        | Request ↦ rip_sends ports number (reply_to (port_at ports number) source) Response (asked rip.entries (told ports before.up before.routes number))
      ]) []
      by_operation Response e = none_of_each (news_on ports before after) no_news_on after.up
      by_operation Request e = absurd (true≢false (ap (λ (o : Operation). elim o [ Request ↦ true | Response ↦ false ]) e))
  none_for number (HeardSap source (Query nearest kind)) is = absurd is
  none_for number (HeardSap source (SapResponse nearest entries)) is = none_of_each (news_on ports before after) no_news_on after.up

-- ---- one event of a router

module _ (ports : List Port) (most_routes most_services : ℕ) (history : History) where
  abbrev before : Holding
  before = holding ports most_routes most_services history

  -- at a second of a router that runs
  module _ (runs : running history ≡ true) where
    abbrev now : Holding
    now = holding ports most_routes most_services (history ++ Second ∷ [])

    pub second_sends : now.routes ≡ before.routes → now.services ≡ before.services
        → sends ports most_routes most_services history Second ≡ (if is_periodic history then flat_map (all_pages ports now) now.up else [])
    second_sends routes services = rw runs (by (is_periodic history))
      where
        each : (periodic : Bool) (js : List ℕ) → flat_map (second_on ports before now periodic) js ≡ flat_map (λ j. if periodic then all_pages ports now j else []) js
        each periodic [] = refl
        each periodic (j ∷ js) = let e = second_is ports before now routes services periodic j in rw e (ap (λ (ss : List Sent). (if periodic then all_pages ports now j else []) ++ ss) (each periodic js))

        by : (periodic : Bool) → flat_map (second_on ports before now periodic) now.up ≡ (if periodic then flat_map (all_pages ports now) now.up else [])
        by true = each true now.up
        by false = each false now.up ∙ none_of_each (λ j. []) (λ j. refl) now.up

  -- for a packet that ends where it comes
  module _ (laws : Layouts) (are : AllByRecursion IsPort ports) (on : AllByRecursion (IsOnPort ports) history) (of_bytes : AllByRecursion IsOfBytes history)
      (number : ℕ) (bytes : List ℕ) (within : number < length ports) (are_bytes : IsBytes bytes) (ends : EndsThere (port_at ports number) bytes) where
    abbrev then_has : Holding
    then_has = holding ports most_routes most_services (history ++ Packet number bytes ∷ [])

    pub packet_sends_none : then_has.routes ≡ before.routes → then_has.services ≡ before.services
        → sends ports most_routes most_services history (Packet number bytes) ≡ []
    packet_sends_none routes services = by (heard_after ports history number bytes) refl
      where
        by : (o : Option Heard) → heard_after ports history number bytes ≡ o → sends ports most_routes most_services history (Packet number bytes) ≡ []
        by None e =
            none_such (λ s. IsOnward (port_at ports number) bytes s.bytes) (λ s is. never_onward (port_at ports number) bytes s.bytes ends is)
            (sends ports most_routes most_services history (Packet number bytes))
            (unsaid laws ports are most_routes most_services history on of_bytes number bytes within are_bytes e)
        by (Some m) e = elim (said laws ports are most_routes most_services history on of_bytes number bytes within are_bytes m e) [
          | inl none ↦ none
          | inr these ↦ these ∙ none_for ports before then_has routes services number m (ends.asks m (heard_message ports history number bytes m e))
        ]
