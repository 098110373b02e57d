-- Where the room is there that an event needs, what it sends fits; and a router stays one with each event.
use Rattle.std.proofs.Common.{◌≡◌, sym, ap, ◌∙◌, subst, ℕ, ◌<◌, ◌≤◌, List, [], ◌∷◌, ◌++◌, map, length, arith}
use Rattle.std.specs.List.{AllByRecursion}
use Rattle.std.proofs.Math.Nat.{mul-le-mul_right}
use Rattle.ipx_table.specs.declared.held.Held.{Held}
use Rattle.ipx_router.specs.Bounds.{most_packets, most_length}
use Rattle.ipx_router.specs.Facts.{routes_held, services_held}
use Rattle.ipx_router.specs.inside.Following.{Follows, sends_between}
use Rattle.ipx_router.specs.History.{Event, History, IsOnPort, IsOfBytes}
use Rattle.ipx_router.specs.Needs.{packets_needed, bytes_needed, HasRoomFor}
use Rattle.ipx_router.specs.Numbers.{period}
use Rattle.ipx_router.specs.Outbox.{Contents, Fits}
use Rattle.ipx_router.specs.Port.{Port, IsPort}
use Rattle.ipx_router.specs.Relays.{Sent}
use Rattle.ipx_router.specs.RouterOf.{IsRouter}
use Rattle.ipx_router.specs.Sends.{sends}
use Rattle.ipx_router.specs.Stands.{State}
use Rattle.ipx_router.specs.declared.route_offer.RouteOffer.{RouteOffer}
use Rattle.ipx_router.specs.declared.service_offer.ServiceOffer.{ServiceOffer}
use Rattle.ipx_router.proofs.sending.OneAfterAnother.{total_most, fits_room}
use Rattle.ipx_router.proofs.histories.StandsOneEventMore.{follows, sends_stand}
use Rattle.ipx_router.proofs.tables.HeldWasOffered.{all-append}

-- what is known of what events send after histories
pub record Bounded : Type 0 where
  pub few : (ports : List Port) (most_routes most_services : ℕ) (history : History) (event : Event) → length ports ≤ 32 → IsOnPort ports event
      → length (sends ports most_routes most_services history event)
      ≤ most_packets (length ports) (length (routes_held ports most_routes history)) (length (services_held ports most_services history)) event
  pub short : (ports : List Port) (most_routes most_services : ℕ) (history : History) (event : Event)
      → AllByRecursion IsPort ports → AllByRecursion (IsOnPort ports) (history ++ event ∷ []) → AllByRecursion IsOfBytes (history ++ event ∷ [])
      → AllByRecursion (λ s. length s.bytes ≤ most_length event) (sends ports most_routes most_services history event)

module _ (most_routes most_services : ℕ) (s : State) (route_shares service_shares : List ℕ) (is : IsRouter most_routes most_services s route_shares service_shares)
    (t : State) (event : Event) (on : IsOnPort s.ports event) (bytes : IsOfBytes event) (step : Follows most_routes most_services s t event) where
  -- it stays a router, that stands for one event more
  pub next_router : (route_kept service_kept : List ℕ) → route_kept ≡ route_shares → service_kept ≡ service_shares → t.seconds < period
      → IsRouter most_routes most_services t route_kept service_kept
  next_router route_kept service_kept r k below = record {
    routes_fit = is.routes_fit;
    services_fit = is.services_fit;
    some = subst (λ (ports : List Port). 1 ≤ length ports) (sym step.ports) is.some;
    few = subst (λ (ports : List Port). length ports ≤ 32) (sym step.ports) is.few;
    are = subst (λ (ports : List Port). AllByRecursion IsPort ports) (sym step.ports) is.are;
    apart = rw step.ports is.apart;
    minute = below;
    routes_shared = r ∙ is.routes_shared ∙ ap (map (λ p. p.route_share)) (sym step.ports);
    services_shared = k ∙ is.services_shared ∙ ap (map (λ p. p.service_share)) (sym step.ports);
    past = is.past ++ event ∷ [];
    stands = follows most_routes most_services s is.past is.stands t event step on;
    on_ports =
        subst (λ (ports : List Port). AllByRecursion (IsOnPort ports) (is.past ++ event ∷ [])) (sym step.ports)
        (all-append (IsOnPort s.ports) is.past (event ∷ []) is.on_ports (on, tt));
    of_bytes = all-append IsOfBytes is.past (event ∷ []) is.of_bytes (bytes, tt);
  }

  module _ (known : Bounded) where
    same : sends s.ports most_routes most_services is.past event ≡ sends_between s t event
    same = sends_stand most_routes most_services s t is.past event is.stands (follows most_routes most_services s is.past is.stands t event step on) step.ports

    pub few_sent : length (sends_between s t event) ≤ packets_needed s event
    few_sent =
        subst (λ (sent : List Sent). length sent ≤ packets_needed s event) same
        (subst (λ (held : List (Held ServiceOffer)). length (sends s.ports most_routes most_services is.past event) ≤ most_packets (length s.ports) (length s.routes) (length held) event)
        (sym is.stands.services_stand)
        (subst (λ (held : List (Held RouteOffer)). length (sends s.ports most_routes most_services is.past event)
        ≤ most_packets (length s.ports) (length held) (length (services_held s.ports most_services is.past)) event) (sym is.stands.routes_stand)
        (known.few s.ports most_routes most_services is.past event is.few on)))

    pub short_sent : AllByRecursion (λ p. length p.bytes ≤ most_length event) (sends_between s t event)
    short_sent =
        subst (λ (sent : List Sent). AllByRecursion (λ p. length p.bytes ≤ most_length event) sent) same
        (known.short s.ports most_routes most_services is.past event is.are
        (all-append (IsOnPort s.ports) is.past (event ∷ []) is.on_ports (on, tt)) (all-append IsOfBytes is.past (event ∷ []) is.of_bytes (bytes, tt)))

    -- what the event sends fits
    pub event_fits : (o : Contents) → HasRoomFor s event o → Fits o (sends_between s t event)
    event_fits o room =
        let sent = sends_between s t event in
        let more = mul-le-mul_right (most_length event) few_sent in
        let all = total_most (most_length event) sent short_sent in
        fits_room (packets_needed s event) (bytes_needed s event) sent room few_sent (omega (arith, more, all))
