-- What is listed as sent on is what the relations say.
use Rattle.std.proofs.Common.{◌≡◌, ◌↔◌, refl, sym, ap, ◌∙◌, ℕ, zero, suc, ◌<◌, ◌≤◌, ◌==◌, if◌then◌else◌, Bool, true, false, List, [], ◌∷◌, length, Option, None, Some, Ok, inl, inr}
use Rattle.std.specs.List.{AllByRecursion, flat_map, slice_get}
use Rattle.std.specs.Option.{option_map}
use Rattle.std.proofs.lemmas.Bool.{cases_Bool, and_parts, not-true, eqb-false, ltb-false, leb-true, leb-false, lt-ltb, le-ltb}
use Rattle.ipx_wire.specs.Crossed.{IsCrossed, crossed_of, networks_at, is_among}
use Rattle.ipx_wire.specs.Forward.{forwarded}
use Rattle.ipx_wire.specs.Numbers.{crossed_places, crossed_bytes}
use Rattle.ipx_wire.specs.Packet.{Parts, IsPacket, packet_of}
use Rattle.ipx_wire.specs.Piece.{IsBytes}
use Rattle.ipx_wire.specs.Write.{packet_bytes}
use Rattle.ipx_wire.specs.declared.address.Address.{Address}
use Rattle.ipx_wire.specs.declared.network.Network.{Network}
use Rattle.ipx_router.specs.Numbers.{default_route, most_routers}
use Rattle.ipx_router.specs.Outgoing.{Way, way_to, port_to, route_to, serving}
use Rattle.ipx_router.specs.Packets.{IsRelayed}
use Rattle.ipx_router.specs.Port.{Port, port_at, is_up, takes_no_route}
use Rattle.ipx_router.specs.Relays.{Sent, IsForwarded, IsPropagated, forwarded_by, goes_out, propagated_on, relayed}
use Rattle.ipx_router.specs.Why.{why, is_propagated, is_far}
use Rattle.ipx_router.specs.declared.route_offer.RouteOffer.{RouteOffer}
use Rattle.ipx_router.proofs.bytes.FieldsAreBytes.{parts_bytes}
use Rattle.ipx_router.proofs.lists.EachElement.{all-flat_map}
use Rattle.ipx_router.proofs.lists.FoundWherePut.{it_is, one_of_all, found}
use Rattle.ipx_router.proofs.port_values.PortOfEachNumber.{members}
use Rattle.ipx_router.proofs.verdicts.SentOnPassesChecks.{Passes, passes, asked, judged}
use Rattle.ipx_router.proofs.tables.HeldWasOffered.{nothing}

-- ---- the networks that a packet crossed

-- with room for eight networks, and fewer than eight crossed, the first ones are read
pub networks_listed : (control : ℕ) (payload : List ℕ) → crossed_bytes ≤ length payload → control < crossed_places → crossed_of control payload ≡ Ok (networks_at control payload)
unfolding crossed_of
networks_listed control payload eight free = rw (le-ltb (length payload) crossed_bytes eight, lt-ltb control crossed_places free) refl

-- ---- the way of a packet is by a port that is up

-- every route is by one
abbrev pub AllUp : List ℕ → List RouteOffer → Type 0
AllUp up routes = AllByRecursion (λ r. is_up up r.port ≡ true) routes

module _ (up : List ℕ) (routes : List RouteOffer) (by_ups : AllUp up routes) where
  -- so is the one to a network
  route_up : (network : ℕ) (route : RouteOffer) → route_to routes network ≡ Some route → is_up up route.port ≡ true
  route_up network route e = found (λ r. is_up up r.port ≡ true) (λ r. r.network.0 == network) routes route by_ups e

  serving_up : (ports : List Port) (network : Network) (route : RouteOffer) → serving ports routes network ≡ Some route → is_up up route.port ≡ true
  serving_up ports network route e = by (route_to routes network.0) refl e
    where
      by : (o : Option RouteOffer) → route_to routes network.0 ≡ o
          → elim o [ Some route ↦ Some route | None ↦ if takes_no_route ports network then None else route_to routes default_route ] ≡ Some route
          → is_up up route.port ≡ true
      by (Some r) own e = it_is (λ (r : RouteOffer). is_up up r.port ≡ true) route r e (route_up network.0 r own)
      by None own e = elim (cases_Bool (takes_no_route ports network)) [
        | inl skipped ↦ nothing (rw skipped at e)
        | inr taken ↦ route_up default_route route (rw taken at e)
      ]

  pub way_up : (ports : List Port) (destination : Address) (way : Way) → way_to ports up routes destination ≡ Some way → is_up up way.port ≡ true
  way_up ports destination way e = by (port_to ports up destination.network) (serving ports routes destination.network) refl refl e
    where
      by : (o : Option ℕ) (r : Option RouteOffer) → port_to ports up destination.network ≡ o → serving ports routes destination.network ≡ r
          → elim o [ Some j ↦ Some (record { port = j; link = destination.node }) | None ↦ option_map (λ r. record { port = r.port; link = r.node }) r ] ≡ Some way
          → is_up up way.port ≡ true
      by (Some j) r direct served e =
          it_is (λ (w : Way). is_up up w.port ≡ true) way (record { port = j; link = destination.node }) e
          (found (λ j. is_up up j ≡ true) (λ j. (port_at ports j).network.0 == destination.network.0) up j (members up) direct)
      by None None direct served e = nothing e
      by None (Some r) direct served e =
          it_is (λ (w : Way). is_up up w.port ≡ true) way (record { port = r.port; link = r.node }) e (serving_up ports destination.network r served)

-- ---- what is listed is what the relations say

module _
    (packet_read : (bytes : List ℕ) (p : Parts) → IsBytes bytes → (packet_of bytes ≡ Ok p ↔ IsPacket bytes p))
    (crossed_read : (control : ℕ) (payload : List ℕ) (networks : List Network) → IsBytes payload
    → (crossed_of control payload ≡ Ok networks ↔ IsCrossed control payload networks))
    (ports : List Port) (up : List ℕ) (routes : List RouteOffer) (number : ℕ) (bytes : List ℕ) where
  module _ (p : Parts) (is : IsPacket bytes p) (passed : Passes ports up routes (port_at ports number) number p) where
    -- of a far packet
    listed_forwarded : (k : ℕ) (s : Sent) → AllUp up routes → is_far (port_at ports number) p.header ≡ true
        → slice_get (forwarded_by ports up routes p) k ≡ Some s → IsForwarded ports up routes number bytes s
    listed_forwarded k s table far e = by (way_to ports up routes p.header.destination) k refl e
      where
        by : (o : Option Way) (k : ℕ) → way_to ports up routes p.header.destination ≡ o
            → slice_get (elim o [ Some way ↦ record { port = way.port; link = way.link; bytes = packet_bytes (forwarded p) } ∷ [] | None ↦ [] ]) k ≡ Some s
            → IsForwarded ports up routes number bytes s
        by None k way e = nothing e
        by (Some w) (suc k) way e = nothing e
        by (Some w) zero way e =
            it_is (IsForwarded ports up routes number bytes) s (record { port = w.port; link = w.link; bytes = packet_bytes (forwarded p) }) e (record {
              packet = p;
              is = is;
              far = far;
              few = leb-false most_routers p.header.control (asked _ _ far passed.few);
              elsewhere = asked _ _ far passed.elsewhere;
              way = way;
              leaves = record {
                no_echo = passed.no_echo;
                source = passed.source;
                short = ltb-false (port_at ports w.port).longest p.header.length (rw way at (asked _ _ far passed.short));
                comes_up = passed.comes_up;
                leaves_up = way_up up routes table ports p.header.destination w way;
              };
              written = refl;
            })

    -- what it has crossed is what is read
    crossed : is_propagated p.header ≡ true → IsBytes bytes → IsCrossed p.header.control p.payload (networks_at p.header.control p.payload)
    crossed all are =
        let control = p.header.control in
        let eight = ltb-false (length p.payload) crossed_bytes (asked _ _ all passed.roomy) in
        let free = leb-false crossed_places control (asked _ _ all passed.free) in
        (crossed_read control p.payload (networks_at control p.payload) (parts_bytes bytes p are is).payload).0 (networks_listed control p.payload eight free)

    -- of a packet for all networks
    listed_propagated : (k : ℕ) (s : Sent) → IsBytes bytes → is_propagated p.header ≡ true
        → slice_get (flat_map (propagated_on ports number p) up) k ≡ Some s → IsPropagated ports up number bytes s
    listed_propagated k s are all e =
        one_of_all (IsPropagated ports up number bytes) (flat_map (propagated_on ports number p) up) k s
        (all-flat_map (λ out. is_up up out ≡ true) (IsPropagated ports up number bytes) (propagated_on ports number p) each up (members up)) e
      where
        each : (out : ℕ) → is_up up out ≡ true → AllByRecursion (IsPropagated ports up number bytes) (propagated_on ports number p out)
        each out up_there = elim (cases_Bool (goes_out ports number p out)) [
          | inr stays ↦ rw stays tt
          | inl goes ↦
              let parts = and_parts _ _ goes in
              let new = and_parts _ _ parts.0 in
              rw goes (
                record {
                  packet = p;
                  is = is;
                  all = all;
                  networks = networks_at p.header.control p.payload;
                  crossed = crossed all are;
                  other = eqb-false out number (not-true (out == number) new.0);
                  new_here = asked _ _ all passed.unseen;
                  new_there = not-true (is_among (port_at ports out).network (networks_at p.header.control p.payload)) new.1;
                  link = refl;
                  leaves = record {
                    no_echo = passed.no_echo;
                    source = passed.source;
                    short = leb-true p.header.length (port_at ports out).longest parts.1;
                    comes_up = passed.comes_up;
                    leaves_up = up_there;
                  };
                  written = refl;
                },
                tt,
              )
        ]

    -- of either, and of no other
    chosen : (k : ℕ) (s : Sent) (all far : Bool) → IsBytes bytes → AllUp up routes
        → is_propagated p.header ≡ all → is_far (port_at ports number) p.header ≡ far
        → slice_get (if all then flat_map (propagated_on ports number p) up else if far then forwarded_by ports up routes p else []) k ≡ Some s
        → IsRelayed ports up routes number bytes s
    chosen k s true far are table for_all beyond e = inr (listed_propagated k s are for_all e)
    chosen k s false true are table for_all beyond e = inl (listed_forwarded k s table beyond e)
    chosen k s false false are table for_all beyond e = nothing e

  -- of a packet that no check drops
  pub listed : (p : Parts) (k : ℕ) (s : Sent) → IsBytes bytes → AllUp up routes
      → why ports up routes true number bytes ≡ None → packet_of bytes ≡ Ok p
      → slice_get (relayed ports up routes number p) k ≡ Some s → IsRelayed ports up routes number bytes s
  listed p k s are table undropped read e =
      let port = port_at ports number in
      let passed = passes ports up routes port number p (sym (ap (judged ports up routes port number) read) ∙ undropped) in
      chosen p ((packet_read bytes p are).0 read) passed k s (is_propagated p.header) (is_far port p.header) are table refl refl e
