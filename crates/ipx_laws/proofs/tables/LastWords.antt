-- How tables become right: what is so of each router, and of what waits, while a tick goes on. A router is right, or by one of the neighbours
-- from which its least way comes it is this: the neighbour hasn't broadcast all since the first tick, or isn't right itself now, or the last
-- that it said for the router waits, and is right.
use Rattle.std.proofs.Common.{◌≡◌, ◌≢◌, refl, sym, ap, ◌∙◌, subst, ◌⊎◌, ℕ, suc, ◌+◌, ◌%◌, ◌<◌, ◌≤◌, true, false, List, [], ◌∷◌, ◌++◌, Option, None, Some, inl, inr, arith, true≢false}
use Rattle.std.specs.List.{AllByRecursion}
use Rattle.std.proofs.lemmas.Bool.{cases_eq, both_ways}
use Rattle.ipx_table.specs.Facts.{Fact}
use Rattle.ipx_table.specs.declared.held.Held.{Held}
use Rattle.ipx_wire.specs.Crossed.{is_among}
use Rattle.ipx_wire.specs.Rip.{RipParts}
use Rattle.ipx_wire.specs.Write.{rip_packet_parts}
use Rattle.ipx_wire.specs.declared.address.Address.{Address}
use Rattle.ipx_wire.specs.declared.rip.Operation.{Operation}
use Rattle.ipx_wire.specs.declared.rip.Operation.TheVariants.{Request, Response}
use Rattle.ipx_wire.specs.declared.rip.RipEntry.{RipEntry}
use Rattle.ipx_router.specs.Numbers.{period}
use Rattle.ipx_router.specs.Facts.{route_facts}
use Rattle.ipx_router.specs.Heard.{Heard, HeardRip, HeardSap}
use Rattle.ipx_router.specs.History.{History, seconds_run}
use Rattle.ipx_router.specs.Port.{is_up, own_address}
use Rattle.ipx_router.specs.declared.route_offer.RouteOffer.{RouteOffer}
use Rattle.ipx_internet.specs.Internet.{Place, ports_of, port_of, network_of}
use Rattle.ipx_internet.specs.Queue.{Delivery, Queued, history_of}
use Rattle.ipx_internet.proofs.lists.EachElement.{all_then, all-append}
use Rattle.ipx_internet.proofs.lists.FoundInAList.{nothing, it_is}
use Rattle.ipx_internet.proofs.places.OneReceiverOfANode.{same_place}
use Rattle.ipx_laws.specs.Gone.{most_ticks_gone}
use Rattle.ipx_laws.specs.Least.{Way, is_on, way_of, most_ticks_right}
use Rattle.ipx_laws.specs.Apart.{AreOf}
use Rattle.ipx_laws.specs.Meanwhile.{message_of}
use Rattle.ipx_laws.proofs.lists.SomeElement.{AnyIs}
use Rattle.ipx_laws.proofs.packets.RoutesOrSilence.{TellsApart, own_heard}
use Rattle.ipx_laws.proofs.packets.SentOnSaysTheSame.{of_packet, message_heard}
use Rattle.ipx_laws.proofs.tables.Given.{Given}
use Rattle.ipx_laws.proofs.tables.GoodRoutesStay.{right_way}
use Rattle.ipx_laws.proofs.tables.LeastWays.{within, on_or_off, OnOrOff, same_some, same_way}
use Rattle.ipx_laws.proofs.tables.NoRouteIsBetter.{there_where_up}
use Rattle.ipx_laws.proofs.tables.SaysWhatItKnows.{Wants, wants, StateFor, known_of, SourceOf, Word, Pending}
use Rattle.ipx_laws.proofs.ticks.RealOrSoonEnded.{Reaches, Comes}
use Rattle.ipx_laws.proofs.ticks.TickAfterTick.{Going}

module _ (given : Given) where
  open given use {net, laws, is, differ, cheap, up, in_ports, most_routes, most_services, foreign, network, unlisted}

  abbrev pub WantsOf : ℕ → Type 0
  WantsOf = Wants given

  abbrev pub Sources : ℕ → Way → ℕ → Place → Type 0
  Sources = SourceOf given

  abbrev pub known_by : (router : ℕ) → WantsOf router → List (Fact RouteOffer) → Option (Held RouteOffer)
  known_by = known_of given

  -- ---- a router that is right

  -- where it should have a route, it holds one of the least way
  abbrev pub GoodBy : ℕ → List (Fact RouteOffer) → Type 0
  GoodBy router facts = (w : WantsOf router) → (h : Held RouteOffer) × (known_by router w facts ≡ Some h) × (way_of h.offer ≡ w.v)

  abbrev pub facts_of : List History → ℕ → List (Fact RouteOffer)
  facts_of histories router = route_facts (ports_of net router) (history_of histories router)

  abbrev pub IsGood : List History → ℕ → Type 0
  IsGood histories router = GoodBy router (facts_of histories router)

  -- it is so or it isn't
  pub good_or_not : (router : ℕ) (facts : List (Fact RouteOffer)) → GoodBy router facts ⊎ (GoodBy router facts → ⊥)
  good_or_not router facts = by (on_or_off net up in_ports network router) (within net up in_ports network 15 router) refl
    where
      other_way : (first : WantsOf router) (h : Held RouteOffer) → known_by router first facts ≡ Some h → (way_of h.offer ≡ first.v → ⊥) → GoodBy router facts → ⊥
      other_way first h e apart good =
          let (g, is_g, way) = good first in
          apart (it_is (λ (x : Held RouteOffer). way_of x.offer ≡ first.v) h g (sym is_g ∙ e) way)

      held : (first : WantsOf router) (o : Option (Held RouteOffer)) → known_by router first facts ≡ o → GoodBy router facts ⊎ (GoodBy router facts → ⊥)
      held first None e = inr (λ good. nothing (sym e ∙ (good first).1))
      held first (Some h) e = elim (cases_eq h.offer.ticks first.v.ticks) [
        | inr off ↦ inr (other_way first h e (λ same. off (ap (λ (x : Way). x.ticks) same)))
        | inl ticks ↦ elim (cases_eq h.offer.hops first.v.hops) [
          | inr off ↦ inr (other_way first h e (λ same. off (ap (λ (x : Way). x.hops) same)))
          | inl hops ↦ inl (λ w. (
            h,
            e,
            same_way (way_of h.offer) first.v ticks hops
                ∙ same_some net up in_ports network (within net up in_ports network 15 router) first.v w.v first.least w.least,
          ))
        ]
      ]

      by : OnOrOff net up in_ports network router → (o : Option Way) → within net up in_ports network 15 router ≡ o → GoodBy router facts ⊎ (GoodBy router facts → ⊥)
      by (inl on) o e = inl (λ w. absurd (both_ways (is_on (ports_of net router) network) w.off on))
      by (inr off) None e = inl (λ w. nothing (sym e ∙ w.least))
      by (inr off) (Some v) e =
          let first = wants given router v off e in
          held first (known_by router first facts) refl

  module _ (before : ℕ) where
    -- ---- what waits

    abbrev pub WordOf : Place → RipEntry → Type 0
    WordOf = Word given (suc before)

    abbrev pub PendingFor : ℕ → Place → Delivery → Type 0
    PendingFor = Pending given (suc before)

    -- what a delivery says of routes is right, if it is from that port
    abbrev pub Fine : Place → Delivery → Type 0
    Fine f d =
        (source : Address) (rip : RipParts) → message_of d.bytes ≡ Some (HeardRip source rip) → rip.operation ≡ Response → source.node ≡ (port_of net f).node
        → Reaches net up f d.to → AllByRecursion (WordOf f) rip.entries

    -- the last that a port said for a router waits, and is right
    abbrev pub Ends : ℕ → Place → List Delivery → Type 0
    Ends x f [] = ⊥
    Ends x f (d ∷ queue) = Ends x f queue ⊎ (PendingFor x f d × AllByRecursion (Fine f) queue)

    pub ends_more : (x : ℕ) (f : Place) (queue new : List Delivery) → Ends x f queue → AllByRecursion (Fine f) new → Ends x f (queue ++ new)
    ends_more x f [] new ends fine = absurd ends
    ends_more x f (d ∷ queue) new (inl ends) fine = inl (ends_more x f queue new ends fine)
    ends_more x f (d ∷ queue) new (inr last) fine = inr (last.0, all-append (Fine f) queue new last.1 fine)

    pub ends_behind : (x : ℕ) (f : Place) (queue new : List Delivery) → Ends x f new → Ends x f (queue ++ new)
    ends_behind x f [] new ends = ends
    ends_behind x f (d ∷ queue) new ends = inl (ends_behind x f queue new ends)

    pub any_ends : (x : ℕ) (f : Place) (new : List Delivery) → AnyIs (PendingFor x f) new → AllByRecursion (Fine f) new → Ends x f new
    any_ends x f [] any fine = absurd any
    any_ends x f (d ∷ new) (inl here) fine = inr (here, fine.1)
    any_ends x f (d ∷ new) (inr behind) fine = inl (any_ends x f new behind fine.1)

    -- what tells of no route but to other networks is right
    pub foreign_fine : (f : Place) (d : Delivery) → TellsApart foreign d.bytes → Fine f d
    foreign_fine f d tells source rip e response node reaches =
        all_then (λ entry. is_among entry.network foreign ≡ true) (WordOf f)
        (λ entry among u is_u near named. absurd (both_ways (is_among entry.network foreign) (ap (λ n. is_among n foreign) named ∙ unlisted) among)) rip.entries
        (subst (λ (o : Operation). AreOf foreign o rip.entries) response (tells (HeardRip source rip) e))

    -- what another router says is right, where what that port says is
    pub comes_fine : (Q : Place → RipEntry → Type 0) (f : Place) (d : Delivery) → Comes net up foreign Q d.to d.bytes → ((e : RipEntry) → Q f e → WordOf f e) → Fine f d
    comes_fine Q f d (inr tells) word source rip e response node reaches_f = foreign_fine f d tells source rip e response node reaches_f
    comes_fine Q f d (inl (from, reaches, own)) word source rip e response node reaches_f =
        let port = port_of net from in
        let parts = rip_packet_parts (own_address port) own.to Response own.page.page in
        let m = HeardRip source rip in
        let heard = message_heard parts m (of_packet d.bytes parts m own.page.read e) in
        elim (own_heard (Q from) port d.bytes own parts m own.page.read heard) [
          | inl page ↦
              it_is Motive m (HeardRip (own_address port) (record { operation = Response; entries = own.page.page })) page
              (λ same. all_then (Q f) (WordOf f) word own.page.page
              (subst (λ (g : Place). AllByRecursion (Q g) own.page.page) (one_sender same) own.page.each)) node
          | inr silent ↦
              let request : rip.operation ≡ Request = silent in
              absurd (true≢false (ap (λ (o : Operation). elim o [ Response ↦ true | Request ↦ false ]) (sym response ∙ request)))
        ]
      where
        Motive : Heard → Type 0
        Motive (HeardRip s r) = s.node ≡ (port_of net f).node → AllByRecursion (WordOf f) r.entries
        Motive (HeardSap s sap) = Unit

        one_sender : (port_of net from).node ≡ (port_of net f).node → from ≡ f
        one_sender same =
            let nets : network_of net from ≡ network_of net f = sym reaches.network ∙ reaches_f.network in
            let there = there_where_up net is cheap up in_ports network from.router from.port reaches.on in
            let there_f = there_where_up net is cheap up in_ports network f.router f.port reaches_f.on in
            elim (cases_eq from.router f.router) [
              | inl r ↦ same_place net is from f r there there_f nets
              | inr off ↦ absurd (differ from f there there_f off nets same)
            ]

    -- not all tables need be right yet
    abbrev pub Unsteady : Type 0
    Unsteady = before < most_ticks_right

    -- of a port whose router is right, all that waits is right, or the last for that router
    abbrev pub Calm : ℕ → Place → List Delivery → Type 0
    Calm x f queue = AllByRecursion (Fine f) queue ⊎ (Unsteady × Ends x f queue)

    -- ---- a router that isn't right yet

    module _ (clock : ℕ → ℕ) (few_seconds : (router : ℕ) → clock router < period) (at_start : ℕ → Option RouteOffer) where
      -- why a router needn't be right yet by a port: with a condition where only its router's second or its last word is waited for
      abbrev pub Waits : (ℕ → ℕ) → List History → List Delivery → ℕ → Place → Type 0 → Type 0
      Waits left histories queue x f S =
          (suc before ≤ most_ticks_gone + clock f.router)
          ⊎ (((clock f.router ≡ 0) × (left f.router ≡ 1) × S) ⊎ ((Unsteady × (IsGood histories f.router → ⊥)) ⊎ (S × Ends x f queue)))

      pub waits_map : (left : ℕ → ℕ) (histories : List History) (queue : List Delivery) (x : ℕ) (f : Place) (S T : Type 0) → (S → T)
          → Waits left histories queue x f S → Waits left histories queue x f T
      waits_map left histories queue x f S T step given = grind arith

      -- not where tables are right for good
      pub waits_unsteady : (left : ℕ → ℕ) (histories : List History) (queue : List Delivery) (x : ℕ) (f : Place) → Waits left histories queue x f Unsteady → Unsteady
      waits_unsteady left histories queue x f given = grind arith

      abbrev pub Fresh : ℕ → Place → ℕ → Type 0
      Fresh mine f age = age + mine ≤ clock f.router + 1

      abbrev pub Aging : ℕ → ℕ → Type 0
      Aging mine age = (age + mine ≤ period + 1) ⊎ Unsteady

      abbrev pub Late : ℕ → (ℕ → ℕ) → List History → List Delivery → ℕ → Place → ℕ → Type 0
      Late mine left histories queue x f age = Waits left histories queue x f (Aging mine age)

      abbrev pub Later : (ℕ → ℕ) → List History → List Delivery → (x : ℕ) → WantsOf x → Type 0
      Later left histories queue x w = (port : ℕ) × (f : Place) × Sources x w.v port f × Waits left histories queue x f Unsteady

      -- once tables are right, the route stays
      abbrev pub Same : ℕ → RouteOffer → Type 0
      Same x o = most_ticks_right ≤ before → at_start x ≡ Some o

      pub free : (left : ℕ → ℕ) (histories : List History) (queue : List Delivery) (x : ℕ) (w : WantsOf x) → Later left histories queue x w → (o : RouteOffer) → Same x o
      free left histories queue x w later o steady = grind arith

      -- what a router has, with as many seconds left of its own
      abbrev pub StateWith : ℕ → (ℕ → ℕ) → List History → List Delivery → (x : ℕ) → WantsOf x → List (Fact RouteOffer) → Type 0
      StateWith mine left histories queue x w facts =
          StateFor given
          x w (Fresh mine) (Late mine left histories queue x) (Later left histories queue x w) (Same x) (known_by x w facts)

      -- ---- the first that waits is handed out

      pub popped : (left : ℕ → ℕ) (histories : List History) (d : Delivery) (queue : List Delivery) (x : ℕ) (f : Place) (S : Type 0)
          → Waits left histories (d ∷ queue) x f S → Waits left histories queue x f S ⊎ PendingFor x f d
      popped left histories d queue x f S given = grind arith

      pub calm_popped : (d : Delivery) (queue : List Delivery) (x : ℕ) (f : Place) → Calm x f (d ∷ queue) → Calm x f queue
      calm_popped d queue x f given = grind arith

      -- for another router nothing changes by that
      pub elsewhere : (mine : ℕ) (left : ℕ → ℕ) (histories : List History) (d : Delivery) (queue : List Delivery) (x : ℕ) → x ≢ d.to.router
          → (w : WantsOf x) (facts : List (Fact RouteOffer)) → StateWith mine left histories (d ∷ queue) x w facts → StateWith mine left histories queue x w facts
      elsewhere mine left histories d queue x off w facts state = record {
        aged = λ h f e right. elim (state.aged h f e right) [ inl young ↦ inl young | inr late ↦ inr (waits f (Aging mine h.age) late) ];
        holds = elim state.holds [
          | inl held ↦ inl held
          | inr later ↦ inr (later.0, later.1, later.2, waits later.1 Unsteady later.3)
        ];
      }
        where
          waits : (f : Place) (S : Type 0) → Waits left histories (d ∷ queue) x f S → Waits left histories queue x f S
          waits f S waiting = elim (popped left histories d queue x f S waiting) [
            | inl still ↦ still
            | inr pending ↦ absurd (off (sym pending.to))
          ]

      -- ---- while a tick goes on

      pub record Righted (left : ℕ → ℕ) (q : Queued) : Type 0 where
        pub going : Going net laws is most_routes most_services up foreign (suc before) left q
        pub states : (x : ℕ) (w : WantsOf x) → StateWith (left x) left q.histories q.queue x w (facts_of q.histories x)
        pub calm : (x port : ℕ) (f : Place) (w : WantsOf x) → Sources x w.v port f → IsGood q.histories f.router → Calm x f q.queue
        pub clocks : (router port : ℕ) → is_up (up router) port ≡ true → (seconds_run (history_of q.histories router) + left router) % period ≡ clock router

      -- a router whose state has a route is right
      pub good_state : (mine : ℕ) (left : ℕ → ℕ) (histories : List History) (queue : List Delivery) (x : ℕ) (facts : List (Fact RouteOffer))
          → ((w : WantsOf x) → StateWith mine left histories queue x w facts) → most_ticks_right ≤ before → GoodBy x facts
      good_state mine left histories queue x facts state steady w = elim (state w).holds [
        | inl held ↦ (
          held.0,
          held.2,
          right_way given x w.v w.off w.least held.1 held.0.offer held.3,
        )
        | inr later ↦
            let unsteady = waits_unsteady left histories queue x later.1 later.3 in
            absurd (omega (arith, unsteady, steady))
      ]
