-- What a router has of a network, while neighbours by which its least way leads have still to be heard: its record, after a second, and after entries
-- of one of them.
use Rattle.std.proofs.Common.{◌≡◌, ◌≢◌, refl, sym, subst, ◌⊎◌, ℕ, suc, ◌<◌, ◌≤◌, ◌==◌, Bool, true, false, List, [], ◌∷◌, ◌++◌, map, inl, inr, arith, append-nil}
use Rattle.std.specs.List.{AllByRecursion}
use Rattle.std.proofs.lemmas.Bool.{cases_Bool, both_ways, eqb-true}
use Rattle.ipx_table.specs.Alive.{lifetime}
use Rattle.ipx_table.specs.Facts.{Fact}
use Rattle.ipx_wire.specs.Crossed.{is_among}
use Rattle.ipx_wire.specs.declared.network.Network.{Network}
use Rattle.ipx_wire.specs.declared.node.Node.{Node}
use Rattle.ipx_wire.specs.declared.rip.Operation.{Operation}
use Rattle.ipx_wire.specs.declared.rip.RipEntry.{RipEntry}
use Rattle.ipx_router.specs.Facts.{routes_offered, route_facts, route_facts_of}
use Rattle.ipx_router.specs.Heard.{Heard, HeardRip, HeardSap}
use Rattle.ipx_router.specs.History.{History, Second, running}
use Rattle.ipx_router.specs.Port.{Port}
use Rattle.ipx_router.specs.Routes.{route_reading, network_order}
use Rattle.ipx_router.specs.declared.route_offer.RouteOffer.{RouteOffer}
use Rattle.ipx_router.proofs.bounds.PacketsOfEachEvent.{network_total}
use Rattle.ipx_router.proofs.tables.OffersOfAMessage.{facts_from-more}
use Rattle.ipx_internet.specs.Internet.{Place, ports_of, port_of}
use Rattle.ipx_internet.proofs.places.OneReceiverOfANode.{same_number}
use Rattle.ipx_laws.specs.Apart.{AreOf, TellsOnlyOf}
use Rattle.ipx_laws.specs.Gone.{most_ticks_gone}
use Rattle.ipx_laws.specs.InTime.{Names}
use Rattle.ipx_laws.proofs.lists.SomeElement.{AnyIs, any_and_all, any_then, any_passes, any_mapped, the_one}
use Rattle.ipx_laws.proofs.records.BestIsKept.{second_keeps}
use Rattle.ipx_laws.proofs.tables.Given.{Given, FineOf}
use Rattle.ipx_laws.proofs.tables.GoodRoutesStay.{Right, shares, one, one_place}
use Rattle.ipx_laws.proofs.tables.LeastRouteSurvives.{RoutesAged, EntryIs, entries_keep, entries_come}
use Rattle.ipx_laws.proofs.tables.LeastWays.{IsNeighbour}
use Rattle.ipx_laws.proofs.tables.SaysWhatItKnows.{Wants, StateFor, known_of, SourceOf}

-- what tells of routes to the networks of a list alone names no other one
pub named_any : (network : Network) (entries : List RipEntry) → is_among network (map (λ e. e.network) entries) ≡ true → AnyIs (λ e. e.network ≡ network) entries
named_any network entries among =
    any_then (λ e. is_here e.network ≡ true) (λ e. e.network ≡ network) (λ e same. same_number e.network network (eqb-true e.network.0 network.0 same)) entries
    (any_mapped (λ (n : Network). is_here n ≡ true) (λ (e : RipEntry). e.network) entries (any_passes is_here (map (λ e. e.network) entries) among))
  where
    is_here : Network → Bool
    is_here n = n.0 == network.0

pub never_names : (foreign : List Network) (network : Network) → is_among network foreign ≡ false → (node : Node) (m : Heard) → TellsOnlyOf foreign m → Names node network m → ⊥
never_names foreign network off node (HeardRip source rip) tells (is_node, responds, among) =
    let all : AllByRecursion (λ e. is_among e.network foreign ≡ true) rip.entries = subst (λ (o : Operation). AreOf foreign o rip.entries) responds tells in
    let (e, (named, listed)) = the_one (λ e. (e.network ≡ network) × (is_among e.network foreign ≡ true)) rip.entries
    (any_and_all (λ e. e.network ≡ network) (λ e. is_among e.network foreign ≡ true) rip.entries (named_any network rip.entries among) all) in
    both_ways (is_among network foreign) off (subst (λ (n : Network). is_among n foreign ≡ true) named listed)
never_names foreign network off node (HeardSap source sap) tells names = names

module _ (given : Given) (x : ℕ) (w : Wants given x) where
  open given use {net, is, cheap, up, in_ports, most_routes, network}

  abbrev ports : List Port
  ports = ports_of net x

  abbrev facts_of : History → List (Fact RouteOffer)
  facts_of history = route_facts ports history

  abbrev pub Missing : (Place → Type 0) → Type 0
  Missing Late = (f : Place) × Late f

  -- a right one is that young, or its neighbour has still to be heard; and it is there, or one of them has
  abbrev pub StateAt : ℕ → (Place → Type 0) → List (Fact RouteOffer) → Type 0
  StateAt top Late facts = StateFor given x w (λ f age. age ≤ top) (λ f age. Late f) (Missing Late) (λ r. Unit {0}) (known_of given x w facts)

  -- what is heard now needn't be waited for
  moves : (top : ℕ) (Before After Now : Place → Type 0) (facts : List (Fact RouteOffer)) → ((f : Place) → Before f → Now f ⊎ After f) → StateAt top Before facts
      → ((f : Place) → Now f → StateFor given x w (λ g age. age ≤ top) (λ g age. Before g × (g ≢ f)) ⊥ (λ r. Unit {0}) (known_of given x w facts))
      → StateAt top After facts
  moves top Before After Now facts split state comes = record {
    aged = λ h f e right. elim (state.aged h f e right) [
      | inl young ↦ inl young
      | inr late ↦ elim (split f late) [
        | inr later ↦ inr later
        | inl now ↦ elim ((comes f now).aged h f e right) [
          | inl young ↦ inl young
          | inr both ↦ absurd (both.1 refl)
        ]
      ]
    ];
    holds = elim state.holds [
      | inl held ↦ inl held
      | inr missing ↦ elim (split missing.0 missing.1) [
        | inr later ↦ inr (missing.0, later)
        | inl now ↦ elim (comes missing.0 now).holds [
          | inl held ↦ inl held
          | inr none ↦ absurd none
        ]
      ]
    ];
  }

  pub passes_by : (top later : ℕ) (Before After : Place → Type 0) (facts : List (Fact RouteOffer)) → top ≤ later → ((f : Place) → Before f → After f)
      → StateAt top Before facts → StateAt later After facts
  passes_by top later Before After facts more still state = record {
    aged = λ h f e right. elim (state.aged h f e right) [
      | inl young ↦ inl (omega (arith, young, more))
      | inr late ↦ inr (still f late)
    ];
    holds = elim state.holds [
      | inl held ↦ inl held
      | inr missing ↦ inr (missing.0, still missing.0 missing.1)
    ];
  }

  -- ---- a second

  pub second_own : (top : ℕ) → suc top < lifetime → (Late : Place → Type 0) (history : History) → StateAt top Late (facts_of history)
      → StateAt (suc top) Late (facts_of (history ++ Second ∷ []))
  second_own top young Late history state =
      let facts = facts_of history in
      subst (λ (fs : List (Fact RouteOffer)). StateAt (suc top) Late fs) (sym (facts_from-more (route_facts_of ports) [] history Second))
      (elim (cases_Bool (running history)) [
        | inl runs ↦
            rw runs (second_keeps route_reading network_order network_total most_routes (shares given x w.v w.off w.least) network (one given x w.v w.off w.least)
            (FineOf given x) (Right given x w.v w.off w.least) (λ f age. age ≤ top) (λ f age. age ≤ suc top) (λ f age. Late f) (λ f age. Late f) (Missing Late) (Missing Late)
            (λ r. Unit {0}) (λ f age few_now. omega (arith, few_now)) (λ f h good late. late) (λ missing. missing) (λ f h good last either. elim either [
              | inl old ↦ absurd (omega (arith, last, old, young))
              | inr late ↦ (f, late)
            ]) facts state)
        | inr stopped ↦
            rw stopped (subst (λ (fs : List (Fact RouteOffer)). StateAt (suc top) Late fs) (sym (append-nil facts))
            (passes_by top (suc top) Late Late facts (omega arith) (λ f late. late) state))
      ])

  -- ---- entries of a neighbour

  pub long_enough : most_ticks_gone ≤ most_ticks_gone
  long_enough = omega arith

  abbrev pub IsEntry : (number : ℕ) (g : Place) → IsNeighbour net up in_ports x number g → RipEntry → Type 0
  IsEntry number g neighbour = EntryIs given x w.v w.off w.least w.wanted most_ticks_gone long_enough number g neighbour

  module _ (top number : ℕ) (facts : List (Fact RouteOffer)) (aged : RoutesAged given x w.v w.off w.least w.wanted most_ticks_gone facts) (g : Place)
      (neighbour : IsNeighbour net up in_ports x number g) (entries : List RipEntry)
      (all_right : AllByRecursion (IsEntry number g neighbour) entries)
      (Before After Now : Place → Type 0) (split : (f : Place) → Before f → Now f ⊎ After f)
      (now_is : (f : Place) → Now f → SourceOf given x w.v number f × ((port_of net g).node ≡ (port_of net f).node) × AnyIs (λ e. e.network ≡ network) entries)
      (state : StateAt top Before facts) where
    -- where it is one that was waited for
    comes : (f : Place) → Now f
        → StateFor given x w (λ h age. age ≤ top) (λ h age. Before h × (h ≢ f)) ⊥ (λ r. Unit {0}) (known_of given x w (facts ++ routes_offered ports number (port_of net g).node entries))
    comes f now =
        let (source, node, named) = now_is f now in
        let same : g ≡ f = one_place given x w.v w.off w.least number number g f refl neighbour source.neighbour node in
        subst (λ (k : Place). StateFor given x w (λ h age. age ≤ top) (λ h age. Before h × (h ≢ k)) ⊥ (λ r. Unit {0})
        (known_of given x w (facts ++ routes_offered ports number (port_of net g).node entries))) same
        (entries_come given x w.v w.off w.least w.wanted most_ticks_gone long_enough number g neighbour (λ h age. age ≤ top) (λ h. omega arith) (λ r. Unit {0})
        (λ h age. Before h) (Missing Before) (λ missing r. tt) (subst (λ (k : Place). SourceOf given x w.v number k) (sym same) source) entries facts all_right named aged state)

    pub entries_heard : StateAt top After (facts ++ routes_offered ports number (port_of net g).node entries)
    entries_heard =
        moves top Before After Now (facts ++ routes_offered ports number (port_of net g).node entries) split
        (entries_keep given x w.v w.off w.least w.wanted most_ticks_gone long_enough number g neighbour (λ h age. age ≤ top) (λ h. omega arith) (λ r. Unit {0})
        (λ h age. Before h) (Missing Before) entries facts all_right state) comes
