-- What a router has of a service while hosts and neighbours that say it with the fewest hops have still to be heard: it is young, or one of
-- these has; and a second or a packet leaves it so.
use Rattle.std.proofs.Common.{◌≡◌, ◌≢◌, refl, sym, ap, ◌∙◌, subst, ◌⊎◌, ℕ, zero, suc, ◌+◌, ◌<◌, ◌≤◌, true, List, [], ◌∷◌, ◌++◌, length, Option, None, Some, option_map, inl, inr, arith, append-nil, is_eq, slice_get, rules}
use Rattle.std.specs.List.{AllByRecursion}
use Rattle.std.proofs.lemmas.Bool.{cases_Bool}
use Rattle.ipx_table.specs.Facts.{Fact, Offered}
use Rattle.ipx_table.specs.declared.held.Held.{Held}
use Rattle.ipx_wire.specs.WriteServices.{entry_of}
use Rattle.ipx_wire.specs.declared.node.Node.{Node}
use Rattle.ipx_wire.specs.declared.sap.Sap.TheVariants.{Query, Response as SapResponse}
use Rattle.ipx_wire.specs.declared.sap_entries.SapEntry.{SapEntry}
use Rattle.ipx_wire.specs.declared.service.Service.{Service}
use Rattle.ipx_table.specs.Alive.{lifetime}
use Rattle.ipx_router.specs.Facts.{services_offered, services_heard, heard_after, service_facts, service_facts_of, services_held, offers}
use Rattle.ipx_router.specs.Heard.{Heard, HeardRip, HeardSap}
use Rattle.ipx_router.specs.History.{History, Second, Packet, running, ports_up}
use Rattle.ipx_router.specs.Port.{Port, is_up}
use Rattle.ipx_router.specs.Services.{service_reading, service_order}
use Rattle.ipx_router.specs.declared.service_offer.ServiceOffer.{ServiceOffer}
use Rattle.ipx_router.proofs.bounds.PacketsOfEachEvent.{service_total}
use Rattle.ipx_router.proofs.tables.HeldWasOffered.{heard_up}
use Rattle.ipx_router.proofs.tables.OffersOfAMessage.{facts_from-more}
use Rattle.ipx_internet.specs.Internet.{Place, ports_of}
use Rattle.ipx_internet.proofs.lists.EachElement.{all-append}
use Rattle.ipx_internet.proofs.lists.FoundInAList.{nothing, it_is}
use Rattle.ipx_internet.proofs.records.HeardChangesItsKeys.{service_offer}
use Rattle.ipx_internet.proofs.records.KeptOrOffered.{OffersOf, among_alive}
use Rattle.ipx_laws.specs.Regular.{HasRoomFor, Announces}
use Rattle.ipx_laws.specs.Servers.{Announcer, at_hops, known_of}
use Rattle.ipx_laws.specs.Meanwhile.{message_of}
use Rattle.ipx_laws.specs.Wires.{most_beats_gone}
use Rattle.ipx_laws.proofs.lists.SomeElement.{AnyIs, any_in_front, any_behind}
use Rattle.ipx_laws.proofs.packets.SentOnSaysTheSame.{heard_message}
use Rattle.ipx_laws.proofs.records.BestIsKept.{State, Comes, known, offers_keep, offers_come, second_keeps}
use Rattle.ipx_laws.proofs.records.RecordsGrowOld.{IsWithin}
use Rattle.ipx_laws.proofs.services.ExactWords.{one_name, Words}
use Rattle.ipx_laws.proofs.services.NearestHost.{Sought, here, Listed, key, shares, Real, host_of, SaidBy, Good, GoodOf, best, steady, Such, real_known, goes_on, place}
use Rattle.ipx_laws.proofs.services.ServedOrSoonEnded.{Endures, ServiceOld}
use Rattle.ipx_laws.proofs.services.SpokenOfAServer.{EntrySaid, Told}

module _ (sought : Sought) where
  open sought use {net, up, server, names, most_services, r, hops, reached}

  abbrev ports : List Port
  ports = ports_of net r

  abbrev pub Source : Type 0
  Source = ℕ × Node

  abbrev K : ℕ × List ℕ
  K = key sought

  abbrev one : (k : ℕ × List ℕ) → is_eq (service_order k K) ≡ true → k ≡ K
  one k = one_name k K

  abbrev ss : List ℕ
  ss = shares sought

  abbrev R : ServiceOffer → Type 0
  R = Real sought

  abbrev pub G : ServiceOffer → Type 0
  G = Good sought

  abbrev Of : Source → ServiceOffer → Type 0
  Of = GoodOf sought

  abbrev L : ℕ × List ℕ → Type 0
  L = Listed sought

  -- what routers say that are nearer, as long as they are right
  abbrev pub W : ℕ → Service → Type 0
  W = Words net up server most_services hops reached

  abbrev By : Source → Type 0
  By = SaidBy sought

  abbrev at : ℕ → Place
  at port = here sought port

  abbrev pub host : Source → Announcer
  host = host_of sought

  abbrev pub known_now : List (Fact ServiceOffer) → Option (Held ServiceOffer)
  known_now = known service_reading service_order service_total most_services ss K one R Of

  abbrev pub StateOf : (ℕ → Type 0) → (Source → Type 0) → Type 0 → List (Fact ServiceOffer) → Type 0
  StateOf Fresh Late Later facts =
      State service_reading service_order service_total most_services ss K one R Of (λ s age. Fresh age) (λ s age. Late s) Later (λ o. Unit {0}) (known_now facts)

  -- the service may be missing while one of the hosts has still to be heard
  abbrev pub MissingOf : (Source → Type 0) → Type 0
  MissingOf Late = (g : ServiceOffer) × G g × Late (g.port, g.node)

  -- the router has it with those hops
  abbrev pub IsRightIn : History → Type 0
  IsRightIn history = known_of server (offers (services_held ports most_services history)) ≡ Some (at_hops server hops)

  -- once nobody has still to be heard
  pub right_then : (Fresh : ℕ → Type 0) (history : History) → StateOf Fresh (λ s. ⊥) (MissingOf (λ s. ⊥)) (service_facts ports history) → IsRightIn history
  right_then Fresh history state = elim state.holds [
    | inr missing ↦ absurd missing.2
    | inl held ↦
        ap (option_map (λ s. s.service))
        (among_alive service_reading service_order service_total most_services ss K (service_facts ports history) ∙ ap (option_map (λ h. h.offer)) held.2)
        ∙ ap (λ (s : Service). Some s) held.3.0.said
  ]

  -- ---- from step to step

  -- what is heard now needn't be waited for
  moves : (Fresh : ℕ → Type 0) (Before After Now : Source → Type 0) (facts : List (Fact ServiceOffer)) → ((s : Source) → Before s → Now s ⊎ After s)
      → StateOf Fresh Before (MissingOf Before) facts
      → ((g : ServiceOffer) → G g → Now (g.port, g.node) → StateOf Fresh (λ s. Before s × (s ≢ (g.port, g.node))) ⊥ facts)
      → StateOf Fresh After (MissingOf After) facts
  moves Fresh Before After Now facts split state comes = record {
    aged = λ h s e good. elim (state.aged h s e good) [
      | inl young ↦ inl young
      | inr late ↦ elim (split s late) [
        | inr later ↦ inr later
        | inl now ↦ elim ((comes h.offer good.0 (subst Now (sym good.1) now)).aged h s e good) [
          | inl young ↦ inl young
          | inr both ↦ absurd (both.1 (sym good.1))
        ]
      ]
    ];
    holds = elim state.holds [
      | inl held ↦ inl held
      | inr missing ↦ elim (split (missing.0.port, missing.0.node) missing.2) [
        | inr later ↦ inr (missing.0, missing.1, later)
        | inl now ↦ elim (comes missing.0 missing.1 now).holds [
          | inl held ↦ inl held
          | inr none ↦ absurd none
        ]
      ]
    ];
  }

  -- nothing that counts is heard
  pub passes_by : (Fresh Then : ℕ → Type 0) (Before After : Source → Type 0) (facts : List (Fact ServiceOffer)) → ((age : ℕ) → Fresh age → Then age)
      → ((s : Source) → Before s → After s) → StateOf Fresh Before (MissingOf Before) facts → StateOf Then After (MissingOf After) facts
  passes_by Fresh Then Before After facts grows still state = record {
    aged = λ h s e good. elim (state.aged h s e good) [
      | inl young ↦ inl (grows h.age young)
      | inr late ↦ inr (still s late)
    ];
    holds = elim state.holds [
      | inl held ↦ inl held
      | inr missing ↦ inr (missing.0, missing.1, still (missing.0.port, missing.0.node) missing.2)
    ];
  }

  -- ---- a second

  pub second_goes : (Fresh Then : ℕ → Type 0) → ((age : ℕ) → Fresh age → Then (age + 1)) → ((age : ℕ) → age + 1 ≡ lifetime → Fresh age → ⊥) → (Late : Source → Type 0)
      → (history : History) → StateOf Fresh Late (MissingOf Late) (service_facts ports history) → ((age : ℕ) → Fresh age → Then age)
      → StateOf Then Late (MissingOf Late) (service_facts ports (history ++ Second ∷ []))
  second_goes Fresh Then older young Late history state stays =
      let facts = service_facts ports history in
      subst (λ (fs : List (Fact ServiceOffer)). StateOf Then Late (MissingOf Late) fs) (sym (facts_from-more (service_facts_of ports) [] history Second))
      (elim (cases_Bool (running history)) [
        | inl runs ↦
            rw runs (second_keeps service_reading service_order service_total most_services ss K one R Of (λ s age. Fresh age) (λ s age. Then age)
            (λ s age. Late s) (λ s age. Late s) (MissingOf Late) (MissingOf Late) (λ o. Unit {0}) (λ s age fresh. older age fresh)
            (λ s h good late. late) (λ missing. missing) (λ s h good last either. elim either [
              | inl old ↦ absurd (young h.age last old)
              | inr late ↦ (h.offer, good.0, subst Late (sym good.1) late)
            ]) facts state)
        | inr stopped ↦
            rw stopped (subst (λ (fs : List (Fact ServiceOffer)). StateOf Then Late (MissingOf Late) fs) (sym (append-nil facts))
            (passes_by Fresh Then Late Late facts stays (λ s late. late) state))
      ])

  -- ---- a packet

  module _ (room : HasRoomFor net most_services names) (inside : r < length net) (listed : Listed sought (server.kind, server.name)) (Fresh : ℕ → Type 0) (newest : Fresh 0)
      (delay slack begun had : ℕ) (late : had ≤ delay + begun) (long : slack + most_beats_gone delay ≤ had) (sure : slack + most_beats_gone delay ≤ delay + begun)
      (number : ℕ) (bytes : List ℕ) (tells : (m : Heard) → message_of bytes ≡ Some m → Told net up server L delay slack W begun (at number) m) (history : History)
      (endures : Endures delay slack net up server L most_services r had history) where
    abbrev Fit : ServiceOffer → Type 0
    Fit = ServiceOld delay slack net up server L most_services r had had (omega arith)

    abbrev Arrives : ServiceOffer → Type 0
    Arrives = Comes service_reading service_order service_total most_services ss K one R Of (λ s age. Fresh age)
        (λ s. newest) (λ o. Unit {0}) (best sought)
        (Such sought delay slack had long) Fit
        (real_known sought delay slack had long)
        (goes_on sought delay slack had long)

    arrive : is_up (up r) number ≡ true → (node : Node) (entries : List SapEntry) → AllByRecursion (EntrySaid net up server L delay slack W begun (at number) node) entries
        → AllByRecursion (OffersOf Arrives) (services_offered number node entries)
    arrive on node [] all = tt
    arrive on node (e ∷ entries) all =
        all-append (OffersOf Arrives) _ (services_offered number node entries) (by e.name (λ name named.
        (fit name named, steady sought delay slack begun sure number on node e all.0 name named))) (arrive on node entries all.1)
      where
        fit : (name : List ℕ) → e.name ≡ Some name → Fit (service_offer number node e name)
        fit name named near = sooner (all.0.fine on near name named)
          where
            sooner : {A : Type 0} → A ⊎ IsWithin delay slack e.hops (delay + begun) → A ⊎ IsWithin delay slack e.hops had
            sooner (inl fine) = inl fine
            sooner (inr soon) = inr (omega (arith, soon, late))

        by : (name : Option (List ℕ)) → ((given : List ℕ) → name ≡ Some given → Arrives (service_offer number node e given))
            → AllByRecursion (OffersOf Arrives) (elim name [
              | None ↦ []
              | Some name ↦ Offered (service_offer number node e name) ∷ []
            ])
        by None step = tt
        by (Some name) step = (step name refl, tt)

    -- what one of the hosts says is among what is offered
    among : (g : ServiceOffer) → G g → g.port ≡ number → (node : Node) → node ≡ g.node → (entries : List SapEntry) (which : ℕ)
        → slice_get entries which ≡ Some (entry_of (at_hops server hops))
        → AnyIs (λ fact. OffersOf (λ o. G o × ◌≡◌ {A = Source} (o.port, o.node) (g.port, g.node)) fact) (services_offered number node entries)
    among g good port node same [] which at_it = nothing at_it
    among g good port node same (e ∷ entries) (suc which) at_it =
        any_behind _ (elim e.name [
          | None ↦ []
          | Some name ↦ Offered (service_offer number node e name) ∷ []
        ]) (services_offered number node entries) (among g good port node same entries which at_it)
    among g good port node same (e ∷ entries) zero at_it =
        any_in_front _ (elim e.name [
          | None ↦ []
          | Some name ↦ Offered (service_offer number node e name) ∷ []
        ]) (services_offered number node entries)
        (it_is (λ (x : SapEntry). AnyIs (λ fact. OffersOf (λ o. G o × ◌≡◌ {A = Source} (o.port, o.node) (g.port, g.node)) fact) (elim x.name [
          | None ↦ []
          | Some name ↦ Offered (service_offer number node x name) ∷ []
        ])) e (entry_of (at_hops server hops)) (sym at_it) (inl (is_good, source)))
      where
        o : ServiceOffer
        o = record { service = at_hops server hops; port = number; node = node }

        source : ◌≡◌ {A = Source} (number, node) (g.port, g.node)
        source = ap (λ (p : ℕ). (p, node)) (sym port) ∙ ap (λ (n : Node). (g.port, n)) same

        is_good : G o
        is_good = record {
          who = subst By (sym source) good.who;
          on = subst (λ (p : ℕ). is_up (up r) p ≡ true) port good.on;
          said = refl;
        }

    module _ (Before After Now : Source → Type 0) (split : (s : Source) → Before s → Now s ⊎ After s)
        (now_is : (s : Source) → Now s → (number ≡ s.0) × (m : Heard) × (heard_after ports history s.0 bytes ≡ Some m) × Announces server (host s) m)
        (state : StateOf Fresh Before (MissingOf Before) (service_facts ports history)) where
      abbrev facts : List (Fact ServiceOffer)
      facts = service_facts ports history

      by_heard : (o : Option Heard) → heard_after ports history number bytes ≡ o
          → StateOf Fresh After (MissingOf After) (facts ++ services_heard number o)
      by_heard None e =
          subst (λ (fs : List (Fact ServiceOffer)). StateOf Fresh After (MissingOf After) fs) (sym (append-nil facts))
          (passes_by Fresh Fresh Before After facts (λ age young. young) (λ s late. never s (split s late)) state)
        where
          never : (s : Source) → Now s ⊎ After s → After s
          never s (inr later) = later
          never s (inl now) =
              let it = now_is s now in
              nothing (sym e ∙ ap (λ (n : ℕ). heard_after ports history n bytes) it.0 ∙ it.2)
      by_heard (Some m) e = heard m e (tells m (heard_message ports history number bytes m e))
        where
          on : is_up (up r) number ≡ true
          on = subst (λ (us : List ℕ). is_up us number ≡ true) endures.ups (heard_up ports (ports_up ports history) number (running history) bytes m e)

          -- it is this message
          same_message : (x : Heard) → heard_after ports history number bytes ≡ Some x → (s : Source) → Now s → Announces server (host s) x
          same_message x e s now =
              let it = now_is s now in
              it_is (λ (h : Heard). Announces server (host s) h) x it.1 (sym it.2 ∙ sym (ap (λ (n : ℕ). heard_after ports history n bytes) it.0) ∙ e) it.3

          silent : (x : Heard) → heard_after ports history number bytes ≡ Some x → ((s : Source) → Announces server (host s) x → ⊥)
              → StateOf Fresh After (MissingOf After) (facts ++ [])
          silent x e none =
              subst (λ (fs : List (Fact ServiceOffer)). StateOf Fresh After (MissingOf After) fs) (sym (append-nil facts))
              (passes_by Fresh Fresh Before After facts (λ age young. young)
              (λ s late. elim (split s late) [ inr later ↦ later | inl now ↦ absurd (none s (same_message x e s now)) ]) state)

          heard : (x : Heard) → heard_after ports history number bytes ≡ Some x → Told net up server L delay slack W begun (at number) x
              → StateOf Fresh After (MissingOf After) (facts ++ services_heard number (Some x))
          heard (HeardRip source rip) e tells = silent (HeardRip source rip) e (λ s none. none)
          heard (HeardSap source (Query nearest kind)) e tells = silent (HeardSap source (Query nearest kind)) e (λ s none. none)
          heard (HeardSap source (SapResponse nearest entries)) e said_all =
              let new = services_offered number source.node entries in
              let all = arrive on source.node entries said_all in
              let such = endures.services in
              moves Fresh Before After Now (facts ++ new) split
              (offers_keep service_reading service_order service_total most_services ss K one R Of
              (λ s age. Fresh age) (λ s. newest) (λ o. Unit {0})
              (best sought)
              (Such sought delay slack had long) Fit
              (real_known sought delay slack had long)
              (goes_on sought delay slack had long) (λ s age. Before s) (MissingOf Before) new facts all state)
              (λ g good now.
              let said = same_message (HeardSap source (SapResponse nearest entries)) e (g.port, g.node) now in
              offers_come service_reading service_order service_total most_services ss K one R Of
              (λ s age. Fresh age) (λ s. newest) (λ o. Unit {0})
              (best sought)
              (Such sought delay slack had long) Fit
              (real_known sought delay slack had long)
              (goes_on sought delay slack had long)
              (place sought delay slack had long room inside listed) (g.port, g.node)
              (λ s age. Before s) (MissingOf Before) (λ missing o. tt) new facts all
              (among g good (sym (now_is (g.port, g.node) now).0) source.node said.0 entries said.1 said.2) such state)

      pub packet_goes : StateOf Fresh After (MissingOf After) (service_facts ports (history ++ Packet number bytes ∷ []))
      packet_goes = search (rules, facts_from-more, by_heard)
