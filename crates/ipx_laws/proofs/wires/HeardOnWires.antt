-- A router has the route of its least way after beats in which all neighbours were heard by which that way leads, where these were right; and at
-- each moment of the beat that follows.
use Rattle.std.proofs.Common.{◌≡◌, refl, sym, ap, ◌∙◌, subst, ◌⊎◌, ℕ, ◌+◌, ◌-◌, ◌<◌, ◌≤◌, true, List, [], ◌∷◌, ◌++◌, length, map, Option, None, Some, inl, inr, arith, append-nil}
use Rattle.std.specs.List.{AllByRecursion}
use Rattle.std.proofs.Math.Nat.{mul-le-mul_left}
use Rattle.std.proofs.lemmas.Bool.{both_ways}
use Rattle.ipx_table.specs.Alive.{lifetime}
use Rattle.ipx_table.specs.Facts.{Fact}
use Rattle.ipx_wire.specs.Crossed.{is_among}
use Rattle.ipx_wire.specs.Rip.{RipParts}
use Rattle.ipx_wire.specs.declared.address.Address.{Address}
use Rattle.ipx_wire.specs.declared.network.Network.{Network}
use Rattle.ipx_wire.specs.declared.node.Node.{Node}
use Rattle.ipx_wire.specs.declared.rip.Operation.{Operation}
use Rattle.ipx_wire.specs.declared.rip.Operation.TheVariants.{Request, Response}
use Rattle.ipx_wire.specs.declared.rip.RipEntry.{RipEntry}
use Rattle.ipx_router.specs.Facts.{route_offer, routes_offered, routes_heard, heard_after, route_facts, route_facts_of}
use Rattle.ipx_router.specs.Heard.{Heard, HeardRip, HeardSap}
use Rattle.ipx_router.specs.History.{Event, History, Start, Stop, Second, Packet, PortDown, PortUp, running, ports_up}
use Rattle.ipx_router.specs.Numbers.{unreachable}
use Rattle.ipx_router.specs.Port.{Port, port_at, is_up, own_address}
use Rattle.ipx_router.specs.declared.route_offer.RouteOffer.{RouteOffer}
use Rattle.ipx_router.proofs.tables.HeldWasOffered.{came_in, heard_up}
use Rattle.ipx_router.proofs.tables.OffersOfAMessage.{facts_from-more}
use Rattle.ipx_internet.specs.Internet.{Place, ports_of, port_of}
use Rattle.ipx_internet.specs.Queue.{history_of}
use Rattle.ipx_internet.specs.Run.{Happens}
use Rattle.ipx_internet.specs.Ticks.{seconds_of}
use Rattle.ipx_internet.proofs.lists.EachElement.{all_then}
use Rattle.ipx_internet.proofs.lists.FoundInAList.{nothing, it_is}
use Rattle.ipx_laws.specs.Apart.{TellsOnlyOf}
use Rattle.ipx_laws.specs.Gone.{most_ticks_gone}
use Rattle.ipx_laws.specs.InTime.{Names, seconds_in}
use Rattle.ipx_laws.specs.Least.{Way}
use Rattle.ipx_laws.specs.Meanwhile.{LeavesPorts}
use Rattle.ipx_laws.specs.Outsiders.{IsOfOutsider, IsFromOutsider}
use Rattle.ipx_laws.specs.Wires.{Flight, Wires, WireStep, as_step, beats_of, Along, EachBeat, IsBeat, most_beats_gone, InBeats}
use Rattle.ipx_laws.proofs.packets.RoutesOrSilence.{TellsApart, IsOwnPage, none_of_foreign, own_heard, near_in, foreign_offer}
use Rattle.ipx_laws.proofs.packets.SentOnSaysTheSame.{heard_message}
use Rattle.ipx_laws.proofs.tables.Given.{Given}
use Rattle.ipx_laws.proofs.tables.GoodRoutesStay.{right_offer, same_offer}
use Rattle.ipx_laws.proofs.tables.LeastRouteSurvives.{foreign_keep}
use Rattle.ipx_laws.proofs.tables.LeastWays.{IsNeighbour}
use Rattle.ipx_laws.proofs.tables.NoRouteIsBetter.{there_where_up}
use Rattle.ipx_laws.proofs.tables.SaysWhatItKnows.{Wants, SourceOf}
use Rattle.ipx_laws.proofs.ticks.RealOrSoonEnded.{Reaches}
use Rattle.ipx_laws.proofs.wires.BeatAfterBeat.{Keeps}
use Rattle.ipx_laws.proofs.wires.EarlyFlights.{early_soon}
use Rattle.ipx_laws.proofs.wires.HeardInAWindow.{IsHeardAt, IsHeardOf, Takes, Tracks, window_has, beat_has}
use Rattle.ipx_laws.proofs.wires.SpokenOnWires.{true_taken, Told, Speaks, Flies, Lasts, Arises, Good, IsAOutsiders, FromOutside, Goes, Such, keeps}
use Rattle.ipx_laws.proofs.wires.StateOnWires.{IsEntry, named_any, never_names, Missing, StateAt, passes_by, second_own, entries_heard}
use Rattle.ipx_laws.proofs.wires.WordsOnWires.{StrangeOf, truth_of, Lasting, HasIt, Fit, Extra, as_in_ticks, extras}

module _ (delay slack : ℕ) (given : Given) (hops : ℕ) (few : hops ≤ 15) (start : ℕ) (long : slack + most_beats_gone delay ≤ start) (x : ℕ) (w : Wants given x)
    (exact : w.v.hops ≡ hops) (inside : x < length given.net) (ours : ℕ) (mine : x < ours) where
  open given use {net, laws, is, cheap, up, in_ports, most_routes, most_services, foreign, network, unlisted}

  abbrev ports : List Port
  ports = ports_of net x

  abbrev facts_of : History → List (Fact RouteOffer)
  facts_of history = route_facts ports history

  abbrev Source : ℕ → Place → Type 0
  Source = SourceOf given x w.v

  abbrev here : ℕ → Place
  here number = record { router = x; port = number }

  abbrev F : ℕ → History → Type 0
  F = Fit delay slack given hops few

  abbrev X : ℕ → Place → RipEntry → Type 0
  X = Extra delay slack given hops few start long

  abbrev ToldThen : ℕ → Place → RipEntry → Type 0
  ToldThen = Told delay slack net laws is most_routes most_services up foreign ours (StrangeOf given) (truth_of given) F X

  abbrev SpeaksOf : Place → List ℕ → ℕ → Type 0
  SpeaksOf = Speaks delay slack net laws is most_routes most_services up foreign ours (StrangeOf given) (truth_of given) F X

  abbrev TheirsAt : Place → List ℕ → Type 0
  TheirsAt = IsAOutsiders delay slack net laws is most_routes most_services up foreign ours (StrangeOf given) (truth_of given) F X

  abbrev AllLast : ℕ → ℕ → History → Type 0
  AllLast = Lasts delay slack net laws is most_routes most_services up foreign ours (StrangeOf given) (truth_of given) F X

  abbrev AllFly : Flight → Type 0
  AllFly = Flies delay slack net laws is most_routes most_services up foreign ours (StrangeOf given) (truth_of given) F X

  abbrev Rises : ℕ → List History → ℕ → Event → Type 0
  Rises = Arises delay slack net laws is most_routes most_services up foreign ours (StrangeOf given) (truth_of given) F X

  abbrev GoodOnes : List History → Type 0
  GoodOnes = Good delay slack net laws is most_routes most_services up foreign ours (StrangeOf given) (truth_of given) F X

  abbrev Outside : ℕ → Event → Type 0
  Outside = FromOutside delay slack net laws is most_routes most_services up foreign ours (StrangeOf given) (truth_of given) F X

  abbrev GoesOn : ℕ → (ℕ → ℕ) → Wires → Type 0
  GoesOn = Goes delay slack net laws is most_routes most_services up foreign ours (StrangeOf given) (truth_of given) F X

  abbrev SuchBeat : Wires → List WireStep → Type 0
  SuchBeat = Such delay slack net laws is most_routes most_services up foreign ours (StrangeOf given) (truth_of given) F X

  kept : Keeps net laws is most_routes most_services delay AllLast AllFly Rises GoodOnes
  kept = keeps delay slack net laws is most_routes most_services up foreign ours (StrangeOf given) (truth_of given) F X (extras delay slack given hops few start long ours)

  -- ---- a packet

  module _ (top beats sent number : ℕ) (bytes : List ℕ) (timely : beats ≤ sent + delay) (enough : start + delay ≤ beats) (place : number < length ports)
      (history : History) (lasts : Lasting delay slack given x beats history) (speaks : SpeaksOf (here number) bytes sent ⊎ TheirsAt (here number) bytes)
      (Before After Now : Place → Type 0)
      (split : (f : Place) → Before f → Now f ⊎ After f)
      (now_is : (f : Place) → Now f → (m : Heard) × (heard_after ports history number bytes ≡ Some m) × Names (port_of net f).node network m × Source number f)
      (state : StateAt given x w top Before (facts_of history)) where
    abbrev facts : List (Fact RouteOffer)
    facts = facts_of history

    abbrev heard_now : Option Heard
    heard_now = heard_after ports history number bytes

    -- it was sent when its router was right
    late : start ≤ sent
    late = omega (arith, timely, enough)

    -- nothing of it names the network
    silent : (m : Heard) → heard_now ≡ Some m → TellsOnlyOf foreign m → StateAt given x w top After (facts ++ routes_heard ports number (Some m))
    silent m e tells =
        let new = routes_heard ports number (Some m) in
        passes_by given x w top top Before After (facts ++ new) (omega arith) (λ f before. never f (split f before))
        (foreign_keep given x w.v w.off w.least w.wanted most_ticks_gone (omega arith) (λ f age. age ≤ top) (λ f. omega arith) (λ r. Unit {0}) (λ f age. Before f)
        (Missing given x w Before) new facts (foreign_offer foreign ports number m tells) state)
      where
        never : (f : Place) → Now f ⊎ After f → After f
        never f (inr later) = later
        never f (inl now) =
            let (n, heard, names, source) = now_is f now in
            absurd (never_names foreign network unlisted (port_of net f).node m tells
            (it_is (λ (k : Heard). Names (port_of net f).node network k) m n (sym heard ∙ e) names))

    -- what a port on that network says that is another router's or an outsider's
    module _ (m : Heard) (e : heard_now ≡ Some m) (g : Place) (reaches : Reaches net up g (here number)) where
      on : is_up (up x) number ≡ true
      on = subst (λ (us : List ℕ). is_up us number ≡ true) lasts.ups (heard_up ports (ports_up ports history) number (running history) bytes m e)

      neighbour : IsNeighbour net up in_ports x number g
      neighbour = record {
        other = λ same. reaches.other (sym same);
        place = there_where_up net is cheap up in_ports network g.router g.port reaches.on;
        here = place;
        network = reaches.network;
        on_here = on;
        on_there = reaches.on;
      }

      abbrev Is : RipEntry → Type 0
      Is = IsEntry given x w number g neighbour

      module _ (entries : List RipEntry) (all_right : AllByRecursion Is entries)
          (offers : routes_heard ports number (Some m) ≡ routes_offered ports number (port_of net g).node entries)
          (names : (f : Place) → Names (port_of net f).node network m
          → ((port_of net g).node ≡ (port_of net f).node) × (is_among network (map (λ e. e.network) entries) ≡ true)) where
        heard_entries : StateAt given x w top After (facts ++ routes_heard ports number (Some m))
        heard_entries =
            subst (λ (new : List (Fact RouteOffer)). StateAt given x w top After (facts ++ new)) (sym offers)
            (entries_heard given x w top number facts (as_in_ticks delay slack given x beats (omega (arith, enough, long)) history lasts).routes g neighbour entries all_right
            Before After Now split (λ f now.
            let (n, heard, is_named, source) = now_is f now in
            let told = names f (it_is (λ (k : Heard). Names (port_of net f).node network k) m n (sym heard ∙ e) is_named) in
            (source, told.0, named_any network entries told.1)) state)

    -- another router's page
    module _ (m : Heard) (e : heard_now ≡ Some m) (g : Place) (reaches : Reaches net up g (here number)) (own : IsOwnPage (ToldThen sent g) (port_of net g) bytes)
        (page : Some (HeardRip (own_address (port_of net g)) (record { operation = Response; entries = own.page.page })) ≡ Some m) where
      abbrev entries : List RipEntry
      entries = own.page.page

      abbrev said : Heard
      said = HeardRip (own_address (port_of net g)) (record { operation = Response; entries = entries })

      is_right : (entry : RipEntry) → ToldThen sent g entry → Is m e g reaches entry
      is_right entry told = record {
        right = λ named source.
            let h = ap (λ (y : Way). y.hops) source.by in
            let t = ap (λ (y : Way). y.ticks) source.by in
            let word = told.1 late source.way source.there (omega (arith, h, exact)) named in
            let word_hops = ap (λ (y : RipEntry). y.hops) word in
            let word_ticks = ap (λ (y : RipEntry). y.ticks) word in
            same_offer (route_offer number (port_of net g).node entry) (right_offer given x w.v w.off w.least number g) named
            (omega (arith, word_hops, h)) (omega (arith, word_ticks, t)) refl refl;
        real = λ taken near. elim (told.0 near) [
          | inl fine ↦ fine (here number) reaches (record { up_here = on m e g reaches; wanted = taken })
          | inr soon ↦
              let most = mul-le-mul_left {m = entry.hops} {n = unreachable - 1} (delay + lifetime) (omega (arith, near)) in
              let since = late in
              absurd (omega (arith, soon, most, since, long))
        ];
      }

      heard_page : StateAt given x w top After (facts ++ routes_heard ports number (Some m))
      heard_page =
          heard_entries m e g reaches entries (all_then (ToldThen sent g) (Is m e g reaches) is_right entries own.page.each)
          (sym (ap (routes_heard ports number) page))
          (λ f names. let told : Names (port_of net f).node network said = it_is (λ (k : Heard). Names (port_of net f).node network k) said m (sym page) names in (told.0, told.2))

    -- an outsider's response
    module _ (source : Address) (rip : RipParts) (e : heard_now ≡ Some (HeardRip source rip)) (response : rip.operation ≡ Response) (g : Place)
        (of_one : IsOfOutsider net up ours (here number) source.node g)
        (all : AllByRecursion (λ e. (is_among e.network foreign ≡ true) ⊎ StrangeOf given g e) rip.entries) where
      reaches_here : Reaches net up g (here number)
      reaches_here = record {
        other = λ same. let strange = of_one.outsider in omega (arith, strange, mine, same);
        network = of_one.network;
        on = of_one.there;
      }

      abbrev IsTheirs : RipEntry → Type 0
      IsTheirs = Is (HeardRip source rip) e g reaches_here

      their_right : (entry : RipEntry) → (is_among entry.network foreign ≡ true) ⊎ StrangeOf given g entry → IsTheirs entry
      their_right entry (inl listed) = record {
        right = λ named source_there.
            absurd (both_ways (is_among network foreign) unlisted (subst (λ (n : Network). is_among n foreign ≡ true) named listed));
        real = λ taken near off. absurd (both_ways (is_among entry.network foreign) off listed);
      }
      their_right entry (inr says) = record {
        right = λ named there.
            let h = ap (λ (y : Way). y.hops) there.by in
            let t = ap (λ (y : Way). y.ticks) there.by in
            let word = says.1 there.way there.there named in
            let word_hops = ap (λ (y : RipEntry). y.hops) word in
            let word_ticks = ap (λ (y : RipEntry). y.ticks) word in
            same_offer (route_offer number (port_of net g).node entry) (right_offer given x w.v w.off w.least number g) named
            (omega (arith, word_hops, h)) (omega (arith, word_ticks, t)) refl refl;
        real = λ taken near off.
            true_taken net up x number g reaches_here (on (HeardRip source rip) e g reaches_here) entry taken near says.0;
      }

      heard_outsider : StateAt given x w top After (facts ++ routes_heard ports number (Some (HeardRip source rip)))
      heard_outsider =
          heard_entries (HeardRip source rip) e g reaches_here rip.entries
          (all_then (λ e. (is_among e.network foreign ≡ true) ⊎ StrangeOf given g e) IsTheirs their_right rip.entries all)
          (ap offered_by response ∙ ap (λ (n : Node). routes_offered ports number n rip.entries) of_one.same_node)
          (λ f names. (sym of_one.same_node ∙ names.0, names.2))
        where
          offered_by : Operation → List (Fact RouteOffer)
          offered_by operation = elim operation [ Response ↦ routes_offered ports number source.node rip.entries | Request ↦ [] ]

    by_heard : (o : Option Heard) → heard_now ≡ o → StateAt given x w top After (facts ++ routes_heard ports number o)
    by_heard None e =
        subst (λ (fs : List (Fact RouteOffer)). StateAt given x w top After fs) (sym (append-nil facts))
        (passes_by given x w top top Before After facts (omega arith) (λ f before. never f (split f before)) state)
      where
        never : (f : Place) → Now f ⊎ After f → After f
        never f (inr later) = later
        never f (inl now) = let it = now_is f now in nothing (sym e ∙ it.1)
    by_heard (Some m) e = by speaks
      where
        theirs : (n : Heard) → heard_now ≡ Some n → IsFromOutsider net up ours foreign (StrangeOf given) (here number) n
            → StateAt given x w top After (facts ++ routes_heard ports number (Some n))
        theirs (HeardRip source rip) now (response, g, of_one, all) = heard_outsider source rip now response g of_one all
        theirs (HeardSap source sap) now says = absurd says

        by : SpeaksOf (here number) bytes sent ⊎ TheirsAt (here number) bytes → StateAt given x w top After (facts ++ routes_heard ports number (Some m))
        by (inr outsider) = theirs m e (outsider.says m (heard_message ports history number bytes m e))
        by (inl (inl (inr tells))) = silent m e (tells m (heard_message ports history number bytes m e))
        by (inl (inl (inl (g, reaches, own)))) =
            let came = came_in ports (ports_up ports history) number (running history) bytes m e in
            elim (own_heard (ToldThen sent g) (port_of net g) bytes own came.packet m came.read (near_in (port_at ports number) came.packet m came.near)) [
              | inl page ↦ heard_page m e g reaches own page
              | inr none ↦ silent m e (none_of_foreign foreign m none)
            ]
        by (inl (inr (inl early))) = let soon = early_soon delay slack bytes sent beats early timely in absurd (omega (arith, soon, enough, long))
        by (inl (inr (inr over))) = let soon = over.soon in let since = late in absurd (omega (arith, soon, since, long))

    pub packet_own : StateAt given x w top After (facts_of (history ++ Packet number bytes ∷ []))
    packet_own =
        subst (λ (fs : List (Fact RouteOffer)). StateAt given x w top After fs) (sym (facts_from-more (route_facts_of ports) [] history (Packet number bytes)))
        (by_heard heard_now refl)

  -- ---- a neighbour is heard, on a port: another router of ours, of which a packet lands, or an outsider

  abbrev Says : ℕ × Place → Heard → Type 0
  Says s = Names (port_of net s.1).node network

  -- it is one by which the least way leads
  abbrev ByIts : (ℕ × Place → Type 0) → Place → Type 0
  ByIts Late f = (port : ℕ) × Source port f × Late (port, f)

  abbrev State : ℕ → (ℕ × Place → Type 0) → History → Type 0
  State top Late history = StateAt given x w top (ByIts Late) (facts_of history)

  abbrev IsOf : ℕ → List ℕ → History → ℕ × Place → Type 0
  IsOf = IsHeardOf net x (ℕ × Place) (λ s. s.0) Says State

  packet_taken : (beats sent number : ℕ) (bytes : List ℕ) → beats ≤ sent + delay → start + delay ≤ beats → number < length ports
      → SpeaksOf (here number) bytes sent ⊎ TheirsAt (here number) bytes → (top : ℕ) (history : History) → Lasting delay slack given x beats history
      → Takes net x (ℕ × Place) (λ s. s.0) Says State top number bytes history
  packet_taken beats sent number bytes timely enough place speaks top history lasts Before After split state =
      packet_own top beats sent number bytes timely enough place history lasts speaks (ByIts Before) (ByIts After) (ByIts (IsOf number bytes history)) parted heard state
    where
      parted : (f : Place) → ByIts Before f → ByIts (IsOf number bytes history) f ⊎ ByIts After f
      parted f (port, source, before) = elim (split (port, f) before) [
        | inl now ↦ inl (port, source, now)
        | inr later ↦ inr (port, source, later)
      ]

      heard : (f : Place) → ByIts (IsOf number bytes history) f
          → (m : Heard) × (heard_after ports history number bytes ≡ Some m) × Names (port_of net f).node network m × Source number f
      heard f (port, source, (on, m, is_heard, names)) = (m, is_heard, names, subst (λ (n : ℕ). Source n f) (sym on) source)

  tracks : Tracks net laws is most_routes most_services delay AllLast AllFly Rises GoodOnes x inside (ℕ × Place) (λ s. s.0) Says State (HasIt delay slack given x w)
      (λ beats. start + delay ≤ beats)
  tracks = record {
    has = λ top history state. elim state.holds [
      | inl held ↦ (held.0, held.1, held.2, held.3)
      | inr missing ↦ let none = missing.1.2 in absurd none
    ];
    passes = λ top Before After history still state.
        passes_by given x w top top (ByIts Before) (ByIts After) (facts_of history) (omega arith) (λ f before. (before.0, before.1, still (before.0, f) before.2)) state;
    second = λ top young Late history state. second_own given x w top young (ByIts Late) history state;
    leaves = λ beats histories event outside. leaves event outside;
    later = λ beats more longer enough. omega (arith, longer, enough);
    outside = λ beats enough histories number bytes is_step outside top history lasts.
        packet_taken beats beats number bytes (omega arith) enough is_step.1 (by_outside beats number bytes outside) top history (lasts.0 mine);
    landing = λ beats enough f same timely flies top history lasts.
        packet_taken beats f.sent f.delivery.to.port f.delivery.bytes timely enough
        (subst (λ (k : ℕ). f.delivery.to.port < length (ports_of net k)) same flies.delivery.place)
        (inl (subst (λ (k : ℕ). SpeaksOf (record { router = k; port = f.delivery.to.port }) f.delivery.bytes f.sent) same flies.speaks)) top history (lasts.0 mine);
  }
    where
      leaves : (event : Event) → Outside x event → LeavesPorts (Happens x event)
      leaves Second outside = tt
      leaves (Packet number bytes) outside = tt
      leaves Start outside = outside
      leaves Stop outside = outside
      leaves (PortDown number) outside = outside
      leaves (PortUp number) outside = outside

      by_outside : (beats number : ℕ) (bytes : List ℕ) → TellsApart foreign bytes ⊎ TheirsAt (here number) bytes
          → SpeaksOf (here number) bytes beats ⊎ TheirsAt (here number) bytes
      by_outside beats number bytes (inl apart) = inl (inl (inr apart))
      by_outside beats number bytes (inr theirs) = inr theirs

  -- ---- a window in which each of them is heard

  abbrev pub IsHeard : ℕ → Place → Wires → WireStep → Type 0
  IsHeard port f = IsHeardAt net delay (here port) (Says (port, f))

  module _ (so_far : ℕ) (enough : start + delay ≤ so_far) (window : List (List WireStep)) (now : Wires) (are : AllByRecursion (IsBeat net) window)
      (such : EachBeat net most_routes most_services delay SuchBeat now window)
      (going : GoesOn so_far (λ router. 0) now) (quick : seconds_in x window < lifetime)
      (in_time : (port : ℕ) (f : Place) → Source port f → InBeats net most_routes most_services delay (IsHeard port f) now window)
      (first : (port : ℕ) × (f : Place) × Source port f) where
    begins : State 0 (λ s. InBeats net most_routes most_services delay (IsHeard s.0 s.1) now window) (history_of now.histories x)
    begins = record {
      aged = λ h f e right. inr (h.offer.port, right.source, in_time h.offer.port f right.source);
      holds = inr (first.1, (first.0, first.2, in_time first.0 first.1 first.2));
    }

    abbrev last : Wires
    last = beats_of net most_routes most_services delay now window

    pub window_right : HasIt delay slack given x w (history_of last.histories x)
    window_right =
        window_has net laws is most_routes most_services delay AllLast AllFly Rises GoodOnes x inside (ℕ × Place) (λ s. s.0) Says State (HasIt delay slack given x w)
        (λ beats. start + delay ≤ beats) tracks kept so_far enough window now are such going quick begins

    -- and at each moment of a beat more
    pub beat_right : (steps : List WireStep) → IsBeat net steps → SuchBeat last steps → GoesOn (length window + so_far) (λ router. 0) last
        → seconds_of x (map as_step steps) + seconds_in x window < lifetime
        → Along net most_routes most_services delay (λ n. HasIt delay slack given x w (history_of n.histories x)) last steps
    beat_right =
        beat_has net laws is most_routes most_services delay AllLast AllFly Rises GoodOnes x inside (ℕ × Place) (λ s. s.0) Says State (HasIt delay slack given x w)
        (λ beats. start + delay ≤ beats) tracks kept so_far enough window now are such going quick begins
