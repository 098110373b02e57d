-- Over wires all tables become right, hop by hop: where all routers are right whose least ways have fewer hops, those with one hop more are after what
-- still flies and a window in which their neighbours are heard.
use Rattle.std.proofs.Common.{◌≡◌, refl, sym, ap, ◌∙◌, subst, ◌⊎◌, ℕ, zero, suc, ◌+◌, ◌-◌, ◌*◌, ◌<◌, ◌≤◌, true, List, [], ◌∷◌, ◌++◌, length, find, Option, None, Some, option_map, inl, inr, arith, append_assoc, length-append, is_eq}
use Rattle.std.specs.List.{AllByRecursion}
use Rattle.std.proofs.lemmas.Bool.{cases_lt}
use Rattle.ipx_table.specs.Alive.{lifetime}
use Rattle.ipx_wire.specs.declared.rip.RipEntry.{RipEntry}
use Rattle.ipx_router.specs.History.{History}
use Rattle.ipx_router.specs.Outgoing.{route_to}
use Rattle.ipx_router.specs.Port.{is_up}
use Rattle.ipx_router.specs.Routes.{network_order}
use Rattle.ipx_router.specs.declared.route_offer.RouteOffer.{RouteOffer}
use Rattle.ipx_router.proofs.lists.EachElement.{all_before, all_behind, all_both}
use Rattle.ipx_internet.specs.Internet.{Place, port_of}
use Rattle.ipx_internet.specs.Queue.{Delivery, history_of}
use Rattle.ipx_internet.specs.Rounds.{IsDelivery}
use Rattle.ipx_internet.specs.Run.{AreHistories}
use Rattle.ipx_internet.proofs.lists.EachElement.{all_then}
use Rattle.ipx_internet.proofs.trees.RunIsALog.{router_there}
use Rattle.ipx_laws.specs.Gone.{most_ticks_gone}
use Rattle.ipx_laws.specs.HeardInTicks.{IsHeardOutside}
use Rattle.ipx_laws.specs.InTime.{Names, Advertises, IsHeardFrom, AreHeardInTime, beats_right, seconds_in, AreQuick}
use Rattle.ipx_laws.specs.Least.{Way, least_route, way_of}
use Rattle.ipx_laws.specs.Meanwhile.{LeavesPorts}
use Rattle.ipx_laws.specs.Outsiders.{AreStopped, SaysTruly, LeadsByOutsider}
use Rattle.ipx_laws.specs.OutsidersInTime.{AreOutsidersInTime}
use Rattle.ipx_laws.specs.Ups.{ups}
use Rattle.ipx_laws.specs.Wires.{Flight, Wires, WireStep, as_step, flying, beats_of, Along, EachBeat, IsBeat, AreBeats, EachWireStep, InBeats, most_beats_gone, most_beats_flying}
use Rattle.ipx_laws.proofs.tables.Given.{Given}
use Rattle.ipx_laws.proofs.tables.GoodRoutesStay.{right_way}
use Rattle.ipx_laws.proofs.tables.LeastWays.{within, on_or_off, OnOrOff, few, is_there, same_some}
use Rattle.ipx_laws.proofs.tables.NoRouteIsBetter.{there_where_up, a_source}
use Rattle.ipx_laws.proofs.tables.SaysWhatItKnows.{Wants, wants, SourceOf, found_there}
use Rattle.ipx_laws.proofs.tables.TablesAreRight.{none_on, none_without}
use Rattle.ipx_laws.proofs.wires.BeatAfterBeat.{along_all, along_then, beats_go, steps_each}
use Rattle.ipx_laws.proofs.wires.HeardOnWires.{IsHeard as IsHeardThere, window_right, beat_right}
use Rattle.ipx_laws.proofs.wires.HeardInBeats.{in_beats_so}
use Rattle.ipx_laws.proofs.wires.PartsOfBeats.{Cut, cut_of, window_quick, beat_quick, beats_more, each_then, along_each, along_both, each_behind, sent_before}
use Rattle.ipx_laws.proofs.wires.RealOnWires.{ends, nothing_more}
use Rattle.ipx_laws.proofs.wires.SpokenOnWires.{AnyHistory, AnyEntry, Flies, Speaks, Lasts, Arises, Good, Goes, AllGood, Such, keeps, such_beats, steps_arise, comes_then, Told}
use Rattle.ipx_laws.proofs.wires.WordsOnWires.{StrangeOf, truth_of, Lasting, HasIt, Fit, Extra, as_in_ticks, extras, advertises, a_hop, routes_in}

-- where all routers are ours, no way leads by an outsider
pub none_lead : (given : Given) (to from : Place) → LeadsByOutsider given.net given.up (length given.net) given.network to from → ⊥
none_lead given to from leads =
    let there = there_where_up given.net given.is given.cheap given.up given.in_ports given.network from.router from.port leads.there in
    let inside = router_there given.net from.router from.port there in
    let outside = leads.an_outsider in
    omega (arith, inside, outside)

module _ (delay slack : ℕ) (given : Given) where
  open given use {net, laws, is, cheap, up, in_ports, most_routes, most_services, foreign, network, suffice}

  -- ---- a router is right

  -- by the route of its least way, or without one
  module _ (x had : ℕ) (long : slack + most_beats_gone delay ≤ had) (history : History) (lasts : Lasting delay slack given x had history) where
    abbrev routes : List RouteOffer
    routes = routes_in delay slack given x history

    abbrev found : Option RouteOffer
    found = find (λ o. is_eq (network_order o.network network)) routes

    by_number : route_to routes network.0 ≡ found
    by_number = grind arith

    pub table_right : ((w : Wants given x) → least_route net up x network ≡ Some w.v → HasIt delay slack given x w history)
        → option_map way_of (route_to routes network.0) ≡ least_route net up x network
    table_right has = ap (option_map way_of) by_number ∙ by (on_or_off net up in_ports network x) (within net up in_ports network 15 x) refl
      where
        by : OnOrOff net up in_ports network x → (o : Option Way) → within net up in_ports network 15 x ≡ o → option_map way_of found ≡ least_route net up x network
        by (inl on) o e = ap (option_map way_of) (none_on given x most_ticks_gone (omega arith) history (as_in_ticks delay slack given x had long history lasts) on) ∙ rw on refl
        by (inr off) None e =
            ap (option_map way_of) (none_without given x most_ticks_gone (omega arith) history (as_in_ticks delay slack given x had long history lasts) e) ∙ rw off (sym e)
        by (inr off) (Some v) e =
            let w = wants given x v off e in
            let same = same_some net up in_ports network (within net up in_ports network 15 x) w.v v w.least e in
            let should : least_route net up x network ≡ Some v = rw off e in
            let (h, f, some, right) = has w (should ∙ ap Some (sym same)) in
            let way = right_way given x w.v w.off w.least f h.offer right in
            ap (option_map way_of) (found_there given x w history h some (ap (λ (r : RouteOffer). r.network) right.same) way) ∙ ap Some (way ∙ same) ∙ rw off (sym e)

  -- ---- beats

  module _ (window : ℕ) (ours : ℕ) (histories : List History) (are : AreHistories net histories)
      (stay : (router : ℕ) → router < ours → ups net histories router ≡ up router) (stopped : AreStopped net ours histories) (deliveries : List Delivery) (fly : AllByRecursion (IsDelivery net) deliveries)
      (over : (deliveries ≡ []) ⊎ (most_beats_flying delay ≤ slack)) (beats : List (List WireStep)) (all : AreBeats net beats)
      (leave : EachWireStep LeavesPorts beats) (say : EachWireStep (SaysTruly net up ours foreign (StrangeOf given)) beats) (quick : AreQuick net window beats)
      (hear : AreHeardInTime net most_routes most_services delay window (ups net histories) (flying histories deliveries) beats)
      (outsiders : AreOutsidersInTime net most_routes most_services delay window up ours network (flying histories deliveries) beats) where
    abbrev at : List (List WireStep) → Wires
    at front = beats_of net most_routes most_services delay (flying histories deliveries) front

    abbrev StepsLeave : List WireStep → Type 0
    StepsLeave steps = AllByRecursion (λ step. LeavesPorts (as_step step)) steps

    abbrev StepsSay : List WireStep → Type 0
    StepsSay steps = AllByRecursion (λ step. SaysTruly net up ours foreign (StrangeOf given) (as_step step)) steps

    -- ---- parts of them

    module _ (front rest : List (List WireStep)) (parts : beats ≡ front ++ rest) where
      part_of : (P : List WireStep → Type 0) → AllByRecursion P beats → AllByRecursion P front
      part_of P every = all_before P front rest (subst (λ (bs : List (List WireStep)). AllByRecursion P bs) parts every)

      rest_of : (P : List WireStep → Type 0) → AllByRecursion P beats → AllByRecursion P rest
      rest_of P every = all_behind P front rest (subst (λ (bs : List (List WireStep)). AllByRecursion P bs) parts every)

      -- after the first of them
      reals : Goes delay slack net laws is most_routes most_services up foreign ours (StrangeOf given) (truth_of given) AnyHistory AnyEntry (length front + 0) (λ router. 0) (at front)
      reals =
          ends delay slack net laws is most_routes most_services up foreign ours (StrangeOf given) (truth_of given) histories are stay stopped deliveries fly over front (part_of (IsBeat net) all)
          (part_of StepsLeave leave) (part_of StepsSay say)

    -- ---- where those of fewer hops are right

    abbrev steps_right_from : ℕ → ℕ
    steps_right_from n = slack + most_beats_gone delay + n * (window + delay)

    -- all those of at most so many hops, at each moment of each beat from that one on
    abbrev Moments : (n : ℕ) → suc n ≤ 15 → Type 0
    Moments n most =
        (front : List (List WireStep)) (steps : List WireStep) (rest : List (List WireStep)) → beats ≡ front ++ steps ∷ rest → steps_right_from n ≤ length front
        → Along net most_routes most_services delay (λ now. (router : ℕ) → router < length net → router < ours → Fit delay slack given (suc n) most router (history_of now.histories router))
        (at front) steps

    beat_is : (front : List (List WireStep)) (steps : List WireStep) (rest : List (List WireStep)) → beats ≡ front ++ steps ∷ rest → IsBeat net steps
    beat_is front steps rest parts = (rest_of front (steps ∷ rest) parts (IsBeat net) all).0

    such_real : (front : List (List WireStep)) (steps : List WireStep) (rest : List (List WireStep)) → beats ≡ front ++ steps ∷ rest
        → Such delay slack net laws is most_routes most_services up foreign ours (StrangeOf given) (truth_of given) AnyHistory AnyEntry (at front) steps
    such_real front steps rest parts = record {
      arise =
          steps_arise delay slack net laws is most_routes most_services up foreign ours (StrangeOf given) (truth_of given) AnyHistory AnyEntry (at front) steps (rest_of front (steps ∷ rest) parts StepsLeave leave).0
          (rest_of front (steps ∷ rest) parts StepsSay say).0;
      good = along_all net most_routes most_services delay (λ now. (router : ℕ) → router < length net → router < ours → Unit {0}) (λ now router inside mine. tt) (at front) steps;
    }

    -- nobody wants a route of no hop
    first_moments : (most : 1 ≤ 15) → Moments 0 most
    first_moments most front steps rest parts long =
        steps_each net laws is most_routes most_services delay (Lasts delay slack net laws is most_routes most_services up foreign ours (StrangeOf given) (truth_of given) AnyHistory AnyEntry)
        (Flies delay slack net laws is most_routes most_services up foreign ours (StrangeOf given) (truth_of given) AnyHistory AnyEntry)
        (Arises delay slack net laws is most_routes most_services up foreign ours (StrangeOf given) (truth_of given) AnyHistory AnyEntry)
        (Good delay slack net laws is most_routes most_services up foreign ours (StrangeOf given) (truth_of given) AnyHistory AnyEntry)
        (keeps delay slack net laws is most_routes most_services up foreign ours (StrangeOf given) (truth_of given) AnyHistory AnyEntry (nothing_more delay slack net laws is most_routes most_services up foreign ours (StrangeOf given) (truth_of given)))
        (λ now. (router : ℕ) → router < length net → router < ours → Fit delay slack given 1 most router (history_of now.histories router)) (length front + 0)
        (λ seconds now going router inside mine. record {
          ups = ((going.routers router 0 inside (omega arith) (omega arith)).0 mine).ups;
          has = λ w less. let some = a_hop delay slack given router w in absurd (omega (arith, less, some));
        })
        steps (at front) (λ router. 0) (beat_is front steps rest parts).happens (such_real front steps rest parts) (reals front (steps ∷ rest) parts)

    module _ (n : ℕ) (most : suc n ≤ 15) (moments : Moments n most) where
      abbrev start : ℕ
      start = steps_right_from n

      long : slack + most_beats_gone delay ≤ start
      long = omega arith

      abbrev F : ℕ → History → Type 0
      F = Fit delay slack given (suc n) most

      abbrev X : ℕ → Place → RipEntry → Type 0
      X = Extra delay slack given (suc n) most start long

      abbrev L : ℕ → ℕ → History → Type 0
      L = Lasts delay slack net laws is most_routes most_services up foreign ours (StrangeOf given) (truth_of given) F X

      abbrev Fl : Flight → Type 0
      Fl = Flies delay slack net laws is most_routes most_services up foreign ours (StrangeOf given) (truth_of given) F X

      abbrev GoesOn : ℕ → (ℕ → ℕ) → Wires → Type 0
      GoesOn = Goes delay slack net laws is most_routes most_services up foreign ours (StrangeOf given) (truth_of given) F X

      abbrev SuchBeat : Wires → List WireStep → Type 0
      SuchBeat = Such delay slack net laws is most_routes most_services up foreign ours (StrangeOf given) (truth_of given) F X

      abbrev GoodBeat : Wires → List WireStep → Type 0
      GoodBeat = AllGood delay slack net laws is most_routes most_services up foreign ours (StrangeOf given) (truth_of given) F X

      -- ---- parts of the beats from then on

      module _ (front part rest : List (List WireStep)) (parts : beats ≡ front ++ (part ++ rest)) where
        of_part : (P : List WireStep → Type 0) → AllByRecursion P beats → AllByRecursion P part
        of_part P every = all_before P part rest (rest_of front (part ++ rest) parts P every)

        module _ (late : start ≤ length front) where
          good_in : EachBeat net most_routes most_services delay GoodBeat (at front) part
          good_in =
              each_behind net most_routes most_services delay GoodBeat (flying histories deliveries) beats front part rest parts (λ earlier steps later e longer.
              moments earlier steps later e (omega (arith, late, longer)))

          such_in : EachBeat net most_routes most_services delay SuchBeat (at front) part
          such_in =
              such_beats delay slack net laws is most_routes most_services up foreign ours (StrangeOf given) (truth_of given) F X (at front) part good_in (of_part StepsLeave leave) (of_part StepsSay say)

      -- ---- what flies when they begin

      module _ (zeroth rest : List (List WireStep)) (parts : beats ≡ zeroth ++ rest) (count : length zeroth ≡ start) where
        stage : GoesOn start (λ router. 0) (at zeroth)
        stage =
            let real = reals zeroth rest parts in
            let number = real.count in
            let begins = sent_before net most_routes most_services delay histories deliveries zeroth (omega (arith, count)) in
            record {
              count = omega (arith, number, count);
              are = real.are;
              routers = λ router had inside many last. real.routers router had inside (omega (arith, many, count)) (omega (arith, last, count));
              flights =
                  all_then (λ f. (f.sent < length zeroth) × Flies delay slack net laws is most_routes most_services up foreign ours (StrangeOf given) (truth_of given) AnyHistory AnyEntry f) Fl
                  (λ f both. record { delivery = both.1.delivery; speaks = speaks f both.0 both.1.speaks }) (at zeroth).flights
                  (all_both (λ f. f.sent < length zeroth) (Flies delay slack net laws is most_routes most_services up foreign ours (StrangeOf given) (truth_of given) AnyHistory AnyEntry) (at zeroth).flights
                  begins.before real.flights);
            }
          where
            speaks : (f : Flight) → f.sent < length zeroth
                → Speaks delay slack net laws is most_routes most_services up foreign ours (StrangeOf given) (truth_of given) AnyHistory AnyEntry f.delivery.to f.delivery.bytes f.sent
                → Speaks delay slack net laws is most_routes most_services up foreign ours (StrangeOf given) (truth_of given) F X f.delivery.to f.delivery.bytes f.sent
            speaks f before (inl comes) =
                inl (comes_then net up foreign (Told delay slack net laws is most_routes most_services up foreign ours (StrangeOf given) (truth_of given) AnyHistory AnyEntry f.sent)
                (Told delay slack net laws is most_routes most_services up foreign ours (StrangeOf given) (truth_of given) F X f.sent)
                (λ from e both. (both.0, λ late. absurd (omega (arith, late, before, count)))) f.delivery.to f.delivery.bytes comes)
            speaks f before (inr soon) = inr soon

        going : (before after : List (List WireStep)) → rest ≡ before ++ after → GoesOn (length before + start) (λ router. 0) (at (zeroth ++ before))
        going before after same =
            let part = parts ∙ ap (λ (r : List (List WireStep)). zeroth ++ r) same in
            subst (λ (v : Wires). GoesOn (length before + start) (λ router. 0) v) (sym (beats_more net most_routes most_services delay (flying histories deliveries) zeroth before))
            (beats_go net laws is most_routes most_services delay L Fl (Arises delay slack net laws is most_routes most_services up foreign ours (StrangeOf given) (truth_of given) F X)
            (Good delay slack net laws is most_routes most_services up foreign ours (StrangeOf given) (truth_of given) F X)
            (keeps delay slack net laws is most_routes most_services up foreign ours (StrangeOf given) (truth_of given) F X (extras delay slack given (suc n) most start long ours)) start before (at zeroth)
            (of_part zeroth before after part (IsBeat net) all) (such_in zeroth before after part (omega (arith, count))) stage)

      -- ---- one hop more

      module _ (x : ℕ) (mine : x < ours) (w : Wants given x) (exact : w.v.hops ≡ suc n) (front rest : List (List WireStep)) (parts : beats ≡ front ++ rest)
          (late : steps_right_from (suc n) ≤ length front) where
        cut : Cut start delay window front
        cut = let more : suc n * (window + delay) ≡ window + delay + n * (window + delay) = omega arith in cut_of start delay window front (omega (arith, late, more))

        abbrev behind : List (List WireStep)
        behind = cut.zeroth ++ cut.before

        whole : beats ≡ behind ++ (cut.inside ++ rest)
        whole = parts ∙ ap (λ (f : List (List WireStep)). f ++ rest) cut.same ∙ append_assoc behind cut.inside rest

        from_start : beats ≡ cut.zeroth ++ (cut.before ++ (cut.inside ++ rest))
        from_start = whole ∙ append_assoc cut.zeroth cut.before (cut.inside ++ rest)

        late_behind : start ≤ length behind
        late_behind =
            let sum = length-append cut.zeroth cut.before in
            let count = cut.count in
            omega (arith, sum, count)

        there : x < length net
        there = is_there net up in_ports network 15 x w.v w.least

        going_in : GoesOn (length cut.before + start) (λ router. 0) (at behind)
        going_in = going cut.zeroth (cut.before ++ (cut.inside ++ rest)) from_start cut.count cut.before (cut.inside ++ rest) refl

        abbrev IsHeardFromIt : ℕ → Place → Wires → WireStep → Type 0
        IsHeardFromIt port f = IsHeardFrom net most_routes most_services delay (record { router = x; port = port }) (port_of net f).node network

        -- another router of ours, as it advertises the network all the time
        heard_router : (port : ℕ) (f : Place) → SourceOf given x w.v port f → f.router < ours
            → InBeats net most_routes most_services delay (IsHeardFromIt port f) (at behind) cut.inside
        heard_router port f source theirs =
            hear f (record { router = x; port = port }) network behind cut.inside rest
            (subst (λ (us : List ℕ). is_up us f.port ≡ true) (sym (stay f.router theirs)) source.neighbour.on_there)
            (subst (λ (us : List ℕ). is_up us port ≡ true) (sym (stay x mine)) source.neighbour.on_here) source.neighbour.other
            (sym source.neighbour.network) (parts ∙ ap (λ (f : List (List WireStep)). f ++ rest) cut.same) cut.wide
            (each_then net most_routes most_services delay GoodBeat (Along net most_routes most_services delay (Advertises net most_routes most_services delay f network))
            (λ v steps good. along_then net most_routes most_services delay
            (λ now. Good delay slack net laws is most_routes most_services up foreign ours (StrangeOf given) (truth_of given) F X now.histories)
            (Advertises net most_routes most_services delay f network)
            (λ now fit. advertises delay slack given (suc n) most x port w f source exact (history_of now.histories f.router)
            (fit f.router (router_there net f.router f.port source.neighbour.place) theirs)) v steps good)
            (at behind) cut.inside (good_in behind cut.inside rest whole late_behind))

        -- an outsider
        leads : (port : ℕ) (f : Place) → SourceOf given x w.v port f → ours ≤ f.router → LeadsByOutsider net up ours network (record { router = x; port = port }) f
        leads port f source outsider = record {
          an_outsider = outsider;
          of_ours = mine;
          there = source.neighbour.on_there;
          here = source.neighbour.on_here;
          one_network = source.neighbour.network;
          way = source.way;
          its_least = source.there;
          our_least = w.least ∙ ap Some source.by;
        }

        abbrev IsHeard : ℕ → Place → Wires → WireStep → Type 0
        IsHeard port f = IsHeardThere delay slack given (suc n) most start long x w exact there ours mine port f

        heard : (port : ℕ) (f : Place) → SourceOf given x w.v port f → InBeats net most_routes most_services delay (IsHeard port f) (at behind) cut.inside
        heard port f source = elim (cases_lt f.router ours) [
          | inl theirs ↦
              in_beats_so net most_routes most_services delay (IsHeardFromIt port f) (IsHeard port f) (λ v step lands. inl lands)
              (at behind) cut.inside (heard_router port f source theirs)
          | inr outsider ↦
              in_beats_so net most_routes most_services delay
              (λ now step. IsHeardOutside net (record { router = x; port = port }) (Names (port_of net f).node network) now.histories (as_step step)) (IsHeard port f)
              (λ v step outside. inr outside) (at behind) cut.inside
              (outsiders (record { router = x; port = port }) f behind cut.inside rest (leads port f source outsider)
              (parts ∙ ap (λ (f : List (List WireStep)). f ++ rest) cut.same) cut.wide)
        ]

        abbrev then_at : Wires
        then_at = beats_of net most_routes most_services delay (at behind) cut.inside

        is_then : at front ≡ then_at
        is_then = ap at cut.same ∙ beats_more net most_routes most_services delay (flying histories deliveries) behind cut.inside

        enough : start + delay ≤ length cut.before + start
        enough = let flushed = cut.flushed in omega (arith, flushed)

        fast : seconds_in x cut.inside < lifetime
        fast = window_quick net window beats quick x there behind cut.inside cut.wide rest (parts ∙ ap (λ (f : List (List WireStep)). f ++ rest) cut.same)

        bound : HasIt delay slack given x w (history_of (at front).histories x)
        bound =
            subst (λ (v : Wires). HasIt delay slack given x w (history_of v.histories x)) (sym is_then)
            (window_right delay slack given (suc n) most start long x w exact there ours mine (length cut.before + start) enough cut.inside (at behind)
            (of_part behind cut.inside rest whole (IsBeat net) all)
            (such_in behind cut.inside rest whole late_behind) going_in fast heard
            (a_source net is cheap up in_ports network suffice x w.v w.off w.least))

        bound_on : (steps : List WireStep) (more : List (List WireStep)) → rest ≡ steps ∷ more
            → Along net most_routes most_services delay (λ now. HasIt delay slack given x w (history_of now.histories x)) (at front) steps
        bound_on steps more next =
            let goes_then : GoesOn (length cut.inside + (length cut.before + start)) (λ router. 0) then_at =
            beats_go net laws is most_routes most_services delay L Fl (Arises delay slack net laws is most_routes most_services up foreign ours (StrangeOf given) (truth_of given) F X)
            (Good delay slack net laws is most_routes most_services up foreign ours (StrangeOf given) (truth_of given) F X)
            (keeps delay slack net laws is most_routes most_services up foreign ours (StrangeOf given) (truth_of given) F X (extras delay slack given (suc n) most start long ours)) (length cut.before + start)
            cut.inside (at behind) (of_part behind cut.inside rest whole (IsBeat net) all) (such_in behind cut.inside rest whole late_behind) going_in in
            let last = parts ∙ ap (λ (r : List (List WireStep)). front ++ r) next in
            let such_now = (such_in front (steps ∷ []) more last (omega (arith, late))).0 in
            subst (λ (v : Wires). Along net most_routes most_services delay (λ now. HasIt delay slack given x w (history_of now.histories x)) v steps) (sym is_then)
            (beat_right delay slack given (suc n) most start long x w exact there ours mine (length cut.before + start) enough cut.inside (at behind)
            (of_part behind cut.inside rest whole (IsBeat net) all)
            (such_in behind cut.inside rest whole late_behind) going_in fast heard
            (a_source net is cheap up in_ports network suffice x w.v w.off w.least) steps
            (of_part front (steps ∷ []) more last (IsBeat net) all).0
            (subst (λ (v : Wires). SuchBeat v steps) is_then such_now) goes_then
            (beat_quick net window beats quick x there behind cut.inside cut.wide steps more (last ∙ ap (λ (f : List (List WireStep)). f ++ steps ∷ more) cut.same)))

    -- ---- however many hops

    abbrev pub Right_now : ℕ → Wires → Type 0
    Right_now x now = option_map way_of (route_to (routes_in delay slack given x (history_of now.histories x)) network.0) ≡ least_route net up x network

    next_moments : (n : ℕ) (most : suc (suc n) ≤ 15) (fewer : suc n ≤ 15) → Moments n fewer → Moments (suc n) most
    next_moments n most fewer moments front steps rest parts late =
        along_each net most_routes most_services delay (λ (router : ℕ) now. router < length net → router < ours → Fit delay slack given (suc (suc n)) most router (history_of now.histories router))
        (at front) steps (λ router. along_each net most_routes most_services delay
        (λ (inside : router < length net) now. router < ours → Fit delay slack given (suc (suc n)) most router (history_of now.histories router)) (at front) steps (λ inside.
        along_each net most_routes most_services delay
        (λ (mine : router < ours) now. Fit delay slack given (suc (suc n)) most router (history_of now.histories router)) (at front) steps (λ mine.
        along_then net most_routes most_services delay (λ now. Before router now × Exact router now)
        (λ now. Fit delay slack given (suc (suc n)) most router (history_of now.histories router)) (λ now both. both_then router now both.0 both.1) (at front) steps
        (along_both net most_routes most_services delay (Before router) (Exact router) (at front) steps
        (along_then net most_routes most_services delay
        (λ now. (k : ℕ) → k < length net → k < ours → Fit delay slack given (suc n) fewer k (history_of now.histories k)) (Before router) (λ now all. all router inside mine)
        (at front) steps
        (moments front steps rest parts sooner))
        (along_each net most_routes most_services delay (λ (w : Wants given router) now. w.v.hops ≡ suc n → HasIt delay slack given router w (history_of now.histories router))
        (at front) steps (λ w. along_each net most_routes most_services delay
        (λ (exact : w.v.hops ≡ suc n) now. HasIt delay slack given router w (history_of now.histories router)) (at front) steps (λ exact.
        bound_on n fewer moments router mine w exact front (steps ∷ rest) parts late steps rest refl)))))))
      where
        sooner : steps_right_from n ≤ length front
        sooner =
            let step : suc n * (window + delay) ≡ window + delay + n * (window + delay) = omega arith in
            omega (arith, late, step)

        Before : ℕ → Wires → Type 0
        Before router now = Fit delay slack given (suc n) fewer router (history_of now.histories router)

        Exact : ℕ → Wires → Type 0
        Exact router now = (w : Wants given router) → w.v.hops ≡ suc n → HasIt delay slack given router w (history_of now.histories router)

        both_then : (router : ℕ) (now : Wires) → Before router now → Exact router now → Fit delay slack given (suc (suc n)) most router (history_of now.histories router)
        both_then router now before exact = record {
          ups = before.ups;
          has = λ w less. elim (cases_lt w.v.hops (suc n)) [
            | inl few_hops ↦ before.has w few_hops
            | inr many ↦ exact w (omega (arith, less, many))
          ];
        }

    all_moments : (n : ℕ) (most : suc n ≤ 15) → Moments n most
    all_moments zero most = first_moments most
    all_moments (suc n) most = let fewer : suc n ≤ 15 = omega (arith, most) in next_moments n most fewer (all_moments n fewer)

    -- ---- tables

    module _ (x : ℕ) (inside : x < length net) (mine : x < ours) (front rest : List (List WireStep)) (parts : beats ≡ front ++ rest)
        (enough : slack + beats_right delay window (least_route net up x network) ≤ length front) where
      some_beats : slack + most_beats_gone delay ≤ length front
      some_beats = by (least_route net up x network) enough
        where
          by : (o : Option Way) → slack + beats_right delay window o ≤ length front → slack + most_beats_gone delay ≤ length front
          by None all_of_them = omega (arith, all_of_them)
          by (Some way) all_of_them = omega (arith, all_of_them)

      module _ (w : Wants given x) (should : least_route net up x network ≡ Some w.v) where
        abbrev hops_before : ℕ
        hops_before = w.v.hops - 1

        exact : w.v.hops ≡ suc hops_before
        exact = let some = a_hop delay slack given x w in omega (arith, some)

        most_fifteen : suc hops_before ≤ 15
        most_fifteen = let most = few net up in_ports network 15 x w.v w.least in omega (arith, most, exact)

        late_for_it : steps_right_from (suc hops_before) ≤ length front
        late_for_it =
            let due : slack + beats_right delay window (Some w.v) ≤ length front =
            subst (λ (o : Option Way). slack + beats_right delay window o ≤ length front) should enough in
            subst (λ (k : ℕ). steps_right_from k ≤ length front) exact (omega (arith, due))

      -- at the end of these beats
      pub right_at : Right_now x (at front)
      right_at =
          let real = reals front rest parts in
          table_right x (length front) some_beats (history_of (at front).histories x) ((real.routers x (length front) inside (omega arith) (omega arith)).0 mine) (λ w should.
          bound (hops_before w should) (most_fifteen w should) (all_moments (hops_before w should) (most_fifteen w should)) x mine w (exact w should) front rest parts
          (late_for_it w should))

      -- and at each moment of the next
      pub right_in : (steps : List WireStep) (more : List (List WireStep)) → rest ≡ steps ∷ more → Along net most_routes most_services delay (Right_now x) (at front) steps
      right_in steps more next =
          along_then net most_routes most_services delay (λ now. Lasting delay slack given x (length front) (history_of now.histories x) × Has now) (Right_now x)
          (λ now both. table_right x (length front) some_beats (history_of now.histories x) both.0 both.1) (at front) steps
          (along_both net most_routes most_services delay (λ now. Lasting delay slack given x (length front) (history_of now.histories x)) Has (at front) steps lasting
          (along_each net most_routes most_services delay
          (λ (w : Wants given x) now. least_route net up x network ≡ Some w.v → HasIt delay slack given x w (history_of now.histories x)) (at front) steps (λ w.
          along_each net most_routes most_services delay
          (λ (should : least_route net up x network ≡ Some w.v) now. HasIt delay slack given x w (history_of now.histories x)) (at front) steps (λ should.
          bound_on (hops_before w should) (most_fifteen w should) (all_moments (hops_before w should) (most_fifteen w should)) x mine w (exact w should) front rest parts
          (late_for_it w should) steps more next))))
        where
          Has : Wires → Type 0
          Has now = (w : Wants given x) → least_route net up x network ≡ Some w.v → HasIt delay slack given x w (history_of now.histories x)

          last : beats ≡ front ++ steps ∷ more
          last = parts ∙ ap (λ (r : List (List WireStep)). front ++ r) next

          lasting : Along net most_routes most_services delay (λ now. Lasting delay slack given x (length front) (history_of now.histories x)) (at front) steps
          lasting =
              steps_each net laws is most_routes most_services delay (Lasts delay slack net laws is most_routes most_services up foreign ours (StrangeOf given) (truth_of given) AnyHistory AnyEntry)
              (Flies delay slack net laws is most_routes most_services up foreign ours (StrangeOf given) (truth_of given) AnyHistory AnyEntry)
              (Arises delay slack net laws is most_routes most_services up foreign ours (StrangeOf given) (truth_of given) AnyHistory AnyEntry)
              (Good delay slack net laws is most_routes most_services up foreign ours (StrangeOf given) (truth_of given) AnyHistory AnyEntry)
              (keeps delay slack net laws is most_routes most_services up foreign ours (StrangeOf given) (truth_of given) AnyHistory AnyEntry (nothing_more delay slack net laws is most_routes most_services up foreign ours (StrangeOf given) (truth_of given)))
              (λ now. Lasting delay slack given x (length front) (history_of now.histories x)) (length front + 0)
              (λ seconds now going. (going.routers x (length front) inside (omega arith) (omega arith)).0 mine) steps (at front) (λ router. 0)
              (beat_is front steps more last).happens (such_real front steps more last) (reals front (steps ∷ more) last)
