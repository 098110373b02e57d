-- Over wires each router comes to have a service with the fewest hops of all its ways there: by induction on these hops, what still flies and
-- a window for each; and at each moment of the beats that follow.
use Rattle.std.proofs.Common.{◌≡◌, refl, sym, ap, ◌∙◌, subst, ◌⊎◌, ℕ, zero, suc, ◌+◌, ◌-◌, ◌*◌, ◌<◌, ◌≤◌, ◌==◌, true, false, List, [], ◌∷◌, ◌++◌, length, map, Some, slice_get, inl, inr, arith, append_assoc, length-append}
use Rattle.std.specs.List.{AllByRecursion}
use Rattle.std.proofs.Math.Nat.{mul-le-mul_right}
use Rattle.std.proofs.lemmas.Bool.{cases_lt}
use Rattle.ipx_table.specs.Alive.{lifetime}
use Rattle.ipx_wire.specs.declared.node.Node.{Node}
use Rattle.ipx_wire.specs.declared.service.Service.{Service}
use Rattle.ipx_router.specs.Facts.{service_facts, services_held, offers}
use Rattle.ipx_router.specs.History.{Event, History, Start, Stop, Second, Packet, PortDown, PortUp}
use Rattle.ipx_router.specs.News.{news_services}
use Rattle.ipx_router.specs.Numbers.{unreachable}
use Rattle.ipx_router.specs.Port.{is_up}
use Rattle.ipx_router.specs.Services.{service_reading, service_order}
use Rattle.ipx_router.specs.Told.{farther, is_service_told, told_services}
use Rattle.ipx_router.specs.declared.service_offer.ServiceOffer.{ServiceOffer}
use Rattle.ipx_router.proofs.bounds.PacketsOfEachEvent.{service_total}
use Rattle.ipx_router.proofs.lists.EachElement.{all_before, all_behind, all_both}
use Rattle.ipx_internet.specs.Internet.{Internet, Place, IsInternet, NodesDiffer, ports_of, port_of, network_of}
use Rattle.ipx_internet.specs.Queue.{Delivery, history_of}
use Rattle.ipx_internet.specs.Rounds.{IsDelivery}
use Rattle.ipx_internet.specs.Run.{AreHistories}
use Rattle.ipx_internet.proofs.lists.EachElement.{all_then, holds_of}
use Rattle.ipx_internet.proofs.packets.SentOnOrReply.{Layouts}
use Rattle.ipx_internet.proofs.trees.RunIsALog.{router_there}
use Rattle.ipx_laws.specs.InTime.{seconds_in, AreQuick}
use Rattle.ipx_laws.specs.Meanwhile.{LeavesPorts, SaysOnly}
use Rattle.ipx_laws.specs.Regular.{HasRoomFor, IsListedName, NoneNearer}
use Rattle.ipx_laws.specs.Servers.{Announcer, Server, IsOf, at_hops, known_of, SaysNoFalse, NamesOnly, IsAway, IsFewest}
use Rattle.ipx_laws.specs.Ups.{ups}
use Rattle.ipx_laws.specs.WireRegular.{NamesService, IsHostHeard, IsRouterHeard, AdvertisesService, AreHostsInTime, AreRoutersInTime, most_beats_known}
use Rattle.ipx_laws.specs.Wires.{Flight, Wires, WireStep, Occurs, Lands, as_step, flying, beats_of, Along, EachBeat, IsBeat, AreBeats, EachWireStep, most_beats_gone, most_beats_flying, InBeats}
use Rattle.ipx_laws.proofs.lists.SomeElement.{any_then}
use Rattle.ipx_laws.proofs.records.RecordsGrowOld.{at_last}
use Rattle.ipx_laws.proofs.services.ExactWords.{IsNearer, Words, all_given, told_so, news_so, only_so, few}
use Rattle.ipx_laws.proofs.services.FewestHops.{Link, neighbour, no_nearer, held_elsewhere, IsSaid, is_said, held_off}
use Rattle.ipx_laws.proofs.services.HostsApart.{HostsApart}
use Rattle.ipx_laws.proofs.services.NearestHost.{Sought, sought_of, SaidBy, OfNeighbour, Good}
use Rattle.ipx_laws.proofs.services.ServiceIsTold.{told_there}
use Rattle.ipx_laws.proofs.services.SpokenOfAServer.{IsFine, waits_so}
use Rattle.ipx_laws.proofs.wires.BeatAfterBeat.{along_all, along_then, beats_go, steps_each}
use Rattle.ipx_laws.proofs.wires.HeardInBeats.{any_index, in_beats_so, announces_names}
use Rattle.ipx_laws.proofs.wires.PartsOfBeats.{Cut, cut_of, window_quick, beat_quick, beats_more, along_each, along_both, each_behind, sent_before}
use Rattle.ipx_laws.proofs.wires.ServedOnWires.{ends, nothing_more}
use Rattle.ipx_laws.proofs.wires.ServiceHeardOnWires.{IsHeard, window_right, beat_right}
use Rattle.ipx_laws.proofs.wires.ServicesOnWires.{AnyHistory, AnyWord, Flies, Speaks, Lasts, Arises, Good as GoodHistories, Extras, Goes, AllGood, Such, keeps, such_beats, steps_arise}
use Rattle.ipx_laws.proofs.wires.WordsOnWires.{all_if}

module _ (delay slack : ℕ) (net : Internet) (laws : Layouts) (is : IsInternet net) (most_routes most_services : ℕ) (up : ℕ → List ℕ) (server : Server)
    (names : List (ℕ × List ℕ)) (apart : HostsApart net up server) (in_ports : (router : ℕ) → AllByRecursion (λ j. j < length (ports_of net router)) (up router))
    (room : HasRoomFor net most_services names) (listed : IsListedName names (server.kind, server.name)) (nearest : ℕ) (least : NoneNearer server nearest)
    (window : ℕ) (histories : List History) (are : AreHistories net histories)
    (stay : (router : ℕ) → ups net histories router ≡ up router) (deliveries : List Delivery) (fly : AllByRecursion (IsDelivery net) deliveries)
    (over : (deliveries ≡ []) ⊎ (most_beats_flying delay ≤ slack)) (beats : List (List WireStep)) (all : AreBeats net beats)
    (leave : EachWireStep LeavesPorts beats) (say : EachWireStep (SaysNoFalse net server) beats) (named : EachWireStep (SaysOnly (NamesOnly (IsListedName names))) beats)
    (quick : AreQuick net window beats)
    (hosts : AreHostsInTime net most_routes most_services delay server window up (flying histories deliveries) beats) where
  abbrev at : List (List WireStep) → Wires
  at front = beats_of net most_routes most_services delay (flying histories deliveries) front

  abbrev L : ℕ × List ℕ → Type 0
  L = IsListedName names

  abbrev StepsLeave : List WireStep → Type 0
  StepsLeave steps = AllByRecursion (λ step. LeavesPorts (as_step step)) steps

  abbrev StepsSay : List WireStep → Type 0
  StepsSay steps = AllByRecursion (λ step. SaysNoFalse net server (as_step step)) steps

  abbrev StepsName : List WireStep → Type 0
  StepsName steps = AllByRecursion (λ step. SaysOnly (NamesOnly L) (as_step step)) steps

  -- what a router has, at a moment
  abbrev services_at : ℕ → Wires → List ServiceOffer
  services_at router now = offers (services_held (ports_of net router) most_services (history_of now.histories router))

  abbrev pub Has : ℕ → ℕ → Wires → Type 0
  Has router hops now = known_of server (services_at router now) ≡ Some (at_hops server hops)

  -- ---- parts of the beats

  module _ (front rest : List (List WireStep)) (parts : beats ≡ front ++ rest) where
    part_of : (P : List WireStep → Type 0) → AllByRecursion P beats → AllByRecursion P front
    part_of P every = all_before P front rest (subst (λ (bs : List (List WireStep)). AllByRecursion P bs) parts every)

    rest_of : (P : List WireStep → Type 0) → AllByRecursion P beats → AllByRecursion P rest
    rest_of P every = all_behind P front rest (subst (λ (bs : List (List WireStep)). AllByRecursion P bs) parts every)

    -- after the first of them
    reals : Goes delay slack net laws is most_routes most_services up server L AnyHistory AnyWord (length front + 0) (λ router. 0) (at front)
    reals =
        ends delay slack net laws is most_routes most_services up server L histories are stay deliveries fly over front (part_of (IsBeat net) all)
        (part_of StepsLeave leave) (part_of StepsSay say) (part_of StepsName named)

  beat_is : (front : List (List WireStep)) (steps : List WireStep) (rest : List (List WireStep)) → beats ≡ front ++ steps ∷ rest → IsBeat net steps
  beat_is front steps rest parts = (rest_of front (steps ∷ rest) parts (IsBeat net) all).0

  -- what follows from what each router has so long is so at each moment
  each_moment : (Is : Wires → Type 0) (front : List (List WireStep)) (steps : List WireStep) (rest : List (List WireStep)) → beats ≡ front ++ steps ∷ rest
      → ((seconds : ℕ → ℕ) (now : Wires) → Goes delay slack net laws is most_routes most_services up server L AnyHistory AnyWord (length front + 0) seconds now → Is now)
      → Along net most_routes most_services delay Is (at front) steps
  each_moment Is front steps rest parts so =
      steps_each net laws is most_routes most_services delay (Lasts delay slack net laws is most_routes most_services up server L AnyHistory AnyWord)
      (Flies delay slack net laws is most_routes most_services up server L AnyHistory AnyWord)
      (Arises delay slack net laws is most_routes most_services up server L AnyHistory AnyWord)
      (GoodHistories delay slack net laws is most_routes most_services up server L AnyHistory AnyWord)
      (keeps delay slack net laws is most_routes most_services up server L AnyHistory AnyWord (nothing_more delay slack net laws is most_routes most_services up server L))
      Is (length front + 0) so steps (at front) (λ router. 0) (beat_is front steps rest parts).happens (record {
        arise =
            steps_arise delay slack net laws is most_routes most_services up server L AnyHistory AnyWord (at front) steps (rest_of front
            (steps ∷ rest) parts StepsLeave leave).0
            (rest_of front (steps ∷ rest) parts StepsSay say).0 (rest_of front (steps ∷ rest) parts StepsName named).0;
        good = along_all net most_routes most_services delay (λ now. (router : ℕ) → router < length net → Unit {0}) (λ now router inside. tt) (at front) steps;
      }) (reals front (steps ∷ rest) parts)

  abbrev AllFine : ℕ → Wires → Type 0
  AllFine router now = AllByRecursion (IsFine net up server L router) (services_at router now)

  -- what a router has is as it may know it
  fine_in : (router : ℕ) → router < length net → (front : List (List WireStep)) (steps : List WireStep) (rest : List (List WireStep)) → beats ≡ front ++ steps ∷ rest
      → slack + most_beats_gone delay ≤ length front → Along net most_routes most_services delay (AllFine router) (at front) steps
  fine_in router inside front steps rest parts long =
      each_moment (AllFine router) front steps rest parts (λ seconds now going.
      at_last service_reading service_order service_total most_services (map (λ p. p.service_share) (ports_of net router)) (λ s. s.service.hops) (λ s. refl) delay slack
      (IsFine net up server L router) (length front) (service_facts (ports_of net router) (history_of now.histories router)) long
      (going.routers router (length front) inside (omega arith) (omega arith)).services)

  -- and histories are such
  pub sound_in : (router : ℕ) → router < length net → (front : List (List WireStep)) (steps : List WireStep) (rest : List (List WireStep)) → beats ≡ front ++ steps ∷ rest
      → slack + most_beats_gone delay ≤ length front
      → Along net most_routes most_services delay (λ now. AreHistories net now.histories × AllFine router now) (at front) steps
  sound_in router inside front steps rest parts long =
      along_both net most_routes most_services delay (λ now. AreHistories net now.histories) (AllFine router) (at front) steps
      (each_moment (λ now. AreHistories net now.histories) front steps rest parts (λ seconds now going. going.are)) (fine_in router inside front steps rest parts long)

  -- ---- where those that are nearer are right

  -- so long it takes
  abbrev due : ℕ → ℕ
  due hops = slack + most_beats_known delay window nearest hops

  -- from that beat on
  abbrev start_of : ℕ → ℕ
  start_of far = slack + most_beats_gone delay + (far - nearest) * (window + delay) - delay

  module _ (far : ℕ) (reached : far < unreachable) (unlike : (router less : ℕ) → far ≡ suc less → IsFewest net up server router less → NodesDiffer net) where
    abbrev start : ℕ
    start = start_of far

    -- a router that is nearer has it
    abbrev F : ℕ → History → Type 0
    F router history =
        (nearer : IsNearer net up server most_services far reached router)
        → known_of server (offers (services_held (ports_of net router) most_services history)) ≡ Some (at_hops server nearer.hops)

    abbrev Right : Wires → Type 0
    Right now = (router : ℕ) → router < length net → F router (history_of now.histories router)

    abbrev Moments : Type 0
    Moments =
        (front : List (List WireStep)) (steps : List WireStep) (rest : List (List WireStep)) → beats ≡ front ++ steps ∷ rest → start ≤ length front
        → Along net most_routes most_services delay Right (at front) steps

    -- what routers say from then on is right
    abbrev Says : ℕ → ℕ → Service → Type 0
    Says sent router s = start ≤ sent → Words net up server most_services far reached router s

    extras : Extras delay slack net laws is most_routes most_services up server L F Says
    extras = record {
      advertised = λ beats had router history enough lasts fit j.
          let services = offers (services_held (ports_of net router) most_services history) in
          all_if (start ≤ beats) (Words net up server most_services far reached router) (told_services services j) (λ late.
          all_given (λ (n : IsNearer net up server most_services far reached router) s. IsOf server s → s ≡ at_hops server (suc n.hops)) (told_services services j)
          (λ n. told_so server n.hops (few net up server most_services far reached router n) services (fit n)
          (only_so server (ports_of net router) most_services history (at_hops server n.hops) (fit n)) j));
      changed = λ beats had router old new enough lasts fit j.
          let services = offers (services_held (ports_of net router) most_services new) in
          all_if (start ≤ beats) (Words net up server most_services far reached router) (news_services old services j) (λ late.
          all_given (λ (n : IsNearer net up server most_services far reached router) s. IsOf server s → s ≡ at_hops server (suc n.hops)) (news_services old services j)
          (λ n. news_so server n.hops (few net up server most_services far reached router n) services (fit n)
          (only_so server (ports_of net router) most_services new (at_hops server n.hops) (fit n)) old j));
    }

    abbrev Lasting : ℕ → ℕ → History → Type 0
    Lasting = Lasts delay slack net laws is most_routes most_services up server L F Says

    abbrev Fl : Flight → Type 0
    Fl = Flies delay slack net laws is most_routes most_services up server L F Says

    abbrev Rises : ℕ → List History → ℕ → Event → Type 0
    Rises = Arises delay slack net laws is most_routes most_services up server L F Says

    abbrev GoodOnes : List History → Type 0
    GoodOnes = GoodHistories delay slack net laws is most_routes most_services up server L F Says

    abbrev Going : ℕ → (ℕ → ℕ) → Wires → Type 0
    Going = Goes delay slack net laws is most_routes most_services up server L F Says

    abbrev SuchOnes : Wires → List WireStep → Type 0
    SuchOnes = Such delay slack net laws is most_routes most_services up server L F Says

    abbrev GoodBeat : Wires → List WireStep → Type 0
    GoodBeat = AllGood delay slack net laws is most_routes most_services up server L F Says

    module _ (moments : Moments) where
      -- ---- parts of the beats from then on

      module _ (front part rest : List (List WireStep)) (parts : beats ≡ front ++ (part ++ rest)) where
        of_part : (P : List WireStep → Type 0) → AllByRecursion P beats → AllByRecursion P part
        of_part P every = all_before P part rest (rest_of front (part ++ rest) parts P every)

        module _ (late : start ≤ length front) where
          good_in : EachBeat net most_routes most_services delay GoodBeat (at front) part
          good_in =
              each_behind net most_routes most_services delay GoodBeat (flying histories deliveries) beats front part rest parts (λ earlier steps later e longer.
              moments earlier steps later e (omega (arith, late, longer)))

          such_in : EachBeat net most_routes most_services delay SuchOnes (at front) part
          such_in =
              such_beats delay slack net laws is most_routes most_services up server L F Says (at front) part good_in (of_part StepsLeave leave) (of_part StepsSay say)
              (of_part StepsName named)

      -- ---- what flies when they begin

      module _ (zeroth rest : List (List WireStep)) (parts : beats ≡ zeroth ++ rest) (count : length zeroth ≡ start) where
        stage : Going start (λ router. 0) (at zeroth)
        stage =
            let real = reals zeroth rest parts in
            let number = real.count in
            let begins = sent_before net most_routes most_services delay histories deliveries zeroth (omega (arith, count)) in
            record {
              count = omega (arith, number, count);
              are = real.are;
              routers = λ router had inside many last. real.routers router had inside (omega (arith, many, count)) (omega (arith, last, count));
              flights =
                  all_then (λ f. (f.sent < length zeroth) × Flies delay slack net laws is most_routes most_services up server L AnyHistory AnyWord f) Fl
                  (λ f both. record { delivery = both.1.delivery; speaks = speaks f both.0 both.1.speaks }) (at zeroth).flights
                  (all_both (λ f. f.sent < length zeroth) (Flies delay slack net laws is most_routes most_services up server L AnyHistory AnyWord) (at zeroth).flights
                  begins.before real.flights);
            }
          where
            speaks : (f : Flight) → f.sent < length zeroth
                → Speaks delay slack net laws is most_routes most_services up server L AnyHistory AnyWord f.delivery.to f.delivery.bytes f.sent
                → Speaks delay slack net laws is most_routes most_services up server L F Says f.delivery.to f.delivery.bytes f.sent
            speaks f before (inl waits) =
                inl (waits_so net up server L delay slack (AnyWord f.sent) (Says f.sent) (λ router s any late. absurd (omega (arith, late, before, count)))
                (suc f.sent) f.delivery.to f.delivery.bytes waits)
            speaks f before (inr soon) = inr soon

        going : (before after : List (List WireStep)) → rest ≡ before ++ after → Going (length before + start) (λ router. 0) (at (zeroth ++ before))
        going before after same =
            let part = parts ∙ ap (λ (r : List (List WireStep)). zeroth ++ r) same in
            subst (λ (v : Wires). Going (length before + start) (λ router. 0) v) (sym (beats_more net most_routes most_services delay
            (flying histories deliveries) zeroth before))
            (beats_go net laws is most_routes most_services delay Lasting Fl Rises GoodOnes
            (keeps delay slack net laws is most_routes most_services up server L F Says extras) start before (at zeroth)
            (of_part zeroth before after part (IsBeat net) all) (such_in zeroth before after part (omega (arith, count))) stage)

      -- ---- a router of so many hops

      module _ (r : ℕ) (within : r < length net) (fewest : IsFewest net up server r far) where
        abbrev sought : Sought
        sought = sought_of net up server names most_services r apart in_ports far reached unlike fewest

        abbrev here : ℕ → Place
        here number = record { router = r; port = number }

        abbrev Heard_at : ℕ × Node → Wires → WireStep → Type 0
        Heard_at = IsHeard delay slack sought laws is most_routes room within listed start F

        -- neighbours that say it so are heard in a window
        abbrev Neighbours : Type 0
        Neighbours =
            (before inside after : List (List WireStep)) → beats ≡ before ++ inside ++ after → length inside ≡ window → start + delay ≤ length before
            → (s : ℕ × Node) → OfNeighbour sought s
            → InBeats net most_routes most_services delay (IsRouterHeard net most_routes most_services delay server (here s.0) s.1) (at before) inside

        first : (g : ServiceOffer) × Good sought g
        first = by (is_said net up server fewest.0)
          where
            by : IsSaid net up server r far → (g : ServiceOffer) × Good sought g
            by said = (record { service = at_hops server far; port = said.port; node = said.node }, record { who = who said.who; on = said.on; said = refl })
              where
                who : ((which : ℕ) × (slice_get server.announcers which
                    ≡ Some (record { network = network_of net (record { router = r; port = said.port }); node = said.node; hops = far })))
                    ⊎ ((from : Place) × (less : ℕ) × (far ≡ suc less) × Link net up server r said.port from × (said.node ≡ (port_of net from).node)
                    × IsAway net up server from.router less)
                    → SaidBy sought (said.port, said.node)
                who (inl (which, is_listed)) = inl (record { which = which; listed = is_listed })
                who (inr (from, less, more, link, node, way)) =
                    inr (record {
                      from = from;
                      less = less;
                      more = more;
                      link = link;
                      node = node;
                      nearer = neighbour net up server r said.port less from link (subst (λ (n : ℕ). IsFewest net up server r n) more fewest) way;
                    })

        host_heard : (s : ℕ × Node) (host : Announcer) → host.node ≡ s.1 → (w : Wires) (step : WireStep)
            → IsHostHeard net most_routes most_services delay server (here s.0) host w step → Heard_at s w step
        host_heard s host same w (Occurs router (Packet number bytes)) (there, on, m, heard, says) =
            inr (there, on, m, heard, subst (λ (n : Node). NamesService server n m) same (announces_names server host m says))
        host_heard s host same w (Occurs router Second) none = absurd none
        host_heard s host same w (Occurs router Start) none = absurd none
        host_heard s host same w (Occurs router Stop) none = absurd none
        host_heard s host same w (Occurs router (PortDown number)) none = absurd none
        host_heard s host same w (Occurs router (PortUp number)) none = absurd none
        host_heard s host same w (Lands which) none = absurd none

        module _ (neighbours : Neighbours) (front rest : List (List WireStep)) (parts : beats ≡ front ++ rest) (late : due far ≤ length front) where
          cut : Cut start delay window front
          cut = cut_of start delay window front (omega (arith, late))

          abbrev behind : List (List WireStep)
          behind = cut.zeroth ++ cut.before

          as_window : beats ≡ (behind ++ cut.inside) ++ rest
          as_window = parts ∙ ap (λ (f : List (List WireStep)). f ++ rest) cut.same

          whole : beats ≡ behind ++ (cut.inside ++ rest)
          whole = as_window ∙ append_assoc behind cut.inside rest

          from_start : beats ≡ cut.zeroth ++ (cut.before ++ (cut.inside ++ rest))
          from_start = whole ∙ append_assoc cut.zeroth cut.before (cut.inside ++ rest)

          flushed_behind : start + delay ≤ length behind
          flushed_behind =
              let sum = length-append cut.zeroth cut.before in
              let count = cut.count in
              let flushed = cut.flushed in
              omega (arith, sum, count, flushed)

          late_behind : start ≤ length behind
          late_behind = omega (arith, flushed_behind)

          going_in : Going (length cut.before + start) (λ router. 0) (at behind)
          going_in = going cut.zeroth (cut.before ++ (cut.inside ++ rest)) from_start cut.count cut.before (cut.inside ++ rest) refl

          heard : (s : ℕ × Node) → SaidBy sought s × (is_up (up r) s.0 ≡ true) → InBeats net most_routes most_services delay (Heard_at s) (at behind) cut.inside
          heard s (inl host, on) =
              let announcer : Announcer = record { network = network_of net (here s.0); node = s.1; hops = far } in
              in_beats_so net most_routes most_services delay (IsHostHeard net most_routes most_services delay server (here s.0) announcer) (Heard_at s)
              (host_heard s announcer refl) (at behind) cut.inside
              (hosts host.which announcer (here s.0) host.listed on refl behind cut.inside rest as_window cut.wide)
          heard s (inr n, on) =
              in_beats_so net most_routes most_services delay (IsRouterHeard net most_routes most_services delay server (here s.0) s.1) (Heard_at s)
              (λ w step heard. inl heard) (at behind)
              cut.inside (neighbours behind cut.inside rest as_window cut.wide flushed_behind s n)

          abbrev then_at : Wires
          then_at = beats_of net most_routes most_services delay (at behind) cut.inside

          is_then : at front ≡ then_at
          is_then = ap at cut.same ∙ beats_more net most_routes most_services delay (flying histories deliveries) behind cut.inside

          enough : start + delay ≤ length cut.before + start
          enough = let flushed = cut.flushed in omega (arith, flushed)

          long : slack + most_beats_gone delay ≤ length cut.before + start
          long = let flushed = cut.flushed in omega (arith, flushed)

          fast : seconds_in r cut.inside < lifetime
          fast = window_quick net window beats quick r within behind cut.inside cut.wide rest (parts ∙ ap (λ (f : List (List WireStep)). f ++ rest) cut.same)

          bound : Has r far (at front)
          bound =
              subst (Has r far) (sym is_then)
              (window_right delay slack sought laws is most_routes room within listed start F extras (length cut.before + start) enough long cut.inside (at behind)
              (of_part behind cut.inside rest whole (IsBeat net) all)
              (such_in behind cut.inside rest whole late_behind) going_in fast heard first.0 first.1)

          bound_on : (steps : List WireStep) (more : List (List WireStep)) → rest ≡ steps ∷ more → Along net most_routes most_services delay (Has r far) (at front) steps
          bound_on steps more next =
              let goes_then : Going (length cut.inside + (length cut.before + start)) (λ router. 0) then_at =
              beats_go net laws is most_routes most_services delay Lasting Fl Rises GoodOnes
              (keeps delay slack net laws is most_routes most_services up server L F Says extras) (length cut.before + start)
              cut.inside (at behind) (of_part behind cut.inside rest whole (IsBeat net) all) (such_in behind cut.inside rest whole late_behind) going_in in
              let last = parts ∙ ap (λ (r : List (List WireStep)). front ++ r) next in
              let such_now = (such_in front (steps ∷ []) more last (omega (arith, late))).0 in
              subst (λ (v : Wires). Along net most_routes most_services delay (Has r far) v steps) (sym is_then)
              (beat_right delay slack sought laws is most_routes room within listed start F extras (length cut.before + start) enough long cut.inside (at behind)
              (of_part behind cut.inside rest whole (IsBeat net) all)
              (such_in behind cut.inside rest whole late_behind) going_in fast heard first.0 first.1 steps
              (of_part front (steps ∷ []) more last (IsBeat net) all).0
              (subst (λ (v : Wires). SuchOnes v steps) is_then such_now) goes_then
              (beat_quick net window beats quick r within behind cut.inside cut.wide steps more (last ∙ ap (λ (f : List (List WireStep)). f ++ steps ∷ more) cut.same)))

  -- ---- beside the nearest host

  module _ (r : ℕ) (within : r < length net) (reached : nearest < unreachable) (fewest : IsFewest net up server r nearest) where
    none_less : {router hops : ℕ} → IsAway net up server router hops → nearest ≤ hops
    none_less way = no_nearer net up server nearest least way

    never_unlike : (router less : ℕ) → nearest ≡ suc less → IsFewest net up server router less → NodesDiffer net
    never_unlike router less more nearer = let some = none_less nearer.0 in absurd (omega (arith, some, more))

    no_moments : Moments nearest reached never_unlike
    no_moments front steps rest parts late =
        along_all net most_routes most_services delay (Right nearest reached never_unlike)
        (λ now router inside n. let some = none_less n.fewest.0 in let less = n.near in absurd (omega (arith, some, less))) (at front) steps

    pub beside_known : (front rest : List (List WireStep)) → beats ≡ front ++ rest → due nearest ≤ length front → Has r nearest (at front)
    beside_known front rest parts late =
        bound nearest reached never_unlike no_moments r within fewest
        (λ before inside after whole wide enough s n. let some = none_less n.nearer.0 in let more = n.more in absurd (omega (arith, some, more))) front rest parts late

  -- ---- everywhere

  module _ (differ : NodesDiffer net)
      (routers : AreRoutersInTime net most_routes most_services delay server window up (flying histories deliveries) beats) where
    -- at each moment of a beat then
    abbrev pub Known : ℕ → Type 0
    Known hops =
        (front : List (List WireStep)) (steps : List WireStep) (rest : List (List WireStep)) → beats ≡ front ++ steps ∷ rest → due hops ≤ length front
        → (router : ℕ) → router < length net → IsFewest net up server router hops → Along net most_routes most_services delay (Has router hops) (at front) steps

    module _ (far : ℕ) (reached : far < unreachable) (below : (hops : ℕ) → hops < far → Known hops) where
      unlike : (router less : ℕ) → far ≡ suc less → IsFewest net up server router less → NodesDiffer net
      unlike router less more nearer = differ

      -- a router that is nearer
      record Near : Type 0 where
        router : ℕ
        within : router < length net
        nearer : IsNearer net up server most_services far reached router

      moments : Moments far reached unlike
      moments front steps rest parts late =
          along_then net most_routes most_services delay (λ now. (x : Near) → Has x.router x.nearer.hops now) (Right far reached unlike)
          (λ now every router within nearer. every (record { router = router; within = within; nearer = nearer })) (at front) steps
          (along_each net most_routes most_services delay (λ (x : Near) now. Has x.router x.nearer.hops now) (at front) steps (λ x.
          below x.nearer.hops x.nearer.near front steps rest parts (sooner x.nearer.hops x.nearer.near (no_nearer net up server nearest least x.nearer.fewest.0))
          x.router x.within x.nearer.fewest))
        where
          sooner : (k : ℕ) → k < far → nearest ≤ k → due k ≤ length front
          sooner k less some =
              let step = mul-le-mul_right {m = suc (k - nearest)} {n = far - nearest} (window + delay) (omega (arith, less, some)) in
              let opened : suc (k - nearest) * (window + delay) ≡ window + delay + (k - nearest) * (window + delay) = omega arith in
              omega (arith, late, step, opened)

      module _ (r : ℕ) (within : r < length net) (fewest : IsFewest net up server r far) where
        -- a neighbour that is nearer advertises it
        advertises : (port less : ℕ) (from : Place) → far ≡ suc less → Link net up server r port from → IsFewest net up server from.router less → (now : Wires)
            → AllFine from.router now → Has from.router less now → AdvertisesService net most_routes most_services delay server from now
        advertises port less from more link nearer now fine known =
            let services = services_at from.router now in
            let held = held_off net up server L from.router from.port less
            (held_elsewhere net up server r port less from link (subst (λ (n : ℕ). IsFewest net up server r n) more fewest) nearer) services fine known in
            let (which, s, found, same) = any_index (λ t. t ≡ farther (at_hops server less)) (told_services services from.port)
            (told_there services from.port (at_hops server less)
            (any_then (λ o. (o.service ≡ at_hops server less) × ((o.port == from.port) ≡ false))
            (λ o. (o.service ≡ at_hops server less) × (is_service_told from.port o ≡ true)) (λ o both. (both.0, is_told o both.0 both.1)) services held)) in
            (which, s, found, (ap (λ (x : Service). x.kind) same, ap (λ (x : Service). x.name) same))
          where
            near : suc less < unreachable
            near = omega (arith, more, reached)

            is_told : (o : ServiceOffer) → o.service ≡ at_hops server less → (o.port == from.port) ≡ false → is_service_told from.port o ≡ true
            is_told o same off = grind arith

        neighbours : Neighbours far reached unlike moments r within fewest
        neighbours before inside after whole wide enough s n =
            let link = n.link in
            subst (λ (node : Node). InBeats net most_routes most_services delay (IsRouterHeard net most_routes most_services delay server
            (record { router = r; port = s.0 }) node)
            (at before) inside) (sym n.node)
            (routers n.from (record { router = r; port = s.0 }) before inside after link.there link.here (λ same. link.other (sym same)) (sym link.network) whole wide
            (each_behind net most_routes most_services delay (Along net most_routes most_services delay (AdvertisesService net most_routes most_services delay server n.from))
            (flying histories deliveries) beats before inside after (whole ∙ append_assoc before inside after) (λ earlier steps later e longer.
            along_then net most_routes most_services delay (λ now. Right far reached unlike now × AllFine n.from.router now)
            (AdvertisesService net most_routes most_services delay server n.from)
            (λ now both. advertises s.0 n.less n.from n.more link n.nearer now both.1 (both.0 n.from.router there
            (record { hops = n.less; near = less; fewest = n.nearer })))
            (at earlier) steps
            (along_both net most_routes most_services delay (Right far reached unlike) (AllFine n.from.router) (at earlier) steps
            (moments earlier steps later e (omega (arith, longer, enough))) (fine_in n.from.router there earlier steps later e (omega (arith, longer, enough)))))))
          where
            less : n.less < far
            less = let more = n.more in omega (arith, more)

            there : n.from.router < length net
            there =
                router_there net n.from.router n.from.port (holds_of (λ j. j < length (ports_of net n.from.router)) n.from.port (up n.from.router) (in_ports n.from.router) n.link.there)

      known_next : Known far
      known_next front steps rest parts late router within fewest =
          bound_on far reached unlike moments router within fewest (neighbours router within fewest) front (steps ∷ rest) parts late steps rest refl

      known_end : (front rest : List (List WireStep)) → beats ≡ front ++ rest → due far ≤ length front → (router : ℕ) → router < length net
          → IsFewest net up server router far → Has router far (at front)
      known_end front rest parts late router within fewest =
          bound far reached unlike moments router within fewest (neighbours router within fewest) front rest parts late

    below : (far hops : ℕ) → hops < far → hops < unreachable → Known hops
    below zero hops less near = absurd (omega (arith, less))
    below (suc far) hops less near = elim (cases_lt hops far) [
      | inl fewer ↦ below far hops fewer near
      | inr more ↦
          let same : hops ≡ far = omega (arith, less, more) in
          let reached : far < unreachable = omega (arith, same, near) in
          subst Known (sym same) (known_next far reached (λ nearer fewer. below far nearer fewer (omega (arith, fewer, reached))))
    ]

    -- at each moment of the beat after so many
    pub known : (hops : ℕ) → hops < unreachable → Known hops
    known hops near = below (suc hops) hops (omega arith) near

    -- and when they end
    pub known_last : (hops : ℕ) → hops < unreachable → (front rest : List (List WireStep)) → beats ≡ front ++ rest → due hops ≤ length front → (router : ℕ)
        → router < length net → IsFewest net up server router hops → Has router hops (at front)
    known_last hops near = known_end hops near (λ nearer fewer. known nearer (omega (arith, fewer, near)))
