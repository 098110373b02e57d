-- A router has a service with its fewest hops after beats in which all were heard that say it so, where those that are nearer were right; and
-- at each moment of the beat that follows.
use Rattle.std.proofs.Common.{◌≡◌, sym, ap, ◌∙◌, subst, ◌⊎◌, ℕ, suc, ◌+◌, ◌<◌, ◌≤◌, true, List, [], ◌∷◌, ◌++◌, length, map, Some, inl, inr, arith}
use Rattle.std.specs.List.{AllByRecursion}
use Rattle.ipx_table.specs.Alive.{lifetime}
use Rattle.ipx_wire.specs.WriteServices.{entry_of}
use Rattle.ipx_wire.specs.declared.node.Node.{Node}
use Rattle.ipx_wire.specs.declared.sap.Sap.TheVariants.{Query, Response as SapResponse}
use Rattle.ipx_wire.specs.declared.sap_entries.SapEntry.{SapEntry}
use Rattle.ipx_wire.specs.declared.service.Service.{Service}
use Rattle.ipx_router.specs.Facts.{heard_after, service_facts}
use Rattle.ipx_router.specs.Heard.{Heard, HeardRip, HeardSap}
use Rattle.ipx_router.specs.History.{Event, History, Start, Stop, Second, Packet, PortDown, PortUp}
use Rattle.ipx_router.specs.Port.{Port, is_up}
use Rattle.ipx_router.specs.declared.service_offer.ServiceOffer.{ServiceOffer}
use Rattle.ipx_internet.specs.Internet.{IsInternet, Place, ports_of}
use Rattle.ipx_internet.specs.Queue.{history_of}
use Rattle.ipx_internet.specs.Run.{Happens}
use Rattle.ipx_internet.specs.Ticks.{seconds_of}
use Rattle.ipx_internet.proofs.packets.SentOnOrReply.{Layouts}
use Rattle.ipx_laws.specs.Announces.{service_of}
use Rattle.ipx_laws.specs.InTime.{seconds_in}
use Rattle.ipx_laws.specs.Meanwhile.{message_of, LeavesPorts}
use Rattle.ipx_laws.specs.Regular.{HasRoomFor, Announces}
use Rattle.ipx_laws.specs.Servers.{at_hops}
use Rattle.ipx_laws.specs.WireRegular.{NamesService}
use Rattle.ipx_laws.specs.Wires.{Flight, Wires, WireStep, as_step, beats_of, Along, EachBeat, IsBeat, most_beats_gone, InBeats}
use Rattle.ipx_laws.proofs.packets.SentOnSaysTheSame.{heard_message}
use Rattle.ipx_laws.proofs.services.HeardByARouter.{Source, W, StateOf, MissingOf, IsRightIn, right_then, passes_by, second_goes, packet_goes}
use Rattle.ipx_laws.proofs.services.NearestHost.{Sought, Listed, SaidBy, Good, host_of, by_who}
use Rattle.ipx_laws.proofs.services.SpokenOfAServer.{EntrySaid, Told, Waits, told_so, host_waits}
use Rattle.ipx_laws.proofs.wires.BeatAfterBeat.{Keeps, found_at}
use Rattle.ipx_laws.proofs.wires.EarlyFlights.{early_soon}
use Rattle.ipx_laws.proofs.wires.HeardInAWindow.{IsHeardAt, IsHeardOf, Takes, Tracks, window_has, beat_has}
use Rattle.ipx_laws.proofs.wires.ServicesOnWires.{Speaks, Flies, Lasts, Arises, Good as GoodHistories, FromOutside, Extras, Goes, Such, keeps}

module _ (delay slack : ℕ) (sought : Sought) (laws : Layouts) (is : IsInternet sought.net) (most_routes : ℕ)
    (room : HasRoomFor sought.net sought.most_services sought.names) (inside : sought.r < length sought.net)
    (listed : Listed sought (sought.server.kind, sought.server.name)) (start : ℕ) (F : ℕ → History → Type 0) where
  open sought use {net, up, server, names, most_services, r, hops, reached}

  abbrev L : ℕ × List ℕ → Type 0
  L = Listed sought

  -- what is said from a beat on is right
  abbrev pub X : ℕ → ℕ → Service → Type 0
  X sent router s = start ≤ sent → W sought router s

  abbrev ports : List Port
  ports = ports_of net r

  abbrev here : ℕ → Place
  here number = record { router = r; port = number }

  abbrev SpeaksOf : Place → List ℕ → ℕ → Type 0
  SpeaksOf = Speaks delay slack net laws is most_routes most_services up server L F X

  abbrev AllLast : ℕ → ℕ → History → Type 0
  AllLast = Lasts delay slack net laws is most_routes most_services up server L F X

  abbrev Lasting : ℕ → History → Type 0
  Lasting = AllLast r

  abbrev AllFly : Flight → Type 0
  AllFly = Flies delay slack net laws is most_routes most_services up server L F X

  abbrev Rises : ℕ → List History → ℕ → Event → Type 0
  Rises = Arises delay slack net laws is most_routes most_services up server L F X

  abbrev GoodOnes : List History → Type 0
  GoodOnes = GoodHistories delay slack net laws is most_routes most_services up server L F X

  abbrev Outside : ℕ → Event → Type 0
  Outside = FromOutside delay slack net laws is most_routes most_services up server L F X

  abbrev GoesOn : ℕ → (ℕ → ℕ) → Wires → Type 0
  GoesOn = Goes delay slack net laws is most_routes most_services up server L F X

  abbrev SuchBeat : Wires → List WireStep → Type 0
  SuchBeat = Such delay slack net laws is most_routes most_services up server L F X

  -- ---- what the router has

  abbrev Young : ℕ → ℕ → Type 0
  Young top age = age ≤ top

  abbrev pub StateAt : ℕ → (Source sought → Type 0) → History → Type 0
  StateAt top Late history = StateOf sought (Young top) Late (MissingOf sought Late) (service_facts ports history)

  -- who says it with the fewest hops, where a port is up
  abbrev pub Sayer : Source sought → Type 0
  Sayer s = SaidBy sought s × (is_up (up r) s.0 ≡ true)

  abbrev Says : Source sought → Heard → Type 0
  Says s = NamesService server s.1

  -- ---- a packet

  module _ (top beats sent number : ℕ) (bytes : List ℕ) (timely : beats ≤ sent + delay) (enough : start + delay ≤ beats) (long : slack + most_beats_gone delay ≤ beats)
      (history : History) (lasts : Lasting beats history) (speaks : SpeaksOf (here number) bytes sent) (Before After Now : Source sought → Type 0)
      (split : (s : Source sought) → Before s → Now s ⊎ After s)
      (now_is : (s : Source sought) → Now s → Sayer s × (number ≡ s.0) × (m : Heard) × (heard_after ports history number bytes ≡ Some m) × Says s m)
      (state : StateAt top Before history) where
    -- it was sent when its router was right
    late : start ≤ sent
    late = omega (arith, timely, enough)

    sure : slack + most_beats_gone delay ≤ delay + suc sent
    sure = omega (arith, timely, long)

    waits : Waits net up server L delay slack (X sent) (suc sent) (here number) bytes
    waits = by speaks
      where
        by : SpeaksOf (here number) bytes sent → Waits net up server L delay slack (X sent) (suc sent) (here number) bytes
        by (inl said) = said
        by (inr (inl early)) = let soon = early_soon delay slack bytes sent beats early timely in absurd (omega (arith, soon, long))
        by (inr (inr over)) = let soon = over.soon in absurd (omega (arith, soon, timely, long))

    abbrev Telling : Heard → Type 0
    Telling = Told net up server L delay slack (W sought) (suc sent) (here number)

    abbrev Entry : Node → SapEntry → Type 0
    Entry = EntrySaid net up server L delay slack (W sought) (suc sent) (here number)

    tells : (m : Heard) → message_of bytes ≡ Some m → Telling m
    tells m e = told_so net up server L delay slack (X sent) (W sought) (λ router s says. says late) (suc sent) (here number) m (waits.tells m e)

    -- who names it says it so
    announces : (s : Source sought) → Sayer s → number ≡ s.0 → (m : Heard) → Telling m → NamesService server s.1 m → Announces server (host_of sought s) m
    announces s sayer at_port (HeardRip source rip) said names = names
    announces s sayer at_port (HeardSap source (Query nearest kind)) said names = names
    announces s sayer at_port (HeardSap source (SapResponse nearest entries)) said (from_it, which, e, at_it, name, named, of) =
        let entry = found_at (Entry source.node) entries which e said at_it in
        let on : is_up (up r) number ≡ true = subst (λ (k : ℕ). is_up (up r) k ≡ true) (sym at_port) sayer.1 in
        let g : ServiceOffer = record { service = at_hops server hops; port = s.0; node = s.1 } in
        let good = by_who sought delay slack (suc sent) sure number on source.node e entry name named of g (sym at_port, sym from_it) sayer.0 (entry.who name named of) in
        let whole : e ≡ entry_of (service_of e name) = ap (λ n. record { kind = e.kind; name = n; address = e.address; hops = e.hops }) named in
        (from_it, which, at_it ∙ ap Some (whole ∙ ap entry_of good.said))

    now_said : (s : Source sought) → Now s
        → (number ≡ s.0) × (m : Heard) × (heard_after ports history s.0 bytes ≡ Some m) × Announces server (host_of sought s) m
    now_said s now =
        let (sayer, at_port, m, heard, names) = now_is s now in
        let heard_there = sym (ap (λ (k : ℕ). heard_after ports history k bytes) at_port) ∙ heard in
        (at_port, m, heard_there, announces s sayer at_port m (tells m (heard_message ports history number bytes m heard)) names)

    pub packet_own : StateAt top After (history ++ Packet number bytes ∷ [])
    packet_own =
        packet_goes sought room inside listed (Young top) (omega arith) delay slack (suc sent) beats (omega (arith, timely)) long sure number bytes tells history lasts
        Before After Now split now_said state

  second_own : (top : ℕ) → suc top < lifetime → (Late : Source sought → Type 0) (history : History) → StateAt top Late history
      → StateAt (suc top) Late (history ++ Second ∷ [])
  second_own top young Late history state =
      second_goes sought (Young top) (Young (suc top)) (λ age few. omega (arith, few)) (λ age last old. omega (arith, last, old, young)) Late history state
      (λ age few. omega (arith, few))

  -- ---- one of them is heard

  abbrev BySayer : (Source sought → Type 0) → Source sought → Type 0
  BySayer Late s = Sayer s × Late s

  abbrev State : ℕ → (Source sought → Type 0) → History → Type 0
  State top Late history = StateAt top (BySayer Late) history

  abbrev IsOf : ℕ → List ℕ → History → Source sought → Type 0
  IsOf = IsHeardOf net r (Source sought) (λ s. s.0) Says State

  abbrev Enough : ℕ → Type 0
  Enough beats = (start + delay ≤ beats) × (slack + most_beats_gone delay ≤ beats)

  packet_taken : (beats sent number : ℕ) (bytes : List ℕ) → beats ≤ sent + delay → Enough beats → SpeaksOf (here number) bytes sent → (top : ℕ) (history : History)
      → Lasting beats history → Takes net r (Source sought) (λ s. s.0) Says State top number bytes history
  packet_taken beats sent number bytes timely enough speaks top history lasts Before After split state =
      packet_own top beats sent number bytes timely enough.0 enough.1 history lasts speaks (BySayer Before) (BySayer After) (BySayer (IsOf number bytes history))
      parted (λ s now. (now.0, now.1.0, now.1.1, now.1.2, now.1.3)) state
    where
      parted : (s : Source sought) → BySayer Before s → BySayer (IsOf number bytes history) s ⊎ BySayer After s
      parted s (sayer, before) = elim (split s before) [
        | inl now ↦ inl (sayer, now)
        | inr later ↦ inr (sayer, later)
      ]

  tracks : Tracks net laws is most_routes most_services delay AllLast AllFly Rises GoodOnes r inside (Source sought) (λ s. s.0) Says State (IsRightIn sought) Enough
  tracks = record {
    has = λ top history state. right_then sought (Young top) history (passes top (BySayer (λ s. ⊥)) (λ s. ⊥) history (λ s none. none.1) state);
    passes = λ top Before After history still state. passes top (BySayer Before) (BySayer After) history (λ s before. (before.0, still s before.1)) state;
    second = λ top young Late history state. second_own top young (BySayer Late) history state;
    leaves = λ beats histories event outside. leaves event outside;
    later = λ beats more longer enough. (omega (arith, longer, enough), omega (arith, longer, enough));
    outside = λ beats enough histories number bytes is_step outside top history lasts.
        packet_taken beats beats number bytes (omega arith) enough
        (inl (host_waits net up server L delay slack (X beats) (suc beats) (here number) bytes outside.0 outside.1)) top history lasts;
    landing = λ beats enough f same timely flies top history lasts.
        packet_taken beats f.sent f.delivery.to.port f.delivery.bytes timely enough
        (subst (λ (k : ℕ). SpeaksOf (record { router = k; port = f.delivery.to.port }) f.delivery.bytes f.sent) same flies.speaks) top history lasts;
  }
    where
      passes : (top : ℕ) (Before After : Source sought → Type 0) (history : History) → ((s : Source sought) → Before s → After s) → StateAt top Before history
          → StateAt top After history
      passes top Before After history = passes_by sought (Young top) (Young top) Before After (service_facts ports history) (λ age young. young)

      leaves : (event : Event) → Outside r event → LeavesPorts (Happens r event)
      leaves Second outside = tt
      leaves (Packet number bytes) outside = tt
      leaves Start outside = outside
      leaves Stop outside = outside
      leaves (PortDown number) outside = outside
      leaves (PortUp number) outside = outside

  -- ---- a window in which each of them is heard

  abbrev pub IsHeard : Source sought → Wires → WireStep → Type 0
  IsHeard s = IsHeardAt net delay (here s.0) (Says s)

  module _ (extras : Extras delay slack net laws is most_routes most_services up server L F X) (so_far : ℕ) (enough : start + delay ≤ so_far)
      (long : slack + most_beats_gone delay ≤ so_far) (window : List (List WireStep)) (now : Wires) (are : AllByRecursion (IsBeat net) window)
      (such : EachBeat net most_routes most_services delay SuchBeat now window)
      (going : GoesOn so_far (λ router. 0) now) (quick : seconds_in r window < lifetime)
      (in_time : (s : Source sought) → Sayer s → InBeats net most_routes most_services delay (IsHeard s) now window)
      (first : ServiceOffer) (good : Good sought first) where
    kept : Keeps net laws is most_routes most_services delay AllLast AllFly Rises GoodOnes
    kept = keeps delay slack net laws is most_routes most_services up server L F X extras

    sayer_of : (o : ServiceOffer) → Good sought o → Sayer (o.port, o.node)
    sayer_of o is_good = (is_good.who, is_good.on)

    waiting : (s : Source sought) → Sayer s → BySayer (λ s. InBeats net most_routes most_services delay (IsHeard s) now window) s
    waiting s sayer = (sayer, in_time s sayer)

    begins : State 0 (λ s. InBeats net most_routes most_services delay (IsHeard s) now window) (history_of now.histories r)
    begins = record {
      aged = λ h s e is_good. inr (waiting s (subst Sayer is_good.1 (sayer_of h.offer is_good.0)));
      holds = inr (first, good, waiting (first.port, first.node) (sayer_of first good));
    }

    abbrev last : Wires
    last = beats_of net most_routes most_services delay now window

    pub window_right : IsRightIn sought (history_of last.histories r)
    window_right =
        window_has net laws is most_routes most_services delay AllLast AllFly Rises GoodOnes r inside (Source sought) (λ s. s.0) Says State (IsRightIn sought) Enough
        tracks kept so_far (enough, long) window now are such going quick begins

    -- and at each moment of a beat more
    pub beat_right : (steps : List WireStep) → IsBeat net steps → SuchBeat last steps → GoesOn (length window + so_far) (λ router. 0) last
        → seconds_of r (map as_step steps) + seconds_in r window < lifetime
        → Along net most_routes most_services delay (λ n. IsRightIn sought (history_of n.histories r)) last steps
    beat_right =
        beat_has net laws is most_routes most_services delay AllLast AllFly Rises GoodOnes r inside (Source sought) (λ s. s.0) Says State (IsRightIn sought) Enough
        tracks kept so_far (enough, long) window now are such going quick begins
