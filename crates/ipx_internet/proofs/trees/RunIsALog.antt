-- What a run lists is a log.
--
-- At each step: what was received is sound, what waits came of what was received, and no two of both name the same forward
-- and port.
use Rattle.std.proofs.Common.{◌≡◌, refl, sym, ap, ◌∙◌, subst, ℕ, ◌<◌, Bool, true, false, List, [], ◌∷◌, ◌++◌, length, flat_map, Option, None, Some, Result, Ok, Err, append-nil, length-append, length-set, get_or-set_same, get_or-set_other, inl, inr, arith, rules}
use Rattle.std.specs.List.{AllByRecursion}
use Rattle.std.proofs.lemmas.Bool.{cases_Bool, cases_eq, cases_lt}
use Rattle.std.proofs.lemmas.Grind.{flat_map-append, common_steps}
use Rattle.ipx_wire.specs.Packet.{Parts, packet_of}
use Rattle.ipx_wire.specs.Piece.{IsBytes}
use Rattle.ipx_wire.specs.declared.packet.PacketFault.{PacketFault}
use Rattle.ipx_router.specs.Facts.{routes_held, offers}
use Rattle.ipx_router.specs.History.{Event, History, Start, Stop, Second, Packet, PortDown, PortUp, IsOnPort, IsOfBytes, running, ports_up}
use Rattle.ipx_router.specs.Packets.{IsRelayed}
use Rattle.ipx_router.specs.Relays.{Sent}
use Rattle.ipx_internet.specs.Delivery.{receives, delivered}
use Rattle.ipx_internet.specs.Different.{AreDifferent}
use Rattle.ipx_internet.specs.Internet.{Internet, Place, ports_of, IsPlace, IsInternet}
use Rattle.ipx_internet.specs.Log.{Sending, Reception, reception_at, outlet, IsForward, IsLog}
use Rattle.ipx_internet.specs.Queue.{deliveries_of, history_of, with_event, sends_at}
use Rattle.ipx_internet.specs.Run.{Step, Happens, Settles, IsStep, AreHistories, Waiting, Run, begun, is_for_others, forward_of, happens, stepped, run_of}
use Rattle.ipx_internet.proofs.lists.EachElement.{all_of, all_then, all-append, all-map, all-flat_map, all_apart, differ-append, differ-front}
use Rattle.ipx_internet.proofs.lists.FoundInAList.{nothing, it_is}
use Rattle.ipx_internet.proofs.packets.ForwardsDiffer.{Routing, AreForwards, goes_on, are_forwards}
use Rattle.ipx_internet.proofs.places.EachPortOnce.{delivered_within}
use Rattle.ipx_internet.proofs.places.OneReceiverOfANode.{ports_at}
use Rattle.ipx_internet.proofs.trees.LogStays.{Comes, IsSound, same_reception, comes_lasts, sound_lasts}
use Rattle.ipx_internet.proofs.trees.NoTwoNameTheSame.{Name, named, names, names_waiting, named_once, all_names, all_names_of_log, waits, names_differ}

-- the last reception
reception_last : (log : List Reception) (r : Reception) → reception_at (log ++ r ∷ []) (length log) ≡ r
reception_last log r = grind (arith, common_steps)

-- a router that has a port is there
pub router_there : (net : Internet) (router number : ℕ) → number < length (ports_of net router) → router < length net
router_there net router number there = grind (arith, common_steps)

module _ (net : Internet) where
  -- ---- what waits

  -- bytes wait for a port that there is, and came of the forward that is named
  pub record IsWaiting (log : List Reception) (w : Waiting) : Type 0 where
    pub within : IsPlace net w.delivery.to
    pub bytes : IsBytes w.delivery.bytes
    pub comes : (s : Sending) → w.origin ≡ Some s → Comes net log s w.delivery.to w.delivery.bytes

  waiting_lasts : (log more : List Reception) (w : Waiting) → IsWaiting log w → IsWaiting (log ++ more) w
  waiting_lasts log more w is =
      record { within = is.within; bytes = is.bytes; comes = λ s e. comes_lasts net log more s w.delivery.to w.delivery.bytes (is.comes s e) }

  -- a packet that was sent, and what it is a forward of
  record IsSent (log : List Reception) (router : ℕ) (origin : Sent → Option Sending) (s : Sent) : Type 0 where
    pub bytes : IsBytes s.bytes
    pub forward : (x : Sending) → origin s ≡ Some x → IsForward net log x × (outlet log x ≡ record { router = router; port = s.port }) × (x.sent ≡ s)

  all_wait : (log : List Reception) (router : ℕ) (origin : Sent → Option Sending) (sents : List Sent) → AllByRecursion (IsSent log router origin) sents
      → AllByRecursion (IsWaiting log) (flat_map (waits net router origin) sents)
  all_wait log router origin sents all = all-flat_map (IsSent log router origin) (IsWaiting log) (waits net router origin) each sents all
    where
      each : (s : Sent) → IsSent log router origin s → AllByRecursion (IsWaiting log) (waits net router origin s)
      each s is =
          let from : Place = record { router = router; port = s.port } in
          all-map (λ d. IsPlace net d.to × (receives net from s.link d.to ≡ true) × (d.bytes ≡ s.bytes)) (IsWaiting log)
          (λ d. record { delivery = d; origin = origin s })
          (λ d there. record {
            within = there.0;
            bytes = subst (λ (b : List ℕ). IsBytes b) (sym there.2) is.bytes;
            comes = λ x e.
                let (forward, out, sent) = is.forward x e in
                record {
                  forward = forward;
                  delivered =
                      let P : Place → Type 0 = λ place. receives net place x.sent.link d.to ≡ true in
                      subst P (sym out) (subst (λ (t : Sent). receives net from t.link d.to ≡ true) (sym sent) there.1);
                  same = there.2 ∙ sym (ap (λ t. t.bytes) sent);
                };
          })
          (deliveries_of net router s)
          (all-map (λ to. IsPlace net to × (receives net from s.link to ≡ true))
          (λ d. IsPlace net d.to × (receives net from s.link d.to ≡ true) × (d.bytes ≡ s.bytes))
          (λ to. record { to = to; bytes = s.bytes }) (λ to there. (there.0, there.1, refl)) (delivered net from s.link) (delivered_within net from s.link))

  -- ---- what was received

  abbrev AreSound : List Reception → Type 0
  AreSound log = (place : ℕ) → place < length log → IsSound net log place (reception_at log place)

  -- one more reception
  sound_more : (log : List Reception) (r : Reception) → AreSound log → IsSound net log (length log) r → AreSound (log ++ r ∷ [])
  sound_more log r sound new place within = elim (cases_lt place (length log)) [
    | inl old ↦
        subst (λ (q : Reception). IsSound net (log ++ r ∷ []) place q) (sym (same_reception net log (r ∷ []) place old))
        (sound_lasts net log (r ∷ []) place (reception_at log place) (sound place old))
    | inr from ↦
        let longer = length-append log (r ∷ []) in
        let last : place ≡ length log = omega (arith, within, from, longer) in
        let P : ℕ → Type 0 = λ k. IsSound net (log ++ r ∷ []) k (reception_at (log ++ r ∷ []) k) in
        subst P (sym last)
        (subst (λ (q : Reception). IsSound net (log ++ r ∷ []) (length log) q) (sym (reception_last log r)) (sound_lasts net log (r ∷ []) (length log) r new))
  ]

  -- ---- names

  abbrev IsBefore : ℕ → Name → Type 0
  IsBefore place n = n.sending.place < place

  regroup : (a n w new : List Name) → (a ++ (n ++ [])) ++ (w ++ new) ≡ (a ++ (n ++ w)) ++ new
  regroup a n w new = grind (arith, common_steps, Name)

  -- what is received keeps the name that it had as it waited, and what is sent has new ones
  names_more : (log extra : List Reception) (n : List Name) (rest new : List Waiting) → names extra ≡ n ++ []
      → AllByRecursion (IsBefore (length log)) (names log ++ (n ++ names_waiting rest)) → AreDifferent (names log ++ (n ++ names_waiting rest))
      → AllByRecursion (λ m. m.sending.place ≡ length log) (names_waiting new) → AreDifferent (names_waiting new)
      → AreDifferent (names (log ++ extra) ++ names_waiting (rest ++ new))
  names_more log extra n rest new same before differ at_end apart = grind (arith, Name, flat_map-append, named, names, names_waiting, regroup, differ-append, all_apart)

  log_before : (log : List Reception) → AreSound log → AllByRecursion (IsBefore (length log)) (names log)
  log_before log sound =
      all_names_of_log (IsBefore (length log)) log (λ k s within e. let earlier = ((sound k within).origins s e).0 in omega (arith, earlier, within))

  waiting_before : (log : List Reception) (waiting : List Waiting) → AllByRecursion (IsWaiting log) waiting
      → AllByRecursion (IsBefore (length log)) (names_waiting waiting)
  waiting_before log waiting all =
      all_names (IsBefore (length log)) waiting
      (all_then (IsWaiting log) (λ w. (s : Sending) → w.origin ≡ Some s → s.place < length log) (λ w is s e. (is.comes s e).forward.there) waiting all)

  -- where what is sent is of no forward, or each of its own, at the end of the log
  marked : (router place : ℕ) (origin : Sent → Option Sending) → ((s : Sent) (x : Sending) → origin s ≡ Some x → x.place ≡ place) → (sents : List Sent)
      → AllByRecursion (λ m. m.sending.place ≡ place) (names_waiting (flat_map (waits net router origin) sents))
  marked router place origin at_place sents =
      all_names (λ m. m.sending.place ≡ place) (flat_map (waits net router origin) sents)
      (all-flat_map (λ s. Unit {0}) (λ w. (x : Sending) → w.origin ≡ Some x → x.place ≡ place) (waits net router origin)
      (λ s one. all-map (λ d. Unit {0}) (λ w. (x : Sending) → w.origin ≡ Some x → x.place ≡ place) (λ d. record { delivery = d; origin = origin s })
      (λ d any. at_place s) (deliveries_of net router s) (all_of (λ d. Unit {0}) (λ d. tt) (deliveries_of net router s)))
      sents (all_of (λ s. Unit {0}) (λ s. tt) sents))

  unnamed : (router : ℕ) (origin : Sent → Option Sending) → ((s : Sent) → origin s ≡ None) → (sents : List Sent)
      → AreDifferent (names_waiting (flat_map (waits net router origin) sents))
  unnamed router origin none sents =
      by (names_waiting (flat_map (waits net router origin) sents))
      (all_names (λ m. ⊥) (flat_map (waits net router origin) sents)
      (all-flat_map (λ s. Unit {0}) (λ w. (x : Sending) → w.origin ≡ Some x → ⊥) (waits net router origin)
      (λ s one. all-map (λ d. Unit {0}) (λ w. (x : Sending) → w.origin ≡ Some x → ⊥) (λ d. record { delivery = d; origin = origin s })
      (λ d any x e. nothing (sym (none s) ∙ e)) (deliveries_of net router s) (all_of (λ d. Unit {0}) (λ d. tt) (deliveries_of net router s)))
      sents (all_of (λ s. Unit {0}) (λ s. tt) sents)))
    where
      by : (ns : List Name) → AllByRecursion (λ m. ⊥) ns → AreDifferent ns
      by [] never = tt
      by (m ∷ ns) never = absurd never.0

  -- ---- histories

  with_on : (P : Event → Type 0) (histories : List History) (router other : ℕ) (event : Event) → router < length histories
      → AllByRecursion P (history_of histories other) → (router ≡ other → P event) → AllByRecursion P (history_of (with_event histories router event) other)
  with_on P histories router other event within all one = grind (arith, cases_eq, get_or-set_same, all-append, get_or-set_other)

  pub histories_more : (histories : List History) (router : ℕ) (event : Event) → AreHistories net histories → router < length net
      → IsOnPort (ports_of net router) event → IsOfBytes event → AreHistories net (with_event histories router event)
  histories_more histories router event are within on bytes =
      let there : router < length histories = let each = are.each in omega (arith, within, each) in
      record {
        each = length-set histories router (history_of histories router ++ event ∷ []) ∙ are.each;
        on_ports = λ other. with_on (IsOnPort (ports_of net other)) histories router other event there (are.on_ports other)
            (λ e. subst (λ (k : ℕ). IsOnPort (ports_of net k) event) e on);
        of_bytes = λ other. with_on IsOfBytes histories router other event there (are.of_bytes other) (λ e. bytes);
      }

  -- ---- one step

  -- what holds at each step of a run
  pub record Good (run : Run) : Type 0 where
    pub histories : AreHistories net run.histories
    pub sound : AreSound run.log
    pub waiting : AllByRecursion (IsWaiting run.log) run.waiting
    pub names : AreDifferent (names run.log ++ names_waiting run.waiting)

  pub is_log : (run : Run) → Good run → IsLog net run.log
  is_log run good = record {
    within = λ k there. (good.sound k there).within;
    ups = λ k there. (good.sound k there).ups;
    tables = λ k there. (good.sound k there).tables;
    origins = λ k s there e.
        let (earlier, comes) = (good.sound k there).origins s e in
        record { earlier = earlier; forward = comes.forward; delivered = comes.delivered; same = comes.same };
    once = named_once run.log (differ-front (names run.log) (names_waiting run.waiting) good.names);
  }

  module _ (laws : Routing) (is : IsInternet net) (most_routes most_services : ℕ) (histories : List History) (log : List Reception) (rest : List Waiting)
      (are : AreHistories net histories) (sound : AreSound log) (waiting : AllByRecursion (IsWaiting log) rest)
      (router : ℕ) (event : Event) (within : router < length net) (on : IsOnPort (ports_of net router) event) (bytes : IsOfBytes event) where
    abbrev sents : List Sent
    sents = sends_at net most_routes most_services histories router event

    sents_bytes : AllByRecursion (λ s. IsBytes s.bytes) sents
    sents_bytes =
        laws.sent_bytes (ports_of net router) most_routes most_services (history_of histories router) event (ports_at net is router)
        (all-append (IsOnPort (ports_of net router)) (history_of histories router) (event ∷ []) (are.on_ports router) (on, tt))
        (all-append IsOfBytes (history_of histories router) (event ∷ []) (are.of_bytes router) (bytes, tt))

    -- of what is sent, nothing is a forward
    no_forwards : (more : List Reception) (origin : Sent → Option Sending) → ((s : Sent) → origin s ≡ None)
        → AllByRecursion (IsWaiting (log ++ more)) (rest ++ flat_map (waits net router origin) sents)
    no_forwards more origin none =
        all-append (IsWaiting (log ++ more)) rest (flat_map (waits net router origin) sents)
        (all_then (IsWaiting log) (IsWaiting (log ++ more)) (waiting_lasts log more) rest waiting)
        (all_wait (log ++ more) router origin sents
        (all_then (λ s. IsBytes s.bytes) (IsSent (log ++ more) router origin)
        (λ s b. record { bytes = b; forward = λ x e. nothing (sym (none s) ∙ e) }) sents sents_bytes))

    -- an event that isn't received
    unreceived : AreDifferent (names log ++ names_waiting rest)
        → Good (record {
          histories = with_event histories router event;
          waiting = rest ++ flat_map (waits net router (λ s. None)) sents;
          log = log ++ [];
        })
    unreceived differ = record {
      histories = histories_more histories router event are within on bytes;
      sound = subst (λ (l : List Reception). AreSound l) (sym (append-nil log)) sound;
      waiting = no_forwards [] (λ s. None) (λ s. refl);
      names =
          names_more log [] [] rest (flat_map (waits net router (λ s. None)) sents) refl
          (all-append (IsBefore (length log)) (names log) (names_waiting rest) (log_before log sound) (waiting_before log rest waiting)) differ
          (marked router (length log) (λ s. None) (λ s x e. nothing e) sents)
          (unnamed router (λ s. None) (λ s. refl) sents);
    }

  -- ---- a packet

  module _ (laws : Routing) (is : IsInternet net) (most_routes most_services : ℕ) (histories : List History) (log : List Reception) (rest : List Waiting)
      (are : AreHistories net histories) (sound : AreSound log) (waiting : AllByRecursion (IsWaiting log) rest)
      (router number : ℕ) (bytes : List ℕ) (within : router < length net) (on : number < length (ports_of net router)) (are_bytes : IsBytes bytes)
      (origin : Option Sending) (comes : (s : Sending) → origin ≡ Some s → Comes net log s (record { router = router; port = number }) bytes) where
    abbrev to : Place
    to = record { router = router; port = number }

    abbrev history : History
    history = history_of histories router

    abbrev arrived : Reception
    arrived = record {
      to = to;
      bytes = bytes;
      acts = running history;
      up = ports_up (ports_of net router) history;
      routes = offers (routes_held (ports_of net router) most_routes history);
      origin = origin;
    }

    abbrev after : List Reception
    after = log ++ arrived ∷ []

    abbrev sent_for_it : List Sent
    sent_for_it = sends_at net most_routes most_services histories router (Packet number bytes)

    arrived_sound : IsSound net log (length log) arrived
    arrived_sound = record {
      within = on;
      ups = (laws.ups (ports_of net router) history).1;
      tables = laws.of_a_table (ports_of net router) most_routes history (are.on_ports router);
      origins = λ s e. ((comes s e).forward.there, comes s e);
    }

    -- the names of what was there
    before_it : AllByRecursion (IsBefore (length log)) (names log ++ (named origin to ++ names_waiting rest))
    before_it =
        all-append (IsBefore (length log)) (names log) (named origin to ++ names_waiting rest) (log_before log sound)
        (all-append (IsBefore (length log)) (named origin to) (names_waiting rest) (by origin comes) (waiting_before log rest waiting))
      where
        by : (o : Option Sending) → ((s : Sending) → o ≡ Some s → Comes net log s to bytes) → AllByRecursion (IsBefore (length log)) (named o to)
        by None from = tt
        by (Some s) from = ((from s refl).forward.there, tt)

    -- what was received, and what is sent for it, as far as each packet sent is of a forward of it or of none
    joined : (forward : Sent → Option Sending) → AllByRecursion (IsSent after router forward) sent_for_it
        → ((s : Sent) (x : Sending) → forward s ≡ Some x → x.place ≡ length log) → AreDifferent (names_waiting (flat_map (waits net router forward) sent_for_it))
        → AreDifferent (names log ++ (named origin to ++ names_waiting rest))
        → Good (record {
          histories = with_event histories router (Packet number bytes);
          waiting = rest ++ flat_map (waits net router forward) sent_for_it;
          log = after;
        })
    joined forward each at_end apart differ = record {
      histories = histories_more histories router (Packet number bytes) are within on are_bytes;
      sound = sound_more log arrived sound arrived_sound;
      waiting =
          all-append (IsWaiting after) rest (flat_map (waits net router forward) sent_for_it)
          (all_then (IsWaiting log) (IsWaiting after) (waiting_lasts log (arrived ∷ [])) rest waiting) (all_wait after router forward sent_for_it each);
      names =
          names_more log (arrived ∷ []) (named origin to) rest (flat_map (waits net router forward) sent_for_it) refl before_it differ
          (marked router (length log) forward at_end sent_for_it) apart;
    }

    packet_bytes : AllByRecursion (λ s. IsBytes s.bytes) sent_for_it
    packet_bytes = sents_bytes laws is most_routes most_services histories log rest are sound waiting router (Packet number bytes) within on are_bytes

    -- a packet for the router itself
    kept : (forward : Sent → Option Sending) → ((s : Sent) → forward s ≡ None) → AreDifferent (names log ++ (named origin to ++ names_waiting rest))
        → Good (record {
          histories = with_event histories router (Packet number bytes);
          waiting = rest ++ flat_map (waits net router forward) sent_for_it;
          log = after;
        })
    kept forward none differ = grind (arith, joined, all_then, nothing, packet_bytes, unnamed)

    abbrev here : Sent → Sending
    here s = record { place = length log; sent = s }

    -- what is sent on is a forward of what was received
    is_forward : (s : Sent) → running history ≡ true → IsRelayed (ports_of net router) arrived.up arrived.routes number bytes s → IsForward net after (here s)
    is_forward s runs relayed =
        let longer = length-append log (arrived ∷ []) in
        let e = sym (reception_last log arrived) in
        record {
          there = omega (arith, longer);
          acts = subst (λ (r : Reception). r.acts ≡ true) e runs;
          relayed = subst (λ (r : Reception). IsRelayed (ports_of net r.to.router) r.up r.routes r.to.port r.bytes s) e relayed;
        }

    -- a packet for others
    sent_on : (forward : Sent → Option Sending) → ((s : Sent) → forward s ≡ Some (here s))
        → AreForwards (ports_of net router) arrived.up arrived.routes (running history) number bytes sent_for_it
        → AreDifferent (names log ++ (named origin to ++ names_waiting rest))
        → Good (record {
          histories = with_event histories router (Packet number bytes);
          waiting = rest ++ flat_map (waits net router forward) sent_for_it;
          log = after;
        })
    sent_on forward is_here forwards differ =
        joined forward (both sent_for_it packet_bytes forwards.each)
        (λ s x e. it_is (λ (y : Sending). y.place ≡ length log) x (here s) (sym (is_here s) ∙ e) refl)
        (names_differ net router forward (length log) is_here sent_for_it forwards.differ) differ
      where
        both : (ss : List Sent) → AllByRecursion (λ s. IsBytes s.bytes) ss
            → AllByRecursion (λ s. (running history ≡ true) × IsRelayed (ports_of net router) arrived.up arrived.routes number bytes s) ss
            → AllByRecursion (IsSent after router forward) ss
        both [] bs rs = tt
        both (s ∷ ss) bs rs = (
          record {
            bytes = bs.0;
            forward = λ x e.
                it_is (λ (y : Sending). IsForward net after y × (outlet after y ≡ record { router = router; port = s.port }) × (y.sent ≡ s))
                x (here s) (sym (is_here s) ∙ e)
                (is_forward s rs.0.0 rs.0.1, ap (λ (r : Reception). by r.to.router s.port) (reception_last log arrived), refl);
          },
          both ss bs.1 rs.1,
        )
          where
            by : ℕ → ℕ → Place
            by router port = record { router = router; port = port }

    abbrev others : Bool
    others = is_for_others net to bytes

    -- a packet for others is one, by its bytes
    for_others : (r : Result Parts PacketFault) → packet_of bytes ≡ r → elim r [ Ok p ↦ goes_on (ports_of net router) number bytes p | Err fault ↦ false ] ≡ true
        → (p : Parts) × (packet_of bytes ≡ Ok p) × (goes_on (ports_of net router) number bytes p ≡ true)
    for_others r read e = grind arith

    abbrev forwards_of : Sent → Option Sending
    forwards_of = forward_of net (length log) router (Packet number bytes)

    received_well : AreDifferent (names log ++ (named origin to ++ names_waiting rest))
        → Good (happens net most_routes most_services (record { histories = histories; waiting = rest; log = log }) router (Packet number bytes) origin)
    received_well differ = elim (cases_Bool others) [
      | inl e ↦
          let (p, read, on_p) = for_others (packet_of bytes) refl e in
          sent_on forwards_of (λ s. rw e refl)
          (are_forwards laws (ports_of net router) most_routes most_services history number bytes are_bytes p read on_p) differ
      | inr e ↦ kept forwards_of (λ s. rw e refl) differ
    ]

  -- ---- all steps

  module _ (laws : Routing) (is : IsInternet net) (most_routes most_services : ℕ) where
    -- an event from outside
    happens_well : (run : Run) → Good run → (router : ℕ) (event : Event) → router < length net → IsOnPort (ports_of net router) event → IsOfBytes event
        → Good (happens net most_routes most_services run router event None)
    happens_well run good router Start within on bytes =
        unreceived laws is most_routes most_services run.histories run.log run.waiting good.histories good.sound good.waiting router Start within on bytes good.names
    happens_well run good router Stop within on bytes =
        unreceived laws is most_routes most_services run.histories run.log run.waiting good.histories good.sound good.waiting router Stop within on bytes good.names
    happens_well run good router Second within on bytes =
        unreceived laws is most_routes most_services run.histories run.log run.waiting good.histories good.sound good.waiting router
        Second within on bytes good.names
    happens_well run good router (PortDown number) within on bytes =
        unreceived laws is most_routes most_services run.histories run.log run.waiting good.histories good.sound good.waiting router
        (PortDown number) within on bytes good.names
    happens_well run good router (PortUp number) within on bytes =
        unreceived laws is most_routes most_services run.histories run.log run.waiting good.histories good.sound good.waiting router
        (PortUp number) within on bytes good.names
    happens_well run good router (Packet number bytes) within on are_bytes =
        received_well laws is most_routes most_services run.histories run.log run.waiting good.histories good.sound good.waiting
        router number bytes within on are_bytes
        None (λ s e. nothing e) good.names

    -- a delivery
    settles_well : (histories : List History) (log : List Reception) (waiting : List Waiting) → Good (record { histories = histories; waiting = waiting; log = log })
        → Good (stepped net most_routes most_services (record { histories = histories; waiting = waiting; log = log }) Settles)
    settles_well histories log [] good = good
    settles_well histories log (w ∷ waiting) good = search (rules, received_well, router_there)

    pub step_well : (run : Run) → Good run → (step : Step) → IsStep net step → Good (stepped net most_routes most_services run step)
    step_well run good (Happens router event) is = happens_well run good router event is.0 is.1 is.2
    step_well run good Settles is = settles_well run.histories run.log run.waiting good

    run_well : (run : Run) (steps : List Step) → Good run → AllByRecursion (IsStep net) steps → Good (run_of net most_routes most_services run steps)
    run_well run [] good are = good
    run_well run (step ∷ steps) good are = run_well (stepped net most_routes most_services run step) steps (step_well run good step are.0) are.1

    -- where nothing was received, and nothing waits
    pub begun_well : (histories : List History) → AreHistories net histories → Good (begun histories)
    begun_well histories are = record { histories = are; sound = λ place within. absurd (omega (arith, within)); waiting = tt; names = tt }

    pub listed : (histories : List History) (steps : List Step) → AreHistories net histories → AllByRecursion (IsStep net) steps
        → IsLog net (run_of net most_routes most_services (begun histories) steps).log
    listed histories steps are all =
        is_log (run_of net most_routes most_services (begun histories) steps) (run_well (begun histories) steps (begun_well histories are) all)
