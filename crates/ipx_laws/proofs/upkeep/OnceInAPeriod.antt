-- Step by step, while tables stay: what waits asks nothing, and in a period a router sends once all that it advertises.
use Rattle.std.proofs.Common.{◌≡◌, ◌≢◌, refl, sym, ap, ◌∙◌, subst, ℕ, suc, ◌+◌, ◌*◌, ◌%◌, ◌<◌, ◌≤◌, ◌==◌, ◌&&◌, nat_lt, Bool, true, false, if◌then◌else◌, List, [], ◌∷◌, ◌++◌, length, map, filter, flat_map, Option, None, inl, inr, arith, true≢false, append-nil, length-append, get_or-set_same, get_or-set_other, rules}
use Rattle.std.specs.List.{AllByRecursion}
use Rattle.std.proofs.lemmas.Bool.{cases_eq, eq-eqb, ne_eqb, lt-ltb, le-ltb}
use Rattle.std.proofs.lemmas.List.{map-append}
use Rattle.std.proofs.lemmas.List.Elements.{filter-append}
use Rattle.std.proofs.lemmas.Nat.{mod_below}
use Rattle.ipx_wire.specs.Piece.{IsBytes}
use Rattle.ipx_wire.specs.declared.rip.RipEntry.{RipEntry}
use Rattle.ipx_wire.specs.declared.service.Service.{Service}
use Rattle.ipx_router.specs.History.{Event, History, Start, Stop, Second, Packet, PortDown, PortUp, IsOnPort, IsOfBytes, seconds_run, running, ports_up}
use Rattle.ipx_router.specs.Numbers.{period}
use Rattle.ipx_router.specs.Port.{Port, is_up}
use Rattle.ipx_router.specs.Relays.{Sent}
use Rattle.ipx_router.specs.Sends.{Holding, holding, broadcasts, is_periodic}
use Rattle.ipx_router.specs.Told.{told, told_services}
use Rattle.ipx_router.specs.declared.route_offer.RouteOffer.{RouteOffer}
use Rattle.ipx_router.specs.declared.service_offer.ServiceOffer.{ServiceOffer}
use Rattle.ipx_router.proofs.histories.OneEventMore.{present_run-more, seconds_stay, ports_stay, none_up}
use Rattle.ipx_router.proofs.lists.EachElement.{all_both}
use Rattle.ipx_router.proofs.relays.PortsRise.{ups as ups_rise}
use Rattle.ipx_internet.specs.Different.{AreDifferent}
use Rattle.ipx_internet.specs.Log.{Sending, Reception}
use Rattle.ipx_internet.specs.Internet.{Internet, Place, IsInternet, ports_of, port_of}
use Rattle.ipx_internet.specs.Queue.{Delivery, Queued, deliveries_of, history_of, with_event, sends_at}
use Rattle.ipx_internet.specs.Rounds.{IsDelivery}
use Rattle.ipx_internet.specs.Run.{Step, Happens, Settles, AreHistories, Waiting, Run, happens}
use Rattle.ipx_internet.specs.Ticks.{seconds_of}
use Rattle.ipx_internet.proofs.deliveries.QueueOfARun.{events}
use Rattle.ipx_internet.proofs.deliveries.WaitsAfterDelivery.{there}
use Rattle.ipx_internet.proofs.lists.EachElement.{all_of, all_then, all-append, all_mapped, rising_differ}
use Rattle.ipx_internet.proofs.packets.SentOnOrReply.{Layouts, IsCast, news_reply}
use Rattle.ipx_internet.proofs.places.OneReceiverOfANode.{ports_at, receives_is}
use Rattle.ipx_internet.proofs.rounds.OneRound.{each_delivery}
use Rattle.ipx_internet.proofs.rounds.SentOnRunsOut.{reply_moves}
use Rattle.ipx_internet.proofs.trees.RunIsALog.{histories_more}
use Rattle.ipx_laws.specs.Departure.{Departure, routes_then, departures_at, departures}
use Rattle.ipx_laws.specs.Upkeep.{EndsThere, IsOfUpkeep, has, HaveTheSame, TablesStay, sent_by, all_pages}
use Rattle.ipx_laws.specs.Ups.{ups}
use Rattle.ipx_laws.proofs.packets.BroadcastEachSecond.{all_cast}
use Rattle.ipx_laws.proofs.ticks.EventOfOneRouter.{each_so}
use Rattle.ipx_laws.proofs.ticks.TickAfterTick.{second_here, second_there}
use Rattle.ipx_laws.proofs.upkeep.NothingNewIsSent.{reply_ends, second_sends, packet_sends_none}

-- ---- what leaves on one port

abbrev on_port : ℕ → List Sent → List Sent
on_port number sents = filter (λ s. s.port == number) sents

module _ (ports : List Port) (has : Holding) where
  all_there : (j : ℕ) → AllByRecursion (λ s. s.port ≡ j) (all_pages ports has j)
  all_there j = search (rules, all-append, all_mapped, all_of)

here_kept : (number : ℕ) (sents : List Sent) → AllByRecursion (λ s. s.port ≡ number) sents → on_port number sents ≡ sents
here_kept number [] all = refl
here_kept number (s ∷ sents) all =
    let e = eq-eqb s.port number all.0 in
    rw e (ap (λ (ss : List Sent). s ∷ ss) (here_kept number sents all.1))

elsewhere_dropped : (number j : ℕ) → j ≢ number → (sents : List Sent) → AllByRecursion (λ s. s.port ≡ j) sents → on_port number sents ≡ []
elsewhere_dropped number j off [] all = refl
elsewhere_dropped number j off (s ∷ sents) all =
    let e = ne_eqb s.port number (λ same. off (sym all.0 ∙ same)) in
    rw e (elsewhere_dropped number j off sents all.1)

module _ (f : ℕ → List Sent) (there_all : (j : ℕ) → AllByRecursion (λ s. s.port ≡ j) (f j)) (number : ℕ) where
  none_of_others : (js : List ℕ) → AllByRecursion (λ j. j ≢ number) js → on_port number (flat_map f js) ≡ []
  none_of_others [] off = refl
  none_of_others (j ∷ js) off =
      filter-append (λ s. s.port == number) (f j) (flat_map f js)
      ∙ ap (λ (ss : List Sent). ss ++ on_port number (flat_map f js)) (elsewhere_dropped number j off.0 (f j) (there_all j))
      ∙ none_of_others js off.1

  one_of_all : (js : List ℕ) → AreDifferent js → is_up js number ≡ true → on_port number (flat_map f js) ≡ f number
  one_of_all [] differ on = absurd (true≢false (sym on))
  one_of_all (j ∷ js) differ on =
      filter-append (λ s. s.port == number) (f j) (flat_map f js) ∙ elim (cases_eq j number) [
        | inl same ↦
            ap (λ (ss : List Sent). ss ++ on_port number (flat_map f js)) (here_kept number (f j) (subst (λ (k : ℕ). AllByRecursion (λ s. s.port ≡ k) (f j)) same (there_all j)))
            ∙ ap (λ (ss : List Sent). f j ++ ss)
            (none_of_others js (all_then (λ k. k ≢ j) (λ k. k ≢ number) (λ k apart e. apart (e ∙ sym same)) js differ.0))
            ∙ append-nil (f j) ∙ ap f same
        | inr off ↦
            let e = ne_eqb j number off in
            ap (λ (ss : List Sent). ss ++ on_port number (flat_map f js)) (elsewhere_dropped number j off (f j) (there_all j))
            ∙ one_of_all js differ.1 (rw e at on)
      ]

-- ---- what a router sent on one port

sent_more : (router number : ℕ) (ds es : List Departure) → sent_by router number (ds ++ es) ≡ sent_by router number ds ++ sent_by router number es
sent_more router number ds es =
    ap (map (λ (d : Departure). d.sent)) (filter-append (λ d. (d.router == router) && (d.sent.port == number)) ds es)
    ∙ map-append (λ (d : Departure). d.sent) (filter (λ d. (d.router == router) && (d.sent.port == number)) ds)
    (filter (λ d. (d.router == router) && (d.sent.port == number)) es)

module _ (router number : ℕ) (routes : List RouteOffer) where
  own_sent : (sents : List Sent) → sent_by router number (map (λ s. record { router = router; sent = s; routes = routes }) sents) ≡ on_port number sents
  own_sent [] = refl
  own_sent (s ∷ sents) = grind (arith, own_sent sents)

  other_sent : (other : ℕ) → other ≢ router → (sents : List Sent)
      → sent_by router number (map (λ s. record { router = other; sent = s; routes = routes }) sents) ≡ []
  other_sent other off [] = refl
  other_sent other off (s ∷ sents) = let e = ne_eqb other router off in rw e (other_sent other off sents)

-- ---- a clock that goes round

-- what a router still sends in so many seconds, where it has run for that many: all, if a period ends in them
abbrev pub owed : List Sent → ℕ → ℕ → List Sent
owed all ran left = if nat_lt (ran % period + left) period then [] else all

turns : (all : List Sent) (ran left : ℕ) → ran % period + suc left < 2 * period
    → (if (ran + 1) % period == 0 then all else []) ++ owed all (ran + 1) left ≡ owed all ran (suc left)
turns all ran left few = elim (cases_eq (ran % period + 1) period) [
  | inl last ↦
      let at_zero : (ran + 1) % period ≡ 0 = omega (arith, last) in
      let is_zero : ((ran + 1) % period == 0) ≡ true = eq-eqb ((ran + 1) % period) 0 at_zero in
      let now : nat_lt (ran % period + suc left) period ≡ false = le-ltb (ran % period + suc left) period (omega (arith, last)) in
      let later : nat_lt ((ran + 1) % period + left) period ≡ true = lt-ltb ((ran + 1) % period + left) period (omega (arith, at_zero, few, last)) in
      rw (is_zero, now, later) (append-nil all)
  | inr other ↦
      let below = mod_below ran period (omega arith) in
      let next : (ran + 1) % period ≡ ran % period + 1 = omega (arith, other, below) in
      let not_zero : ((ran + 1) % period == 0) ≡ false = ne_eqb ((ran + 1) % period) 0 (λ e. omega (arith, e, next)) in
      let same : (ran + 1) % period + left ≡ ran % period + suc left = omega (arith, next) in
      rw not_zero (ap (λ n. if nat_lt n period then [] else all) same)
]

-- all that is advertised on a port, by what a router has
all_same : (ports : List Port) (h k : Holding) (j : ℕ) → h.up ≡ k.up → h.routes ≡ k.routes → h.services ≡ k.services → all_pages ports h j ≡ all_pages ports k j
all_same ports h k j up routes services =
    ap (λ (us : List ℕ). broadcasts ports j (told ports us h.routes j) (told_services h.services j)) up
    ∙ ap (λ (rs : List RouteOffer). broadcasts ports j (told ports k.up rs j) (told_services h.services j)) routes
    ∙ ap (λ (ss : List ServiceOffer). broadcasts ports j (told ports k.up k.routes j) (told_services ss j)) services

-- one second more
one_more : (past : History) → running past ≡ true → seconds_run (past ++ Second ∷ []) ≡ seconds_run past + 1
one_more past runs = grind (arith, events, present_run-more, filter-append, length-append)

-- a clock is at most one further
mod_step : (n : ℕ) → (n + 1) % period ≤ n % period + 1
mod_step n = grind arith

module _ (net : Internet) (laws : Layouts) (is : IsInternet net) (most_routes most_services : ℕ) (old : List History) where
  abbrev pub Calm : Delivery → Type 0
  Calm d = IsDelivery net d × EndsThere (port_of net d.to) d.bytes

  abbrev pub Same : List History → Type 0
  Same now = HaveTheSame net most_routes most_services old now

  -- what is so after each step
  pub record Keeps (histories : List History) (queue : List Delivery) : Type 0 where
    pub are : AreHistories net histories
    pub calm : AllByRecursion Calm queue
    pub same : Same histories
    pub ports : (router : ℕ) → ups net histories router ≡ ups net old router

  -- ---- one event of a router

  module _ (histories : List History) (queue : List Delivery) (keeps : Keeps histories queue) (x : ℕ) (within : x < length net) where
    abbrev own : List Port
    own = ports_of net x

    abbrev past : History
    past = history_of histories x

    listed : x < length histories
    listed = let each = keeps.are.each in omega (arith, each, within)

    module _ (event : Event) (same : Same (with_event histories x event)) where
      abbrev now : History
      now = past ++ event ∷ []

      now_is : history_of (with_event histories x event) x ≡ now
      now_is = get_or-set_same histories x now [] listed

      routes_now : (holding own most_routes most_services now).routes ≡ (has net most_routes most_services old x).routes
      routes_now =
          subst (λ (h : History). (holding own most_routes most_services h).routes ≡ (has net most_routes most_services old x).routes) now_is (same x within).0

      services_now : (holding own most_routes most_services now).services ≡ (has net most_routes most_services old x).services
      services_now =
          subst (λ (h : History). (holding own most_routes most_services h).services ≡ (has net most_routes most_services old x).services) now_is (same x within).1

      routes_stay : (holding own most_routes most_services now).routes ≡ (holding own most_routes most_services past).routes
      routes_stay = routes_now ∙ sym (keeps.same x within).0

      services_stay : (holding own most_routes most_services now).services ≡ (holding own most_routes most_services past).services
      services_stay = services_now ∙ sym (keeps.same x within).1

      keeps_next : IsOnPort own event → IsOfBytes event → ports_up own now ≡ ports_up own past → (sents : List Sent)
          → AllByRecursion Calm (flat_map (deliveries_of net x) sents)
          → Keeps (with_event histories x event) (queue ++ flat_map (deliveries_of net x) sents)
      keeps_next on of_bytes stay sents calm = search (rules, histories_more, all-append, each_so, listed)

    -- ---- a second

    module _ (same : Same (with_event histories x Second)) where
      abbrev second_now : History
      second_now = past ++ Second ∷ []

      ups_second : ports_up own second_now ≡ ports_up own past
      ups_second = ports_stay own past Second refl refl (λ port. refl) (λ port. refl)

      abbrev after : Holding
      after = holding own most_routes most_services second_now

      abbrev sents : List Sent
      sents = sends_at net most_routes most_services histories x Second

      casts : AllByRecursion (IsCast (ports_up own second_now) (λ j e. Unit {0}) (λ j s. Unit {0}) own) sents
      casts =
          let P : ℕ → RipEntry → Type 0 = λ j e. Unit {0} in
          let Q : ℕ → Service → Type 0 = λ j s. Unit {0} in
          all_cast laws own (ports_at net is x) most_routes most_services past (keeps.are.of_bytes x) P Q (λ j. all_of (P j) (λ e. tt) _)
          (λ j. all_of (P j) (λ e. tt) _) (λ j. all_of (Q j) (λ e. tt) _) (λ j. all_of (Q j) (λ e. tt) _)

      calm_sents : AllByRecursion Calm (flat_map (deliveries_of net x) sents)
      calm_sents =
          let P : ℕ → RipEntry → Type 0 = λ j e. Unit {0} in
          let Q : ℕ → Service → Type 0 = λ j s. Unit {0} in
          let of_bytes = keeps.are.of_bytes x in
          let up = ports_up own second_now in
          let bytes = laws.bytes own most_routes most_services past Second (ports_at net is x)
          (all-append (IsOnPort own) past (Second ∷ []) (keeps.are.on_ports x) (tt, tt)) (all-append IsOfBytes past (Second ∷ []) of_bytes (tt, tt)) in
          each_delivery net most_routes most_services Calm (λ s. IsBytes s.bytes × IsCast up P Q own s) x
          (λ s to both place received.
          let from : Place = record { router = x; port = s.port } in
          let got = receives_is net from s.link to received in (
            record { place = place; bytes = both.0 },
            reply_ends (port_of net to) s.bytes
                (reply_moves (port_of net from) (port_of net to) s.bytes got.network (news_reply (P s.port) (Q s.port) (port_of net from) s.bytes both.1.news)),
          ))
          sents (all_both (λ s. IsBytes s.bytes) (IsCast up P Q own) sents bytes casts)

      -- all of it leaves on ports that are up
      second_up : AllByRecursion (λ s. is_up (ups net old x) s.port ≡ true) sents
      second_up =
          all_then (IsCast (ports_up own second_now) (λ j e. Unit {0}) (λ j s. Unit {0}) own) (λ s. is_up (ups net old x) s.port ≡ true)
          (λ s it. subst (λ (us : List ℕ). is_up us s.port ≡ true) (ups_second ∙ keeps.ports x) it.on) sents casts

      second_keeps : Keeps (with_event histories x Second) (queue ++ flat_map (deliveries_of net x) sents)
      second_keeps = keeps_next Second same tt tt ups_second sents calm_sents

      -- on a port that is up
      second_sent : running past ≡ true → (number : ℕ) → is_up (ups net old x) number ≡ true
          → on_port number sents ≡ (if (seconds_run past + 1) % period == 0 then all_pages own (has net most_routes most_services old x) number else [])
      second_sent runs number on =
          ap (on_port number) (second_sends own most_routes most_services past runs (routes_stay Second same) (services_stay Second same)) ∙ by (is_periodic past)
        where
          here : is_up after.up number ≡ true
          here = subst (λ (us : List ℕ). is_up us number ≡ true) (sym (ups_second ∙ keeps.ports x)) on

          by : (periodic : Bool) → on_port number (if periodic then flat_map (all_pages own after) after.up else [])
              ≡ (if periodic then all_pages own (has net most_routes most_services old x) number else [])
          by false = refl
          by true =
              one_of_all (all_pages own after) (all_there own after) number after.up (rising_differ after.up (ups_rise own second_now).0) here
              ∙ all_same own after (has net most_routes most_services old x) number (ups_second ∙ keeps.ports x) (routes_now Second same) (services_now Second same)

    -- ---- a packet

    module _ (number : ℕ) (bytes : List ℕ) (calm : Calm (record { to = record { router = x; port = number }; bytes = bytes }))
        (same : Same (with_event histories x (Packet number bytes))) where
      none_sent : sends_at net most_routes most_services histories x (Packet number bytes) ≡ []
      none_sent =
          packet_sends_none own most_routes most_services past laws (ports_at net is x) (keeps.are.on_ports x) (keeps.are.of_bytes x) number bytes
          calm.0.place calm.0.bytes calm.1 (routes_stay (Packet number bytes) same) (services_stay (Packet number bytes) same)

      packet_keeps : Keeps (with_event histories x (Packet number bytes)) (queue ++ flat_map (deliveries_of net x) (sends_at net most_routes most_services histories x (Packet number bytes)))
      packet_keeps =
          keeps_next (Packet number bytes) same calm.0.place calm.0.bytes
          (ports_stay own past (Packet number bytes) refl refl (λ port. refl) (λ port. refl)) (sends_at net most_routes most_services histories x (Packet number bytes))
          (subst (λ (ss : List Sent). AllByRecursion Calm (flat_map (deliveries_of net x) ss)) (sym none_sent) tt)

  -- ---- steps

  abbrev queue_of : Run → List Delivery
  queue_of run = map (λ w. w.delivery) run.waiting

  happens_so : (run : Run) (x : ℕ) (event : Event) (origin : Option Sending)
      → Keeps (with_event run.histories x event) (queue_of run ++ flat_map (deliveries_of net x) (sends_at net most_routes most_services run.histories x event))
      → Keeps (happens net most_routes most_services run x event origin).histories (queue_of (happens net most_routes most_services run x event origin))
  happens_so run x event origin keeps =
      subst (λ (q : Queued). Keeps q.histories q.queue) (sym (events net most_routes most_services run x event origin)) keeps

  -- ---- what leaves does so on ports that are up

  abbrev IsUp : Departure → Type 0
  IsUp d = is_up (ups net old d.router) d.sent.port ≡ true

  packet_up : (histories : List History) (waiting : List Waiting) (log : List Reception) (x n : ℕ) (bytes : List ℕ) (origin : Option Sending) (rest : List Step)
      → let run : Run = record { histories = histories; waiting = waiting; log = log } in
      let next = happens net most_routes most_services run x (Packet n bytes) origin in
      Keeps histories (queue_of run) → x < length net → Calm (record { to = record { router = x; port = n }; bytes = bytes }) → Same next.histories
      → (Keeps next.histories (queue_of next) → AllByRecursion IsUp (departures net most_routes most_services next rest))
      → AllByRecursion IsUp (departures_at net most_routes most_services histories x (Packet n bytes) ++ departures net most_routes most_services next rest)
  packet_up histories waiting log x n bytes origin rest keeps within calm same goes =
      let run : Run = record { histories = histories; waiting = waiting; log = log } in
      let next = happens net most_routes most_services run x (Packet n bytes) origin in
      let routes = routes_then net most_routes most_services histories x (Packet n bytes) in
      subst (λ (ss : List Sent). AllByRecursion IsUp (map (λ s. record { router = x; sent = s; routes = routes }) ss ++ departures net most_routes most_services next rest))
      (sym (none_sent histories (queue_of run) keeps x within n bytes calm same))
      (goes (happens_so run x (Packet n bytes) origin (packet_keeps histories (queue_of run) keeps x within n bytes calm same)))

  settles_up : (rest : List Step) (histories : List History) (log : List Reception) (waiting : List Waiting)
      → let now : Run = record { histories = histories; waiting = waiting; log = log } in
      Keeps histories (queue_of now) → TablesStay net most_routes most_services old now (Settles ∷ rest)
      → ((next : Run) → Keeps next.histories (queue_of next) → TablesStay net most_routes most_services old next rest
      → AllByRecursion IsUp (departures net most_routes most_services next rest))
      → AllByRecursion IsUp (departures net most_routes most_services now (Settles ∷ rest))
  settles_up rest histories log [] keeps stay deeper = deeper (record { histories = histories; waiting = []; log = log }) keeps stay.1
  settles_up rest histories log (w ∷ waiting) keeps stay deeper =
      let d = w.delivery in
      let now : Run = record { histories = histories; waiting = waiting; log = log } in
      packet_up histories waiting log d.to.router d.to.port d.bytes w.origin rest
      (record { are = keeps.are; calm = keeps.calm.1; same = keeps.same; ports = keeps.ports })
      (there net laws is most_routes most_services histories keeps.are d keeps.calm.0.0) keeps.calm.0 stay.0
      (λ next_keeps. deeper (happens net most_routes most_services now d.to.router (Packet d.to.port d.bytes) w.origin) next_keeps stay.1)

  pub all_up : (steps : List Step) (run : Run) → Keeps run.histories (queue_of run) → AllByRecursion (IsOfUpkeep net) steps
      → TablesStay net most_routes most_services old run steps → AllByRecursion IsUp (departures net most_routes most_services run steps)
  all_up [] run keeps of stay = tt
  all_up (Happens x Second ∷ rest) run keeps of stay =
      let next = happens net most_routes most_services run x Second None in
      all-append IsUp (departures_at net most_routes most_services run.histories x Second) (departures net most_routes most_services next rest)
      (all_mapped IsUp (λ s. record { router = x; sent = s; routes = routes_then net most_routes most_services run.histories x Second })
      (sends_at net most_routes most_services run.histories x Second) (second_up run.histories (queue_of run) keeps x of.0 stay.0))
      (all_up rest next (happens_so run x Second None (second_keeps run.histories (queue_of run) keeps x of.0 stay.0)) of.1 stay.1)
  all_up (Happens x Start ∷ rest) run keeps of stay = absurd of.0
  all_up (Happens x Stop ∷ rest) run keeps of stay = absurd of.0
  all_up (Happens x (PortDown n) ∷ rest) run keeps of stay = absurd of.0
  all_up (Happens x (PortUp n) ∷ rest) run keeps of stay = absurd of.0
  all_up (Happens x (Packet n bytes) ∷ rest) run keeps of stay =
      packet_up run.histories run.waiting run.log x n bytes None rest keeps of.0.0 (record { place = of.0.1; bytes = of.0.2 }, of.0.3) stay.0
      (λ next_keeps. all_up rest (happens net most_routes most_services run x (Packet n bytes) None) next_keeps of.1 stay.1)
  all_up (Settles ∷ rest) run keeps of stay =
      settles_up rest run.histories run.log run.waiting keeps stay (λ next next_keeps next_stay. all_up rest next next_keeps of.1 next_stay)

  -- ---- what leaves on one port

  module _ (router number : ℕ) (on : is_up (ups net old router) number ≡ true) where
    abbrev all : List Sent
    all = all_pages (ports_of net router) (has net most_routes most_services old router) number

    abbrev ran : List History → ℕ
    ran histories = seconds_run (history_of histories router)

    abbrev departed : Run → List Step → List Sent
    departed run steps = sent_by router number (departures net most_routes most_services run steps)

    -- its clock stands between seconds
    runs_now : (histories : List History) (queue : List Delivery) → Keeps histories queue → running (history_of histories router) ≡ true
    runs_now histories queue keeps = grind (arith, none_up)

    no_second : (x n : ℕ) (bytes : List ℕ) (rest : List Step) → seconds_of router (Happens x (Packet n bytes) ∷ rest) ≡ seconds_of router rest
    no_second x n bytes rest = grind arith

    -- what is so of the rest of the steps
    abbrev Goes : Run → List Step → Type 0
    Goes run steps = departed run steps ≡ owed all (ran run.histories) (seconds_of router steps)

    -- a packet that comes to a router
    packet_goes : (histories : List History) (waiting : List Waiting) (log : List Reception) (x n : ℕ) (bytes : List ℕ) (origin : Option Sending) (rest : List Step)
        → let run : Run = record { histories = histories; waiting = waiting; log = log } in
        let next = happens net most_routes most_services run x (Packet n bytes) origin in
        Keeps histories (queue_of run) → x < length net → Calm (record { to = record { router = x; port = n }; bytes = bytes })
        → Same next.histories
        → (Keeps next.histories (queue_of next) → (ran next.histories ≡ ran histories) → departed next rest ≡ owed all (ran histories) (seconds_of router rest))
        → sent_by router number (departures_at net most_routes most_services histories x (Packet n bytes) ++ departures net most_routes most_services next rest)
        ≡ owed all (ran histories) (seconds_of router rest)
    packet_goes histories waiting log x n bytes origin rest keeps within calm same goes =
        let run : Run = record { histories = histories; waiting = waiting; log = log } in
        let next = happens net most_routes most_services run x (Packet n bytes) origin in
        let none = none_sent histories (queue_of run) keeps x within n bytes calm same in
        let routes = routes_then net most_routes most_services histories x (Packet n bytes) in
        ap (λ (ss : List Sent). sent_by router number (map (λ s. record { router = x; sent = s; routes = routes }) ss ++ departures net most_routes most_services next rest)) none
        ∙ goes (happens_so run x (Packet n bytes) origin (packet_keeps histories (queue_of run) keeps x within n bytes calm same)) still
      where
        there_is : x < length histories
        there_is = let each = keeps.are.each in omega (arith, each, within)

        still : ran (with_event histories x (Packet n bytes)) ≡ ran histories
        still =
            each_so (λ r h. r ≡ router → seconds_run h ≡ ran histories) histories x (Packet n bytes) there_is router
            (λ e same_router. seconds_stay (history_of histories x) (Packet n bytes) refl refl
            (subst (λ (k : ℕ). running (history_of histories k) ≡ true) e (runs_now histories (map (λ w. w.delivery) waiting) keeps))
            ∙ ap (λ k. seconds_run (history_of histories k)) (sym e)) (λ off e. refl) refl

    -- a second of that router
    second_own : (run : Run) (rest : List Step) (keeps : Keeps run.histories (queue_of run)) (within : router < length net)
        → let next = happens net most_routes most_services run router Second None in
        Same next.histories
        → (Keeps next.histories (queue_of next) → (ran next.histories ≡ ran run.histories + 1) → departed next rest ≡ owed all (ran run.histories + 1) (seconds_of router rest))
        → ran run.histories % period + seconds_of router (Happens router Second ∷ rest) < 2 * period
        → Goes run (Happens router Second ∷ rest)
    second_own run rest keeps within same goes few =
        let next = happens net most_routes most_services run router Second None in
        let past = history_of run.histories router in
        let runs = runs_now run.histories (queue_of run) keeps in
        let step = second_here router rest in
        let later : ran next.histories ≡ ran run.histories + 1 =
        ap seconds_run (get_or-set_same run.histories router (past ++ Second ∷ []) [] (listed run.histories (queue_of run) keeps router within)) ∙ one_more past runs in
        sent_more router number (departures_at net most_routes most_services run.histories router Second) (departures net most_routes most_services next rest)
        ∙ ap (λ (ss : List Sent). ss ++ departed next rest)
        (own_sent router number (routes_then net most_routes most_services run.histories router Second) (sends_at net most_routes most_services run.histories router Second)
        ∙ second_sent run.histories (queue_of run) keeps router within same runs number on)
        ∙ ap (λ (ss : List Sent). (if (ran run.histories + 1) % period == 0 then all else []) ++ ss)
        (goes (happens_so run router Second None (second_keeps run.histories (queue_of run) keeps router within same)) later)
        ∙ turns all (ran run.histories) (seconds_of router rest) (omega (arith, few, step))
        ∙ ap (owed all (ran run.histories)) (sym step)

    -- what is so of what follows a step
    abbrev Deeper : List Step → Type 0
    Deeper rest =
        (next : Run) → Keeps next.histories (queue_of next) → TablesStay net most_routes most_services old next rest
        → ran next.histories % period + seconds_of router rest < 2 * period → Goes next rest

    second_goes : (x : ℕ) (rest : List Step) (run : Run) → Keeps run.histories (queue_of run) → x < length net
        → TablesStay net most_routes most_services old run (Happens x Second ∷ rest)
        → ran run.histories % period + seconds_of router (Happens x Second ∷ rest) < 2 * period → Deeper rest → Goes run (Happens x Second ∷ rest)
    second_goes x rest run keeps within stay few deeper = elim (cases_eq x router) [
      | inl e ↦ subst Here (sym e) own within stay few
      | inr off ↦ other off
    ]
      where
        Here : ℕ → Type 0
        Here k =
            k < length net → TablesStay net most_routes most_services old run (Happens k Second ∷ rest)
            → ran run.histories % period + seconds_of router (Happens k Second ∷ rest) < 2 * period → Goes run (Happens k Second ∷ rest)

        own : Here router
        own within stay few =
            let step = second_here router rest in
            second_own run rest keeps within stay.0
            (λ next_keeps later. deeper (happens net most_routes most_services run router Second None) next_keeps stay.1
            (let clock = ap (λ k. k % period) later in let most = mod_step (ran run.histories) in omega (arith, few, step, clock, most))
            ∙ ap (λ k. owed all k (seconds_of router rest)) later) few

        other : x ≢ router → Goes run (Happens x Second ∷ rest)
        other off =
            let next = happens net most_routes most_services run x Second None in
            let next_keeps = happens_so run x Second None (second_keeps run.histories (queue_of run) keeps x within stay.0) in
            let same = second_there x router Second rest (λ e. off (sym e)) in
            let still : ran next.histories ≡ ran run.histories =
            ap seconds_run (get_or-set_other run.histories x router (history_of run.histories x ++ Second ∷ []) [] (λ e. off (sym e))) in
            let clock = ap (λ k. k % period) still in
            sent_more router number (departures_at net most_routes most_services run.histories x Second) (departures net most_routes most_services next rest)
            ∙ ap (λ (ss : List Sent). ss ++ departed next rest)
            (other_sent router number (routes_then net most_routes most_services run.histories x Second) x off (sends_at net most_routes most_services run.histories x Second))
            ∙ deeper next next_keeps stay.1 (omega (arith, few, same, clock))
            ∙ ap (λ k. owed all k (seconds_of router rest)) still ∙ ap (owed all (ran run.histories)) (sym same)

    settles_goes : (rest : List Step) (histories : List History) (log : List Reception) (waiting : List Waiting)
        → let now : Run = record { histories = histories; waiting = waiting; log = log } in
        Keeps histories (queue_of now) → TablesStay net most_routes most_services old now (Settles ∷ rest)
        → ran histories % period + seconds_of router rest < 2 * period → Deeper rest → Goes now (Settles ∷ rest)
    settles_goes rest histories log [] keeps stay few deeper = deeper (record { histories = histories; waiting = []; log = log }) keeps stay.1 few
    settles_goes rest histories log (w ∷ waiting) keeps stay few deeper =
        let d = w.delivery in
        let now : Run = record { histories = histories; waiting = waiting; log = log } in
        let less : Keeps histories (queue_of now) = record { are = keeps.are; calm = keeps.calm.1; same = keeps.same; ports = keeps.ports } in
        packet_goes histories waiting log d.to.router d.to.port d.bytes w.origin rest less
        (there net laws is most_routes most_services histories keeps.are d keeps.calm.0.0) keeps.calm.0 stay.0
        (λ next_keeps still. deeper (happens net most_routes most_services now d.to.router (Packet d.to.port d.bytes) w.origin) next_keeps stay.1
        (let clock = ap (λ k. k % period) still in omega (arith, few, clock))
        ∙ ap (λ k. owed all k (seconds_of router rest)) still)

    pub goes : (steps : List Step) (run : Run) → Keeps run.histories (queue_of run) → AllByRecursion (IsOfUpkeep net) steps
        → TablesStay net most_routes most_services old run steps → ran run.histories % period + seconds_of router steps < 2 * period → Goes run steps
    goes [] run keeps of stay few =
        let below = mod_below (ran run.histories) period (omega arith) in
        let less : nat_lt (ran run.histories % period + 0) period ≡ true = lt-ltb (ran run.histories % period + 0) period (omega (arith, below)) in
        rw less refl
    goes (Happens x Second ∷ rest) run keeps of stay few =
        second_goes x rest run keeps of.0 stay few (λ next next_keeps next_stay. goes rest next next_keeps of.1 next_stay)
    goes (Happens x Start ∷ rest) run keeps of stay few = absurd of.0
    goes (Happens x Stop ∷ rest) run keeps of stay few = absurd of.0
    goes (Happens x (PortDown n) ∷ rest) run keeps of stay few = absurd of.0
    goes (Happens x (PortUp n) ∷ rest) run keeps of stay few = absurd of.0
    goes (Happens x (Packet n bytes) ∷ rest) run keeps of stay few =
        let same = no_second x n bytes rest in
        packet_goes run.histories run.waiting run.log x n bytes None rest keeps of.0.0 (record { place = of.0.1; bytes = of.0.2 }, of.0.3) stay.0
        (λ next_keeps still. goes rest (happens net most_routes most_services run x (Packet n bytes) None) next_keeps of.1 stay.1
        (let clock = ap (λ k. k % period) still in omega (arith, few, same, clock))
        ∙ ap (λ k. owed all k (seconds_of router rest)) still)
        ∙ ap (owed all (ran run.histories)) (sym same)
    goes (Settles ∷ rest) run keeps of stay few =
        settles_goes rest run.histories run.log run.waiting keeps stay few (λ next next_keeps next_stay. goes rest next next_keeps of.1 next_stay)
