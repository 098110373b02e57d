-- Ticks, one after the other, in which hosts speak and ports stay as they are: each router's routes are older by as many seconds as it had,
-- and what waits was said in this tick, or tells of no route but to networks of a list.
use Rattle.std.proofs.Common.{◌≡◌, ◌≢◌, refl, sym, ◌∙◌, subst, ◌⊎◌, ℕ, suc, ◌+◌, ◌-◌, ◌<◌, ◌≤◌, ◌==◌, true, false, List, [], ◌∷◌, ◌++◌, length, map, flat_map, Option, Some, None, IfSome, inl, inr, arith, get_or-set_same, get_or-set_other, rules}
use Rattle.std.specs.List.{AllByRecursion}
use Rattle.std.proofs.lemmas.Bool.{cases_eq, eq-eqb, ne_eqb}
use Rattle.ipx_wire.specs.Piece.{IsBytes}
use Rattle.ipx_wire.specs.declared.network.Network.{Network}
use Rattle.ipx_wire.specs.declared.rip.RipEntry.{RipEntry}
use Rattle.ipx_wire.specs.declared.service.Service.{Service}
use Rattle.ipx_router.specs.Facts.{heard_after, routes_held, offers}
use Rattle.ipx_router.specs.Heard.{Heard}
use Rattle.ipx_router.specs.History.{Event, History, Start, Stop, Second, Packet, PortDown, PortUp, IsOnPort, IsOfBytes, running, ports_up}
use Rattle.ipx_router.specs.News.{news}
use Rattle.ipx_router.specs.Port.{Port, is_up}
use Rattle.ipx_router.specs.Sends.{Holding, holding}
use Rattle.ipx_router.specs.Told.{told}
use Rattle.ipx_router.proofs.lists.EachElement.{all_both}
use Rattle.ipx_router.proofs.tables.HeldWasOffered.{heard_up}
use Rattle.ipx_internet.specs.BusyTick.{IsBusyTick}
use Rattle.ipx_internet.specs.Internet.{Internet, Place, IsInternet, ports_of, port_of}
use Rattle.ipx_internet.specs.Queue.{Delivery, Queued, deliveries_of, history_of, with_event, sends_at, queued, settled_one}
use Rattle.ipx_internet.specs.Rounds.{IsDelivery}
use Rattle.ipx_internet.specs.Run.{Step, Happens, Settles, IsStep, AreHistories, Run, Waiting, forgotten, stepped, run_of}
use Rattle.ipx_internet.specs.Ticks.{seconds_of, IsOfTick, ticked, AreTicks}
use Rattle.ipx_internet.proofs.deliveries.QueueOfARun.{events, deliveries}
use Rattle.ipx_internet.proofs.deliveries.WaitsAfterDelivery.{there}
use Rattle.ipx_internet.proofs.lists.EachElement.{all_of, all_then, all-append}
use Rattle.ipx_internet.proofs.packets.SentOnOrReply.{Layouts, IsCast}
use Rattle.ipx_internet.proofs.places.OneReceiverOfANode.{ports_at, receives_is}
use Rattle.ipx_internet.proofs.rounds.OneRound.{each_delivery}
use Rattle.ipx_internet.proofs.trees.RunIsALog.{histories_more}
use Rattle.ipx_laws.specs.Apart.{TellsOnlyOf, AreTicksBeside}
use Rattle.ipx_laws.specs.Meanwhile.{message_of, TellsNoRoute, LeavesPorts, SaysOnly, EachTick, AreTicksOfHosts, AreCalmTicks}
use Rattle.ipx_laws.specs.Ups.{ups}
use Rattle.ipx_laws.proofs.packets.BroadcastEachSecond.{all_cast}
use Rattle.ipx_laws.proofs.packets.RoutesOrSilence.{TellsApart, IsSpoken, none_of_foreign, cast_spoken, of_apart, of_own}
use Rattle.ipx_laws.proofs.records.RecordsGrowOld.{passed}
use Rattle.ipx_laws.proofs.ticks.RealOrSoonEnded.{RouteSaid, Comes, Arrives, Endures, at_begin, second_endures, packet_endures, routes_said, changes_said}

-- ---- seconds that are left

pub second_here : (router : ℕ) (rest : List Step) → seconds_of router (Happens router Second ∷ rest) ≡ suc (seconds_of router rest)
second_here router rest = let same = eq-eqb router router refl in rw same refl

pub second_there : (router other : ℕ) (event : Event) (rest : List Step) → other ≢ router → seconds_of other (Happens router event ∷ rest) ≡ seconds_of other rest
second_there router other event rest off = let apart : (router == other) ≡ false = ne_eqb router other (λ e. off (sym e)) in rw apart refl

-- a packet is no second
packet_here : (router number : ℕ) (bytes : List ℕ) (rest : List Step) → seconds_of router (Happens router (Packet number bytes) ∷ rest) ≡ seconds_of router rest
packet_here router number bytes rest = let same = eq-eqb router router refl in rw same refl

-- ---- such ticks

-- no port changes in it, and what hosts say tells of no route but to networks of the list
pub record IsCalmTick (net : Internet) (most_routes most_services : ℕ) (foreign : List Network) (run : Run) (steps : List Step) : Type 0 where
  pub busy : IsBusyTick net most_routes most_services run steps
  pub leaves : AllByRecursion LeavesPorts steps
  pub says : AllByRecursion (SaysOnly (TellsOnlyOf foreign)) steps

abbrev pub CalmTicks : Internet → ℕ → ℕ → List Network → Run → List (List Step) → Type 0
CalmTicks net most_routes most_services foreign = EachTick net most_routes most_services (IsCalmTick net most_routes most_services foreign)

module _ (net : Internet) (most_routes most_services : ℕ) where
  pub ticks_beside : (foreign : List Network) (run : Run) (ticks : List (List Step)) → AreTicksBeside net most_routes most_services foreign run ticks
      → CalmTicks net most_routes most_services foreign run ticks
  ticks_beside foreign run [] ((busy, leave), says) = tt
  ticks_beside foreign run (steps ∷ ticks) ((busy, leave), says) =
      grind (arith, ticks_beside foreign (run_of net most_routes most_services run steps) ticks ((busy.1, leave.1), says.1))

  -- what tells of no route tells of none to such networks
  says_beside : (foreign : List Network) (step : Step) → SaysOnly TellsNoRoute step → SaysOnly (TellsOnlyOf foreign) step
  says_beside foreign (Happens router (Packet number bytes)) says = some (message_of bytes) says
    where
      some : (o : Option Heard) → IfSome o TellsNoRoute → IfSome o (TellsOnlyOf foreign)
      some None says = tt
      some (Some m) says = none_of_foreign foreign m says
  says_beside foreign (Happens router Second) says = tt
  says_beside foreign (Happens router Start) says = tt
  says_beside foreign (Happens router Stop) says = tt
  says_beside foreign (Happens router (PortDown number)) says = tt
  says_beside foreign (Happens router (PortUp number)) says = tt
  says_beside foreign Settles says = tt

  pub calm_beside : (foreign : List Network) (run : Run) (ticks : List (List Step)) → AreCalmTicks net most_routes most_services run ticks
      → AreTicksBeside net most_routes most_services foreign run ticks
  calm_beside foreign run ticks (of_hosts, says) = (
    of_hosts,
    all_then (AllByRecursion (SaysOnly TellsNoRoute)) (AllByRecursion (SaysOnly (TellsOnlyOf foreign)))
        (λ steps all. all_then (SaysOnly TellsNoRoute) (SaysOnly (TellsOnlyOf foreign)) (says_beside foreign) steps all) ticks says,
  )

  pub calm_ticks : (foreign : List Network) (run : Run) (ticks : List (List Step)) → AreCalmTicks net most_routes most_services run ticks
      → CalmTicks net most_routes most_services foreign run ticks
  calm_ticks foreign run ticks calm = ticks_beside foreign run ticks (calm_beside foreign run ticks calm)

  -- ---- ticks in which nothing else happens

  -- a step of such a tick is a second or a delivery
  second_or_delivery : (P : Step → Type 0) → ((router : ℕ) → router < length net → P (Happens router Second)) → P Settles → (step : Step) → IsOfTick net step → P step
  second_or_delivery P second delivery step is = grind arith

  -- it says nothing
  says_nothing : (Says : Heard → Type 0) (steps : List Step) → AllByRecursion (IsOfTick net) steps → AllByRecursion (SaysOnly Says) steps
  says_nothing Says steps are = all_then (IsOfTick net) (SaysOnly Says) (second_or_delivery (SaysOnly Says) (λ router within. tt) tt) steps are

  pub all_say_nothing : (Says : Heard → Type 0) (run : Run) (ticks : List (List Step)) → AreTicks net most_routes most_services run ticks
      → AllByRecursion (AllByRecursion (SaysOnly Says)) ticks
  all_say_nothing Says run [] are = tt
  all_say_nothing Says run (steps ∷ ticks) are = search (rules, all_say_nothing Says (run_of net most_routes most_services run steps) ticks are.1, says_nothing)

  pub ticks_of_hosts : (run : Run) (ticks : List (List Step)) → AreTicks net most_routes most_services run ticks
      → AreTicksOfHosts net most_routes most_services run ticks
  ticks_of_hosts run [] are = (tt, tt)
  ticks_of_hosts run (steps ∷ ticks) are = grind (arith, ticks_of_hosts (run_of net most_routes most_services run steps) ticks are.1, all_then, second_or_delivery)

  pub ticks_are_calm : (run : Run) (ticks : List (List Step)) → AreTicks net most_routes most_services run ticks
      → AreCalmTicks net most_routes most_services run ticks
  ticks_are_calm run ticks are = (ticks_of_hosts run ticks are, all_say_nothing TellsNoRoute run ticks are)

module _ (net : Internet) (laws : Layouts) (is : IsInternet net) (most_routes most_services : ℕ) (up : ℕ → List ℕ) (foreign : List Network) where
  abbrev pub at : ℕ → ℕ → Place
  at router j = record { router = router; port = j }

  -- what a router says waits for those that it reaches
  pub all_come : (P : Place → RipEntry → Type 0) (histories : List History) → AreHistories net histories → (router : ℕ) (event : Event)
      → IsOnPort (ports_of net router) event → IsOfBytes event
      → AllByRecursion (IsSpoken foreign (up router) (λ j. P (at router j)) (ports_of net router)) (sends_at net most_routes most_services histories router event)
      → AllByRecursion (λ d. IsDelivery net d × Comes net up foreign P d.to d.bytes)
      (flat_map (deliveries_of net router) (sends_at net most_routes most_services histories router event))
  all_come P histories are router event on of_bytes spoken =
      let ports = ports_of net router in
      let history = history_of histories router in
      let sent = sends_at net most_routes most_services histories router event in
      let bytes = laws.bytes ports most_routes most_services history event (ports_at net is router)
      (all-append (IsOnPort ports) history (event ∷ []) (are.on_ports router) (on, tt))
      (all-append IsOfBytes history (event ∷ []) (are.of_bytes router) (of_bytes, tt)) in
      each_delivery net most_routes most_services (λ d. IsDelivery net d × Comes net up foreign P d.to d.bytes)
      (λ s. IsBytes s.bytes × IsSpoken foreign (up router) (λ j. P (at router j)) ports s) router
      (λ s to both place received.
      let got = receives_is net (at router s.port) s.link to received in (
        record { place = place; bytes = both.0 },
        elim both.1 [
          | inl own ↦ inl (at router s.port, record { other = got.other; network = got.network; on = own.0 }, own.1)
          | inr tells ↦ inr tells
        ],
      ))
      sent (all_both (λ s. IsBytes s.bytes) (IsSpoken foreign (up router) (λ j. P (at router j)) ports) sent bytes spoken)

  abbrev pub Lasts : ℕ → ℕ → History → Type 0
  Lasts router had history = Endures 0 0 net up foreign most_routes router had history

  -- what is so while a tick goes on, with the seconds that are left of each router
  pub record Going (ticks : ℕ) (left : ℕ → ℕ) (q : Queued) : Type 0 where
    pub are : AreHistories net q.histories
    pub routers : (router had : ℕ) → router < length net → had + left router ≡ ticks → Lasts router had (history_of q.histories router)
    pub few : (router : ℕ) → router < length net → (left router ≤ 1) × (left router ≤ ticks)
    pub waiting : AllByRecursion (Arrives 0 0 net up foreign ticks) q.queue

  -- ---- one event of a router

  module _ (ticks : ℕ) (histories : List History) (queue : List Delivery) (router : ℕ) (event : Event) (left rest : ℕ → ℕ)
      (within : router < length net) (on : IsOnPort (ports_of net router) event) (of_bytes : IsOfBytes event)
      (others : (other : ℕ) → other ≢ router → left other ≡ rest other)
      (going : Going ticks left (record { histories = histories; queue = queue })) where
    abbrev pub ports : List Port
    ports = ports_of net router

    abbrev pub past : History
    past = history_of histories router

    abbrev pub now : History
    now = past ++ event ∷ []

    abbrev pub had : ℕ
    had = ticks - left router

    abbrev pub before : Holding
    before = holding ports most_routes most_services past

    abbrev pub after : Holding
    after = holding ports most_routes most_services now

    abbrev pub Told : ℕ → RipEntry → Type 0
    Told j = RouteSaid 0 0 net up foreign ticks (at router j)

    pub lasted : Lasts router had past
    lasted =
        let some = (going.few router within).1 in
        going.routers router had within (omega (arith, some))

    pub soon : ticks ≤ had + 1
    soon = grind arith

    module _ (own : left router ≡ passed event 0 + rest router) (more : passed event had ≡ passed event 0 + had) (lasts : Lasts router (passed event had) now)
        (spoken : AllByRecursion (IsSpoken foreign (up router) Told ports) (sends_at net most_routes most_services histories router event)) where
      listed : router < length histories
      listed = grind arith

      lasts_as : (count : ℕ) → count + rest router ≡ ticks → Lasts router count now
      lasts_as count e = grind arith

      each_lasts : (other count : ℕ) → other < length net → count + rest other ≡ ticks → Lasts other count (history_of (with_event histories router event) other)
      each_lasts other count inside e = elim (cases_eq other router) [
        | inl same ↦
            let is_now = get_or-set_same histories router now [] listed in
            let P : ℕ → Type 0 = λ k. Lasts k count (history_of (with_event histories router event) k) in
            subst P (sym same) (subst (λ (h : History). Lasts router count h) (sym is_now)
            (lasts_as count (subst (λ (k : ℕ). count + rest k ≡ ticks) same e)))
        | inr off ↦
            let stays = get_or-set_other histories router other now [] off in
            let alike = others other off in
            subst (λ (h : History). Lasts other count h) (sym stays) (going.routers other count inside (omega (arith, e, alike)))
      ]

      fewer : (other : ℕ) → (left other ≤ 1) × (left other ≤ ticks) → (other ≡ router) ⊎ (other ≢ router) → (rest other ≤ 1) × (rest other ≤ ticks)
      fewer other given given_2 = grind arith

      pub event_goes : Going ticks rest (queued net most_routes most_services (record { histories = histories; queue = queue }) router event)
      event_goes = record {
        are = histories_more net histories router event going.are within on of_bytes;
        routers = each_lasts;
        few = λ other inside. fewer other (going.few other inside) (cases_eq other router);
        waiting =
            all-append (Arrives 0 0 net up foreign ticks) queue (flat_map (deliveries_of net router) (sends_at net most_routes most_services histories router event)) going.waiting
            (all_then (λ d. IsDelivery net d × Comes net up foreign (RouteSaid 0 0 net up foreign ticks) d.to d.bytes) (Arrives 0 0 net up foreign ticks)
            (λ d both. record { delivery = both.0; says = both.1 }) _
            (all_come (RouteSaid 0 0 net up foreign ticks) histories going.are router event on of_bytes spoken));
      }

  -- ---- a second

  -- all services
  abbrev AnyOne : ℕ → Service → Type 0
  AnyOne j s = Unit {0}

  -- what is said of all routes and of changes is all that is said
  pub second_spoken : (P : ℕ → RipEntry → Type 0) (histories : List History) (router : ℕ) → AreHistories net histories
      → let past = history_of histories router in
      let now = past ++ Second ∷ [] in
      ports_up (ports_of net router) now ≡ up router
      → ((j : ℕ) → AllByRecursion (P j) (told (ports_of net router) (up router) (offers (routes_held (ports_of net router) most_routes now)) j))
      → ((j : ℕ) → AllByRecursion (P j) (news (ports_of net router) (offers (routes_held (ports_of net router) most_routes past))
      (offers (routes_held (ports_of net router) most_routes now)) j))
      → AllByRecursion (IsSpoken foreign (up router) P (ports_of net router)) (sends_at net most_routes most_services histories router Second)
  second_spoken P histories router are same all changed =
      let ports = ports_of net router in
      let past = history_of histories router in
      let now = past ++ Second ∷ [] in
      let sent = sends_at net most_routes most_services histories router Second in
      subst (λ (us : List ℕ). AllByRecursion (IsSpoken foreign us P ports) sent) same
      (all_then (IsCast (ports_up ports now) P AnyOne ports) (IsSpoken foreign (ports_up ports now) P ports)
      (cast_spoken foreign (ports_up ports now) P AnyOne ports) sent
      (all_cast laws ports (ports_at net is router) most_routes most_services past (are.of_bytes router) P AnyOne
      (λ j. subst (λ (us : List ℕ). AllByRecursion (P j) (told ports us (offers (routes_held ports most_routes now)) j)) (sym same) (all j)) changed
      (λ j. all_of (AnyOne j) (λ s. tt) _) (λ j. all_of (AnyOne j) (λ s. tt) _)))

  module _ (ticks : ℕ) (histories : List History) (queue : List Delivery) (router : ℕ) (left rest : ℕ → ℕ) (within : router < length net)
      (own : left router ≡ suc (rest router)) (others : (other : ℕ) → other ≢ router → left other ≡ rest other)
      (going : Going ticks left (record { histories = histories; queue = queue })) where
    pub second_lasts : Lasts router (suc (ticks - left router)) (history_of histories router ++ Second ∷ [])
    second_lasts =
        second_endures 0 0 net up foreign most_routes router (ticks - left router) (history_of histories router)
        (lasted ticks histories queue router Second left rest within tt tt others going)

    pub second_goes : Going ticks rest (queued net most_routes most_services (record { histories = histories; queue = queue }) router Second)
    second_goes =
        let before_it = history_of histories router in
        let count = suc (ticks - left router) in
        let soon_enough : ticks ≤ count + 1 = let s = soon ticks histories queue router Second left rest within tt tt others going in omega (arith, s) in
        event_goes ticks histories queue router Second left rest within tt tt others going (omega (arith, own)) (omega arith) second_lasts
        (second_spoken (λ j. RouteSaid 0 0 net up foreign ticks (at router j)) histories router going.are second_lasts.ups
        (routes_said 0 0 net up foreign most_routes router count ticks soon_enough (before_it ++ Second ∷ []) second_lasts)
        (changes_said 0 0 net up foreign most_routes router count ticks soon_enough (before_it ++ Second ∷ []) second_lasts
        (offers (routes_held (ports_of net router) most_routes before_it))))

  -- ---- a delivery

  -- what is said of all routes, of changes and for an answer is all that is said, where a packet of the other routers comes, or one that
  -- tells of no route
  pub packet_spoken : (P : ℕ → RipEntry → Type 0) (R : Place → RipEntry → Type 0) (histories : List History) → AreHistories net histories → (d : Delivery)
      → IsDelivery net d → Comes net up foreign R d.to d.bytes
      → let router = d.to.router in
      let ports = ports_of net router in
      let past = history_of histories router in
      let now = past ++ Packet d.to.port d.bytes ∷ [] in
      ports_up ports past ≡ up router → ports_up ports now ≡ up router
      → ((m : Heard) → heard_after ports past d.to.port d.bytes ≡ Some m → TellsNoRoute m
      → AllByRecursion (P d.to.port) (told ports (up router) (offers (routes_held ports most_routes past)) d.to.port))
      → ((j : ℕ) → AllByRecursion (P j) (news ports (offers (routes_held ports most_routes past)) (offers (routes_held ports most_routes now)) j))
      → AllByRecursion (IsSpoken foreign (up router) P ports) (sends_at net most_routes most_services histories router (Packet d.to.port d.bytes))
  packet_spoken P R histories are d delivery comes same_before same all changed =
      let router = d.to.router in
      let ports = ports_of net router in
      let past = history_of histories router in
      let now = past ++ Packet d.to.port d.bytes ∷ [] in
      let sent = sends_at net most_routes most_services histories router (Packet d.to.port d.bytes) in
      let advertised : (m : Heard) → heard_after ports past d.to.port d.bytes ≡ Some m → TellsNoRoute m
      → AllByRecursion (P d.to.port) (told ports (ports_up ports past) (offers (routes_held ports most_routes past)) d.to.port) =
      λ m e silent. subst (λ (us : List ℕ). AllByRecursion (P d.to.port) (told ports us (offers (routes_held ports most_routes past)) d.to.port)) (sym same_before)
      (all m e silent) in
      let heard_here : (m : Heard) → heard_after ports past d.to.port d.bytes ≡ Some m → is_up (ports_up ports now) d.to.port ≡ true =
      λ m e. subst (λ (us : List ℕ). is_up us d.to.port ≡ true) (same_before ∙ sym same)
      (heard_up ports (ports_up ports past) d.to.port (running past) d.bytes m e) in
      subst (λ (us : List ℕ). AllByRecursion (IsSpoken foreign us P ports) sent) same (elim comes [
        | inl own ↦
            of_own foreign laws ports (ports_at net is router) most_routes most_services past (are.on_ports router) (are.of_bytes router) d.to.port d.bytes delivery.place
            delivery.bytes P changed advertised heard_here (R own.0) (port_of net own.0) own.1.network own.2
        | inr tells ↦
            of_apart foreign laws ports (ports_at net is router) most_routes most_services past (are.on_ports router) (are.of_bytes router)
            d.to.port d.bytes delivery.place
            delivery.bytes P changed advertised heard_here tells
      ])

  module _ (ticks : ℕ) (histories : List History) (queue : List Delivery) (d : Delivery) (left : ℕ → ℕ)
      (going : Going ticks left (record { histories = histories; queue = d ∷ queue })) where
    abbrev first : Arrives 0 0 net up foreign ticks d
    first = going.waiting.0

    pub inside : d.to.router < length net
    inside = there net laws is most_routes most_services histories going.are d first.delivery

    going_on : Going ticks left (record { histories = histories; queue = queue })
    going_on = record { are = going.are; routers = going.routers; few = going.few; waiting = going.waiting.1 }

    pub packet_lasted : Lasts d.to.router (ticks - left d.to.router) (history_of histories d.to.router)
    packet_lasted =
        lasted ticks histories queue d.to.router (Packet d.to.port d.bytes) left left inside first.delivery.place first.delivery.bytes (λ other off. refl) going_on

    pub packet_lasts : Lasts d.to.router (ticks - left d.to.router) (history_of histories d.to.router ++ Packet d.to.port d.bytes ∷ [])
    packet_lasts =
        packet_endures 0 0 net up foreign most_routes d.to.router (ticks - left d.to.router) ticks d.to.port d.bytes (omega arith) first.says (history_of histories d.to.router) packet_lasted

    pub delivery_goes : Going ticks left
        (queued net most_routes most_services (record { histories = histories; queue = queue }) d.to.router (Packet d.to.port d.bytes))
    delivery_goes =
        let router = d.to.router in
        let before_it = history_of histories router in
        let count = ticks - left router in
        let soon_enough = soon ticks histories queue router (Packet d.to.port d.bytes) left left inside first.delivery.place first.delivery.bytes (λ other off. refl) going_on in
        event_goes ticks histories queue router (Packet d.to.port d.bytes) left left inside first.delivery.place first.delivery.bytes (λ other off. refl) going_on
        (omega arith) (omega arith) packet_lasts
        (packet_spoken (λ j. RouteSaid 0 0 net up foreign ticks (at router j)) (RouteSaid 0 0 net up foreign ticks) histories going.are d first.delivery first.says packet_lasted.ups packet_lasts.ups
        (λ m e silent. routes_said 0 0 net up foreign most_routes router count ticks soon_enough before_it packet_lasted d.to.port)
        (changes_said 0 0 net up foreign most_routes router count ticks soon_enough (before_it ++ Packet d.to.port d.bytes ∷ []) packet_lasts
        (offers (routes_held (ports_of net router) most_routes before_it))))

  -- ---- steps

  -- what a packet from outside says
  pub is_apart : (bytes : List ℕ) → SaysOnly (TellsOnlyOf foreign) (Happens 0 (Packet 0 bytes)) → TellsApart foreign bytes
  is_apart bytes says m e = subst (λ (o : Option Heard). IfSome o (TellsOnlyOf foreign)) e says

  abbrev pub left_of : List Step → ℕ → ℕ
  left_of steps router = seconds_of router steps

  -- any property of such a run, with the seconds that are left, that seconds and deliveries keep
  pub record IsKept (Goes : (ℕ → ℕ) → Queued → Type 0) : Type 0 where
    pub same : (left rest : ℕ → ℕ) (q : Queued) → ((router : ℕ) → left router ≡ rest router) → Goes left q → Goes rest q
    pub second : (histories : List History) (queue : List Delivery) (router : ℕ) (left rest : ℕ → ℕ) → router < length net
        → left router ≡ suc (rest router) → ((other : ℕ) → other ≢ router → left other ≡ rest other)
        → Goes left (record { histories = histories; queue = queue })
        → Goes rest (queued net most_routes most_services (record { histories = histories; queue = queue }) router Second)
    pub delivery : (histories : List History) (queue : List Delivery) (d : Delivery) (left : ℕ → ℕ)
        → Goes left (record { histories = histories; queue = d ∷ queue })
        → Goes left (queued net most_routes most_services (record { histories = histories; queue = queue }) d.to.router (Packet d.to.port d.bytes))
    pub comes : (histories : List History) (queue : List Delivery) (d : Delivery) (left : ℕ → ℕ) → IsDelivery net d → TellsApart foreign d.bytes
        → Goes left (record { histories = histories; queue = queue }) → Goes left (record { histories = histories; queue = d ∷ queue })

  module _ (Goes : (ℕ → ℕ) → Queued → Type 0) (kept : IsKept Goes) where
    settles : (left : ℕ → ℕ) (histories : List History) (queue : List Delivery) → Goes left (record { histories = histories; queue = queue })
        → Goes left (settled_one net most_routes most_services (record { histories = histories; queue = queue }))
    settles left histories queue goes = grind arith

    happens_so : (rest : List Step) (q : Queued) (router : ℕ) (event : Event) → IsStep net (Happens router event) → LeavesPorts (Happens router event)
        → SaysOnly (TellsOnlyOf foreign) (Happens router event) → Goes (left_of (Happens router event ∷ rest)) q
        → Goes (left_of rest) (queued net most_routes most_services q router event)
    happens_so rest q router Second is_step leaves says goes =
        kept.second q.histories q.queue router (left_of (Happens router Second ∷ rest)) (left_of rest) is_step.0 (second_here router rest)
        (λ other off. second_there router other Second rest off) goes
    happens_so rest q router (Packet number bytes) is_step leaves says goes =
        let d : Delivery = record { to = at router number; bytes = bytes } in
        kept.delivery q.histories q.queue d (left_of rest)
        (kept.comes q.histories q.queue d (left_of rest) (record { place = is_step.1; bytes = is_step.2 }) (is_apart bytes says)
        (kept.same (left_of (Happens router (Packet number bytes) ∷ rest)) (left_of rest) q (λ other. elim (cases_eq other router) [
          | inl same ↦ subst (λ (k : ℕ). left_of (Happens router (Packet number bytes) ∷ rest) k ≡ left_of rest k) (sym same) (packet_here router number bytes rest)
          | inr off ↦ second_there router other (Packet number bytes) rest off
        ]) goes))
    happens_so rest q router Start is_step leaves says goes = absurd leaves
    happens_so rest q router Stop is_step leaves says goes = absurd leaves
    happens_so rest q router (PortDown number) is_step leaves says goes = absurd leaves
    happens_so rest q router (PortUp number) is_step leaves says goes = absurd leaves

    pub step_so : (step : Step) (rest : List Step) (run : Run) → IsStep net step → LeavesPorts step → SaysOnly (TellsOnlyOf foreign) step
        → Goes (left_of (step ∷ rest)) (forgotten run) → Goes (left_of rest) (forgotten (stepped net most_routes most_services run step))
    step_so (Happens router event) rest run is_step leaves says goes = search (rules, events, happens_so)
    step_so Settles rest run is_step leaves says goes = grind (arith, deliveries, settles)

    pub steps_so : (steps : List Step) (run : Run) → AllByRecursion (IsStep net) steps → AllByRecursion LeavesPorts steps
        → AllByRecursion (SaysOnly (TellsOnlyOf foreign)) steps → Goes (left_of steps) (forgotten run)
        → Goes (left_of []) (forgotten (run_of net most_routes most_services run steps))
    steps_so [] run all leave say goes = goes
    steps_so (step ∷ steps) run all leave say goes = grind (arith, steps_so steps (stepped net most_routes most_services run step) all.1 leave.1 say.1 (step_so step steps run all.0 leave.0 say.0 goes))

  pub going_kept : (ticks : ℕ) → IsKept (Going ticks)
  going_kept ticks = record {
    same = λ left rest q alike going. record {
      are = going.are;
      routers = λ router had within e. let a = alike router in going.routers router had within (omega (arith, a, e));
      few = λ router within.
          let a = alike router in
          let few = going.few router within in
          let one = few.0 in
          let some = few.1 in
          (omega (arith, a, one), omega (arith, a, some));
      waiting = going.waiting;
    };
    second = second_goes ticks;
    delivery = delivery_goes ticks;
    comes = λ histories queue d left delivery tells going. record {
      are = going.are;
      routers = going.routers;
      few = going.few;
      waiting = (record { delivery = delivery; says = inr tells }, going.waiting);
    };
  }

  -- ---- ticks

  -- after so many ticks, where nothing waits
  pub record Rests (ticks : ℕ) (run : Run) : Type 0 where
    pub are : AreHistories net run.histories
    pub routers : (router : ℕ) → router < length net → Lasts router ticks (history_of run.histories router)
    pub quiet : run.waiting ≡ []

  none_waits : (ticks : ℕ) (waiting : List Waiting) → waiting ≡ [] → AllByRecursion (Arrives 0 0 net up foreign ticks) (map (λ w. w.delivery) waiting)
  none_waits ticks waiting none = subst (λ (ws : List Waiting). AllByRecursion (Arrives 0 0 net up foreign ticks) (map (λ w. w.delivery) ws)) (sym none) tt

  -- when a tick begins, and when it is over
  pub begins : (ticks : ℕ) (run : Run) (steps : List Step) → Rests ticks run → IsBusyTick net most_routes most_services run steps
      → Going (suc ticks) (left_of steps) (forgotten run)
  begins ticks run steps rests tick = record {
    are = rests.are;
    routers = λ router had within e.
        let one = tick.each router within in
        let all : had ≡ ticks = omega (arith, one, e) in
        subst (λ (n : ℕ). Lasts router n (history_of run.histories router)) (sym all) (rests.routers router within);
    few = λ router within. let one = tick.each router within in (omega (arith, one), omega (arith, one));
    waiting = none_waits (suc ticks) run.waiting rests.quiet;
  }

  pub ends : (ticks : ℕ) (run : Run) → Going ticks (left_of []) (forgotten run) → run.waiting ≡ [] → Rests ticks run
  ends ticks run going quiet = record {
    are = going.are;
    routers = λ router within. going.routers router ticks within (omega arith);
    quiet = quiet;
  }

  pub tick_rests : (ticks : ℕ) (run : Run) (steps : List Step) → Rests ticks run → IsCalmTick net most_routes most_services foreign run steps
      → Rests (suc ticks) (run_of net most_routes most_services run steps)
  tick_rests ticks run steps rests tick =
      ends (suc ticks) (run_of net most_routes most_services run steps)
      (steps_so (Going (suc ticks)) (going_kept (suc ticks)) steps run tick.busy.happens tick.leaves tick.says (begins ticks run steps rests tick.busy)) tick.busy.quiet

  pub ticks_rest : (so_far : ℕ) (run : Run) (ticks : List (List Step)) → Rests so_far run → CalmTicks net most_routes most_services foreign run ticks
      → Rests (length ticks + so_far) (ticked net most_routes most_services run ticks)
  ticks_rest so_far run [] rests are = grind arith
  ticks_rest so_far run (steps ∷ ticks) rests are =
      let next = run_of net most_routes most_services run steps in
      let later = ticks_rest (suc so_far) next ticks (tick_rests so_far run steps rests are.0) are.1 in
      let same : length ticks + suc so_far ≡ length (steps ∷ ticks) + so_far = omega arith in
      subst (λ (n : ℕ). Rests n (ticked net most_routes most_services next ticks)) same later

  pub quiet_rests : (run : Run) → AreHistories net run.histories → ((router : ℕ) → ups net run.histories router ≡ up router) → run.waiting ≡ [] → Rests 0 run
  quiet_rests run are same quiet = search (rules, at_begin)

  -- after ticks from there
  pub rested : (run : Run) (ticks : List (List Step)) → AreHistories net run.histories → ((router : ℕ) → ups net run.histories router ≡ up router)
      → run.waiting ≡ [] → CalmTicks net most_routes most_services foreign run ticks → Rests (length ticks) (ticked net most_routes most_services run ticks)
  rested run ticks are same quiet passes =
      let count : length ticks + 0 ≡ length ticks = omega arith in
      subst (λ (n : ℕ). Rests n (ticked net most_routes most_services run ticks)) count (ticks_rest 0 run ticks (quiet_rests run are same quiet) passes)
