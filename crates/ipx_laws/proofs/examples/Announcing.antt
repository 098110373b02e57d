-- The host of `Hosts` on 10h announces its file server in each of as many ticks as one likes: so what the laws of services ask for is met by
-- 3,000 ticks as by one, and by as many beats over wires, and after these the second router has the server, two hops away.
use Rattle.std.proofs.Common.{◌≡◌, refl, sym, ap, ◌∙◌, subst, ℕ, zero, suc, ◌<◌, ◌≤◌, Bool, true, false, List, [], ◌∷◌, ◌++◌, length, map, replicate, Some, inl, inr, arith, append_assoc, append-nil, true≢false}
use Rattle.std.specs.List.{AllByRecursion}
use Rattle.std.proofs.lemmas.Bool.{cases_Bool}
use Rattle.ipx_wire.specs.Address.{address_bytes, address_at}
use Rattle.ipx_wire.specs.Crossed.{network_bytes, network_at}
use Rattle.ipx_wire.specs.Header.{header_bytes, header_at}
use Rattle.ipx_wire.specs.Items.{items}
use Rattle.ipx_wire.specs.Name.{name_field, name_of}
use Rattle.ipx_wire.specs.Packet.{packet_of}
use Rattle.ipx_wire.specs.Rip.{entry_bytes, entry_at, rip_of}
use Rattle.ipx_wire.specs.Sap.{sap_of}
use Rattle.ipx_wire.specs.SapEntries.{sap_entry_at}
use Rattle.ipx_wire.specs.WriteServices.{service_bytes, entry_of}
use Rattle.ipx_wire.specs.declared.network.Network.{Network}
use Rattle.ipx_wire.specs.declared.sap.Sap.TheVariants.{Response}
use Rattle.ipx_router.specs.Numbers.{period}
use Rattle.ipx_router.specs.Heard.{Heard, HeardSap, heard}
use Rattle.ipx_router.specs.History.{History, Second, Packet, running}
use Rattle.ipx_router.specs.Port.{is_up, own_services}
use Rattle.ipx_router.proofs.histories.OneEventMore.{none_up}
use Rattle.ipx_router.proofs.port_values.PortOfEachNumber.{ports_up-within}
use Rattle.ipx_internet.specs.BusyTick.{IsBusyTick}
use Rattle.ipx_internet.specs.Internet.{Place, ports_of, network_of}
use Rattle.ipx_internet.specs.Queue.{history_of}
use Rattle.ipx_internet.specs.Rounds.{IsDelivery}
use Rattle.ipx_internet.specs.Run.{Step, Happens, Settles, Run, Waiting, forgotten, run_of}
use Rattle.ipx_internet.specs.Ticks.{seconds_of, ticked}
use Rattle.ipx_internet.proofs.examples.Waiting.{segment}
use Rattle.ipx_internet.proofs.examples.Words.{network, node, port_on, at}
use Rattle.ipx_internet.proofs.packets.SentOnOrReply.{Layouts}
use Rattle.ipx_internet.proofs.ticks.TickCanBeHad.{sound_run, can_be_busy}
use Rattle.ipx_laws.specs.HeardInTicks.{InTicks}
use Rattle.ipx_laws.specs.InTime.{AreQuick}
use Rattle.ipx_laws.specs.Meanwhile.{LeavesPorts, SaysOnly, EachTick}
use Rattle.ipx_laws.specs.Regular.{IsListedName, IsServiceSetting, most_ticks_known, IsHeard, AreInTime}
use Rattle.ipx_laws.specs.Servers.{Announcer, NamesOnly, at_hops, known_of, SaysNoFalse}
use Rattle.ipx_laws.specs.Tables.{services_of}
use Rattle.ipx_laws.specs.Ups.{ups}
use Rattle.ipx_laws.specs.WireRegular.{AreRegularBeats, AreRoutersInTime, most_beats_known}
use Rattle.ipx_laws.specs.Wires.{WireStep, still, beats_of, AreBeats, EachWireStep}
use Rattle.ipx_laws.proofs.examples.Hosts.{server, said, start, names, bytes, says, names_it, the_host, one_voice, room}
use Rattle.ipx_laws.proofs.examples.Neighbours.{second_fewest}
use Rattle.ipx_laws.proofs.examples.Premises.{are}
use Rattle.ipx_laws.proofs.examples.Rights.{made, differ}
use Rattle.ipx_laws.proofs.ticks.AfterRest.{Kept, steps_keep}
use Rattle.ipx_laws.proofs.wires.HeardInBeats.{hosts_apart}
use Rattle.ipx_laws.proofs.wires.KnownOnWires.{known_last}
use Rattle.ipx_laws.proofs.wires.ServicesInLockStep.{AtEnd, at_end}

-- ---- one tick

-- the host is heard first, then both routers have their seconds, and then so many deliveries happen
abbrev first : List Step
first = Happens 0 (Packet 0 (said 0x10)) ∷ Happens 0 Second ∷ Happens 1 Second ∷ []

abbrev pub tick_of : ℕ → List Step
tick_of n = first ++ replicate n Settles

each_once : (router : ℕ) → router < 2 → seconds_of router first ≡ 1
each_once router within = grind arith

many : (P : Step → Type 0) → P Settles → (n : ℕ) → AllByRecursion P (replicate n Settles)
many P one zero = tt
many P one (suc n) = (one, many P one n)

abbrev IsOne : List Step → Type 0
IsOne steps = (n : ℕ) × (steps ≡ tick_of n)

leaves_ports : (steps : List Step) → IsOne steps → AllByRecursion LeavesPorts steps
leaves_ports steps one = subst (λ (ss : List Step). AllByRecursion LeavesPorts ss) (sym one.1) (tt, (tt, (tt, many LeavesPorts tt one.0)))

says_no_false : (steps : List Step) → IsOne steps → AllByRecursion (SaysNoFalse segment (server 0x10)) steps
says_no_false steps one =
    subst (λ (ss : List Step). AllByRecursion (SaysNoFalse segment (server 0x10)) ss) (sym one.1)
    (says, (tt, (tt, many (SaysNoFalse segment (server 0x10)) tt one.0)))

names_listed : (steps : List Step) → IsOne steps → AllByRecursion (SaysOnly (NamesOnly (IsListedName names))) steps
names_listed steps one =
    subst (λ (ss : List Step). AllByRecursion (SaysOnly (NamesOnly (IsListedName names))) ss) (sym one.1)
    (names_it, (tt, (tt, many (SaysOnly (NamesOnly (IsListedName names))) tt one.0)))

each_of : (P : Step → Type 0) → ((steps : List Step) → IsOne steps → AllByRecursion P steps) → (ticks : List (List Step)) → AllByRecursion IsOne ticks
    → AllByRecursion (AllByRecursion P) ticks
each_of P of_one [] ones = tt
each_of P of_one (steps ∷ ticks) ones = (of_one steps ones.0, each_of P of_one ticks ones.1)

-- ---- where the host is heard

abbrev pub host : Announcer
host = record { network = network 0x10; node = node 0xAA; hops = 1 }

abbrev message : Heard
message = HeardSap (own_services (port_on 0x10 0xAA)) (Response false (entry_of (at_hops (server 0x10) 1) ∷ []))

-- by a router that runs, with both ports up
pub heard_so : heard (ports_of segment 0) (0 ∷ 1 ∷ []) true 0 (said 0x10) ≡ Some message
unfolding header_bytes address_bytes network_bytes service_bytes name_field packet_of header_at address_at items network_at entry_bytes entry_at rip_of sap_of sap_entry_at name_of
heard_so = refl

-- the only port on its network
pub the_port : (router port : ℕ) → (network_of segment (at router port)).0 ≡ 0x10 → at router port ≡ at 0 0
the_port router port e = grind arith

pub setting : IsServiceSetting segment 8 start.histories names (server 0x10)
setting = (made, are, one_voice, room, (0, refl))

module _ (laws : Layouts) where
  abbrev pub up : ℕ → List ℕ
  up = ups segment start.histories

  abbrev IsKept : Run → Type 0
  IsKept run = Kept segment laws made 8 8 up (forgotten run)

  heard_first : (run : Run) → IsKept run → IsHeard segment 8 8 (server 0x10) (at 0 0) host run (Happens 0 (Packet 0 (said 0x10)))
  heard_first run kept = (
    refl,
    refl,
    message,
    subst (λ (us : List ℕ). heard (ports_of segment 0) us (running past) 0 (said 0x10) ≡ Some message) (sym (kept.stay 0))
        (subst (λ (b : Bool). heard (ports_of segment 0) (0 ∷ 1 ∷ []) b 0 (said 0x10) ≡ Some message) (sym runs) heard_so),
    (refl, 0, refl),
  )
    where
      past : History
      past = history_of run.histories 0

      runs : running past ≡ true
      runs = elim (cases_Bool (running past)) [
        | inl is_so ↦ is_so
        | inr stopped ↦
            let none : is_up [] 0 ≡ true =
            subst (λ (us : List ℕ). is_up us 0 ≡ true) (sym (kept.stay 0) ∙ none_up (ports_of segment 0) past stopped) refl in
            absurd (true≢false (sym none))
      ]

  abbrev IsHeardIn : Place → Announcer → Run → List (List Step) → Type 0
  IsHeardIn to announcer = InTicks segment 8 8 (IsHeard segment 8 8 (server 0x10) to announcer)

  heard_in : (window after : List (List Step)) → length window ≡ period → AllByRecursion IsOne (window ++ after) → (run : Run) → IsKept run
      → IsHeardIn (at 0 0) host run window
  heard_in [] after minute ones run kept = absurd (omega (arith, minute))
  heard_in (steps ∷ window) after minute ones run kept = grind (arith, segment, server, at, heard_first)

  -- so far all is kept, and what follows are such ticks
  goes_on : (before rest : List (List Step)) (run : Run) → IsKept run → EachTick segment 8 8 (IsBusyTick segment 8 8) run (before ++ rest)
      → AllByRecursion IsOne (before ++ rest) → IsKept (ticked segment 8 8 run before) × AllByRecursion IsOne rest
  goes_on [] rest run kept busy ones = (kept, ones)
  goes_on (steps ∷ before) rest run kept busy ones =
      goes_on before rest (run_of segment 8 8 run steps)
      (steps_keep segment laws made 8 8 up run steps busy.0.happens (leaves_ports steps ones.0) kept) busy.1 ones.1

  begins : IsKept start
  begins = record { sound = sound_run segment laws made 8 8 start are tt; stay = λ router. refl }

  heard_in_time : (ticks : List (List Step)) → EachTick segment 8 8 (IsBusyTick segment 8 8) start ticks → AllByRecursion IsOne ticks
      → AreInTime segment 8 8 (server 0x10) up start ticks
  heard_in_time ticks busy ones which other to listed on on_network before window after whole minute =
      let is_host = the_host which other listed in
      let place : to ≡ at 0 0 = the_port to.router to.port (ap (λ (n : Network). n.0) (on_network ∙ ap (λ (h : Announcer). h.network) is_host)) in
      let all = whole ∙ append_assoc before window after in
      let both = goes_on before (window ++ after) start begins
      (subst (λ (ts : List (List Step)). EachTick segment 8 8 (IsBusyTick segment 8 8) start ts) all busy)
      (subst (λ (ts : List (List Step)). AllByRecursion IsOne ts) all ones) in
      subst (λ (p : Place). IsHeardIn p other (ticked segment 8 8 start before) window) (sym place)
      (subst (λ (h : Announcer). IsHeardIn (at 0 0) h (ticked segment 8 8 start before) window) (sym is_host)
      (heard_in window after minute both.1 (ticked segment 8 8 start before) both.0))

  -- ---- as many as one likes

  has_ticks : (n : ℕ) (run : Run) → IsKept run → run.waiting ≡ []
      → (ticks : List (List Step)) × (length ticks ≡ n) × EachTick segment 8 8 (IsBusyTick segment 8 8) run ticks × AllByRecursion IsOne ticks
  has_ticks zero run kept quiet = ([], refl, tt, tt)
  has_ticks (suc n) run kept quiet =
      let waits = subst (λ (ws : List Waiting). AllByRecursion (λ w. IsDelivery segment w.delivery) ws) (sym quiet) tt in
      let (k, busy) = can_be_busy segment laws made 8 8 run first kept.sound.are waits
      ((omega arith, omega arith, bytes), ((omega arith, tt, tt), ((omega arith, tt, tt), tt))) each_once in
      let next = run_of segment 8 8 run (tick_of k) in
      let (ticks, as_many, each, ones) = has_ticks n next (steps_keep segment laws made 8 8 up run (tick_of k) busy.happens (leaves_ports (tick_of k) (k, refl)) kept) busy.quiet in
      (tick_of k ∷ ticks, ap suc as_many, (busy, each), ((k, refl), ones))

  -- and they are as the laws ask
  pub record Announced (n : ℕ) : Type 0 where
    pub ticks : List (List Step)
    pub as_many : length ticks ≡ n
    pub busy : EachTick segment 8 8 (IsBusyTick segment 8 8) start ticks
    pub leave : AllByRecursion (AllByRecursion LeavesPorts) ticks
    pub say : AllByRecursion (AllByRecursion (SaysNoFalse segment (server 0x10))) ticks
    pub name : AllByRecursion (AllByRecursion (SaysOnly (NamesOnly (IsListedName names)))) ticks
    pub in_time : AreInTime segment 8 8 (server 0x10) (ups segment start.histories) start ticks

  pub any_number : (n : ℕ) → Announced n
  any_number n =
      let (ticks, as_many, busy, ones) = has_ticks n start begins refl in
      record {
        ticks = ticks;
        as_many = as_many;
        busy = busy;
        leave = each_of LeavesPorts leaves_ports ticks ones;
        say = each_of (SaysNoFalse segment (server 0x10)) says_no_false ticks ones;
        name = each_of (SaysOnly (NamesOnly (IsListedName names))) names_listed ticks ones;
        in_time = heard_in_time ticks busy ones;
      }

  -- ---- over wires

  -- beats in which the same happens are as the laws over wires ask
  pub record AnnouncedInBeats (n : ℕ) : Type 0 where
    pub beats : List (List WireStep)
    pub as_many : length beats ≡ n
    pub all : AreBeats segment beats
    pub leave : EachWireStep LeavesPorts beats
    pub quick : AreQuick segment period beats
    pub regular : AreRegularBeats segment 8 8 0 (server 0x10) period names up (still start.histories) beats
    pub routers : AreRoutersInTime segment 8 8 0 (server 0x10) period up (still start.histories) beats

  ended : (n : ℕ) (it : Announced n) → AtEnd segment laws made 8 8 start [] are (tt, tt, refl) tt it.ticks
  ended n it = at_end segment laws made 8 8 start [] are (tt, tt, refl) tt it.ticks (it.busy, it.leave)

  pub in_beats : (n : ℕ) → Announced n → AnnouncedInBeats n
  in_beats n it =
      let on = ended n it in
      let suits = on.suits in
      record {
        beats = on.beats;
        as_many = on.as_long ∙ it.as_many;
        all = suits.all;
        leave = suits.leave;
        quick = suits.quick;
        regular = suits.regular (server 0x10) names (it.say, it.name, it.in_time);
        routers = suits.routers (server 0x10) differ;
      }

  -- so the second router has it then
  pub second_has : (n : ℕ) → most_beats_known 0 period 1 2 ≤ n → (it : AnnouncedInBeats n)
      → known_of (server 0x10) (services_of segment 8 (beats_of segment 8 8 0 (still start.histories) it.beats).histories 1) ≡ Some (at_hops (server 0x10) 2)
  second_has n long it =
      let count = it.as_many in
      known_last 0 0 segment laws made 8 8 up (server 0x10) names
      (hosts_apart segment 8 8 0 (server 0x10) period up (still start.histories) it.beats one_voice it.regular.2 (omega (arith, count, long)))
      (λ k. ports_up-within (ports_of segment k) (history_of start.histories k)) room (0, refl) 1
      (λ which other listed. let one = ap (λ (h : Announcer). h.hops) (the_host which other listed) in omega (arith, one)) period start.histories are (λ other. refl)
      [] tt (inl refl) it.beats it.all it.leave it.regular.0 it.regular.1 it.quick it.regular.2 differ it.routers 2 (omega arith) it.beats []
      (sym (append-nil it.beats)) (omega (arith, count, long)) 1 (omega arith) second_fewest

  -- and so after the ticks
  pub second_has_after_ticks : (n : ℕ) → most_ticks_known 1 2 ≤ n → (it : Announced n)
      → known_of (server 0x10) (services_of segment 8 (ticked segment 8 8 start it.ticks).histories 1) ≡ Some (at_hops (server 0x10) 2)
  unfolding in_beats
  second_has_after_ticks n long it =
      subst (λ (hs : List History). known_of (server 0x10) (services_of segment 8 hs 1) ≡ Some (at_hops (server 0x10) 2)) (ended n it).same
      (second_has n (omega (arith, long)) (in_beats n it))

  pub enough : map (λ f. f 1 2) (most_ticks_known ∷ most_beats_known 0 period ∷ []) ≡ 3000 ∷ 3000 ∷ []
  enough = refl
