-- What the law of tables that stay asks for is met by the two routers on one segment of `Premises`, that were started and
-- of which what they sent was lost: by the ticks of two periods, and by those of one in which a host announces a server, and one more in
-- which it does so again: the services stay.
use Rattle.std.proofs.lemmas.Grind.{common_steps}
use Rattle.std.proofs.Common.{◌≡◌, refl, ap, sym, ◌∙◌, get_or, drop, ℕ, ◌+◌, ◌*◌, ◌-◌, zero, suc, ◌<◌, List, [], ◌∷◌, ◌++◌, length, map, replicate, arith}
use Rattle.std.specs.List.{AllByRecursion}
use Rattle.ipx_wire.specs.Address.{address_bytes, address_at}
use Rattle.ipx_wire.specs.Crossed.{network_bytes, network_at}
use Rattle.ipx_wire.specs.Items.{items}
use Rattle.ipx_wire.specs.Header.{header_bytes, header_at}
use Rattle.ipx_wire.specs.Name.{name_field, name_of}
use Rattle.ipx_wire.specs.Packet.{packet_of}
use Rattle.ipx_wire.specs.Rip.{entry_bytes, entry_at, rip_of}
use Rattle.ipx_wire.specs.Sap.{sap_of}
use Rattle.ipx_wire.specs.SapEntries.{sap_entry_at}
use Rattle.ipx_wire.specs.WriteServices.{service_bytes}
use Rattle.ipx_wire.specs.declared.network.Network.{Network}
use Rattle.ipx_router.specs.Numbers.{period}
use Rattle.ipx_router.specs.History.{Second, Packet}
use Rattle.ipx_router.specs.Port.{numbers}
use Rattle.ipx_router.specs.declared.service_offer.ServiceOffer.{ServiceOffer}
use Rattle.ipx_internet.specs.BusyTick.{IsBusyTick}
use Rattle.ipx_internet.specs.Run.{Step, Happens, Settles, IsStep, Run, begun, stepped, run_of}
use Rattle.ipx_internet.specs.Ticks.{seconds_of, AreTicks, a_tick, ticked}
use Rattle.ipx_internet.proofs.examples.Waiting.{segment}
use Rattle.ipx_internet.proofs.examples.Words.{node}
use Rattle.ipx_laws.specs.Least.{FifteenSuffice}
use Rattle.ipx_laws.specs.Meanwhile.{TellsNoRoute, LeavesPorts, SaysOnly, EachTick}
use Rattle.ipx_laws.specs.Upkeep.{has, HaveTheServices, ServicesStay, steps_of}
use Rattle.ipx_laws.specs.Ups.{ups}
use Rattle.ipx_laws.proofs.examples.Premises.{started, ticks, a_period, left, are_by, each_once, bytes}
use Rattle.ipx_laws.proofs.examples.Rights.{made}
use Rattle.ipx_laws.proofs.examples.Servers.{server, announcement}
use Rattle.ipx_laws.proofs.tables.FifteenHopsSuffice.{of_few_routers}
use Rattle.ipx_laws.proofs.tables.LeastWays.{ups_within}

pub suffice : (n : Network) → FifteenSuffice segment (ups segment started) n
suffice n = of_few_routers segment (ups segment started) (ups_within segment started) made n (omega arith)

-- ---- nothing but ticks

none_left : left 1 (begun started) (a_period ++ a_period) ≡ replicate (2 * period) 0
unfolding header_bytes address_bytes network_bytes packet_of header_at address_at items network_at entry_bytes entry_at rip_of sap_of
none_left = refl

pub alone : AreTicks segment 1 1 (begun started) (ticks a_period ++ ticks a_period)
alone = are_by 1 (begun started) (a_period ++ a_period) none_left

-- ---- a host announces a server

-- in a tick it does, or there are so many deliveries
abbrev tick_of : ℕ → List Step
tick_of zero = Happens 0 Second ∷ Happens 0 (Packet 0 announcement) ∷ Happens 1 Second ∷ replicate 4 Settles
tick_of (suc n) = a_tick 2 n

-- in the first tick of a period, of which the last has three deliveries, and then again
abbrev first_minute : List ℕ
first_minute = 0 ∷ replicate (period - 2) 1 ++ 4 ∷ []

abbrev ticks_of : List ℕ → List (List Step)
ticks_of kinds = map tick_of kinds

-- how many deliveries wait after each
abbrev waits : Run → List ℕ → List ℕ
waits run [] = []
waits run (kind ∷ kinds) =
    let next = run_of segment 8 8 run (tick_of kind) in
    length next.waiting ∷ waits next kinds

none_waits : waits (begun started) (first_minute ++ 0 ∷ []) ≡ replicate (period + 1) 0
unfolding header_bytes address_bytes network_bytes service_bytes name_field packet_of header_at address_at items network_at entry_bytes entry_at rip_of sap_of sap_entry_at name_of
none_waits = refl

all_settle : (Is : Step → Type 0) → Is Settles → (n : ℕ) → AllByRecursion Is (replicate n Settles)
all_settle Is is zero = tt
all_settle Is is (suc n) = (is, all_settle Is is n)

happens : (kind : ℕ) → AllByRecursion (IsStep segment) (tick_of kind)
happens zero = ((omega arith, tt, tt), ((omega arith, omega arith, bytes), ((omega arith, tt, tt), (tt, (tt, (tt, (tt, tt)))))))
happens (suc n) = ((omega arith, tt, tt), ((omega arith, tt, tt), all_settle (IsStep segment) tt n))

each : (kind router : ℕ) → router < 2 → seconds_of router (tick_of kind) ≡ 1
each kind router within = grind (arith, each_once)

empty : {X : Type 0} (xs : List X) → length xs ≡ 0 → xs ≡ []
empty xs e = grind (arith, common_steps)

busy_by : (run : Run) (kinds : List ℕ) → waits run kinds ≡ replicate (length kinds) 0 → EachTick segment 8 8 (IsBusyTick segment 8 8) run (ticks_of kinds)
busy_by run [] e = tt
busy_by run (kind ∷ kinds) e =
    let next = run_of segment 8 8 run (tick_of kind) in (
      record { happens = happens kind; each = each kind; quiet = empty next.waiting (ap (λ ns. get_or ns 0 0) e) },
      busy_by next kinds (ap (drop 1) e),
    )

pub busy : EachTick segment 8 8 (IsBusyTick segment 8 8) (begun started) (ticks_of first_minute ++ ticks_of (0 ∷ []))
busy = busy_by (begun started) (first_minute ++ 0 ∷ []) none_waits

leaves : (kind : ℕ) → AllByRecursion LeavesPorts (tick_of kind)
leaves zero = (tt, (tt, (tt, (tt, (tt, (tt, (tt, tt)))))))
leaves (suc n) = (tt, (tt, all_settle LeavesPorts tt n))

says : (kind : ℕ) → AllByRecursion (SaysOnly TellsNoRoute) (tick_of kind)
unfolding header_bytes address_bytes network_bytes service_bytes name_field packet_of header_at address_at items network_at entry_bytes entry_at rip_of sap_of sap_entry_at name_of
says zero = (tt, (tt, (tt, (tt, (tt, (tt, (tt, tt)))))))
says (suc n) = (tt, (tt, all_settle (SaysOnly TellsNoRoute) tt n))

every : (Is : List Step → Type 0) → ((kind : ℕ) → Is (tick_of kind)) → (kinds : List ℕ) → AllByRecursion Is (ticks_of kinds)
every Is so [] = tt
every Is so (kind ∷ kinds) = (so kind, every Is so kinds)

pub leave : AllByRecursion (AllByRecursion LeavesPorts) (ticks_of first_minute ++ ticks_of (0 ∷ []))
leave = every (AllByRecursion LeavesPorts) leaves (first_minute ++ 0 ∷ [])

pub say : AllByRecursion (AllByRecursion (SaysOnly TellsNoRoute)) (ticks_of first_minute ++ ticks_of (0 ∷ []))
say = every (AllByRecursion (SaysOnly TellsNoRoute)) says (first_minute ++ 0 ∷ [])

-- ---- the services stay

abbrev minute_later : Run
minute_later = ticked segment 8 8 (begun started) (ticks_of first_minute)

abbrev services : Run → List (List ServiceOffer)
services run = map (λ router. (has segment 8 8 run.histories router).services) (numbers 2)

abbrev each_services : Run → List Step → List (List (List ServiceOffer))
each_services run [] = []
each_services run (step ∷ steps) = let next = stepped segment 8 8 run step in services next ∷ each_services next steps

-- the host's server, and what the first router says of it
abbrev two : List (List ServiceOffer)
two = (record { service = server 1; port = 0; node = node 0xAA } ∷ []) ∷ (record { service = server 2; port = 0; node = node 2 } ∷ []) ∷ []

first_two : services minute_later ≡ two
unfolding header_bytes address_bytes network_bytes service_bytes name_field packet_of header_at address_at items network_at entry_bytes entry_at rip_of sap_of sap_entry_at name_of
first_two = refl

always_two : each_services minute_later (steps_of (ticks_of (0 ∷ []))) ≡ replicate 7 two
unfolding header_bytes address_bytes network_bytes service_bytes name_field packet_of header_at address_at items network_at entry_bytes entry_at rip_of sap_of sap_entry_at name_of
always_two = refl

the_same : (run : Run) → services run ≡ services minute_later → HaveTheServices segment 8 8 minute_later.histories run.histories
the_same run e zero inside = ap (λ ss. get_or ss 0 []) e
the_same run e (suc zero) inside = ap (λ ss. get_or ss 1 []) e
the_same run e (suc (suc router)) inside = absurd (omega (arith, inside))

stay_by : (run : Run) (steps : List Step) → each_services run steps ≡ replicate (length steps) (services minute_later)
    → ServicesStay segment 8 8 minute_later.histories run steps
stay_by run [] e = tt
stay_by run (step ∷ steps) e = (
  the_same (stepped segment 8 8 run step) (ap (λ sss. get_or sss 0 []) e),
  stay_by (stepped segment 8 8 run step) steps (ap (drop 1) e),
)

pub services_stay : ServicesStay segment 8 8 minute_later.histories minute_later (steps_of (ticks_of (0 ∷ [])))
services_stay = stay_by minute_later (steps_of (ticks_of (0 ∷ []))) (always_two ∙ ap (replicate 7) (sym first_two))
