-- What the laws of time ask for is met: by two routers on one segment, as of `Waiting`, that were started and of which what they sent was
-- lost; by the ticks of a period, with nothing that waits; by a tick in which a host announces a server, and by a packet of a host.
use Rattle.std.proofs.lemmas.Grind.{common_steps}
use Rattle.std.proofs.Common.{◌≡◌, refl, ap, get_or, drop, ℕ, ◌-◌, zero, suc, ◌+◌, ◌<◌, ◌≤◌, false, List, [], ◌∷◌, ◌++◌, length, replicate, arith}
use Rattle.std.specs.List.{AllByRecursion}
use Rattle.ipx_wire.specs.Address.{address_bytes, address_at}
use Rattle.ipx_wire.specs.Crossed.{network_bytes, network_at}
use Rattle.ipx_wire.specs.Items.{items}
use Rattle.ipx_wire.specs.Header.{header_bytes, header_at}
use Rattle.ipx_wire.specs.Name.{name_field, name_of}
use Rattle.ipx_wire.specs.Packet.{packet_of}
use Rattle.ipx_wire.specs.Piece.{IsBytes}
use Rattle.ipx_wire.specs.Rip.{entry_bytes, entry_at, rip_of}
use Rattle.ipx_wire.specs.Sap.{sap_of}
use Rattle.ipx_wire.specs.SapEntries.{sap_entry_at}
use Rattle.ipx_wire.specs.WriteServices.{service_bytes}
use Rattle.ipx_router.specs.Numbers.{period}
use Rattle.ipx_router.specs.Facts.{routes_held, services_held, offers}
use Rattle.ipx_router.specs.History.{History, Start, IsOnPort, IsOfBytes}
use Rattle.ipx_router.specs.Outgoing.{is_own_port}
use Rattle.ipx_router.specs.Why.{is_own_echo}
use Rattle.ipx_internet.specs.BusyTick.{IsBusyTick}
use Rattle.ipx_internet.specs.Internet.{ports_of, port_of}
use Rattle.ipx_internet.specs.Queue.{history_of}
use Rattle.ipx_internet.specs.Run.{Step, Settles, AreHistories, Run, begun, run_of}
use Rattle.ipx_internet.specs.Ticks.{seconds_of, IsOfTick, AreTicks, a_tick}
use Rattle.ipx_internet.proofs.examples.Waiting.{segment}
use Rattle.ipx_internet.proofs.examples.Words.{network, node, plain_parts, at}
use Rattle.ipx_internet.proofs.ticks.TickCanBeHad.{seconds_then}
use Rattle.ipx_laws.specs.Announces.{AsksApart}
use Rattle.ipx_laws.specs.Arriving.{IsOfHost}
use Rattle.ipx_laws.specs.Gone.{most_ticks_gone}
use Rattle.ipx_laws.specs.Least.{least, least_route, ticks_right}
use Rattle.ipx_laws.specs.Meanwhile.{SaysOnly, EachTick}
use Rattle.ipx_laws.specs.Real.{IsReal}
use Rattle.ipx_laws.specs.Ups.{ups}
use Rattle.ipx_laws.proofs.examples.Leasts.{way}
use Rattle.ipx_laws.proofs.examples.Meanwhile.{are_bytes}
use Rattle.ipx_laws.proofs.examples.Servers.{announcement, tick}
use Rattle.ipx_laws.proofs.examples.Ticks.{of_two}

-- ---- histories

abbrev pub started : List History
started = (Start ∷ []) ∷ (Start ∷ []) ∷ []

pub are : AreHistories segment started
are = record { each = refl; on_ports = on_ports; of_bytes = of_bytes }
  where
    on_ports : (router : ℕ) → AllByRecursion (IsOnPort (ports_of segment router)) (history_of started router)
    on_ports zero = (tt, tt)
    on_ports (suc zero) = (tt, tt)
    on_ports (suc (suc router)) = tt

    of_bytes : (router : ℕ) → AllByRecursion IsOfBytes (history_of started router)
    of_bytes zero = (tt, tt)
    of_bytes (suc zero) = (tt, tt)
    of_bytes (suc (suc router)) = tt

-- ---- the ticks of a period, of which the last has two deliveries

abbrev pub a_period : List ℕ
a_period = replicate (period - 1) 0 ++ 2 ∷ []

abbrev pub ticks : List ℕ → List (List Step)
ticks [] = []
ticks (deliveries ∷ more) = a_tick 2 deliveries ∷ ticks more

-- how many deliveries wait after each, where tables have so much room
abbrev pub left : ℕ → Run → List ℕ → List ℕ
left most run [] = []
left most run (deliveries ∷ more) =
    let next = run_of segment most most run (a_tick 2 deliveries) in
    length next.waiting ∷ left most next more

none_left : left 1 (begun started) a_period ≡ replicate period 0
unfolding header_bytes address_bytes network_bytes packet_of header_at address_at items network_at entry_bytes entry_at rip_of sap_of
none_left = refl

all_settle : (n : ℕ) → AllByRecursion (IsOfTick segment) (replicate n Settles)
all_settle zero = tt
all_settle (suc n) = (tt, all_settle n)

pub each_once : (router n : ℕ) → router < 2 → seconds_of router (a_tick 2 n) ≡ 1
each_once zero n within = seconds_then 0 (a_tick 2 0) n refl
each_once (suc zero) n within = seconds_then 1 (a_tick 2 0) n refl
each_once (suc (suc router)) n within = absurd (omega (arith, within))

empty : {X : Type 0} (xs : List X) → length xs ≡ 0 → xs ≡ []
empty xs e = grind (arith, common_steps)

pub are_by : (most : ℕ) (run : Run) (counts : List ℕ) → left most run counts ≡ replicate (length counts) 0 → AreTicks segment most most run (ticks counts)
are_by most run [] e = tt
are_by most run (n ∷ counts) e =
    let next = run_of segment most most run (a_tick 2 n) in
    let quiet : length next.waiting ≡ 0 = ap (λ ns. get_or ns 0 0) e in (
      record {
        passes = ((omega arith, refl), ((omega arith, refl), all_settle n));
        each = λ router within. each_once router n within;
        quiet = empty next.waiting quiet;
      },
      are_by most next counts (ap (drop 1) e),
    )

pub are_ticks : AreTicks segment 1 1 (begun started) (ticks a_period)
are_ticks = are_by 1 (begun started) a_period none_left

-- from real routes, without services, they are enough for a hop
pub enough : ticks_right (least_route segment (ups segment started) 0 (network 0x30)) ≤ most_ticks_gone + length (ticks a_period)
enough = omega arith

pub all_real : (router : ℕ) → router < 2
    → AllByRecursion (IsReal segment (ups segment started) router) (offers (routes_held (ports_of segment router) 1 (history_of started router)))
all_real router within = grind arith

pub no_service : (router : ℕ) → router < 2 → services_held (ports_of segment router) 1 (history_of started router) ≡ []
no_service router within = grind arith

-- ---- a packet of a host on 10h, to 30h

pub of_host : IsOfHost segment (plain_parts 0 0x30 (node 0xCC))
of_host = record { for_one = refl; source = refl; no_echo = λ place there. no_echo place.router place.port; elsewhere = elsewhere }
  where
    no_echo : (router port : ℕ) → is_own_echo (port_of segment (at router port)) (plain_parts 0 0x30 (node 0xCC)).header ≡ false
    no_echo zero zero = refl
    no_echo zero (suc zero) = refl
    no_echo zero (suc (suc port)) = refl
    no_echo (suc zero) zero = refl
    no_echo (suc zero) (suc zero) = refl
    no_echo (suc zero) (suc (suc port)) = refl
    no_echo (suc (suc router)) port = refl

    elsewhere : (router : ℕ) → is_own_port (ports_of segment router) (plain_parts 0 0x30 (node 0xCC)).header.destination ≡ false
    elsewhere zero = refl
    elsewhere (suc zero) = refl
    elsewhere (suc (suc router)) = refl

pub has_way : least segment (ups segment started) 0 (network 0x30) ≡ way 1 2
has_way = refl

-- ---- a tick in which a host announces a server

pub bytes : IsBytes announcement
unfolding header_bytes address_bytes network_bytes service_bytes name_field
bytes = are_bytes announcement refl

pub is_busy : EachTick segment 8 8 (IsBusyTick segment 8 8) (begun started) (tick ∷ [])
unfolding header_bytes address_bytes network_bytes service_bytes name_field packet_of header_at address_at items network_at entry_bytes entry_at rip_of sap_of sap_entry_at name_of
is_busy = (
  record {
    happens = ((omega arith, tt, tt), ((omega arith, omega arith, bytes), ((omega arith, tt, tt), (tt, tt))));
    each = of_two (λ router. seconds_of router tick ≡ 1) refl refl;
    quiet = refl;
  },
  tt,
)

pub asks_apart : AllByRecursion (AllByRecursion (SaysOnly AsksApart)) (tick ∷ [])
unfolding header_bytes address_bytes network_bytes service_bytes name_field packet_of header_at address_at items network_at entry_bytes entry_at rip_of sap_of sap_entry_at name_of
asks_apart = ((tt, (tt, (tt, (tt, tt)))), tt)
