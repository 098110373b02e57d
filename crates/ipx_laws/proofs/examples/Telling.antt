-- A host that tells of a network that isn't ours, as the laws of networks off a list allow: on 10h of the two routers of `Premises` it says
-- that it knows a way to 77h. What these laws ask for is met by the ticks of a period of which this is the first, with tables of two routes: by
-- its end both routers have 77h, and right routes to each other's network. With tables of one route the first router has 77h alone. And
-- where somebody says in the name of the second router that 30h is no longer reached, that is believed.
use Rattle.std.proofs.lemmas.Grind.{common_steps}
use Rattle.std.proofs.Common.{◌≡◌, refl, sym, ap, get_or, drop, ℕ, ◌-◌, ◌+◌, zero, suc, ◌<◌, ◌≤◌, ◌==◌, if◌then◌else◌, List, [], ◌∷◌, ◌++◌, length, map, replicate, Option, option_map, arith, true≢false}
use Rattle.std.specs.List.{AllByRecursion}
use Rattle.ipx_wire.specs.Address.{address_bytes, address_at}
use Rattle.ipx_wire.specs.Crossed.{network_bytes, network_at}
use Rattle.ipx_wire.specs.Header.{header_bytes, header_at}
use Rattle.ipx_wire.specs.Items.{items}
use Rattle.ipx_wire.specs.Packet.{packet_of}
use Rattle.ipx_wire.specs.Piece.{IsBytes}
use Rattle.ipx_wire.specs.Rip.{entry_bytes, entry_at, rip_of}
use Rattle.ipx_wire.specs.Sap.{sap_of}
use Rattle.ipx_wire.specs.declared.network.Network.{Network}
use Rattle.ipx_wire.specs.declared.rip.RipEntry.{RipEntry}
use Rattle.ipx_router.specs.Numbers.{period, unreachable}
use Rattle.ipx_router.specs.History.{Second, Packet}
use Rattle.ipx_router.specs.Outgoing.{route_to}
use Rattle.ipx_internet.specs.BusyTick.{IsBusyTick}
use Rattle.ipx_internet.specs.Run.{Step, Happens, Settles, IsStep, Run, begun, run_of}
use Rattle.ipx_internet.specs.Ticks.{seconds_of, a_tick, ticked}
use Rattle.ipx_internet.proofs.examples.Waiting.{segment}
use Rattle.ipx_internet.proofs.examples.Words.{network}
use Rattle.ipx_laws.specs.Apart.{TellsOnlyOf, AreTicksBeside, AreRealApart, HasRoomBeside, IsSettingBeside}
use Rattle.ipx_laws.specs.Gone.{most_ticks_gone}
use Rattle.ipx_laws.specs.Least.{Way, least_route, way_of, ticks_right}
use Rattle.ipx_laws.specs.Meanwhile.{LeavesPorts, SaysOnly, EachTick}
use Rattle.ipx_laws.specs.Tables.{routes_of}
use Rattle.ipx_laws.specs.Ups.{ups}
use Rattle.ipx_laws.proofs.examples.Leasts.{way}
use Rattle.ipx_laws.proofs.examples.Meanwhile.{news, are_bytes}
use Rattle.ipx_laws.proofs.examples.Premises.{started, are, each_once}
use Rattle.ipx_laws.proofs.examples.Rights.{cheap, differ, made}
use Rattle.ipx_laws.proofs.examples.Staying.{suffice}
use Rattle.ipx_laws.proofs.examples.Ticks.{said}

-- the list
abbrev pub strange : List Network
strange = network 0x77 ∷ []

-- ---- the ticks of a period

-- in a tick the host speaks, or there are so many deliveries
abbrev tick_of : ℕ → List Step
tick_of zero = Happens 0 (Packet 0 news) ∷ Happens 0 Second ∷ Happens 1 Second ∷ Settles ∷ []
tick_of (suc n) = a_tick 2 n

abbrev a_minute : List ℕ
a_minute = 0 ∷ replicate (period - 2) 1 ++ 3 ∷ []

abbrev ticks_of : List ℕ → List (List Step)
ticks_of kinds = map tick_of kinds

-- how many deliveries wait after each
abbrev waits : Run → List ℕ → List ℕ
waits run [] = []
waits run (kind ∷ kinds) =
    let next = run_of segment 2 2 run (tick_of kind) in
    length next.waiting ∷ waits next kinds

none_waits : waits (begun started) a_minute ≡ replicate period 0
unfolding header_bytes address_bytes network_bytes packet_of header_at address_at items network_at entry_bytes entry_at rip_of sap_of
none_waits = refl

all_settle : (Is : Step → Type 0) → Is Settles → (n : ℕ) → AllByRecursion Is (replicate n Settles)
all_settle Is is zero = tt
all_settle Is is (suc n) = (is, all_settle Is is n)

bytes : IsBytes news
unfolding header_bytes address_bytes network_bytes entry_bytes
bytes = are_bytes news refl

happens : (kind : ℕ) → AllByRecursion (IsStep segment) (tick_of kind)
happens zero = ((omega arith, omega arith, bytes), ((omega arith, tt, tt), ((omega arith, tt, tt), (tt, tt))))
happens (suc n) = ((omega arith, tt, tt), ((omega arith, tt, tt), all_settle (IsStep segment) tt n))

each : (kind router : ℕ) → router < 2 → seconds_of router (tick_of kind) ≡ 1
each (suc n) router within = each_once router n within
each zero zero within = refl
each zero (suc zero) within = refl
each zero (suc (suc router)) within = absurd (omega (arith, within))

empty : {X : Type 0} (xs : List X) → length xs ≡ 0 → xs ≡ []
empty xs e = grind (arith, common_steps)

busy_by : (run : Run) (kinds : List ℕ) → waits run kinds ≡ replicate (length kinds) 0 → EachTick segment 2 2 (IsBusyTick segment 2 2) run (ticks_of kinds)
busy_by run [] e = tt
busy_by run (kind ∷ kinds) e =
    let next = run_of segment 2 2 run (tick_of kind) in (
      record { happens = happens kind; each = each kind; quiet = empty next.waiting (ap (λ ns. get_or ns 0 0) e) },
      busy_by next kinds (ap (drop 1) e),
    )

leaves : (kind : ℕ) → AllByRecursion LeavesPorts (tick_of kind)
leaves zero = (tt, (tt, (tt, (tt, tt))))
leaves (suc n) = (tt, (tt, all_settle LeavesPorts tt n))

says : (kind : ℕ) → AllByRecursion (SaysOnly (TellsOnlyOf strange)) (tick_of kind)
unfolding header_bytes address_bytes network_bytes packet_of header_at address_at items network_at entry_bytes entry_at rip_of sap_of
says zero = ((refl, tt), (tt, (tt, (tt, tt))))
says (suc n) = (tt, (tt, all_settle (SaysOnly (TellsOnlyOf strange)) tt n))

every : (Is : List Step → Type 0) → ((kind : ℕ) → Is (tick_of kind)) → (kinds : List ℕ) → AllByRecursion Is (ticks_of kinds)
every Is so [] = tt
every Is so (kind ∷ kinds) = (so kind, every Is so kinds)

pub ticks_beside : AreTicksBeside segment 2 2 strange (begun started) (ticks_of a_minute)
ticks_beside = (
  (busy_by (begun started) a_minute none_waits, every (AllByRecursion LeavesPorts) leaves a_minute),
  every (AllByRecursion (SaysOnly (TellsOnlyOf strange))) says a_minute,
)

-- ---- the internet

-- each router has a port on two of three networks, and so takes a route to one, and to the one of the list
pub room : HasRoomBeside segment 2 strange
room = record { table = (omega arith, (omega arith, tt)); shares = ((omega arith, (omega arith, tt)), ((omega arith, (omega arith, tt)), tt)) }

pub setting : IsSettingBeside segment 2 strange started (network 0x30)
setting = (made, differ, suffice (network 0x30), cheap, room, are, refl)

pub all_real : AreRealApart segment 2 started (ups segment started) strange
all_real router within = grind arith

pub enough : ticks_right (least_route segment (ups segment started) 0 (network 0x30)) ≤ most_ticks_gone + length (ticks_of a_minute)
enough = omega arith

-- ---- what routers know then, with tables of so many routes

abbrev after : ℕ → Run
after most_routes = ticked segment most_routes 2 (begun started) (ticks_of a_minute)

abbrev networks : ℕ → ℕ → List ℕ
networks most_routes router = map (λ r. r.network.0) (routes_of segment most_routes (after most_routes).histories router)

-- the network of the list is known to both, and so is the other's own network
pub both_known : networks 2 0 ∷ networks 2 1 ∷ [] ≡ (0x30 ∷ 0x77 ∷ []) ∷ (0x10 ∷ 0x77 ∷ []) ∷ []
unfolding header_bytes address_bytes network_bytes packet_of header_at address_at items network_at entry_bytes entry_at rip_of sap_of
both_known = refl

-- hops and ticks of the routes to the other's own network
abbrev own_known : List (Option Way)
own_known = map (λ router. option_map way_of (route_to (routes_of segment 2 (after 2).histories router) (if router == 0 then 0x30 else 0x10))) (0 ∷ 1 ∷ [])

pub right_known : own_known ≡ way 1 2 ∷ way 1 2 ∷ []
unfolding header_bytes address_bytes network_bytes packet_of header_at address_at items network_at entry_bytes entry_at rip_of sap_of
right_known = refl

-- ---- what isn't allowed

-- tables that have room for one network, but not for the one of the list besides
pub no_room : HasRoomBeside segment 1 strange → ⊥
no_room few = let one = few.table.0 in omega (arith, one)

pub kept_out : networks 1 0 ∷ networks 1 1 ∷ [] ≡ (0x77 ∷ []) ∷ (0x77 ∷ []) ∷ []
unfolding header_bytes address_bytes network_bytes packet_of header_at address_at items network_at entry_bytes entry_at rip_of sap_of
kept_out = refl

-- an entry for a network off the list, though it says that this isn't reached: somebody on 20h sends it from the node of the second router
abbrev dead : RipEntry
dead = record { network = network 0x30; hops = unreachable; ticks = 3 }

abbrev lie : List ℕ
lie = said 0x20 3 (dead ∷ [])

pub not_allowed : SaysOnly (TellsOnlyOf strange) (Happens 0 (Packet 1 lie)) → ⊥
unfolding header_bytes address_bytes network_bytes packet_of header_at address_at items network_at entry_bytes entry_at rip_of sap_of
not_allowed tells = true≢false (sym tells.0)

-- the first router believes that, and has no route to 30h
pub believed : map (λ r. r.network.0) (routes_of segment 2 (run_of segment 2 2 (after 2) (Happens 0 (Packet 1 lie) ∷ [])).histories 0) ≡ 0x77 ∷ []
unfolding header_bytes address_bytes network_bytes packet_of header_at address_at items network_at entry_bytes entry_at rip_of sap_of
believed = refl
