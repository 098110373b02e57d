-- Two routers on one segment, as of `Waiting`, of which each knows the other's network: in a period their tables stay as they are, and each
-- sends the other one page; but a route that is old ends. And how much a page is for internets of some sizes.
use Rattle.std.proofs.lemmas.Grind.{common_steps}
use Rattle.std.proofs.Common.{◌≡◌, refl, sym, ap, ◌∙◌, get_or, drop, ℕ, ◌+◌, zero, suc, ◌<◌, ◌-◌, ◌*◌, ◌/◌, flat_map, List, [], ◌∷◌, ◌++◌, length, map, replicate, arith}
use Rattle.ipx_wire.specs.Address.{address_bytes, address_at}
use Rattle.ipx_wire.specs.Crossed.{network_bytes, network_at}
use Rattle.ipx_wire.specs.Items.{items}
use Rattle.ipx_wire.specs.Header.{header_bytes, header_at}
use Rattle.ipx_wire.specs.Packet.{packet_of}
use Rattle.ipx_wire.specs.Rip.{entry_bytes, entry_at, rip_of}
use Rattle.ipx_wire.specs.Sap.{sap_of}
use Rattle.ipx_table.specs.Alive.{lifetime}
use Rattle.ipx_router.specs.Numbers.{period}
use Rattle.ipx_router.specs.History.{History, Second}
use Rattle.ipx_router.specs.Port.{numbers}
use Rattle.ipx_router.specs.declared.route_offer.RouteOffer.{RouteOffer}
use Rattle.ipx_router.specs.declared.service_offer.ServiceOffer.{ServiceOffer}
use Rattle.ipx_internet.specs.Queue.{history_of}
use Rattle.ipx_internet.specs.Run.{Step, Run, begun, stepped, run_of}
use Rattle.ipx_internet.specs.Ticks.{seconds_of, a_tick}
use Rattle.ipx_internet.proofs.examples.Waiting.{segment, after}
use Rattle.ipx_internet.proofs.examples.Words.{route}
use Rattle.ipx_laws.specs.Departure.{departures}
use Rattle.ipx_laws.specs.Upkeep.{has, HaveTheSame, TablesStay, sent_by, upkeep_packets, upkeep_bytes}

-- ---- the seconds of a period

abbrev pub settled : List History
settled = (after 8).histories

-- in each second but the last no delivery, and in the last two
abbrev pub minute : List Step
minute = flat_map (λ n. a_tick 2 0) (numbers (period - 1)) ++ a_tick 2 2

-- each router has as many seconds in it
pub a_period : (router : ℕ) → router < 2 → seconds_of router minute ≡ period
a_period router within = grind (arith, common_steps)

-- routes and services of both after each step
abbrev tables : List History → List (List RouteOffer × List ServiceOffer)
tables histories = map (λ router. ((has segment 8 8 histories router).routes, (has segment 8 8 histories router).services)) (numbers 2)

abbrev each_has : Run → List Step → List (List (List RouteOffer × List ServiceOffer))
each_has run [] = []
each_has run (step ∷ steps) = let next = stepped segment 8 8 run step in tables next.histories ∷ each_has next steps

always_so : each_has (begun settled) minute ≡ replicate (2 * period + 2) (((route 0x30 1 3 ∷ []), []) ∷ ((route 0x10 0 2 ∷ []), []) ∷ [])
unfolding header_bytes address_bytes network_bytes packet_of header_at address_at items network_at entry_bytes entry_at rip_of sap_of
always_so = refl

first_so : tables settled ≡ ((route 0x30 1 3 ∷ []), []) ∷ ((route 0x10 0 2 ∷ []), []) ∷ []
unfolding header_bytes address_bytes network_bytes packet_of header_at address_at items network_at entry_bytes entry_at rip_of sap_of
first_so = refl

the_same : (new : List History) → tables new ≡ tables settled → HaveTheSame segment 8 8 settled new
the_same new e zero inside = let own = ap (λ ts. get_or ts 0 ([], [])) e in (ap (λ t. t.0) own, ap (λ t. t.1) own)
the_same new e (suc zero) inside = let own = ap (λ ts. get_or ts 1 ([], [])) e in (ap (λ t. t.0) own, ap (λ t. t.1) own)
the_same new e (suc (suc router)) inside = absurd (omega (arith, inside))

stay_by : (run : Run) (steps : List Step) → each_has run steps ≡ replicate (length steps) (tables settled) → TablesStay segment 8 8 settled run steps
stay_by run [] e = tt
stay_by run (step ∷ steps) e = (
  the_same (stepped segment 8 8 run step).histories (ap (λ tss. get_or tss 0 []) e),
  stay_by (stepped segment 8 8 run step) steps (ap (drop 1) e),
)

pub tables_stay : TablesStay segment 8 8 settled (begun settled) minute
tables_stay = stay_by (begun settled) minute (always_so ∙ ap (replicate (2 * period + 2)) (sym first_so))

-- where one router hasn't been told for all seconds of the lifetime but one, both tables are as above at first; a second later it has no
-- route
abbrev untold : List History
untold = (history_of settled 0 ++ replicate (lifetime - 1) Second) ∷ history_of settled 1 ∷ []

pub still_right : tables untold ≡ ((route 0x30 1 3 ∷ []), []) ∷ ((route 0x10 0 2 ∷ []), []) ∷ []
unfolding header_bytes address_bytes network_bytes packet_of header_at address_at items network_at entry_bytes entry_at rip_of sap_of
still_right = refl

pub gone_then : tables (run_of segment 8 8 (begun untold) (a_tick 2 1)).histories ≡ ([], []) ∷ ((route 0x10 0 2 ∷ []), []) ∷ []
unfolding header_bytes address_bytes network_bytes packet_of header_at address_at items network_at entry_bytes entry_at rip_of sap_of
gone_then = refl

-- what leaves on the segment's ports
pub one_page : map (λ router. map (λ s. length s.bytes) (sent_by router (1 - router) (departures segment 8 8 (begun settled) minute))) (numbers 2) ≡ (40 ∷ []) ∷ (40 ∷ []) ∷ []
unfolding header_bytes address_bytes network_bytes packet_of header_at address_at items network_at entry_bytes entry_at rip_of sap_of
one_page = refl

-- ---- sizes

-- packets and bytes on a port where so many networks, and as many services, are advertised
pub networks_alone : map {B = ℕ × ℕ} (λ n. (upkeep_packets n 0, upkeep_bytes n 0)) (9 ∷ 99 ∷ 999 ∷ []) ≡ (1, 104) ∷ (2, 856) ∷ (20, 8632) ∷ []
networks_alone = refl

pub services_alone : map {B = ℕ × ℕ} (λ n. (upkeep_packets 0 n, upkeep_bytes 0 n)) (10 ∷ 100 ∷ 1000 ∷ []) ≡ (2, 704) ∷ (15, 6880) ∷ (143, 68576) ∷ []
services_alone = refl

-- the bytes that a line of so many bits in a second can carry in a period
abbrev pub carried : ℕ → ℕ
carried bits = bits * period / 8

pub lines : map carried (9600 ∷ 56000 ∷ []) ≡ 72000 ∷ 420000 ∷ []
lines = refl

-- of each of these, networks and as many services take so many thousandths
pub shares_of_lines : map (λ bits. map (λ n. upkeep_bytes (n - 1) n * 1000 / carried bits) (10 ∷ 100 ∷ 1000 ∷ [])) (9600 ∷ 56000 ∷ [])
    ≡ (11 ∷ 107 ∷ 1072 ∷ []) ∷ (1 ∷ 18 ∷ 183 ∷ []) ∷ []
shares_of_lines = refl
