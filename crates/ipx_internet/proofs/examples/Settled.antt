-- Two routers on one segment are started and settle: six deliveries, then two, then nothing, where 36 rounds are allowed.
use Rattle.std.proofs.Common.{◌≡◌, refl, List, [], ◌∷◌, length, map, arith}
use Rattle.std.specs.List.{AllByRecursion}
use Rattle.ipx_wire.specs.Address.{address_bytes, address_at}
use Rattle.ipx_wire.specs.Crossed.{network_bytes, network_at}
use Rattle.ipx_wire.specs.Items.{items}
use Rattle.ipx_wire.specs.Header.{header_bytes, header_at}
use Rattle.ipx_wire.specs.Packet.{packet_of}
use Rattle.ipx_wire.specs.Rip.{entry_bytes, entry_at, rip_of}
use Rattle.ipx_wire.specs.Sap.{sap_of}
use Rattle.ipx_router.specs.History.{Start}
use Rattle.ipx_internet.specs.Rounds.{IsOwnStep, rounds, handed_out, most_rounds, most_own_rounds}
use Rattle.ipx_internet.specs.Run.{Step, Happens, Settles, begun, forgotten, run_of}
use Rattle.ipx_internet.proofs.examples.Waiting.{segment, after}

-- what both sent at their start; the answers; nothing any more
pub waits : map (λ n. length (rounds segment 8 8 n (after 0)).queue) (0 ∷ 1 ∷ 2 ∷ 3 ∷ []) ≡ 6 ∷ 2 ∷ 0 ∷ 0 ∷ []
unfolding header_bytes address_bytes network_bytes packet_of header_at address_at items network_at entry_bytes entry_at rip_of sap_of
waits = refl

pub allowed : most_rounds segment ≡ 36
allowed = refl

-- in all of them eight deliveries are handed out
pub eight : handed_out segment 8 8 (most_rounds segment) (after 0) ≡ 8
unfolding header_bytes address_bytes network_bytes packet_of header_at address_at items network_at entry_bytes entry_at rip_of sap_of
eight = refl

-- the same where the second is started later: the first one's response finds it stopped, its request doesn't
abbrev between : List Step
between = Happens 0 Start ∷ Settles ∷ Happens 1 Start ∷ Settles ∷ []

pub are_own : AllByRecursion (IsOwnStep segment) between
are_own = ((omega arith, tt), (tt, ((omega arith, tt), (tt, tt))))

-- then the answer to that, a query, and what the second sent at its start; another answer; nothing any more
pub waits_then : map (λ n. length (rounds segment 8 8 n (forgotten (run_of segment 8 8 (begun ([] ∷ [] ∷ [])) between))).queue) (0 ∷ 1 ∷ 2 ∷ 3 ∷ []) ≡ 5 ∷ 1 ∷ 0 ∷ 0 ∷ []
unfolding header_bytes address_bytes network_bytes packet_of header_at address_at items network_at entry_bytes entry_at rip_of sap_of
waits_then = refl

pub allowed_then : most_own_rounds segment ≡ 19
allowed_then = refl
