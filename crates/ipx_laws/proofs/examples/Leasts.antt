-- Least ways in small internets: on a line, on a ring, where two ways are equal, and where a dear link has a cheap way round.
use Rattle.std.proofs.Common.{◌≡◌, refl, ℕ, ◌==◌, if◌then◌else◌, List, [], ◌∷◌, length, map, None, Some, Option}
use Rattle.ipx_router.specs.Port.{Port, numbers}
use Rattle.ipx_internet.specs.Internet.{Internet, ports_of}
use Rattle.ipx_internet.proofs.examples.Words.{network, port_on, at}
use Rattle.ipx_laws.specs.Least.{Way, least, least_route, networks_of, neighbours}

abbrev pub costly : ℕ → ℕ → ℕ → Port
costly n k cost = record (port_on n k) { cost = cost }

-- all ports of each router are up
abbrev pub all : Internet → ℕ → List ℕ
all net router = numbers (length (ports_of net router))

-- hops and ticks
abbrev pub way : ℕ → ℕ → Option Way
way hops ticks = Some (record { hops = hops; ticks = ticks })

-- ---- a line: 10h - 0 - 20h - 1 - 30h - 2 - 40h

abbrev line : Internet
line = (port_on 0x10 1 ∷ port_on 0x20 2 ∷ []) ∷ (port_on 0x20 3 ∷ port_on 0x30 4 ∷ []) ∷ (port_on 0x30 5 ∷ port_on 0x40 6 ∷ []) ∷ []

-- to 40h: router 2 has a port on it
pub on_line : map (λ router. least line (all line) router (network 0x40)) (numbers 3) ≡ way 2 3 ∷ way 1 2 ∷ way 0 1 ∷ []
on_line = refl

-- and no route
pub on_line_route : map (λ router. least_route line (all line) router (network 0x40)) (numbers 3) ≡ way 2 3 ∷ way 1 2 ∷ None ∷ []
on_line_route = refl

-- nobody has a port on 50h
pub nowhere : map (λ router. least line (all line) router (network 0x50)) (numbers 3) ≡ None ∷ None ∷ None ∷ []
nowhere = refl

pub named : networks_of line ≡ network 0x10 ∷ network 0x20 ∷ network 0x30 ∷ network 0x40 ∷ []
named = refl

pub beside : neighbours line (all line) 1 ≡ at 0 1 ∷ at 2 0 ∷ []
beside = refl

-- ---- a ring of four: 0 - 12h - 1 - 23h - 2 - 34h - 3 - 41h - 0, with 10h at router 0

abbrev ring : Internet
ring = (port_on 0x41 1 ∷ port_on 0x12 2 ∷ port_on 0x10 9 ∷ []) ∷ (port_on 0x12 3 ∷ port_on 0x23 4 ∷ []) ∷ (port_on 0x23 5 ∷ port_on 0x34 6 ∷ [])
    ∷ (port_on 0x34 7 ∷ port_on 0x41 8 ∷ []) ∷ []

-- both ways round are equal for router 2
pub on_ring : map (λ router. least ring (all ring) router (network 0x10)) (numbers 4) ≡ way 0 1 ∷ way 1 2 ∷ way 2 3 ∷ way 1 2 ∷ []
on_ring = refl

-- ---- a dear link beside a cheap way round: 0 - 12h - 1 costs 9 at router 1; 0 - 13h - 2 - 32h - 1 costs 1 at each

abbrev dear : Internet
dear = (port_on 0x12 1 ∷ port_on 0x13 2 ∷ []) ∷ (costly 0x12 3 9 ∷ port_on 0x32 4 ∷ port_on 0x50 5 ∷ []) ∷ (port_on 0x13 6 ∷ port_on 0x32 7 ∷ []) ∷ []

pub way_round : map (λ router. least dear (all dear) router (network 0x50)) (numbers 3) ≡ way 2 3 ∷ way 0 1 ∷ way 1 2 ∷ []
way_round = refl

-- where router 2 is stopped, the dear link is left
abbrev without_two : ℕ → List ℕ
without_two router = if router == 2 then [] else all dear router

pub dear_alone : map (λ router. least dear without_two router (network 0x50)) (numbers 3) ≡ way 1 10 ∷ way 0 1 ∷ None ∷ []
dear_alone = refl

-- and where the port on 50h is down, nobody has a way there, router 1 neither; nor has it a route
abbrev without_port : ℕ → List ℕ
without_port router = if router == 1 then 0 ∷ 1 ∷ [] else all dear router

pub no_way : map (λ router. least dear without_port router (network 0x50)) (numbers 3) ≡ None ∷ None ∷ None ∷ []
no_way = refl
