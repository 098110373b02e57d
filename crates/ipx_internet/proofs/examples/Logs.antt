-- Logs of three routers in a ring: what is of one course, what a path visits, and what is no log.
use Rattle.std.proofs.Common.{◌≡◌, refl, ap, ℕ, ◌<◌, true, false, List, [], ◌∷◌, length, map, Option, None, Some, arith}
use Rattle.std.proofs.lemmas.Bool.{both_ways}
use Rattle.ipx_wire.specs.Address.{address_bytes}
use Rattle.ipx_wire.specs.Crossed.{network_bytes}
use Rattle.ipx_wire.specs.Header.{header_bytes}
use Rattle.ipx_router.specs.Port.{broadcast}
use Rattle.ipx_internet.specs.Course.{IsInCourse, starts, goes_on, IsPath, leaves, leads_on, visited}
use Rattle.ipx_internet.specs.Different.{AreDifferent}
use Rattle.ipx_internet.specs.Internet.{Internet, Place}
use Rattle.ipx_internet.specs.Log.{Sending, Reception, IsForward, IsLog}
use Rattle.ipx_internet.proofs.examples.Words.{network, port_on, to_all, at}

abbrev ring : Internet
ring = (port_on 0x10 1 ∷ port_on 0x20 2 ∷ []) ∷ (port_on 0x20 3 ∷ port_on 0x30 4 ∷ []) ∷ (port_on 0x30 5 ∷ port_on 0x10 6 ∷ []) ∷ []

-- bytes come to a port of a router that acts, with both ports up and no routes
abbrev comes : Place → List ℕ → Option Sending → Reception
comes to bytes origin = record { to = to; bytes = bytes; acts = true; up = 0 ∷ 1 ∷ []; routes = []; origin = origin }

-- a propagated packet comes to the first router, and goes on by the second and third
abbrev root : Reception
root = comes (at 0 0) (to_all 0 0x10 []) None

abbrev first : Sending
first = record { place = 0; sent = record { port = 1; link = broadcast; bytes = to_all 1 0x20 (0x10 ∷ []) } }

abbrev second : Sending
second = record { place = 1; sent = record { port = 1; link = broadcast; bytes = to_all 2 0x30 (0x10 ∷ 0x20 ∷ []) } }

abbrev log : List Reception
log = root ∷ comes (at 1 0) first.sent.bytes (Some first) ∷ comes (at 2 0) second.sent.bytes (Some second) ∷ []

-- what descends from a reception is of its course, what it descends from isn't
pub descends : IsInCourse log 0 2
descends = goes_on second (omega arith) refl (goes_on first (omega arith) refl starts)

pub not_back : (place : ℕ) → place ≡ 0 → IsInCourse log 1 place → ⊥
not_back place here starts = omega (arith, here)
not_back place here (goes_on s within of rest) = grind arith

-- both forwards are one path, over three networks
pub both : IsForward ring log first → IsForward ring log second → IsPath ring log 0 (first ∷ second ∷ [])
both one two = leads_on first 1 refl one (omega arith) refl (leaves second refl two)

pub three_networks : visited ring log 0 (first ∷ second ∷ []) ≡ map network (0x10 ∷ 0x20 ∷ 0x30 ∷ [])
three_networks = refl

-- one forward, however often it is listed, is one
pub the_same : AreDifferent (first ∷ first ∷ []) → ⊥
the_same differ = differ.0.0 refl

-- ---- what is none

-- a router that doesn't act forwards nothing
pub stopped : IsForward ring (record root { acts = false } ∷ []) first → ⊥
stopped is = both_ways false refl is.acts

-- nothing came of what comes later
abbrev later : Sending
later = record { place = 1; sent = first.sent }

pub backward : IsLog ring (comes (at 1 0) first.sent.bytes (Some later) ∷ root ∷ []) → ⊥
backward is = let earlier : 1 < 0 = (is.origins 0 later (omega arith) refl).earlier in omega (arith, earlier)

-- one delivery isn't received twice
pub twice : IsLog ring (root ∷ comes (at 1 0) first.sent.bytes (Some first) ∷ comes (at 1 0) first.sent.bytes (Some first) ∷ []) → ⊥
twice is = let same : 1 ≡ 2 = is.once 1 2 first (omega arith) (omega arith) refl refl refl in omega (arith, same)

-- what is received are the bytes that were sent, on the network where they were sent
pub other_bytes : IsLog ring (root ∷ comes (at 1 0) [] (Some first) ∷ []) → ⊥
unfolding header_bytes address_bytes network_bytes
other_bytes is =
    let same = (is.origins 1 first (omega arith) refl).same in
    let none : 0 ≡ 62 = ap (λ (bytes : List ℕ). length bytes) same in
    omega (arith, none)

pub other_network : IsLog ring (root ∷ comes (at 1 1) first.sent.bytes (Some first) ∷ []) → ⊥
other_network is = both_ways false refl (is.origins 1 first (omega arith) refl).delivered

-- nor does the sender receive them
pub by_the_sender : IsLog ring (root ∷ comes (at 0 1) first.sent.bytes (Some first) ∷ []) → ⊥
by_the_sender is = both_ways false refl (is.origins 1 first (omega arith) refl).delivered
