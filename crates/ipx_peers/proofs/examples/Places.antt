-- Two gateways, as one of them sees it.
use Rattle.std.proofs.Common.{◌≡◌, refl, ℕ, zero, suc, List, [], ◌∷◌, replicate, None, Some}
use Rattle.ipx_peers.specs.declared.opened.Opened.{Opened}
use Rattle.ipx_peers.specs.declared.verdict.Verdict.{Verdict}
use Rattle.ipx_peers.specs.declared.verdict.Verdict.TheVariants.{Dropped, Greet, Repeated, Heard, New}
use Rattle.ipx_peers.specs.Events.{Begins, Hears, Sends, Second, History}
use Rattle.ipx_peers.specs.States.{verdict, next_number, present_at, state}

abbrev session : ℕ → List ℕ
session byte = replicate 16 byte

abbrev address : ℕ → List ℕ
address byte = replicate 24 byte

abbrev datagram : (from echo at number : ℕ) → Opened
datagram from echo at number = record { session = session from; echo = session echo; address = address at; number = number }

-- one's own session is 1
abbrev begun : History
begun = Begins (session 1) ∷ []

abbrev becomes : History → Opened → Verdict
becomes history opened = verdict opened (state history)

-- before it begins, and of one's own, nothing becomes of it; nor without a number or a session
pub nothing_yet : becomes [] (datagram 2 0 9 1) ≡ Dropped
nothing_yet = refl

pub nothing_of_it : (becomes begun (datagram 1 1 9 1) ≡ Dropped) × (becomes begun (datagram 2 1 9 0) ≡ Dropped) × (becomes begun (datagram 0 1 9 1) ≡ Dropped)
nothing_of_it = (refl, refl, refl)

-- whoever doesn't know the session is greeted, and isn't known by that
pub greeted : (becomes begun (datagram 2 0 9 1) ≡ Greet) × (becomes begun (datagram 2 7 9 1) ≡ Greet)
greeted = (refl, refl)

pub not_kept : (state (Hears (datagram 2 0 9 1) ∷ begun)).places ≡ []
not_kept = refl

-- whoever does is a new place, and is heard
abbrev known : History
known = Hears (datagram 2 1 9 5) ∷ begun

pub new : becomes begun (datagram 2 1 9 5) ≡ New 0
new = refl

pub there : present_at 0 (state known) ≡ Some (record { session = session 2; address = address 9 })
there = refl

-- the same isn't heard again; an earlier one is, and doesn't move the place; a later one does
pub again : becomes known (datagram 2 1 9 5) ≡ Repeated
again = refl

pub earlier : (becomes known (datagram 2 1 8 4) ≡ Heard 0)
    × (present_at 0 (state (Hears (datagram 2 1 8 4) ∷ known)) ≡ Some (record { session = session 2; address = address 9 }))
earlier = (refl, refl)

pub moves : (becomes known (datagram 2 1 8 6) ≡ Heard 0)
    × (present_at 0 (state (Hears (datagram 2 1 8 6) ∷ known)) ≡ Some (record { session = session 2; address = address 8 }))
moves = (refl, refl)

-- another place at the same address takes its turn
abbrev taken : History
taken = Hears (datagram 3 1 9 1) ∷ known

pub turned : (becomes known (datagram 3 1 9 1) ≡ New 1) × (present_at 0 (state taken) ≡ None)
    × (present_at 1 (state taken) ≡ Some (record { session = session 3; address = address 9 }))
turned = (refl, refl, refl)

-- but what it says is heard still
pub heard_still : becomes taken (datagram 2 1 7 6) ≡ Heard 0
heard_still = refl

-- after 179 seconds of silence a place is present, after 180 it isn't
abbrev seconds : ℕ → History → History
seconds zero history = history
seconds (suc n) history = Second ∷ seconds n history

pub silent : (present_at 0 (state (seconds 179 known)) ≡ Some (record { session = session 2; address = address 9 }))
    × (present_at 0 (state (seconds 180 known)) ≡ None)
silent = (refl, refl)

-- numbers go from 1 on, and begin from 1 in another session, where what was recorded is greeted
pub numbered : (next_number (state known) ≡ 1) × (next_number (state (Sends ∷ Sends ∷ known)) ≡ 3)
    × (next_number (state (Begins (session 4) ∷ Sends ∷ known)) ≡ 1)
numbered = (refl, refl, refl)

pub recorded : becomes (Begins (session 4) ∷ known) (datagram 2 1 9 5) ≡ Greet
recorded = refl
