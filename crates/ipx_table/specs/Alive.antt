-- Which offers are alive: accepted, younger than a lifetime, not ended, and not cut by a later offer.
use Rattle.std.specs.Prelude.{◌≡◌, ℕ, suc, ◌<◌, ◌==◌, nat_lt, Bool, true, false, not, ◌&&◌, ◌||◌, if◌then◌else◌, List, [], ◌∷◌, drop, slice_get, Some}
use Rattle.ipx_table.specs.Reading.{Rules, same_key}
use Rattle.ipx_table.specs.Facts.{Offered, Second, PortEnd, End, Marked, seconds}
use Rattle.ipx_table.specs.declared.held.Held.{Held}

-- an offer that nobody refreshes lives for this many seconds (own)
abbrev pub lifetime : ℕ
lifetime = 180

module _ {O : Type 0} (rules : Rules O) where
  -- a later offer cuts an earlier one of its key if it is of the same source, or was accepted
  abbrev pub cuts : O → Bool → O → Bool
  cuts later accepted earlier = same_key rules.by_key earlier later && (rules.same_source earlier later || accepted)

  -- nothing of what stands after an offer cuts it, and there is no end of all or of its port among it
  abbrev pub lasts : O → List (Marked O) → Bool
  lasts offer [] = true
  lasts offer ((Offered later, accepted) ∷ rest) = not (cuts later accepted offer) && lasts offer rest
  lasts offer ((Second, mark) ∷ rest) = lasts offer rest
  lasts offer ((PortEnd port, mark) ∷ rest) = not (rules.port offer == port) && lasts offer rest
  lasts offer ((End, mark) ∷ rest) = false

  -- the offer of a place is alive: it is accepted and lasts, and fewer seconds than a lifetime stand after it; its age is their number
  pub record IsAliveAt (facts : List (Marked O)) (place : ℕ) (held : Held O) : Type 0 where
    pub accepted : slice_get facts place ≡ Some (Offered held.offer, true)
    pub lasting : lasts held.offer (drop (suc place) facts) ≡ true
    pub age : held.age ≡ seconds (drop (suc place) facts)
    pub young : held.age < lifetime

  -- the alive offers with their ages, in the order of their places; the oldest first
  abbrev pub alive : List (Marked O) → List (Held O)
  alive [] = []
  alive ((Offered offer, true) ∷ later) =
      if lasts offer later && nat_lt (seconds later) lifetime then record { offer = offer; age = seconds later } ∷ alive later
      else alive later
  alive ((Offered offer, false) ∷ later) = alive later
  alive ((Second, mark) ∷ later) = alive later
  alive ((PortEnd port, mark) ∷ later) = alive later
  alive ((End, mark) ∷ later) = alive later
