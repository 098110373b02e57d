-- A cable with a few stations, of which all have one hash.
use Rattle.std.proofs.Common.{◌≡◌, refl, ℕ, zero, suc, Bool, true, false, List, [], ◌∷◌, map, replicate, None, Some}
use Rattle.ipx_cable.specs.declared.station.Station.{Station}
use Rattle.ipx_cable.specs.declared.kinds.Kinds.{Kinds}
use Rattle.ipx_cable.specs.Stations.{nobody, station_of, has_another, place, after_word, all_aged, heard}
use Rattle.ipx_cable.specs.Kinds.{nothing, word, is_heard, kind_at, speaks}

abbrev node : ℕ → List ℕ
node last = 2 ∷ 0 ∷ 0 ∷ 0 ∷ 0 ∷ last ∷ []

abbrev everybody : List ℕ
everybody = replicate 6 0xFF

-- the kinds in which a packet goes out
abbrev bits : List ℕ → Kinds → List Bool
bits to kinds = map (λ kind. speaks 7 to kind kinds) (1 ∷ 2 ∷ 3 ∷ 4 ∷ [])

-- nothing was heard: all four
pub in_all_four : bits everybody nothing ≡ true ∷ true ∷ true ∷ true ∷ []
in_all_four = refl

-- a station spoke in kind 2: it's spoken to in kind 2, and so is everybody
abbrev one : Kinds
one = word 7 (node 1) 2 false nothing

pub known : kind_at 7 (node 1) one ≡ 2
known = refl

pub in_its_kind : bits (node 1) one ≡ false ∷ true ∷ false ∷ false ∷ []
in_its_kind = refl

-- another spoke in kind 3: all, and whoever isn't known, are spoken to in both
abbrev two : Kinds
two = word 7 (node 2) 3 true one

pub in_both : (bits everybody two ≡ false ∷ true ∷ true ∷ false ∷ []) × (bits (node 3) two ≡ false ∷ true ∷ true ∷ false ∷ [])
in_both = (refl, refl)

pub still_in_its_kind : bits (node 1) two ≡ false ∷ true ∷ false ∷ false ∷ []
still_in_its_kind = refl

-- the first speaks in kind 4 at once: for all it doesn't count; for one it does, but it is spoken to in kind 2 still
pub a_copy : is_heard 7 (node 1) 4 true two ≡ false
a_copy = refl

pub not_a_copy : is_heard 7 (node 1) 4 false two ≡ true
not_a_copy = refl

pub has_its_kind_still : kind_at 7 (node 1) (word 7 (node 1) 4 false two) ≡ 2
has_its_kind_still = refl

pub but_it_is_used : bits everybody (word 7 (node 1) 4 false two) ≡ false ∷ true ∷ true ∷ true ∷ []
but_it_is_used = refl

-- ---- one bucket

abbrev seconds : ℕ → List Station → List Station
seconds zero stations = stations
seconds (suc n) stations = seconds n (all_aged stations)

abbrev bucket : List Station
bucket = heard (node 1) 2 ∷ nobody ∷ []

-- after four seconds it is too early for another kind, after five it isn't
pub too_early : has_another (node 1) 4 (seconds 4 bucket) ≡ true
too_early = refl

pub late_enough : has_another (node 1) 4 (seconds 5 bucket) ≡ false
late_enough = refl

pub has_changed : after_word (node 1) 4 (seconds 5 bucket) ≡ heard (node 1) 4 ∷ nobody ∷ []
has_changed = refl

-- after 299 seconds it is known, after 300 it isn't
pub known_for_long : station_of (node 1) (seconds 299 bucket) ≡ Some (record { node = node 1; kind = 2; left = 1 })
known_for_long = refl

pub forgotten : station_of (node 1) (seconds 300 bucket) ≡ None
forgotten = refl

-- a second station takes the free place, a third finds none: both others stay
pub second_place : place (node 2) bucket ≡ Some 1
second_place = refl

abbrev full : List Station
full = after_word (node 2) 3 bucket

pub no_place : after_word (node 3) 1 full ≡ full
no_place = refl

-- a place that was forgotten is free
pub taken_again : station_of (node 3) (after_word (node 3) 1 (seconds 300 full)) ≡ Some (heard (node 3) 1)
taken_again = refl
