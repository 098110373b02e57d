-- Three packets are counted.
use Rattle.std.proofs.Common.{◌≡◌, refl, List, [], ◌∷◌, get_or}
use Rattle.std.specs.List.{sum}
use Rattle.ipx_fates.specs.declared.fate.Fate.{Fate}
use Rattle.ipx_fates.specs.declared.fate.Fate.TheVariants.{Elsewhere, Dropped, HandedOn, Lost}
use Rattle.ipx_fates.specs.declared.reason.Reason.TheVariants as reason
use Rattle.ipx_fates.specs.Counting.{has_place, place_of}
use Rattle.ipx_fates.specs.Laws.{counts_of, number_of, is_taken}

abbrev pub four : List Fate
four = Dropped 1202 ∷ Elsewhere ∷ Lost reason.NoIpx ∷ HandedOn ∷ []

pub three_came : (counts_of four).came ≡ 3
three_came = refl

pub one_held_no_packet : get_or (counts_of four).lost 6 0 ≡ 1
one_held_no_packet = refl

-- the router's number 1202, of hundred 12
pub one_is_dropped : (place_of 1202 ≡ 122) × (get_or (counts_of four).dropped 122 0 ≡ 1)
one_is_dropped = (refl, refl)

pub all_of_them : (number_of is_taken four ≡ 1) × (sum (counts_of four).lost ≡ 1) × (sum (counts_of four).dropped ≡ 1)
all_of_them = (refl, refl, refl)

pub no_other_rest : has_place 110 ≡ has_place 1900
no_other_rest = refl
