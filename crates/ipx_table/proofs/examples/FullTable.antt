-- A table of two: what has no room, what a refresh saves, what the last second of a lifetime ends, and what room that makes.
use Rattle.std.proofs.Common.{◌≡◌, ◌-◌, List, [], ◌∷◌, ◌++◌, false, refl, replicate}
use Rattle.ipx_table.specs.Alive.{lifetime}
use Rattle.ipx_table.specs.Facts.{Fact, Offered, Second, End}
use Rattle.ipx_table.specs.Stands.{in_order, ended}
use Rattle.ipx_table.specs.declared.taken.Taken.TheVariants.{Refreshed, Admitted, Full}
use Rattle.ipx_table.proofs.examples.Ways.{Way, way, ways, held, alive_after, answer_after}

abbrev first : Way
first = way 1 0xAA 1 1

abbrev second : Way
second = way 2 0xAA 1 1

abbrev third : Way
third = way 3 0xAA 1 1

abbrev full : List (Fact Way)
full = Offered second ∷ Offered first ∷ Offered third ∷ []

abbrev old : List (Fact Way)
old = full ++ replicate (lifetime - 1) Second

abbrev refreshed : List (Fact Way)
refreshed = old ++ Offered first ∷ []

pub the_second_is_admitted : answer_after 2 (Offered second ∷ []) first ≡ Admitted
the_second_is_admitted = refl

pub the_third_has_no_room : answer_after 2 (Offered second ∷ Offered first ∷ []) third ≡ Full
the_third_has_no_room = refl

-- nothing makes room for it
pub both_stay : alive_after 2 full ≡ held second 0 ∷ held first 0 ∷ []
both_stay = refl

-- a second before their lifetime is over both are alive
pub both_are_old : alive_after 2 old ≡ held second (lifetime - 1) ∷ held first (lifetime - 1) ∷ []
both_are_old = refl

pub unchanged : answer_after 2 old first ≡ Refreshed false
unchanged = refl

pub one_is_young_again : alive_after 2 refreshed ≡ held second (lifetime - 1) ∷ held first 0 ∷ []
one_is_young_again = refl

-- the last second of its lifetime ends the other
pub one_ends : ended (in_order (ways 2).by_key (alive_after 2 refreshed)) ≡ second ∷ []
one_ends = refl

pub one_lives : alive_after 2 (refreshed ++ Second ∷ []) ≡ held first 1 ∷ []
one_lives = refl

-- and makes room
pub now_there_is_room : answer_after 2 (refreshed ++ Second ∷ []) third ≡ Admitted
now_there_is_room = refl

pub an_end_ends_all : alive_after 2 (refreshed ++ Second ∷ Offered third ∷ End ∷ []) ≡ []
an_end_ends_all = refl

-- no offer is admitted where there is no place at all
pub no_capacity : answer_after 0 [] first ≡ Full
no_capacity = refl
