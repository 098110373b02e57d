-- Neighbours compete for one network: the offer with fewer ticks wins, then the one with fewer hops, and only the
-- neighbour that holds it can make it worse or withdraw it.
use Rattle.std.proofs.Common.{◌≡◌, [], ◌∷◌, true, refl}
use Rattle.ipx_table.specs.declared.taken.Taken.TheVariants.{Withdrawn, Nothing, Refreshed, Replaced, Worse, Admitted}
use Rattle.ipx_table.proofs.examples.Ways.{Way, way, held, offered, alive_after, answer_after}

abbrev by_b : Way
by_b = way 0x30 0xBB 3 5

abbrev by_c : Way
by_c = way 0x30 0xCC 2 5

abbrev by_d : Way
by_d = way 0x30 0xDD 9 4

abbrev by_e : Way
by_e = way 0x30 0xEE 9 4

abbrev far_by_d : Way
far_by_d = way 0x30 0xDD 15 60

abbrev down_by_e : Way
down_by_e = way 0x30 0xEE 16 65535

abbrev down_by_d : Way
down_by_d = way 0x30 0xDD 16 65535

pub the_first_is_admitted : answer_after 8 [] by_b ≡ Admitted
the_first_is_admitted = refl

pub held_first : alive_after 8 (offered (by_b ∷ [])) ≡ held by_b 0 ∷ []
held_first = refl

pub fewer_hops_replace : answer_after 8 (offered (by_b ∷ [])) by_c ≡ Replaced
fewer_hops_replace = refl

pub held_second : alive_after 8 (offered (by_b ∷ by_c ∷ [])) ≡ held by_c 0 ∷ []
held_second = refl

pub fewer_ticks_replace : answer_after 8 (offered (by_b ∷ by_c ∷ [])) by_d ≡ Replaced
fewer_ticks_replace = refl

pub held_third : alive_after 8 (offered (by_b ∷ by_c ∷ by_d ∷ [])) ≡ held by_d 0 ∷ []
held_third = refl

pub as_good_is_worse : answer_after 8 (offered (by_b ∷ by_c ∷ by_d ∷ [])) by_e ≡ Worse
as_good_is_worse = refl

pub held_fourth : alive_after 8 (offered (by_b ∷ by_c ∷ by_d ∷ by_e ∷ [])) ≡ held by_d 0 ∷ []
held_fourth = refl

pub its_own_source_may_make_it_worse : answer_after 8 (offered (by_b ∷ by_c ∷ by_d ∷ by_e ∷ [])) far_by_d ≡ Refreshed true
its_own_source_may_make_it_worse = refl

pub held_fifth : alive_after 8 (offered (by_b ∷ by_c ∷ by_d ∷ by_e ∷ far_by_d ∷ [])) ≡ held far_by_d 0 ∷ []
held_fifth = refl

pub another_source_withdraws_nothing : answer_after 8 (offered (by_b ∷ by_c ∷ by_d ∷ by_e ∷ far_by_d ∷ [])) down_by_e ≡ Nothing
another_source_withdraws_nothing = refl

pub held_sixth : alive_after 8 (offered (by_b ∷ by_c ∷ by_d ∷ by_e ∷ far_by_d ∷ down_by_e ∷ [])) ≡ held far_by_d 0 ∷ []
held_sixth = refl

pub its_own_source_withdraws : answer_after 8 (offered (by_b ∷ by_c ∷ by_d ∷ by_e ∷ far_by_d ∷ down_by_e ∷ [])) down_by_d ≡ Withdrawn
its_own_source_withdraws = refl

pub none_held : alive_after 8 (offered (by_b ∷ by_c ∷ by_d ∷ by_e ∷ far_by_d ∷ down_by_e ∷ down_by_d ∷ [])) ≡ []
none_held = refl
