-- Two ports share a table of three: port 0 may have two records, port 1 one. What a port at its share may still do, and
-- what it may not; then shares of another size, and a port without a limit.
use Rattle.std.proofs.Common.{◌≡◌, List, [], ◌∷◌, ◌++◌, false, true, refl, arith}
use Rattle.ipx_table.specs.Reading.{count_by}
use Rattle.ipx_table.specs.Facts.{Fact, Offered, Second}
use Rattle.ipx_table.specs.Shares.{IsSharedBy}
use Rattle.ipx_table.specs.declared.held.Held.{Held}
use Rattle.ipx_table.specs.declared.taken.Taken.{Taken}
use Rattle.ipx_table.specs.declared.taken.Taken.TheVariants.{Withdrawn, Refreshed, Replaced, Worse, Admitted, Full}
use Rattle.ipx_table.proofs.examples.Ways.{Way, way_by, held, offered, shared_ways, alive_shared, answer_shared}

abbrev alive_now : List (Fact Way) → List (Held Way)
alive_now facts = alive_shared 3 (2 ∷ 1 ∷ []) facts

abbrev answer_now : List (Fact Way) → Way → Taken
answer_now facts w = answer_shared 3 (2 ∷ 1 ∷ []) facts w

abbrev one : Way
one = way_by 0 1 0xAA 2 5

abbrev two : Way
two = way_by 0 2 0xAA 2 5

abbrev three : Way
three = way_by 0 3 0xAA 2 5

abbrev farther_one : Way
farther_one = way_by 0 1 0xAA 3 8

abbrev down_one : Way
down_one = way_by 0 1 0xAA 16 65535

abbrev nearer_one : Way
nearer_one = way_by 0 1 0xCC 1 2

abbrev three_by_the_other : Way
three_by_the_other = way_by 1 3 0xBB 4 9

-- better than the way of port 0
abbrev one_by_the_other : Way
one_by_the_other = way_by 1 1 0xBB 1 2

abbrev four_by_the_other : Way
four_by_the_other = way_by 1 4 0xBB 4 9

-- no better than the other port's way to the same network
abbrev three_as_far : Way
three_as_far = way_by 0 3 0xAA 4 9

abbrev at_share : List (Fact Way)
at_share = offered (one ∷ two ∷ [])

abbrev all_at_share : List (Fact Way)
all_at_share = offered (one ∷ two ∷ three_by_the_other ∷ []) ++ Second ∷ []

-- ---- a port at its share

pub below_its_share_it_gets_in : answer_now (offered (one ∷ [])) two ≡ Admitted
below_its_share_it_gets_in = refl

pub at_its_share_it_refreshes : answer_now at_share one ≡ Refreshed false
at_its_share_it_refreshes = refl

pub at_its_share_it_may_change_its_offer : answer_now at_share farther_one ≡ Refreshed true
at_its_share_it_may_change_its_offer = refl

pub refreshed_at_share : alive_now (at_share ++ Second ∷ Offered farther_one ∷ []) ≡ held two 1 ∷ held farther_one 0 ∷ []
refreshed_at_share = refl

-- there is a third place in the table, but not for this port
pub at_its_share_a_new_key_is_refused : answer_now at_share three ≡ Full
at_its_share_a_new_key_is_refused = refl

pub the_refused_key_changes_nothing : alive_now (at_share ++ Second ∷ Offered three ∷ []) ≡ held one 1 ∷ held two 1 ∷ []
the_refused_key_changes_nothing = refl

-- another node of the same port: the port has as many records as before
pub at_its_share_it_replaces_its_own : answer_now at_share nearer_one ≡ Replaced
at_its_share_it_replaces_its_own = refl

pub replaced_at_share : alive_now (at_share ++ Second ∷ Offered nearer_one ∷ []) ≡ held two 1 ∷ held nearer_one 0 ∷ []
replaced_at_share = refl

pub the_other_port_still_gets_in : answer_now at_share three_by_the_other ≡ Admitted
the_other_port_still_gets_in = refl

-- ---- another port's record

pub at_its_share_it_replaces_no_other_port : answer_now all_at_share three ≡ Full
at_its_share_it_replaces_no_other_port = refl

pub the_record_of_the_other_port_stays : alive_now (all_at_share ++ Offered three ∷ []) ≡ held one 1 ∷ held two 1 ∷ held three_by_the_other 1 ∷ []
the_record_of_the_other_port_stays = refl

-- where the offer is no better, that is the answer, also at a full share
pub rank_is_judged_before_the_share : answer_now all_at_share three_as_far ≡ Worse
rank_is_judged_before_the_share = refl

-- only the share was missing
pub with_a_larger_share_it_replaces : answer_shared 3 (3 ∷ 1 ∷ []) all_at_share three ≡ Replaced
with_a_larger_share_it_replaces = refl

-- a withdrawal leaves a share to the port: it may take the other port's record now
pub at_its_share_it_withdraws : answer_now all_at_share down_one ≡ Withdrawn
at_its_share_it_withdraws = refl

pub below_its_share_it_replaces : answer_now (all_at_share ++ Offered down_one ∷ []) three ≡ Replaced
below_its_share_it_replaces = refl

pub the_other_port_has_none_left : alive_now (all_at_share ++ Offered down_one ∷ Offered three ∷ []) ≡ held two 1 ∷ held three 0 ∷ []
the_other_port_has_none_left = refl

-- ---- shares of another size

pub a_share_of_0_admits_nothing : answer_shared 3 (0 ∷ 3 ∷ []) [] one ≡ Full
a_share_of_0_admits_nothing = refl

pub a_share_of_0_replaces_nothing : answer_shared 3 (0 ∷ 3 ∷ []) (offered (three_by_the_other ∷ [])) three ≡ Full
a_share_of_0_replaces_nothing = refl

pub beside_a_share_of_0_the_other_gets_in : answer_shared 3 (0 ∷ 3 ∷ []) (offered (one ∷ [])) three_by_the_other ≡ Admitted
beside_a_share_of_0_the_other_gets_in = refl

-- shares of two and two in a table of two: who comes first has it all, and the other, below its share, finds no room
pub shares_beyond_the_capacity : answer_shared 2 (2 ∷ 2 ∷ []) at_share three_by_the_other ≡ Full
shares_beyond_the_capacity = refl

pub the_first_keeps_them : alive_shared 2 (2 ∷ 2 ∷ []) (at_share ++ Offered three_by_the_other ∷ []) ≡ held one 0 ∷ held two 0 ∷ []
the_first_keeps_them = refl

-- but a better way takes the place of the other port's: the capacity isn't asked
pub a_better_way_replaces_without_room : answer_shared 2 (2 ∷ 2 ∷ []) at_share one_by_the_other ≡ Replaced
a_better_way_replaces_without_room = refl

-- a port that was given no share has the capacity, and may leave no room for one that was
pub without_a_share_it_has_the_capacity : alive_shared 2 (1 ∷ []) (offered (three_by_the_other ∷ four_by_the_other ∷ [])) ≡ held three_by_the_other 0 ∷ held four_by_the_other 0 ∷ []
without_a_share_it_has_the_capacity = refl

pub a_port_without_a_share_leaves_no_room : answer_shared 2 (1 ∷ []) (offered (three_by_the_other ∷ four_by_the_other ∷ [])) one ≡ Full
a_port_without_a_share_leaves_no_room = refl

-- ---- three ports, and no limit to the one in the middle

-- it may fill the table, but as long as it offers nothing the other two share it
abbrev beside_no_limit : List (Fact Way) → Way → Taken
beside_no_limit facts w = answer_shared 2 (1 ∷ 65535 ∷ 1 ∷ []) facts w

abbrev three_by_the_last : Way
three_by_the_last = way_by 2 3 0xCC 4 9

pub first_and_last_share_the_table : IsSharedBy (shared_ways 2 (1 ∷ 65535 ∷ 1 ∷ [])) (0 ∷ 2 ∷ []) (offered (one ∷ three_by_the_last ∷ []))
first_and_last_share_the_table = record { came = (refl, (refl, tt)); fit = omega arith }

pub the_last_finds_room : beside_no_limit (offered (one ∷ [])) three_by_the_last ≡ Admitted
the_last_finds_room = refl

pub the_unlimited_port_takes_it : beside_no_limit (offered (one ∷ four_by_the_other ∷ [])) three_by_the_last ≡ Full
the_unlimited_port_takes_it = refl

pub each_port_is_counted : count_by (λ (w : Way). w.port) 0 (alive_now all_at_share) ≡ 2
each_port_is_counted = refl

pub the_other_is_counted : count_by (λ (w : Way). w.port) 1 (alive_now all_at_share) ≡ 1
the_other_is_counted = refl
