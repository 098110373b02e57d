-- The offers of a port end: its own go and the other port's stay, and what comes by it afterwards is new.
use Rattle.std.proofs.Common.{◌≡◌, List, [], ◌∷◌, ◌++◌, true, refl, replicate}
use Rattle.ipx_table.specs.Facts.{Fact, Offered, Second, PortEnd}
use Rattle.ipx_table.specs.Stands.{ended_with_port}
use Rattle.ipx_table.specs.declared.taken.Taken.TheVariants.{Nothing, Refreshed, Worse, Admitted, Full}
use Rattle.ipx_table.proofs.examples.Ways.{Way, way_by, held, offered, alive_after, answer_after, answer_shared}

abbrev one : Way
one = way_by 0 1 0xAA 2 5

abbrev two : Way
two = way_by 0 2 0xAA 2 5

abbrev four : Way
four = way_by 0 4 0xAA 2 5

abbrev farther_one : Way
farther_one = way_by 0 1 0xAA 3 8

abbrev down_one : Way
down_one = way_by 0 1 0xAA 16 65535

abbrev three_by_the_other : Way
three_by_the_other = way_by 1 3 0xBB 4 9

-- the same network by both ports
abbrev one_by_the_other : Way
one_by_the_other = way_by 1 1 0xBB 4 9

abbrev both_ports : List (Fact Way)
both_ports = offered (one ∷ three_by_the_other ∷ two ∷ []) ++ replicate 10 Second

pub its_own_end : alive_after 8 (both_ports ++ PortEnd 0 ∷ []) ≡ held three_by_the_other 10 ∷ []
its_own_end = refl

pub the_other_end : alive_after 8 (both_ports ++ PortEnd 1 ∷ []) ≡ held one 10 ∷ held two 10 ∷ []
the_other_end = refl

pub what_ends : ended_with_port (λ (w : Way). w.port) 0 (alive_after 8 both_ports) ≡ one ∷ two ∷ []
what_ends = refl

pub a_port_without_records : alive_after 8 (both_ports ++ PortEnd 2 ∷ []) ≡ alive_after 8 both_ports
a_port_without_records = refl

pub none_are_left_after_both : alive_after 8 (both_ports ++ PortEnd 0 ∷ PortEnd 1 ∷ []) ≡ []
none_are_left_after_both = refl

-- ---- what comes by the port afterwards

pub before_the_end_it_refreshes : answer_after 8 both_ports farther_one ≡ Refreshed true
before_the_end_it_refreshes = refl

pub after_the_end_it_is_admitted_again : answer_after 8 (both_ports ++ PortEnd 0 ∷ []) one ≡ Admitted
after_the_end_it_is_admitted_again = refl

pub nothing_is_left_to_withdraw : answer_after 8 (both_ports ++ PortEnd 0 ∷ []) down_one ≡ Nothing
nothing_is_left_to_withdraw = refl

-- its age counts from itself, not from the offer before the end
pub its_age_is_its_own : alive_after 8 (both_ports ++ PortEnd 0 ∷ Offered one ∷ Second ∷ Second ∷ []) ≡ held three_by_the_other 12 ∷ held one 2 ∷ []
its_age_is_its_own = refl

-- the end of a port leaves its share to what comes next
pub before_the_end_the_share_is_full : answer_shared 8 (2 ∷ 2 ∷ []) both_ports four ≡ Full
before_the_end_the_share_is_full = refl

pub after_the_end_the_share_is_free : answer_shared 8 (2 ∷ 2 ∷ []) (both_ports ++ PortEnd 0 ∷ []) four ≡ Admitted
after_the_end_the_share_is_free = refl

-- ---- one network by two ports

pub the_farther_is_worse : answer_after 8 (offered (one ∷ [])) one_by_the_other ≡ Worse
the_farther_is_worse = refl

pub the_end_of_the_refused_port_leaves_the_record : alive_after 8 (offered (one ∷ one_by_the_other ∷ []) ++ PortEnd 1 ∷ []) ≡ held one 0 ∷ []
the_end_of_the_refused_port_leaves_the_record = refl

-- the offer that was refused before doesn't come back with the end of the better one
pub with_the_better_none_is_left : alive_after 8 (offered (one ∷ one_by_the_other ∷ []) ++ PortEnd 0 ∷ []) ≡ []
with_the_better_none_is_left = refl

pub then_the_farther_is_admitted : answer_after 8 (offered (one ∷ one_by_the_other ∷ []) ++ PortEnd 0 ∷ []) one_by_the_other ≡ Admitted
then_the_farther_is_admitted = refl

-- the record is of the port that gave it last
pub the_end_of_the_replaced_port_leaves_the_record : alive_after 8 (offered (one_by_the_other ∷ one ∷ []) ++ PortEnd 1 ∷ []) ≡ held one 0 ∷ []
the_end_of_the_replaced_port_leaves_the_record = refl
