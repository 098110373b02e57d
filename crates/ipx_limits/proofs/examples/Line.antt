-- A narrow line of a megabit a second: what packets take of it, which come first, and how many it is wide enough for.
use Rattle.std.proofs.Common.{◌≡◌, refl, arith, ℕ, ◌+◌, ◌*◌, lit≤, true, false, None, Some, List, set, replicate}
use Rattle.ipx_limits.specs.declared.line.Line.{Line}
use Rattle.ipx_limits.specs.declared.line.LineAddress.{LineAddress}
use Rattle.ipx_limits.specs.declared.line_room.LineUse.{LineUse}
use Rattle.ipx_limits.specs.declared.rank.Rank.TheVariants.{Beyond, OfAddress, OfSpeaker, Little, Within}
use Rattle.ipx_limits.specs.Numbers.{line_short, line_longest}
use Rattle.ipx_limits.specs.LineMembers.{LineJoined, LineLeft, is_silent}
use Rattle.ipx_limits.specs.LineParts.{owed, cost, longest, receivers, speakers, pairs, pair_cost, said_cost, most_within, most_said, most_spoken}
use Rattle.ipx_limits.specs.LineRoom.{rank_of, most_room, room_for, LineSent, own_cost, own_after, one_cost, most_of_one, lets_answer, lets_stranger, stranger_after}
use Rattle.ipx_limits.specs.LineLaws.{IsWide}

-- so many kilobits a second; so many addresses, which all speak; and busy until a moment
abbrev busy_line : ℕ → ℕ → ℕ → Line
busy_line kilobits addresses used = record {
  kilobits = kilobits;
  addresses = addresses;
  speakers = addresses;
  used = used;
  own = 0;
  to_strangers = 0;
  numbers = record { users = replicate 256 0; last = 0 };
}

abbrev line : ℕ → ℕ → Line
line kilobits addresses = busy_line kilobits addresses 0

-- a megabit a second, and three addresses
abbrev three : Line
three = line 1000 3

-- an address with so many clients, and that number
abbrev address : ℕ → ℕ → LineAddress
address clients number = record { clients = clients; number = number; quiet = 0; received = 0; within = replicate 64 0; spoken = replicate 64 0 }

abbrev household : LineAddress
household = address 2 1

-- ---- what packets take: no packet is longer than the longest

pub short_takes : cost three line_short ≡ 1777777
short_takes = refl

pub longest_takes : longest three ≡ 13742222
longest_takes = refl

pub longer_takes_no_more : cost three 65535 ≡ longest three
longer_takes_no_more = refl

pub by_ten_megabits : cost (line 10000 3) line_short ≡ 177777
by_ten_megabits = refl

pub without_width : cost (line 0 3) line_short ≡ cost (line 1 3) line_short
without_width = refl

-- ---- parts

pub parts : (receivers three ≡ 3) × (speakers three ≡ 3)
parts = (refl, refl)

pub no_more_parts : (receivers (line 1000 5000) ≡ 4096) × (speakers (line 1000 5000) ≡ 4096)
no_more_parts = (refl, refl)

-- an address with one client alone says nothing to itself; one with two may, and so may one that doesn't speak receive from all
pub shared_by_others : (pairs three (address 1 1) ≡ 3 * 2) × (pairs three household ≡ 3 * 3) × (pairs three (address 1 0) ≡ 3 * 3)
shared_by_others = (refl, refl, refl)

pub alone : pairs (line 1000 1) (address 1 1) ≡ 1
alone = refl

-- a copy takes three of 29 parts more of a part, and of what is said to all as much as 32
pub of_a_part : pair_cost three household line_short ≡ 9 * (1777777 + 183908)
of_a_part = refl

pub of_all : said_cost three line_short ≡ 3 * (32 * 1777777)
of_all = refl

pub at_once_of_each : (most_within three household ≡ 150000000) × (most_said three ≡ 1000000000) × (most_spoken three household ≡ 1000000000)
at_once_of_each = (refl, refl, refl)

-- where many share the line, a short packet
pub a_short_one : most_within (line 1000 10) household ≡ 100 * (1777777 + 183908)
a_short_one = refl

-- ---- how wide it is

pub wide_for_eight : IsWide (line 1000 8)
wide_for_eight = record { of_parts = lit≤ tt; of_all = lit≤ tt }

pub not_for_ten : IsWide (line 1000 10) → ⊥
not_for_ten wide = absurd (omega (arith, wide.of_parts))

pub wider_for_more : IsWide (line 10000 27)
wider_for_more = record { of_parts = lit≤ tt; of_all = lit≤ tt }

-- ---- which copies come first

-- so much is used of what is said to all, of the address' part, of the speaker's part of that, and beyond it
abbrev uses : ℕ → ℕ → ℕ → ℕ → LineUse
uses said received within spoken = record { line = 0; said = said; received = received; within = within; spoken = spoken }

pub first : rank_of three household 2 line_short (uses 0 0 0 0) ≡ Within
first = refl

-- a short packet takes 17655165 of 150000000
pub just_within : rank_of three household 2 line_short (uses 160000001 250000001 132344835 1000000001) ≡ Within
just_within = refl

pub part_is_used : rank_of three household 2 line_short (uses 0 0 132344836 0) ≡ Little
part_is_used = refl

-- and 170666592 of that which is said to all
pub just_little : rank_of three household 2 line_short (uses 829333408 250000000 132344836 0) ≡ Little
just_little = refl

pub says_more : rank_of three household 2 line_short (uses 829333409 0 132344836 1000000000) ≡ OfSpeaker
says_more = refl

pub says_much : rank_of three household 2 line_short (uses 829333409 250000000 132344836 1000000001) ≡ OfAddress
says_much = refl

pub says_too_much : rank_of three household 2 line_short (uses 829333409 250000001 132344836 1000000001) ≡ Beyond
says_too_much = refl

-- an address that received its part gets no more of one who says little to all; but where two have his number, it does
pub address_is_full : rank_of three household 2 line_short (uses 0 250000001 132344836 0) ≡ OfSpeaker
address_is_full = refl

pub shares_number : rank_of (record three { numbers = record { users = set (replicate 256 0) 2 2; last = 2 } }) household 2 line_short
    (uses 0 250000001 132344836 0)
    ≡ Little
shares_number = refl

-- the router has no part
pub router : rank_of three household 0 line_short (uses 0 0 0 0) ≡ OfSpeaker
router = refl

-- ---- whether there is room

abbrev while_busy : ℕ → LineUse → LineUse
while_busy line used = record used { line = line }

pub most_is : most_room three ≡ 310000000 + 13742222 + 2 * 1777777
most_is = refl

pub within_finds_room : room_for three household 2 line_short (while_busy 327297776 (uses 0 0 0 0)) ≡ Some Within
within_finds_room = refl

pub within_finds_none : room_for three household 2 line_short (while_busy 327297777 (uses 0 0 0 0)) ≡ None
within_finds_none = refl

pub of_speaker_finds_room : room_for three household 0 line_short (while_busy 80000000 (uses 0 0 0 0)) ≡ Some OfSpeaker
of_speaker_finds_room = refl

pub of_speaker_finds_none : room_for three household 0 line_short (while_busy 80000001 (uses 0 0 0 0)) ≡ None
of_speaker_finds_none = refl

pub of_address_finds_room : room_for three household 0 line_short (while_busy 40000000 (uses 0 0 0 1000000001)) ≡ Some OfAddress
of_address_finds_room = refl

pub of_address_finds_none : room_for three household 0 line_short (while_busy 40000001 (uses 0 0 0 1000000001)) ≡ None
of_address_finds_none = refl

pub beyond_finds_room : room_for three household 0 line_short (while_busy 20000000 (uses 0 250000001 0 1000000001)) ≡ Some Beyond
beyond_finds_room = refl

pub beyond_finds_none : room_for three household 0 line_short (while_busy 20000001 (uses 0 250000001 0 1000000001)) ≡ None
beyond_finds_none = refl

-- ---- what a copy takes that goes out at the moment 1000: of the line, of the address' part, and of what its rank says

abbrev received : ℕ → List ℕ → List ℕ → LineAddress
received moment within spoken = record { clients = 2; number = 1; quiet = 0; received = moment; within = within; spoken = spoken }

abbrev none : List ℕ
none = replicate 64 0

abbrev of_two : ℕ → List ℕ
of_two moment = set none 2 moment

pub takes_of_part : LineSent 1000 2 line_short Within three (busy_line 1000 3 1778777) 0 0 household (received 5334331 (of_two 17656165) (of_two 16000993))
takes_of_part = record { of_line = refl; of_speaker = refl; of_address = refl }

pub takes_of_all : LineSent 1000 2 line_short Little three (busy_line 1000 3 1778777) 0 170667592 household (received 5334331 none none)
takes_of_all = record { of_line = refl; of_speaker = refl; of_address = refl }

pub takes_of_speaker : LineSent 1000 2 line_short OfSpeaker three (busy_line 1000 3 1778777) 0 0 household (received 5334331 none (of_two 16000993))
takes_of_speaker = record { of_line = refl; of_speaker = refl; of_address = refl }

pub takes_of_address : LineSent 1000 2 line_short OfAddress three (busy_line 1000 3 1778777) 0 0 household (received 5334331 none none)
takes_of_address = record { of_line = refl; of_speaker = refl; of_address = refl }

pub takes_of_line : LineSent 1000 2 line_short Beyond three (busy_line 1000 3 1778777) 0 0 household household
takes_of_line = record { of_line = refl; of_speaker = refl; of_address = refl }

-- somebody's part was used until long after, while it was smaller: he owes no more than may be used at once, and one of the longest packets
pub owes_no_more : owed 1000 (most_within three household) (pair_cost three household line_longest) 5000000000 ≡ 1000 + 150000000 + 9 * (13742222 + 1421610)
owes_no_more = refl

-- ---- the gateway's own datagrams, and those to strangers

pub own_takes : own_cost three line_short ≡ 32 * 1777777
own_takes = refl

pub answer_goes : lets_answer 0 (record (busy_line 1000 3 327297776) { own = 1000000000 }) 1000000000 ≡ true
answer_goes = refl

pub answers_used_theirs : lets_answer 0 (record (busy_line 1000 3 20000001) { own = 1000000001 }) 0 ≡ false
answers_used_theirs = refl

-- an address has used its eighth, and another hasn't
pub address_used_its_own : lets_answer 0 (busy_line 1000 3 20000001) 1000000001 ≡ false
address_used_its_own = refl

pub another_has_its_own : lets_answer 0 (busy_line 1000 3 20000001) 0 ≡ true
another_has_its_own = refl

pub answer_waits_for_nobody : lets_answer 0 (record (busy_line 1000 3 20000000) { own = 1000000001 }) 1000000001 ≡ true
answer_waits_for_nobody = refl

pub own_went : own_after 1000 three line_short ≡ record (busy_line 1000 3 1778777) { own = 1000 + 32 * 1777777 }
own_went = refl

pub one_takes : one_cost three line_short ≡ 8 * (32 * 1777777)
one_takes = refl

pub stranger_goes : lets_stranger 0 (record (busy_line 1000 3 327297776) { to_strangers = 1000000000 }) 1000000000 ≡ true
stranger_goes = refl

pub strangers_used_theirs : lets_stranger 0 (record three { to_strangers = 1000000001 }) 0 ≡ false
strangers_used_theirs = refl

pub one_used_his : lets_stranger 0 three 1000000001 ≡ false
one_used_his = refl

pub line_is_busy : lets_stranger 0 (busy_line 1000 3 327297777) 0 ≡ false
line_is_busy = refl

pub stranger_went : stranger_after 1000 three line_short ≡ record (busy_line 1000 3 1778777) { to_strangers = 1000 + 32 * 1777777 }
stranger_went = refl

-- ---- who is there

pub first_client : LineJoined three (record three { addresses = 4 }) (address 0 0) (address 1 0)
first_client = record { of_line = refl; of_address = refl }

pub second_client : LineJoined three three (address 1 0) (address 2 0)
second_client = record { of_line = refl; of_address = refl }

pub last_leaves : LineLeft three (record three { addresses = 2 }) (address 1 0) (address 0 0)
last_leaves = record { of_line = refl; of_address = refl }

pub one_leaves : LineLeft three three (address 2 0) (address 1 0)
one_leaves = record { of_line = refl; of_address = refl }

pub nine_seconds : is_silent (record household { quiet = 9 }) ≡ false
nine_seconds = refl

pub ten_seconds : is_silent (record household { quiet = 10 }) ≡ true
ten_seconds = refl
