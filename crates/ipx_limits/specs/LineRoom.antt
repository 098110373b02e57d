-- Which copies find room on a narrow line, and what they use of it.
use Rattle.std.specs.Prelude.{◌≡◌, ℕ, ◌+◌, ◌*◌, ◌%◌, ◌==◌, min, max, Bool, true, false, ◌&&◌, ◌||◌, not, nat_le, if◌then◌else◌, Option, None, Some, get_or, set}
use Rattle.ipx_limits.specs.declared.line.Line.{Line}
use Rattle.ipx_limits.specs.declared.line.LineAddress.{LineAddress}
use Rattle.ipx_limits.specs.declared.line_room.LineUse.{LineUse}
use Rattle.ipx_limits.specs.declared.rank.Rank.{Rank}
use Rattle.ipx_limits.specs.declared.rank.Rank.TheVariants.{Beyond, OfAddress, OfSpeaker, Little, Within}
use Rattle.ipx_limits.specs.Numbers.{second, line_longest, line_short, room_beyond, room_of_address, room_of_speaker, room_within, received_at_once, own_parts, own_at_once, parts_of_one, line_numbers}
use Rattle.ipx_limits.specs.Queues.{users_of}
use Rattle.ipx_limits.specs.LineParts.{ahead, from_now, owed, cost, longest, receivers, pairs, pair_cost, said_cost, most_within, most_said, most_spoken}

-- ---- what is used: of the line; by the speaker, of what he may say to all; by the address; by the speaker, of his part of the address' part,
-- and beyond that

abbrev pub place_of : ℕ → ℕ
place_of number = number % line_numbers

abbrev pub use_at : ℕ → Line → ℕ → LineAddress → ℕ → LineUse
use_at now line said to number = record {
  line = ahead now line.used;
  said = ahead now said;
  received = ahead now to.received;
  within = ahead now (get_or to.within (place_of number) 0);
  spoken = ahead now (get_or to.spoken (place_of number) 0);
}

-- ---- which copies come first

-- nobody else has a number
abbrev pub is_alone : Line → ℕ → Bool
is_alone line number = nat_le (users_of line.numbers number) 1

-- an address says something to its only client there, for which it has no part
abbrev pub speaks_to_itself : Line → LineAddress → ℕ → Bool
speaks_to_itself line to number = number == to.number && to.clients == 1 && is_alone line number

-- a speaker within his part of the address' part. (the number 0 is of those who have none)
abbrev pub is_within : Line → LineAddress → ℕ → ℕ → LineUse → Bool
is_within line to number bytes used =
    not (number == 0) && (not (speaks_to_itself line to number) && nat_le (used.within + pair_cost line to bytes) (most_within line to))

-- an address within its part
abbrev pub has_part : LineUse → Bool
has_part used = nat_le used.received received_at_once

-- one who says so little to all that it doesn't matter to whom, as long as the address has its part; where others have his number, too, they
-- may have used that up
abbrev pub says_little : Line → ℕ → ℕ → LineUse → Bool
says_little line number bytes used =
    not (number == 0) && (has_part used || not (is_alone line number)) && nat_le (used.said + said_cost line bytes) (most_said line)

abbrev pub rank_of : Line → LineAddress → ℕ → ℕ → LineUse → Rank
rank_of line to number bytes used =
    if is_within line to number bytes used then Within
    else if says_little line number bytes used then Little
    else if nat_le used.spoken (most_spoken line to) then OfSpeaker
    else if has_part used then OfAddress
    else Beyond

-- for how long the line may be busy then
abbrev pub most_room : Line → ℕ
most_room line = room_within + longest line + 2 * cost line line_short

abbrev pub room_of : Line → Rank → ℕ
room_of line Beyond = room_beyond
room_of line OfAddress = room_of_address
room_of line OfSpeaker = room_of_speaker
room_of line Little = most_room line
room_of line Within = most_room line

abbrev pub has_room : Line → Rank → LineUse → Bool
has_room line rank used = nat_le used.line (room_of line rank)

abbrev pub room_for : Line → LineAddress → ℕ → ℕ → LineUse → Option Rank
room_for line to number bytes used =
    if has_room line (rank_of line to number bytes used) used then Some (rank_of line to number bytes used) else None

abbrev pub said_owed : ℕ → Line → ℕ → ℕ
said_owed now line said = owed now (most_said line) (said_cost line line_longest) said

abbrev pub address_owed : ℕ → Line → LineAddress → ℕ → LineAddress
address_owed now line to number = record to {
  received = owed now received_at_once (receivers line * longest line) to.received;
  within = set to.within (place_of number) (owed now (most_within line to) (pair_cost line to line_longest) (get_or to.within (place_of number) 0));
  spoken = set to.spoken (place_of number) (owed now (most_spoken line to) (pairs line to * longest line) (get_or to.spoken (place_of number) 0));
}

-- a copy of a packet is to go out to an address
pub record LineAsked (now : ℕ) (line : Line) (number bytes said said_then : ℕ) (room : Option Rank) (to to_then : LineAddress) : Type 0 where
  pub of_speaker : said_then ≡ said_owed now line said
  pub of_address : to_then ≡ address_owed now line to number
  pub decided : room ≡ room_for line to_then number bytes (use_at now line said_then to_then number)

-- ---- what goes out

-- what finds room last, and one of the longest behind it, waits no longer; nor is more owed, or than a second
abbrev pub most_used : Line → ℕ
most_used line = max second (most_room line + longest line)

abbrev pub line_after : ℕ → Line → ℕ → Line
line_after now line bytes = record line { used = from_now now (min (ahead now line.used + cost line bytes) (most_used line)) }

abbrev pub taken : ℕ → Bool → ℕ → ℕ → ℕ
taken now takes nanoseconds moment = if takes then from_now now (ahead now moment + nanoseconds) else moment

-- of what each is taken
abbrev pub is_little : Rank → Bool
is_little Little = true
is_little _ = false

abbrev pub is_of_part : Rank → Bool
is_of_part Within = true
is_of_part _ = false

-- (what is within his part counts there, too: so a speaker has no second part beside it, and leaves room to whoever has none)
abbrev pub is_spoken : Rank → Bool
is_spoken OfSpeaker = true
is_spoken Within = true
is_spoken _ = false

abbrev pub is_received : Rank → Bool
is_received Beyond = false
is_received _ = true

-- a copy goes out that found room with that rank
pub record LineSent (now : ℕ) (number bytes : ℕ) (rank : Rank) (old new : Line) (said said_then : ℕ) (to to_then : LineAddress) : Type 0 where
  pub of_line : new ≡ line_after now old bytes
  pub of_speaker : said_then ≡ taken now (is_little rank) (said_cost old bytes) said
  pub of_address : to_then ≡ record to {
    received = taken now (is_received rank) (receivers old * cost old bytes) to.received;
    within = set to.within (place_of number) (taken now (is_of_part rank) (pair_cost old to bytes) (get_or to.within (place_of number) 0));
    spoken = set to.spoken (place_of number) (taken now (is_spoken rank) (pairs old to * cost old bytes) (get_or to.spoken (place_of number) 0));
  }

-- what goes out beyond all parts waits for nobody
abbrev pub lets_beyond : ℕ → Line → Bool
lets_beyond now line = nat_le (ahead now line.used) room_beyond

-- ---- datagrams of the gateway's own: answers and pings to clients, and those to strangers, each with a part

abbrev pub own_cost : Line → ℕ → ℕ
own_cost line bytes = own_parts * cost line bytes

abbrev pub own_after : ℕ → Line → ℕ → Line
own_after now line bytes = record (line_after now line bytes) { own = owed now own_at_once (own_cost line line_longest) (taken now true (own_cost line bytes) line.own) }

-- and so much of each part is one address'
abbrev pub one_cost : Line → ℕ → ℕ
one_cost line bytes = parts_of_one * own_cost line bytes

-- of which so much may be used at once, or a short packet: by a narrow line somebody may register, and another of his house at once
abbrev pub most_of_one : Line → ℕ
most_of_one line = max own_at_once (one_cost line line_short)

abbrev pub one_owed : ℕ → Line → ℕ → ℕ
one_owed now line address = owed now (most_of_one line) (one_cost line line_longest) address

-- that part is used so far, and so is the address' of it
abbrev pub lets_one : ℕ → Line → (part address : ℕ) → Bool
lets_one now line part address =
    nat_le (ahead now part) own_at_once && nat_le (ahead now address) (most_of_one line) && nat_le (ahead now line.used) (most_room line)

abbrev pub lets_answer : ℕ → Line → ℕ → Bool
lets_answer now line address = lets_one now line line.own address || lets_beyond now line

abbrev pub lets_stranger : ℕ → Line → ℕ → Bool
lets_stranger now line address = lets_one now line line.to_strangers address

abbrev pub strangers_owed : ℕ → Line → Line
strangers_owed now line = record line { to_strangers = owed now own_at_once (own_cost line line_longest) line.to_strangers }

abbrev pub stranger_after : ℕ → Line → ℕ → Line
stranger_after now line bytes = record (line_after now line bytes) { to_strangers = taken now true (own_cost line bytes) line.to_strangers }
