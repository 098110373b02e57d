-- The limits of a network, from what its configuration says.
use Rattle.std.specs.Prelude.{ℕ, ◌+◌, ◌-◌, ◌*◌, ◌/◌, ◌==◌, min, max, if◌then◌else◌, Option, None, Some}
use Rattle.ipx_wire.specs.Numbers.{most_entries, most_services}
use Rattle.ipx_fair.specs.declared.setting.Setting.{Setting}
use Rattle.ipx_limits.specs.declared.limits.HouseholdLimits.{HouseholdLimits}
use Rattle.ipx_limits.specs.declared.limits.Limit.{Limit}
use Rattle.ipx_limits.specs.declared.limits.Limits.{Limits}
use Rattle.ipx_limits.specs.declared.network.Link.{Link}
use Rattle.ipx_limits.specs.declared.network.Link.TheVariants.{Tunnel, Frames}
use Rattle.ipx_limits.specs.declared.network.NetworkSetting.{NetworkSetting}
use Rattle.ipx_limits.specs.declared.reader.Reading.{Reading}
use Rattle.ipx_limits.specs.Numbers.{second, most_rate, shares, shares_at_once, room_packets, shares_kept, reserve_packets, reserve_parts, longest_pieces, longest_at_once, most_frames, household_parts, household_least, household_halves, pings_at_once, all_pings_a_second, all_pings_at_once, questions_at_once, link_questions_a_second, link_questions_at_once, advertisements_a_second, least_advertisements_at_once, link_advertisements_a_second, link_advertisements_at_once, link_tells_at_once, answers_a_second, answers_at_once, pages_a_second, handed_part, handed_at_once, answers_handed_at_once, most_routes, most_tabled, most_of_household}

-- nanoseconds for each of so many in a second
abbrev pub each_of : ℕ → ℕ
each_of count = second / count

-- so many in a second, and so many at once
abbrev pub limit_of : ℕ → ℕ → Limit
limit_of a_second at_once = record { each = each_of a_second; burst = each_of a_second * at_once }

-- ---- what a client receives, or a link with frames

abbrev pub rate_of : NetworkSetting → ℕ
rate_of set = min set.rate most_rate

abbrev pub share_of : NetworkSetting → ℕ
share_of set = min set.share most_rate

-- packets that it receives in a second
abbrev pub received_a_second : NetworkSetting → ℕ
received_a_second set = rate_of set + shares * share_of set

-- nanoseconds of a packet, however short
abbrev pub packet_of : NetworkSetting → ℕ
packet_of set = each_of (received_a_second set)

-- a receiver that may have so much at once; each queue has a part of the reserve, and no less than one packet
abbrev pub setting_for : ℕ → ℕ → ℕ → Setting
setting_for one reserve room = record { one = one; own = max one (reserve / reserve_parts); reserve = reserve; room = room }

-- packets for which there is room, and for how many more of those who say little
abbrev pub room_for : NetworkSetting → ℕ
room_for set = max (shares_at_once * share_of set) room_packets

abbrev pub reserve_for : NetworkSetting → ℕ
reserve_for set = max (shares_kept * share_of set) reserve_packets

-- frames in which a packet goes out at most
abbrev pub frames_on : Link → ℕ
frames_on Tunnel = 1
frames_on Frames = most_frames

-- a packet takes so long, however long it is; of the longest, all pieces take as long
abbrev pub reading_for : ℕ → ℕ → ℕ → ℕ → Reading
reading_for frames packet reserve room = record {
  packet = packet;
  piece = packet / longest_pieces;
  packets = setting_for (frames * packet) (packet * reserve) (packet * room);
  pieces = setting_for (frames * packet) 0 (packet * longest_at_once);
}

abbrev pub reading_on : NetworkSetting → Reading
reading_on set = reading_for (frames_on set.link) (packet_of set) (reserve_for set) (room_for set)

-- ---- what the router hears

abbrev pub questions_on : Link → Limit
questions_on Tunnel = limit_of 1 questions_at_once
questions_on Frames = limit_of link_questions_a_second link_questions_at_once

-- packets that tell so much
abbrev pub packets_for : ℕ → ℕ → ℕ
packets_for count in_one = (count + (in_one - 1)) / in_one

-- packets that tell so many routes and services, or as many as the tables hold
abbrev pub packets_of : ℕ → ℕ → ℕ
packets_of routes services = packets_for (min routes most_routes) most_entries + packets_for (min services most_tabled) most_services

-- all that the tables take of a network, twice; where that is little, some more
abbrev pub told_at_once : NetworkSetting → ℕ
told_at_once set = max (2 * packets_of set.routes set.services) least_advertisements_at_once

abbrev pub advertisements_on : Link → NetworkSetting → Limit
advertisements_on Tunnel set = limit_of advertisements_a_second (told_at_once set)
advertisements_on Frames set = limit_of link_advertisements_a_second link_advertisements_at_once

-- nanoseconds for each packet that the router hears
abbrev pub handed_each : NetworkSetting → ℕ
handed_each set = handed_part * second / rate_of set

-- ---- all of them

abbrev pub limits_at : NetworkSetting → Limits
limits_at set = record {
  received = reading_on set;
  handed = record { each = handed_each set; burst = handed_each set * handed_at_once };
  handed_answers = handed_each set * answers_handed_at_once;
  pings = limit_of 1 pings_at_once;
  all_pings = limit_of all_pings_a_second all_pings_at_once;
  questions = questions_on set.link;
  advertisements = advertisements_on set.link set;
  answers = limit_of answers_a_second answers_at_once;
  pages = limit_of pages_a_second (packets_of most_routes most_tabled);
}

-- a network with the rate 0 has none
abbrev pub limits_of : NetworkSetting → Option Limits
limits_of set = if set.rate == 0 then None else Some (limits_at set)

-- ---- what all clients of an address receive

-- half of the packets that somebody alone may say at once, or they to each other
abbrev pub half_of : ℕ → ℕ
half_of rate = max (rate / household_parts) household_least / 2

abbrev pub household_at : ℕ → HouseholdLimits
household_at rate = record {
  received = setting_for (each_of rate) (each_of rate * half_of rate) (each_of rate * (household_halves * half_of rate));
  packet = each_of rate;
  among = each_of rate * (2 * half_of rate);
}

abbrev pub household_of : ℕ → Option HouseholdLimits
household_of rate = if rate == 0 then None else Some (household_at (min rate most_rate))

-- ---- what all links with frames tell the router: each of them so many at once in any case, and all together so many

abbrev pub told_each : ℕ
told_each = each_of link_advertisements_a_second

abbrev pub told_on_links : Setting
told_on_links = record {
  one = told_each * link_tells_at_once;
  own = told_each * link_tells_at_once;
  reserve = told_each * link_advertisements_at_once / 2;
  room = told_each * link_advertisements_at_once * 2;
}

-- ---- the limit of an address with so many clients

abbrev pub of_clients : ℕ → Limit → Limit
of_clients clients limit = record { each = limit.each / max 1 (min clients most_of_household); burst = limit.burst }
