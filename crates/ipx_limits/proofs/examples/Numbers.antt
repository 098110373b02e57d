-- The limits of a network with the usual setting, 800 packets a second and shares of 50: how many in a second, and how many at once.
use Rattle.std.proofs.Common.{◌≡◌, refl, ℕ, ◌+◌, ◌*◌, ◌/◌, true, None}
use Rattle.ipx_fair.specs.Numbers.{can_be}
use Rattle.ipx_limits.specs.declared.limits.HouseholdLimits.{HouseholdLimits}
use Rattle.ipx_limits.specs.declared.limits.Limit.{Limit}
use Rattle.ipx_limits.specs.declared.limits.Limits.{Limits}
use Rattle.ipx_limits.specs.declared.network.Link.TheVariants.{Tunnel, Frames}
use Rattle.ipx_limits.specs.declared.network.NetworkSetting.{NetworkSetting}
use Rattle.ipx_limits.specs.Numbers.{second}
use Rattle.ipx_limits.specs.Limits.{limits_at, limits_of, household_at, household_of, told_at_once, told_each, told_on_links, of_clients}
use Rattle.ipx_limits.specs.Receiving.{packet_weight, piece_weight}

abbrev pub usual : NetworkSetting
usual = record { link = Tunnel; rate = 800; share = 50; routes = 300; services = 100 }

abbrev pub of_frames : NetworkSetting
of_frames = record { link = Frames; rate = 800; share = 50; routes = 300; services = 100 }

abbrev pub limits : Limits
limits = limits_at usual

-- how many there may be in a second, and at once
abbrev a_second : Limit → ℕ
a_second limit = second / limit.each

abbrev at_once : Limit → ℕ
at_once limit = limit.burst / limit.each

-- ---- what a client receives

pub in_a_second : second / packet_weight limits.received 1 ≡ 900
in_a_second = refl

-- and as many of the longest, or more of those that take fewer pieces
pub longest_in_a_second : second / piece_weight limits.received 601 1 ≡ 900
longest_in_a_second = refl

pub longer_in_a_second : second / piece_weight limits.received 111 1 ≡ 2164
longer_in_a_second = refl

pub all_at_once : (limits.received.packets.room + limits.received.packets.reserve) / packet_weight limits.received 1 ≡ 250
all_at_once = refl

pub longer_at_once : limits.received.pieces.room / piece_weight limits.received 111 1 ≡ 153
longer_at_once = refl

pub longest_at_once : limits.received.pieces.room / piece_weight limits.received 601 1 ≡ 64
longest_at_once = refl

-- somebody alone has half of the room, since his packets are in his queue and in all queues
pub alone : limits.received.packets.room / (2 * packet_weight limits.received 1) ≡ 100
alone = refl

pub longer_alone : limits.received.pieces.room / (2 * piece_weight limits.received 111 1) ≡ 76
longer_alone = refl

pub longest_alone : limits.received.pieces.room / (2 * piece_weight limits.received 601 1) ≡ 32
longest_alone = refl

-- while the reserve lasts each may say six, and in any case one, in as many frames as the link has
pub of_reserve : limits.received.packets.own / packet_weight limits.received 1 ≡ 6
of_reserve = refl

pub in_any_case : limits.received.packets.one ≡ packet_weight limits.received 1
in_any_case = refl

pub with_frames : (limits_at of_frames).received.packets.one ≡ packet_weight limits.received 4
with_frames = refl

pub can_be_had : can_be limits.received.packets 256 ≡ true
can_be_had = refl

-- larger shares have more at once: four shares, and one more
pub of_larger_shares : (limits_at (record { link = Tunnel; rate = 800; share = 100; routes = 0; services = 0 })).received.packets
    ≡ record { one = 1000000; own = 12500000; reserve = 100000000; room = 400000000 }
of_larger_shares = refl

-- ---- what clients of an address receive

abbrev household : HouseholdLimits
household = household_at 12800

pub household_in_a_second : second / household.packet ≡ 12800
household_in_a_second = refl

pub household_at_once : (household.received.room + household.received.reserve) / household.packet ≡ 4000
household_at_once = refl

pub household_alone : household.received.room / (2 * household.packet) ≡ 1600
household_alone = refl

pub among_each_other : household.among / household.packet ≡ 1600
among_each_other = refl

-- ---- pings and answers

pub pings_of_one : a_second limits.pings ≡ 1
pings_of_one = refl

pub pings_of_one_at_once : at_once limits.pings ≡ 2
pings_of_one_at_once = refl

pub pings_of_all : a_second limits.all_pings ≡ 4
pings_of_all = refl

pub pings_of_all_at_once : at_once limits.all_pings ≡ 8
pings_of_all_at_once = refl

pub answered : a_second limits.answers ≡ 2
answered = refl

pub answered_at_once : at_once limits.answers ≡ 8
answered_at_once = refl

-- the router's answers: at once 41 packets of routes and 147 of services
pub paged : a_second limits.pages ≡ 20
paged = refl

pub paged_at_once : at_once limits.pages ≡ 41 + 147
paged_at_once = refl

-- ---- what the router hears

pub questions : a_second limits.questions ≡ 1
questions = refl

pub questions_at_once : at_once limits.questions ≡ 4
questions_at_once = refl

-- of an address with three clients, and with ten
pub questions_of_three : a_second (of_clients 3 limits.questions) ≡ 3
questions_of_three = refl

pub questions_of_three_at_once : at_once (of_clients 3 limits.questions) ≡ 12
questions_of_three_at_once = refl

pub questions_of_ten : a_second (of_clients 10 limits.questions) ≡ 4
questions_of_ten = refl

pub told : a_second limits.advertisements ≡ 4
told = refl

-- twice the packets that tell 300 routes and 100 services
pub told_of_shares : at_once limits.advertisements ≡ 2 * (6 + 15)
told_of_shares = refl

pub told_of_little : told_at_once (record { link = Tunnel; rate = 800; share = 50; routes = 0; services = 0 }) ≡ 32
told_of_little = refl

pub told_of_all : told_at_once (record { link = Tunnel; rate = 800; share = 50; routes = 65535; services = 65535 }) ≡ 376
told_of_all = refl

pub told_by_frames : a_second (limits_at of_frames).advertisements ≡ 100
told_by_frames = refl

pub told_by_frames_at_once : at_once (limits_at of_frames).advertisements ≡ 400
told_by_frames_at_once = refl

pub questions_of_frames : a_second (limits_at of_frames).questions ≡ 20
questions_of_frames = refl

pub questions_of_frames_at_once : at_once (limits_at of_frames).questions ≡ 80
questions_of_frames_at_once = refl

pub handed : a_second limits.handed ≡ 400
handed = refl

pub handed_at_once : at_once limits.handed ≡ 64
handed_at_once = refl

pub answers_handed_at_once : limits.handed_answers / limits.handed.each ≡ 32
answers_handed_at_once = refl

-- ---- what all networks of frames tell together

pub told_by_all : second / told_each ≡ 100
told_by_all = refl

pub told_by_all_at_once : (told_on_links.room + told_on_links.reserve) / told_each ≡ 1000
told_by_all_at_once = refl

pub told_by_each_in_any_case : told_on_links.one / told_each ≡ 200
told_by_each_in_any_case = refl

-- ---- no limits

pub no_rate : limits_of (record { link = Tunnel; rate = 0; share = 50; routes = 300; services = 100 }) ≡ None
no_rate = refl

pub no_household : household_of 0 ≡ None
no_household = refl
