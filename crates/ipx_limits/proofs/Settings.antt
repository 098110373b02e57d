-- What limits come from a setting.
use Rattle.std.proofs.Common.{◌≡◌, refl, arith, ℕ, ◌+◌, ◌*◌, ◌/◌, ◌<◌, ◌≤◌, Bool, true, false, nat_lt, max, if◌then◌else◌}
use Rattle.std.proofs.Math.Nat.{mul-le-mul_left, mul-le-mul_right, div-mul-le_self, div-le_self}
use Rattle.std.proofs.lemmas.Bool.{and_from, le-leb}
use Rattle.ipx_fair.specs.Numbers.{can_be, most_time}
use Rattle.ipx_limits.specs.declared.network.Link.{Link}
use Rattle.ipx_limits.specs.declared.network.Link.TheVariants.{Tunnel, Frames}
use Rattle.ipx_limits.specs.declared.network.NetworkSetting.{NetworkSetting}
use Rattle.ipx_limits.specs.Numbers.{second, longest_pieces}
use Rattle.ipx_limits.specs.Limits.{each_of, share_of, packet_of, frames_on, setting_for, room_for, reserve_for, received_a_second, half_of, limits_at, household_at}
use Rattle.ipx_limits.specs.Receiving.{pieces, in_word, packet_weight, piece_weight}

-- ---- they can be had

can : (one reserve room : ℕ) → one ≤ most_time → reserve ≤ most_time → room ≤ most_time → can_be (setting_for one reserve room) 256 ≡ true
can one reserve room small kept most =
    let own : max one (reserve / 8) ≤ most_time = omega (arith, small, kept) in
    and_from _ _ (and_from _ _ (and_from _ _ (and_from _ _ (le-leb one (max one (reserve / 8)) (omega arith)) (le-leb _ _ own)) (le-leb _ _ kept)) (le-leb _ _ most)) refl

packet_small : (set : NetworkSetting) → packet_of set ≤ second
packet_small set = div-le_self second (received_a_second set)

-- a share takes no more than a second
share_small : (set : NetworkSetting) → packet_of set * share_of set ≤ second
share_small set =
    let within : share_of set ≤ received_a_second set = omega arith in
    omega (arith, mul-le-mul_left (packet_of set) within, div-mul-le_self second (received_a_second set))

one_small : (link : Link) (packet : ℕ) → packet ≤ second → frames_on link * packet ≤ 4 * second
one_small Tunnel packet small = omega (arith, small)
one_small Frames packet small = omega (arith, small)

-- so many shares, or so many packets at least
some_small : (packet share shares least : ℕ) → packet * max (shares * share) least ≤ shares * (packet * share) + packet * least
some_small packet share shares least =
    let larger : max (shares * share) least ≤ shares * share + least = omega arith in
    omega (arith, mul-le-mul_left packet larger)

pub packets_can : (set : NetworkSetting) → can_be (limits_at set).received.packets 256 ≡ true
packets_can set =
    let packet = packet_of set in
    let small = packet_small set in
    let share = share_small set in
    can (frames_on set.link * packet) (packet * reserve_for set) (packet * room_for set)
    (omega (arith, one_small set.link packet small))
    (omega (arith, small, share, some_small packet (share_of set) 1 50))
    (omega (arith, small, share, some_small packet (share_of set) 4 200))

pub pieces_can : (set : NetworkSetting) → can_be (limits_at set).received.pieces 256 ≡ true
pieces_can set =
    let packet = packet_of set in
    let small = packet_small set in
    can (frames_on set.link * packet) 0 (packet * 64) (omega (arith, one_small set.link packet small)) (omega arith) (omega (arith, small))

pub address_can : (rate : ℕ) → 0 < rate → can_be (household_at rate).received 256 ≡ true
address_can rate some =
    let each = each_of rate in
    let small : each ≤ second = div-le_self second rate in
    let all : each * rate ≤ second = div-mul-le_self second rate in
    let halves : 4 * half_of rate ≤ rate + 1000 = omega arith in
    let room : each * (4 * half_of rate) ≤ each * (rate + 1000) = mul-le-mul_left each halves in
    can each (each * half_of rate) (each * (4 * half_of rate)) (omega (arith, small)) (omega (arith, small, all, room)) (omega (arith, small, all, room))

-- ---- what seven may say at once

one_in_reserve : (link : Link) (packet reserve : ℕ) → packet * 50 ≤ reserve → 8 * (frames_on link * packet) ≤ reserve
one_in_reserve Tunnel packet reserve most = omega (arith, most)
one_in_reserve Frames packet reserve most = omega (arith, most)

pub seven : (set : NetworkSetting) → 8 * (limits_at set).received.packets.own ≤ (limits_at set).received.packets.reserve
seven set =
    let packet = packet_of set in
    let least : 50 ≤ reserve_for set = omega arith in
    omega (arith, one_in_reserve set.link packet (packet * reserve_for set) (mul-le-mul_left packet least))

pub seven_at_address : (rate : ℕ) → 8 * (household_at rate).received.own ≤ (household_at rate).received.reserve
seven_at_address rate =
    let each = each_of rate in
    let least : 8 ≤ half_of rate = omega arith in
    omega (arith, mul-le-mul_left each least)

-- ---- the longest packet

count_most : (is_long is_middle : Bool) → (if is_long then 89 else if is_middle then 37 else 22) ≤ 89
count_most true is_middle = omega arith
count_most false true = omega arith
count_most false false = omega arith

pieces_most : (bytes : ℕ) → pieces bytes ≤ longest_pieces
pieces_most bytes = count_most (nat_lt 600 bytes) (nat_lt 110 bytes)

pub packet_fits : (set : NetworkSetting) (frames : ℕ) → frames ≤ frames_on set.link
    → packet_weight (limits_at set).received frames ≤ (limits_at set).received.packets.one
packet_fits set frames few = omega (arith, mul-le-mul_right (packet_of set) few)

pub pieces_fit : (set : NetworkSetting) (bytes frames : ℕ) → frames ≤ frames_on set.link
    → piece_weight (limits_at set).received bytes frames ≤ (limits_at set).received.pieces.one
pieces_fit set bytes frames few =
    let packet = packet_of set in
    let piece = packet / 89 in
    let whole : in_word (piece * pieces bytes) ≤ packet = omega (arith, mul-le-mul_left piece (pieces_most bytes), div-mul-le_self packet 89) in
    omega (arith, mul-le-mul_left frames whole, mul-le-mul_right packet few)
