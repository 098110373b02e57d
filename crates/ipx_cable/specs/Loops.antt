-- Links of a network that are one cable: which of them is shut.
use Rattle.std.specs.Prelude.{ℕ, ◌+◌, ◌-◌, Bool, ◌==◌, ◌&&◌, ◌||◌, not, nat_lt, if◌then◌else◌}
use Rattle.ipx_cable.specs.declared.loops.Probed.{Probed}
use Rattle.ipx_cable.specs.declared.loops.Probed.TheVariants.{Late, Nothing, Here, There}

-- seconds for which a probe may be under way
abbrev pub late : ℕ
late = 3

-- seconds for which a link stays shut without a probe
abbrev pub quiet : ℕ
quiet = 5

-- a link is shut for so many seconds more: it is
abbrev pub is_shut : ℕ → Bool
is_shut left = nat_lt 0 left

-- a second opens it
abbrev pub opens : ℕ → Bool
opens left = left == 1

-- it is shut in this second, and in as many after it
abbrev pub shut_now : ℕ
shut_now = quiet + 1

-- a probe is too old; or it comes from the future, and nobody knows how old it is
abbrev pub is_late : (sent now : ℕ) → Bool
is_late sent now = nat_lt now sent || nat_lt late (now - sent)

-- a probe of an earlier link comes here
abbrev pub left_here : (here there sent now left : ℕ) → ℕ
left_here here there sent now left = if not (is_late sent now) && nat_lt there here then shut_now else left

-- a probe from there comes to an earlier link. (who is shut sends none, so one that is under way doesn't count anew)
abbrev pub left_there : (here there sent now left : ℕ) → ℕ
left_there here there sent now left = if not (is_late sent now) && (nat_lt here there && not (is_shut left)) then shut_now else left

abbrev pub probed : (here there sent now left_of_here left_of_there : ℕ) → Probed
probed here there sent now left_of_here left_of_there =
    if is_late sent now then Late
    else if nat_lt there here && not (is_shut left_of_here) then Here
    else if nat_lt here there && not (is_shut left_of_there) then There
    else Nothing
