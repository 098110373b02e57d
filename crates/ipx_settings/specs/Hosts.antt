-- Words that are addresses of hosts.
use Rattle.std.specs.Prelude.{ℕ, ◌+◌, ◌*◌, Bool, true, false, ◌==◌, ◌&&◌, ◌||◌, nat_lt, nat_le, if◌then◌else◌, List, [], ◌∷◌, ◌++◌, ◌-◌, length, take, drop, Option, Some, None, slice_index, slice_set}
use Rattle.std.specs.Option.{option_map}
use Rattle.ipx_settings.specs.Cutting.{◌>>=◌, cut_at, parts, dot, colon}
use Rattle.ipx_settings.specs.Numbers.{number_of, hexadecimal_of}
use Rattle.ipx_settings.specs.declared.hosts.Groups.{Groups}

-- ---- IPv4

-- a 0 in front that means nothing
abbrev pub is_padded : List ℕ → Bool
is_padded part = nat_lt 1 (length part) && (slice_index part 0 == 48)

-- a number of 0 to 255
abbrev pub octet_of : List ℕ → Option ℕ
octet_of part = if is_padded part then None else number_of 0 255 part

-- four of them between dots
abbrev pub four_of : List ℕ → Option (List ℕ)
four_of word =
    cut_at dot word >>= λ a. cut_at dot a.1 >>= λ b. cut_at dot b.1 >>= λ c.
    octet_of a.0 >>= λ w. octet_of b.0 >>= λ x. octet_of c.0 >>= λ y. octet_of c.1 >>= λ z. Some (w ∷ x ∷ y ∷ z ∷ [])

-- ---- IPv6: eight groups of 16 bits

abbrev pub most_groups : ℕ
most_groups = 8

-- no group yet
abbrev pub no_groups : Groups
no_groups = record { list = 0 ∷ 0 ∷ 0 ∷ 0 ∷ 0 ∷ 0 ∷ 0 ∷ 0 ∷ []; count = 0; has_four = false }

-- a group more, where there is room
abbrev pub with_group : ℕ → Groups → Option Groups
with_group group g =
    if nat_lt g.count most_groups then Some (record { list = slice_set g.list g.count group; count = g.count + 1; has_four = g.has_four }) else None

-- the two groups that an address of IPv4 is, with which they end
abbrev pub with_four : List ℕ → Groups → Option Groups
with_four four g =
    with_group (slice_index four 0 * 256 + slice_index four 1) g >>= λ h.
    with_group (slice_index four 2 * 256 + slice_index four 3) h >>= λ i.
    Some (record { list = i.list; count = i.count; has_four = true })

-- what a part between colons is more: up to four hexadecimal digits are a group; the last part may be an address of IPv4
abbrev pub with_digits : Option ℕ → List ℕ → Groups → Option Groups
with_digits (Some group) part g = with_group group g
with_digits None part g = four_of part >>= λ four. with_four four g

abbrev pub with_part : List ℕ → Groups → Option Groups
with_part part g = if g.has_four then None else with_digits (hexadecimal_of 4 0 65535 part) part g

-- the groups of parts, behind these
abbrev pub groups_from : Groups → List (List ℕ) → Option Groups
groups_from g [] = Some g
groups_from g (part ∷ more) = with_part part g >>= λ h. groups_from h more

-- the groups of a text, which has none where it is empty
abbrev pub groups_of : List ℕ → Option Groups
groups_of text = if length text == 0 then Some no_groups else groups_from no_groups (parts colon text)

-- where two colons stand first, for groups of 0
abbrev pub gap_of : List ℕ → Option ℕ
gap_of [] = None
gap_of (a ∷ []) = None
gap_of (a ∷ b ∷ more) = if (a == colon) && (b == colon) then Some 0 else option_map (λ k. k + 1) (gap_of (b ∷ more))

-- eight groups
abbrev pub whole_six : Groups → Option (List ℕ)
whole_six g = if g.count == most_groups then Some g.list else None

-- groups before a gap and behind it; what no group fills is 0
abbrev pub around_gap : Groups → Groups → Option (List ℕ)
around_gap before after =
    if before.has_four || nat_le most_groups (before.count + after.count) then None
    else Some (take (most_groups - after.count) before.list ++ take after.count after.list)

abbrev pub six_by : Option ℕ → List ℕ → Option (List ℕ)
six_by None word = groups_from no_groups (parts colon word) >>= whole_six
six_by (Some k) word = groups_of (take k word) >>= λ before. groups_of (drop (k + 2) word) >>= λ after. around_gap before after

-- an address of IPv6
abbrev pub six_of : List ℕ → Option (List ℕ)
six_of word = six_by (gap_of word) word
