-- Two machines with one node, which is heard by turns on two links of a network.
use Rattle.std.specs.Prelude.{ℕ, ◌+◌, ◌-◌, ◌%◌, Bool, false, true, ◌==◌, ◌&&◌, ◌||◌, not, nat_lt, min, if◌then◌else◌, List, get_or, set, replicate, Option, None, Some}
use Rattle.ipx_cable.specs.declared.twin.Twin.{Twin}
use Rattle.ipx_cable.specs.declared.twins.Twins.{Twins}
use Rattle.ipx_cable.specs.Stations.{same_node}

-- how many nodes are watched
abbrev pub watched : ℕ
watched = 64

-- in so many seconds no machine moves that is plugged in elsewhere,
abbrev pub many : ℕ
many = 5

-- of those in which moves are counted
abbrev pub counted : ℕ
counted = 60

-- seconds from one time that somebody is told to the next
abbrev pub between : ℕ
between = 60

-- a number of moves is no larger
abbrev pub most_moves : ℕ
most_moves = 255

-- nobody is watched
abbrev pub no_twin : Twin
no_twin = record { node = replicate 6 0; link = 0; moves = 0; is_told = false; began = 0; moved = 0 }

abbrev pub none_watched : Twins
none_watched = record { list = replicate watched no_twin; told = 0 }

-- the place of a node; whoever comes there takes it
abbrev pub place_of : List ℕ → ℕ
place_of node = (get_or node 4 0 + get_or node 5 0) % watched

-- who is heard for the first time, or whose place another had
abbrev pub first_heard : List ℕ → ℕ → Twin
first_heard node link = record { node = node; link = link; moves = 0; is_told = false; began = 0; moved = 0 }

-- what is known of a node that is heard on a link, before that
abbrev pub known_of : List ℕ → ℕ → Twin → Twin
known_of node link twin = if same_node twin.node node then twin else first_heard node link

-- it is heard on another link than before. (a second counts once: a loop in the cabling carries one packet round often until it is shut)
abbrev pub moves_to : (link second : ℕ) → Twin → Bool
moves_to link second twin = not (twin.link == link) && not (twin.moved == second)

-- its moves are counted anew
abbrev pub begins : ℕ → Twin → Bool
begins second twin = nat_lt counted (second - twin.began)

-- after a move
abbrev pub moved_to : (link second : ℕ) → Twin → Twin
moved_to link second twin = record {
  node = twin.node;
  link = link;
  moves = min ((if begins second twin then 0 else twin.moves) + 1) most_moves;
  is_told = twin.is_told;
  began = if begins second twin then second else twin.began;
  moved = second;
}

-- somebody was told not long ago
abbrev pub told_lately : (second told : ℕ) → Bool
told_lately second told = not (told == 0) && nat_lt (second - told) between

-- it moved often enough, and nobody has been told of it
abbrev pub is_due : (second told : ℕ) → Twin → Bool
is_due second told twin = not (nat_lt twin.moves many) && (not twin.is_told && not (told_lately second told))

-- somebody is told
abbrev pub told_of : Twin → Twin
told_of twin = record { node = twin.node; link = twin.link; moves = twin.moves; is_told = true; began = twin.began; moved = twin.moved }

-- ---- one node, of which that much was known

abbrev pub is_told_at : (link second told : ℕ) → Twin → Bool
is_told_at link second told twin = moves_to link second twin && is_due second told (moved_to link second twin)

abbrev pub twin_after : (link second told : ℕ) → Twin → Twin
twin_after link second told twin =
    if not (moves_to link second twin) then twin
    else if is_due second told (moved_to link second twin) then told_of (moved_to link second twin)
    else moved_to link second twin

-- ---- all

abbrev pub twin_at : List ℕ → Twins → Twin
twin_at node twins = get_or twins.list (place_of node) no_twin

abbrev pub twin_known : List ℕ → ℕ → Twins → Twin
twin_known node link twins = known_of node link (twin_at node twins)

-- the link before, where it must be told that a node moves to and fro
abbrev pub told_link : List ℕ → (link second : ℕ) → Twins → Option ℕ
told_link node link second twins =
    if is_told_at link second twins.told (twin_known node link twins) then Some (twin_known node link twins).link else None

abbrev pub twins_after : List ℕ → (link second : ℕ) → Twins → Twins
twins_after node link second twins = record {
  list = set twins.list (place_of node) (twin_after link second twins.told (twin_known node link twins));
  told = if is_told_at link second twins.told (twin_known node link twins) then second else twins.told;
}
