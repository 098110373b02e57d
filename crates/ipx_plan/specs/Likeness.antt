-- When a link of the new configuration is like one of the old.
use Rattle.std.specs.Prelude.{ℕ, Bool, ◌==◌, ◌&&◌, ◌||◌, not, if◌then◌else◌, List, Option, Some}
use Rattle.std.specs.List.{slice_get}
use Rattle.ipx_plan.specs.declared.link.Link.{Link}
use Rattle.ipx_plan.specs.Carriers.{same_carrier, tunnel_port}

-- they are carried alike, in the same kind of frames
abbrev pub same_link : Link → Link → Bool
same_link a b = same_carrier a.carrier b.carrier && (a.frames == b.frames)

-- they are of the same network, and the only link of it; or, where it has several links or had, also carried alike
abbrev pub is_same : Link → Link → Bool
is_same a b = (a.network.0 == b.network.0) && (not (a.is_of_several || b.is_of_several) || same_link a b)

-- they are tunnels of the same network at the same port: clients find the one where the other was
abbrev pub is_at_same_port : Link → Link → Bool
is_at_same_port a b =
    (a.network.0 == b.network.0) && not (tunnel_port a.carrier == 0) && (tunnel_port a.carrier == tunnel_port b.carrier)

-- how far two links are from each other: the same, at the same port, or apart. Those that are less than apart are alike
abbrev pub same : ℕ
same = 0

abbrev pub at_port : ℕ
at_port = 1

abbrev pub apart : ℕ
apart = 2

abbrev pub distance : Link → Link → ℕ
distance a b = if is_same a b then same else if is_at_same_port a b then at_port else apart

-- of links that may not be there
abbrev pub between : Option Link → Option Link → ℕ
between (Some a) (Some b) = distance a b
between a b = apart

-- of link j of the old configuration and link k of the new one
abbrev pub distance_at : List Link → List Link → ℕ → ℕ → ℕ
distance_at old new j k = between (slice_get old j) (slice_get new k)
