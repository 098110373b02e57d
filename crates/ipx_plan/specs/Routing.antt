-- Whether the router stays.
use Rattle.std.specs.Prelude.{Bool, ◌==◌, ◌&&◌, ◌||◌, not, List, is_some}
use Rattle.std.specs.Bool.{beq}
use Rattle.std.specs.List.{filter}
use Rattle.std.specs.Cmp.Lexicographic.{pointwise}
use Rattle.ipx_plan.specs.declared.link.Link.{Link}
use Rattle.ipx_plan.specs.Carriers.{is_tunnel, is_card}
use Rattle.ipx_plan.specs.Tunnels.{same_node}

-- the first links of all networks: the router has a port for each, in this order
abbrev pub ports : List Link → List Link
ports links = filter (λ l. l.is_first) links

-- they give the router a node of the same sort: a tunnel's, a card's, or one that is made up
abbrev pub same_sort : Link → Link → Bool
same_sort a b = beq (is_tunnel a.carrier) (is_tunnel b.carrier) && beq (is_card a.carrier) (is_card b.carrier)

-- the router's node is the address of another card now. (it is no other link's: behind a bridge with that card nobody would reach it)
abbrev pub has_other_card : Link → Link → Bool
has_other_card a b = is_card b.carrier && is_some b.node && not (same_node a.node b.node)

-- a port is as it was. Where its network has several links, its node is none of theirs
abbrev pub same_port : Link → Link → Bool
same_port a b =
    (a.network.0 == b.network.0) && (a.port == b.port) && beq a.is_of_several b.is_of_several
    && (a.is_of_several || (same_sort a b && not (has_other_card a b)))

-- the router stays: it has the same ports, in the same order
abbrev pub keeps_router : List Link → List Link → Bool
keeps_router old new = pointwise same_port (ports old) (ports new)
