-- What becomes of tunnels and of their clients.
use Rattle.std.specs.Prelude.{Bool, true, false, ◌==◌, ◌&&◌, ◌||◌, not, nat_eq, if◌then◌else◌, Option, None, Some}
use Rattle.std.specs.Bool.{beq}
use Rattle.std.specs.Cmp.Lexicographic.{pointwise}
use Rattle.ipx_wire.specs.declared.node.Node.{Node}
use Rattle.ipx_plan.specs.declared.link.Link.{Link}
use Rattle.ipx_plan.specs.declared.origin.Tunnel.{Tunnel}
use Rattle.ipx_plan.specs.declared.origin.Tunnel.TheVariants.{Absent, Stays, Again, New}
use Rattle.ipx_plan.specs.Carriers.{is_tunnel, tunnel_port}
use Rattle.ipx_plan.specs.Likeness.{same_link}

-- the router's nodes there are the same; or neither is known
abbrev pub same_node : Option Node → Option Node → Bool
same_node (Some a) (Some b) = pointwise nat_eq a.0 b.0
same_node (Some a) None = false
same_node None (Some b) = false
same_node None None = true

-- the clients of the one find the other where it was: at the same port, or at the port that it took, which is kept while nothing else changes
abbrev pub is_found : Link → Link → Bool
is_found a b =
    is_tunnel a.carrier && is_tunnel b.carrier && (tunnel_port a.carrier == tunnel_port b.carrier)
    && (not (tunnel_port a.carrier == 0) || same_link a b)

-- a tunnel stays as it is: with the same rules, and the same node of the router, which has it from before or makes it again
abbrev pub is_same_tunnel : Bool → Link → Link → Bool
is_same_tunnel keeps_router a b = same_link a b && (a.clients == b.clients) && (keeps_router || same_node a.node b.node)

-- the tunnel of a new link, by what the link continues
abbrev pub tunnel : Bool → Option Link → Link → Tunnel
tunnel keeps_router None link = if is_tunnel link.carrier then New else Absent
tunnel keeps_router (Some before) link =
    if not (is_tunnel link.carrier) then Absent
    else if not (is_found before link) then New
    else if is_same_tunnel keeps_router before link then Stays else Again

-- the tunnel of an old link ends, by what continues the link
abbrev pub ends_tunnel : Link → Option Link → Bool
ends_tunnel link None = is_tunnel link.carrier
ends_tunnel link (Some after) = is_tunnel link.carrier && not (is_found link after)

-- the rules for clients are others than before: of a tunnel, or of a link with frames
abbrev pub has_other_clients : Option Link → Link → Bool
has_other_clients None link = false
has_other_clients (Some before) link = beq (is_tunnel before.carrier) (is_tunnel link.carrier) && not (before.clients == link.clients)

abbrev pub has_other_sockets : Option Link → Link → Bool
has_other_sockets None link = false
has_other_sockets (Some before) link = not (before.sockets == link.sockets)
