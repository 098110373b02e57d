-- Which ports receive a packet that a router sends (own: an internet delivers to every port meant, by router and port).
use Rattle.std.specs.Prelude.{◌==◌, ◌&&◌, ◌||◌, not, Bool, List}
use Rattle.std.specs.List.{filter}
use Rattle.ipx_wire.specs.declared.node.Node.{Node}
use Rattle.ipx_router.specs.Port.{broadcast, same_node}
use Rattle.ipx_internet.specs.Internet.{Internet, Place, port_of, network_of, places}

-- a port of another router on the same network receives what is sent to its node, or to all
abbrev pub receives : Internet → Place → Node → Place → Bool
receives net from link to =
    not (to.router == from.router) && ((network_of net to).0 == (network_of net from).0)
    && (same_node (port_of net to).node link || same_node link broadcast)

-- the ports that receive what a port sends to a node, by router and port
abbrev pub delivered : Internet → Place → Node → List Place
delivered net from link = filter (receives net from link) (places net)
