-- Lists of clients, and of those who are remembered: a place and a node each. And room for one more.
use Rattle.std.specs.Prelude.{ℕ, ◌-◌, Bool, ◌&&◌, ◌||◌, not, nat_lt, List, length, map}
use Rattle.std.specs.List.{list_any}
use Rattle.ipx_wire.specs.declared.node.Node.{Node}
use Rattle.ipx_tunnel.specs.Places.{same_node, broadcast, is_among, of_address}
use Rattle.ipx_keyed.specs.declared.client.Client.{Client}
use Rattle.ipx_keyed.specs.declared.sender.Sender.{Sender}
use Rattle.ipx_keyed.specs.declared.setting.Setting.{Setting}

-- ---- who is in a list

abbrev pub places_of : List Client → List Node
places_of clients = map (λ c. c.place) clients

abbrev pub nodes_of : List Client → List Node
nodes_of clients = map (λ c. c.node) clients

abbrev pub is_it : Node → Node → Client → Bool
is_it place node c = same_node c.place place && same_node c.node node

-- somebody is in the list with this place and this node
abbrev pub is_client_as : Node → Node → List Client → Bool
is_client_as place node clients = list_any (is_it place node) clients

abbrev pub is_remembered : Node → Node → List Client → Bool
is_remembered place node waiting = list_any (is_it place node) waiting

-- ---- seconds

abbrev pub stays : Client → Bool
stays c = nat_lt 0 c.seconds_left

-- a second later
abbrev pub later : Client → Client
later c = record { place = c.place; node = c.node; cookie = c.cookie; seconds_left = c.seconds_left - 1 }

-- somebody who was heard now, under a node, for so many seconds
abbrev pub fresh : Sender → Node → ℕ → Client
fresh from node seconds = record { place = from.place; node = node; cookie = from.cookies.current; seconds_left = seconds }

-- ---- room

-- the node is the tunnel's own, the one that stands for all, or a client's
abbrev pub is_taken : Setting → Node → List Client → Bool
is_taken setting node clients = same_node node setting.node || same_node node broadcast || is_among node (nodes_of clients)

-- there is room for one client more, at this place and under this node
abbrev pub is_open : Setting → Node → Node → List Client → Bool
is_open setting place node clients =
    not (is_among place (places_of clients)) && not (is_taken setting node clients)
    && nat_lt (length clients) setting.capacity && nat_lt (of_address place (places_of clients)) setting.share

-- he is a client under the node that he is given, or there is room for him
abbrev pub is_welcome : Setting → Sender → List Client → Bool
is_welcome setting from clients = is_client_as from.place from.node clients || is_open setting from.place from.node clients

-- there is room to remember one more, who isn't remembered yet
abbrev pub is_kept : Setting → Node → List Client → Bool
is_kept setting place waiting =
    not (is_among place (places_of waiting)) && nat_lt (length waiting) setting.remembered
    && nat_lt (of_address place (places_of waiting)) setting.remembered_share
