-- The words of a network.
use Rattle.std.specs.Prelude.{ℕ, Bool, true, false, ◌&&◌, not, if◌then◌else◌, List, length, Option, Some, None, Result, Ok, Err, codes, slice_index, ◌==◌}
use Rattle.std.specs.Char.{is_ascii_digit}
use Rattle.std.specs.Option.{is_none}
use Rattle.ipx_settings.specs.Links.{said, is_the, behind_whole as of_whole, link_step, link_ends}
use Rattle.ipx_settings.specs.Nodes.{node_of}
use Rattle.ipx_settings.specs.Numbers.{number_of, hexadecimal_of}
use Rattle.ipx_settings.specs.declared.expected.Expected.{Expected}
use Rattle.ipx_settings.specs.declared.expected.Expected.TheVariants as expected
use Rattle.ipx_settings.specs.declared.link.Cards.{Cards}
use Rattle.ipx_settings.specs.declared.link.End.TheVariants as ends
use Rattle.ipx_settings.specs.declared.link.Link.{Link}
use Rattle.ipx_settings.specs.declared.link.Link.TheVariants as link
use Rattle.ipx_settings.specs.declared.link.LinkBegun.{LinkBegun}
use Rattle.ipx_settings.specs.declared.link.LinkBegun.TheVariants as begun
use Rattle.ipx_settings.specs.declared.network.Head.{Head}
use Rattle.ipx_settings.specs.declared.network.NetworkBegun.{NetworkBegun}
use Rattle.ipx_settings.specs.declared.network.NetworkBegun.TheVariants as network
use Rattle.ipx_settings.specs.declared.network.Shares.{Shares}

-- the largest number of a network: the two behind it are the default route's, and all networks
abbrev pub last_network : ℕ
last_network = 4294967293

-- bytes of the longest packet, the least and the most
abbrev pub least_longest : ℕ
least_longest = 576

abbrev pub most_longest : ℕ
most_longest = 1500

abbrev pub head_of : ℕ → ℕ → Option Shares → ℕ → Head
head_of number cost shares longest = record { number = number; cost = cost; longest = longest; shares = shares }

abbrev pub shares_of : ℕ → ℕ → Shares
shares_of routes services = record { routes = routes; services = services }

-- the same with its shares
abbrev pub with_shares : Head → ℕ → ℕ → Head
with_shares head routes services = head_of head.number head.cost (Some (shares_of routes services)) head.longest

-- what is meant to be a share begins with a digit, and no link does
abbrev pub is_share : List ℕ → Bool
is_share word = not (length word == 0) && is_ascii_digit (slice_index word 0)

abbrev pub routes_behind : Head → List ℕ → Result NetworkBegun Expected
routes_behind head word = said expected.Routes (network.Routes head) (number_of 0 65535 word)

abbrev pub services_behind : Head → ℕ → List ℕ → Result NetworkBegun Expected
services_behind head routes word = said expected.Services (λ services. network.Head (with_shares head routes services)) (number_of 0 65535 word)

abbrev pub with_link : Head → Result LinkBegun Expected → Result NetworkBegun Expected
with_link head (Ok link) = Ok (network.Link head link)
with_link head (Err e) = Err e

abbrev pub behind_head : Head → Cards → List ℕ → Result NetworkBegun Expected
behind_head head cards word =
    if is_none head.shares && is_share word then routes_behind head word
    else if is_the word (codes "node") then Ok (network.Node head None)
    else with_link head (link_step cards begun.Nothing word)

-- in a tunnel and on an interface the gateway has a node, and its address is one
abbrev pub may_have_node : Link → Bool
may_have_node (link.Tunnel address) = false
may_have_node (link.Web address) = false
may_have_node (link.Rfc1234 address) = false
may_have_node (link.Framed (ends.Interface name) frames) = false
may_have_node (link.Framed (ends.Udp local remote) frames) = true
may_have_node (link.Framed (ends.Listen local) frames) = true
may_have_node (link.Framed (ends.Connect remote) frames) = true
may_have_node (link.Framed (ends.Tap name) frames) = true
may_have_node (link.Framed (ends.Group group card) frames) = true
may_have_node (link.Framed (ends.Switch path) frames) = true
may_have_node (link.Framed (ends.Web address) frames) = true
may_have_node (link.Framed (ends.Peers local file) frames) = true

abbrev pub node_word : Head → Link → List ℕ → Result NetworkBegun Expected
node_word head link word =
    if not (may_have_node link) then Err expected.Nothing
    else if not (is_the word (codes "node")) then Err expected.NodeWord
    else Ok (network.Node head (Some link))

abbrev pub behind_whole : Head → Link → List ℕ → Result NetworkBegun Expected
behind_whole head (link.Web address) word = with_link head (of_whole (link.Web address) word)
behind_whole head (link.Tunnel address) word = node_word head (link.Tunnel address) word
behind_whole head (link.Rfc1234 address) word = node_word head (link.Rfc1234 address) word
behind_whole head (link.Framed end frames) word = node_word head (link.Framed end frames) word

abbrev pub behind_link : Head → LinkBegun → Cards → List ℕ → Result NetworkBegun Expected
behind_link head (begun.Whole link) cards word = behind_whole head link word
behind_link head other cards word = with_link head (link_step cards other word)

abbrev pub node_behind : Head → Option Link → List ℕ → Result NetworkBegun Expected
node_behind head link word = said expected.Node (network.Whole head link) (node_of word)

-- a word more
abbrev pub network_step : Cards → NetworkBegun → List ℕ → Result NetworkBegun Expected
network_step cards network.Nothing word = said expected.Network network.Number (hexadecimal_of 8 1 last_network word)
network_step cards (network.Number number) word = said expected.Cost (network.Cost number) (number_of 1 65535 word)
network_step cards (network.Cost number cost) word =
    said expected.Longest (λ longest. network.Head (head_of number cost None longest)) (number_of least_longest most_longest word)
network_step cards (network.Head head) word = behind_head head cards word
network_step cards (network.Routes head routes) word = services_behind head routes word
network_step cards (network.Link head link) word = behind_link head link cards word
network_step cards (network.Node head link) word = node_behind head link word
network_step cards (network.Whole head link node) word = Err expected.Nothing

-- a network's line may end before its link, with it, or with a node
abbrev pub network_ends : NetworkBegun → Bool
network_ends (network.Head head) = true
network_ends (network.Link head link) = link_ends link
network_ends (network.Whole head link node) = true
network_ends other = false

-- what was read of a network: its number, all before its link, its link, and the gateway's node there
abbrev pub number_in : NetworkBegun → Option ℕ
number_in network.Nothing = None
number_in (network.Number number) = Some number
number_in (network.Cost number cost) = Some number
number_in (network.Head head) = Some head.number
number_in (network.Routes head routes) = Some head.number
number_in (network.Link head link) = Some head.number
number_in (network.Node head link) = Some head.number
number_in (network.Whole head link node) = Some head.number

abbrev pub head_in : NetworkBegun → Option Head
head_in (network.Head head) = Some head
head_in (network.Link head link) = Some head
head_in (network.Node head link) = Some head
head_in (network.Whole head link node) = Some head
head_in other = None

abbrev pub link_in : NetworkBegun → LinkBegun
link_in (network.Link head link) = link
link_in (network.Node head (Some whole)) = begun.Whole whole
link_in (network.Whole head (Some whole) node) = begun.Whole whole
link_in other = begun.Nothing

abbrev pub node_in : NetworkBegun → Option (List ℕ)
node_in (network.Whole head link node) = Some node
node_in other = None
