-- The networks and links of a configuration: the first so many places of memory.
use Rattle.std.specs.Prelude.{ℕ, ◌+◌, ◌-◌, ◌==◌, ◌&&◌, if◌then◌else◌, nat_lt, nat_le, List, take, Option, None, slice_get, slice_set}
use Rattle.ipx_configuration.specs.declared.memory.LinkList.{LinkList}
use Rattle.ipx_configuration.specs.declared.memory.NetworkList.{NetworkList}
use Rattle.ipx_configuration.specs.declared.said.LinkSetting.{LinkSetting}
use Rattle.ipx_configuration.specs.declared.said.NetworkSetting.{NetworkSetting}

-- places of memory
abbrev pub most_networks : ℕ
most_networks = 32

abbrev pub most_links : ℕ
most_links = 64

abbrev pub networks_in : NetworkList → List NetworkSetting
networks_in n = take n.count n.list

abbrev pub links_in : LinkList → List LinkSetting
links_in l = take l.count l.list

abbrev pub last_network : NetworkList → Option NetworkSetting
last_network n = if n.count == 0 then None else slice_get n.list (n.count - 1)

abbrev pub last_link : LinkList → Option LinkSetting
last_link l = if l.count == 0 then None else slice_get l.list (l.count - 1)

abbrev pub network_list : List NetworkSetting → ℕ → NetworkList
network_list list count = record { list = list; count = count }

abbrev pub link_list : List LinkSetting → ℕ → LinkList
link_list list count = record { list = list; count = count }

-- one more behind them, while there is room
abbrev pub with_network : NetworkList → NetworkSetting → NetworkList
with_network n network = if nat_lt n.count most_networks then network_list (slice_set n.list n.count network) (n.count + 1) else n

abbrev pub with_link : LinkList → LinkSetting → LinkList
with_link l link = if nat_lt l.count most_links then link_list (slice_set l.list l.count link) (l.count + 1) else l

-- another in place of the last
abbrev pub with_last_network : NetworkList → NetworkSetting → NetworkList
with_last_network n network =
    if nat_lt 0 n.count && nat_le n.count most_networks then network_list (slice_set n.list (n.count - 1) network) n.count else n

abbrev pub with_last_link : LinkList → LinkSetting → LinkList
with_last_link l link = if nat_lt 0 l.count && nat_le l.count most_links then link_list (slice_set l.list (l.count - 1) link) l.count else l
