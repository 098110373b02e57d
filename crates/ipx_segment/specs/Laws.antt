-- The words of the laws: what holds of every history by the definitions alone.
use Rattle.std.specs.Prelude.{◌≡◌, ℕ, zero, suc, ◌+◌, Bool, true, false, ◌==◌, List, [], ◌∷◌, ◌++◌, length}
use Rattle.std.specs.List.{filter, AllByRecursion}
use Rattle.ipx_wire.specs.declared.node.Node.{Node}
use Rattle.ipx_segment.specs.declared.link.Link.{Link}
use Rattle.ipx_segment.specs.declared.link.Link.TheVariants.{Down, Cable, Sure}
use Rattle.ipx_segment.specs.declared.setting.Setting.{Setting}
use Rattle.ipx_segment.specs.declared.station.Station.{Station}
use Rattle.ipx_segment.specs.Nodes.{same_node, is_ordinary}
use Rattle.ipx_segment.specs.Events.{Event, Changes, Heard, Comes, Leaves, Second, Sends, History}
use Rattle.ipx_segment.specs.Links.{link_at, links}
use Rattle.ipx_segment.specs.Stations.{station_of, is_at, stations}
use Rattle.ipx_segment.specs.Receivers.{takes}

-- ---- counting

-- how often a link stands in a list
abbrev pub copies : ℕ → List ℕ → ℕ
copies link links = length (filter (λ l. l == link) links)

-- the stations with that node
abbrev pub of_node : Node → List Station → List Station
of_node node stations = filter (λ s. same_node s.node node) stations

-- how many seconds passed
abbrev pub seconds : History → ℕ
seconds [] = 0
seconds (Changes link to ∷ earlier) = seconds earlier
seconds (Heard link source destination ∷ earlier) = seconds earlier
seconds (Comes link node ∷ earlier) = seconds earlier
seconds (Leaves link node ∷ earlier) = seconds earlier
seconds (Second ∷ earlier) = seconds earlier + 1
seconds (Sends destination ∷ earlier) = seconds earlier

-- ---- links

-- the most stations that are known of a link
abbrev pub share_of : Link → ℕ
share_of Down = 0
share_of (Cable share) = share
share_of (Sure share) = share

-- the sum over the numbers below this one
abbrev pub sum_below : (ℕ → ℕ) → ℕ → ℕ
sum_below f zero = 0
sum_below f (suc n) = sum_below f n + f n

-- the link of that number after the events
abbrev pub link_after : Setting → ℕ → History → Link
link_after setting link history = link_at link (links setting history)

-- the shares of all links together
abbrev pub shares : Setting → History → ℕ
shares setting history = sum_below (λ link. share_of (link_after setting link history)) setting.links

-- ---- where a node is

-- the node is known to be at that link
abbrev pub is_known : Setting → Node → ℕ → History → Bool
is_known setting node link history = is_at link (station_of node (stations setting history))

-- the link changes, or the node comes to a link or leaves one
abbrev pub turns : Node → ℕ → Event → Bool
turns node link (Changes changed to) = changed == link
turns node link (Heard at source destination) = false
turns node link (Comes at comer) = same_node comer node
turns node link (Leaves at leaver) = same_node leaver node
turns node link Second = false
turns node link (Sends destination) = false

-- that, or the node is heard
abbrev pub concerns : Node → ℕ → Event → Bool
concerns node link (Changes changed to) = changed == link
concerns node link (Heard at source destination) = same_node source node
concerns node link (Comes at comer) = same_node comer node
concerns node link (Leaves at leaver) = same_node leaver node
concerns node link Second = false
concerns node link (Sends destination) = false

-- at a cable the node was heard, and nothing since then concerns it: what others said may be anything
pub record LastHeard (setting : Setting) (node : Node) (link : ℕ) (history : History) : Type 0 where
  pub later : History
  pub destination : Node
  pub earlier : History
  pub event : history ≡ later ++ Heard link node destination ∷ earlier
  pub share : ℕ
  pub cable : link_after setting link earlier ≡ Cable share
  pub counts : takes setting (Heard link node destination ∷ earlier) ≡ true
  pub others : AllByRecursion (λ e. concerns node link e ≡ false) later

-- the node came to a link that proves it, and there was room; since then it hasn't left, and the link is as it was
pub record CameLast (setting : Setting) (node : Node) (link : ℕ) (history : History) : Type 0 where
  pub later : History
  pub earlier : History
  pub event : history ≡ later ++ Comes link node ∷ earlier
  pub share : ℕ
  pub sure : link_after setting link earlier ≡ Sure share
  pub ordinary : is_ordinary setting node ≡ true
  pub room : is_known setting node link (Comes link node ∷ earlier) ≡ true
  pub others : AllByRecursion (λ e. turns node link e ≡ false) later
