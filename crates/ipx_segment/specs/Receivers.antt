-- Which links get a packet, and whether the router hears it.
use Rattle.std.specs.Prelude.{ℕ, zero, suc, Bool, true, false, ◌==◌, ◌&&◌, ◌||◌, not, if◌then◌else◌, List, [], ◌∷◌, ◌++◌, Option, None, Some}
use Rattle.std.specs.List.{filter}
use Rattle.ipx_wire.specs.declared.node.Node.{Node}
use Rattle.ipx_segment.specs.declared.link.Link.{Link}
use Rattle.ipx_segment.specs.declared.setting.Setting.{Setting}
use Rattle.ipx_segment.specs.declared.station.Station.{Station}
use Rattle.ipx_segment.specs.Nodes.{same_node, broadcast}
use Rattle.ipx_segment.specs.Events.{Changes, Heard, Comes, Leaves, Second, Sends, History}
use Rattle.ipx_segment.specs.Links.{is_up, link_at, links}
use Rattle.ipx_segment.specs.Stations.{station_of, counts, stations}

-- the numbers below this one
abbrev pub numbers : ℕ → List ℕ
numbers zero = []
numbers (suc n) = numbers n ++ n ∷ []

-- what is known of a packet's destination; of all together nothing
abbrev pub sought : Node → List Station → Option Station
sought destination stations = if same_node destination broadcast then None else station_of destination stations

-- a packet goes to the link of its destination, and where that isn't known to each
abbrev pub is_towards : Option Station → ℕ → Bool
is_towards None link = true
is_towards (Some s) link = s.link == link

-- never back to the link where it was heard; what the router sends was heard at none
abbrev pub is_back : Option ℕ → ℕ → Bool
is_back None link = false
is_back (Some came) link = link == came

-- a link gets a packet
abbrev pub gets : List Link → Option Station → Option ℕ → ℕ → Bool
gets links sought came link = is_up (link_at link links) && not (is_back came link) && is_towards sought link

-- a link gets a packet for that node; what is for the router alone goes to none
abbrev pub is_meant : Setting → List Link → List Station → Option ℕ → Node → ℕ → Bool
is_meant setting links stations came destination link =
    not (same_node destination setting.node) && gets links (sought destination stations) came link

-- the links that get a packet, in order
abbrev pub links_for : Setting → List Link → List Station → Option ℕ → Node → List ℕ
links_for setting links stations came destination =
    if same_node destination setting.node then [] else filter (gets links (sought destination stations) came) (numbers setting.links)

module _ (setting : Setting) where
  -- the latest event is a packet from a link that counts
  abbrev pub takes : History → Bool
  takes [] = false
  takes (Changes link to ∷ earlier) = false
  takes (Heard link source destination ∷ earlier) = counts setting (links setting earlier) (stations setting earlier) link source
  takes (Comes link node ∷ earlier) = false
  takes (Leaves link node ∷ earlier) = false
  takes (Second ∷ earlier) = false
  takes (Sends destination ∷ earlier) = false

  -- the links that get the packet of the latest event
  abbrev pub receivers : History → List ℕ
  receivers [] = []
  receivers (Changes link to ∷ earlier) = []
  receivers (Heard link source destination ∷ earlier) =
      let history = Heard link source destination ∷ earlier in
      if takes history then links_for setting (links setting history) (stations setting history) (Some link) destination else []
  receivers (Comes link node ∷ earlier) = []
  receivers (Leaves link node ∷ earlier) = []
  receivers (Second ∷ earlier) = []
  receivers (Sends destination ∷ earlier) = links_for setting (links setting earlier) (stations setting earlier) None destination

  -- the router hears it: it is for its node or for all
  abbrev pub is_heard : History → Bool
  is_heard [] = false
  is_heard (Changes link to ∷ earlier) = false
  is_heard (Heard link source destination ∷ earlier) =
      takes (Heard link source destination ∷ earlier) && (same_node destination setting.node || same_node destination broadcast)
  is_heard (Comes link node ∷ earlier) = false
  is_heard (Leaves link node ∷ earlier) = false
  is_heard (Second ∷ earlier) = false
  is_heard (Sends destination ∷ earlier) = false
