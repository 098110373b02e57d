-- Which stations are known, and where.
use Rattle.std.specs.Prelude.{ℕ, ◌-◌, Bool, true, false, ◌==◌, ◌&&◌, ◌||◌, not, nat_lt, if◌then◌else◌, List, [], ◌∷◌, ◌++◌, length, map, Option, None, Some}
use Rattle.std.specs.List.{filter, find}
use Rattle.ipx_wire.specs.declared.node.Node.{Node}
use Rattle.ipx_segment.specs.declared.link.Link.{Link}
use Rattle.ipx_segment.specs.declared.link.Link.TheVariants.{Down, Cable, Sure}
use Rattle.ipx_segment.specs.declared.setting.Setting.{Setting}
use Rattle.ipx_segment.specs.declared.station.Station.{Station}
use Rattle.ipx_segment.specs.Numbers.{station_lasts}
use Rattle.ipx_segment.specs.Nodes.{same_node, is_ordinary}
use Rattle.ipx_segment.specs.Events.{Changes, Heard, Comes, Leaves, Second, Sends, History}
use Rattle.ipx_segment.specs.Links.{is_up, link_at, links}

-- ---- one node

-- what is known of a node
abbrev pub station_of : Node → List Station → Option Station
station_of node stations = find (λ s. same_node s.node node) stations

-- it is known to be at that link
abbrev pub is_at : ℕ → Option Station → Bool
is_at link None = false
is_at link (Some s) = s.link == link

-- another link proved that the node is there
abbrev pub is_elsewhere : ℕ → Option Station → Bool
is_elsewhere link None = false
is_elsewhere link (Some s) = s.is_sure && not (s.link == link)

-- a packet from a link counts: the link is up, and its source is a node that a station there may have
abbrev pub is_taken : Setting → Link → ℕ → Node → Option Station → Bool
is_taken setting kind link source known = is_up kind && is_ordinary setting source && not (is_elsewhere link known)

-- the same of what is kept: of that link, and of that source
abbrev pub counts : Setting → List Link → List Station → ℕ → Node → Bool
counts setting links stations link source = is_taken setting (link_at link links) link source (station_of source stations)

-- ---- a station that comes to a link

-- a station that was heard at a link now, and one that came to a link which proves it
abbrev pub heard_at : ℕ → Node → Station
heard_at link node = record { node = node; link = link; is_sure = false; seconds_left = station_lasts }

abbrev pub sure_at : ℕ → Node → Station
sure_at link node = record { node = node; link = link; is_sure = true; seconds_left = station_lasts }

-- the stations at a link
abbrev pub at_link : ℕ → List Station → List Station
at_link link stations = filter (λ s. s.link == link) stations

-- there is room for one station more: in all, and of the link's share
abbrev pub has_room : Setting → ℕ → ℕ → List Station → Bool
has_room setting share link stations = nat_lt (length stations) setting.capacity && nat_lt (length (at_link link stations)) share

-- the stations of all other nodes
abbrev pub without : Node → List Station → List Station
without node stations = filter (λ s. not (same_node s.node node)) stations

-- a station comes to a link, if there is room; it isn't where it was in any case
abbrev pub placed : Setting → ℕ → Station → List Station → List Station
placed setting share new stations =
    without new.node stations ++ (if has_room setting share new.link (without new.node stations) then new ∷ [] else [])

-- ---- after an event

-- a node was heard where it is known to be: it counts for all its seconds again
abbrev pub refreshed : ℕ → Node → Station → Station
refreshed link node s = if same_node s.node node then heard_at link node else s

-- a node was heard: at a cable it counts for so many seconds from now on. A link that proves its stations needs no word of them
abbrev pub learned : Setting → Link → ℕ → Node → List Station → List Station
learned setting Down link node stations = stations
learned setting (Cable share) link node stations =
    if is_at link (station_of node stations) then map (refreshed link node) stations else placed setting share (heard_at link node) stations
learned setting (Sure share) link node stations = stations

-- what a packet from a node teaches, if it counts
abbrev pub heard : Setting → List Link → ℕ → Node → List Station → List Station
heard setting links link source stations =
    if counts setting links stations link source then learned setting (link_at link links) link source stations else stations

-- a node came to a link that proves it
abbrev pub came : Setting → Link → ℕ → Node → List Station → List Station
came setting Down link node stations = stations
came setting (Cable share) link node stations = stations
came setting (Sure share) link node stations =
    if is_ordinary setting node then placed setting share (sure_at link node) stations else stations

-- a station a second later, and whether it is known still
abbrev pub later : Station → Station
later s = if s.is_sure then s else record s { seconds_left = s.seconds_left - 1 }

abbrev pub stays : Station → Bool
stays s = s.is_sure || nat_lt 0 s.seconds_left

module _ (setting : Setting) where
  -- the stations that are known, in the order in which they came to their links
  abbrev pub stations : History → List Station
  stations [] = []
  stations (Changes link to ∷ earlier) = filter (λ s. not (s.link == link)) (stations earlier)
  stations (Heard link source destination ∷ earlier) = heard setting (links setting earlier) link source (stations earlier)
  stations (Comes link node ∷ earlier) = came setting (link_at link (links setting earlier)) link node (stations earlier)
  stations (Leaves link node ∷ earlier) = filter (λ s. not (same_node s.node node && (s.link == link))) (stations earlier)
  stations (Second ∷ earlier) = filter stays (map later (stations earlier))
  stations (Sends destination ∷ earlier) = stations earlier
