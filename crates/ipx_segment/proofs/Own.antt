-- The stations of one node, after events.
use Rattle.std.proofs.Common.{◌≡◌, ◌∙◌, refl, ap, Bool, true, false, ◌-◌, if◌then◌else◌, ℕ, List, [], ◌∷◌, map, None, Some, arith, rules}
use Rattle.std.proofs.lemmas.Bool.{false≢true}
use Rattle.std.proofs.lemmas.List.{append-nil}
use Rattle.std.proofs.lemmas.List.Elements.{filter-append}
use Rattle.ipx_wire.specs.declared.node.Node.{Node}
use Rattle.ipx_segment.specs.declared.link.Link.{Link}
use Rattle.ipx_segment.specs.declared.setting.Setting.{Setting}
use Rattle.ipx_segment.specs.declared.station.Station.{Station}
use Rattle.ipx_segment.specs.Nodes.{same_node}
use Rattle.ipx_segment.specs.Links.{link_at}
use Rattle.ipx_segment.specs.Stations.{station_of, has_room, without, placed, refreshed, learned, heard, counts, came, later, heard_at, sure_at}
use Rattle.ipx_segment.specs.Laws.{of_node}
use Rattle.ipx_segment.proofs.Lists.{first, find_first, filter-map}
use Rattle.ipx_segment.proofs.Nodes.{same_is, same_itself}

-- ---- who is known

pub station_first : (node : Node) (xs : List Station) → station_of node xs ≡ first (of_node node xs)
station_first node xs = find_first (λ (s : Station). same_node s.node node) xs

pub none_known : (node : Node) (xs : List Station) → of_node node xs ≡ [] → station_of node xs ≡ None
none_known node xs none = station_first node xs ∙ ap first none

pub one_known : (node : Node) (xs : List Station) (s : Station) → of_node node xs ≡ s ∷ [] → station_of node xs ≡ Some s
one_known node xs s one = station_first node xs ∙ ap first one

-- ---- what keeps nodes

pub refreshed_node : (link : ℕ) (node : Node) (s : Station) → ◌≡◌ {A = Node} (let t : Station = refreshed link node s in t.node) s.node
refreshed_node link node s = search (rules, same_is)

later_by : (b : Bool) (s : Station) → ◌≡◌ {A = Node} (let t : Station = if b then s else record s { seconds_left = s.seconds_left - 1 } in t.node) s.node
later_by true s = refl
later_by false s = refl

pub of_refreshed : (link : ℕ) (node other : Node) (xs : List Station)
    → of_node node (map (refreshed link other) xs) ≡ map (refreshed link other) (of_node node xs)
of_refreshed link node other xs = grind (arith, filter-map, refreshed_node)

pub of_later : (node : Node) (xs : List Station) → of_node node (map later xs) ≡ map later (of_node node xs)
of_later node xs = grind (arith, filter-map, later_by)

-- stations of one node aren't those of another
other_than : (a b node : Node) → same_node a b ≡ true → same_node b node ≡ false → same_node a node ≡ false
other_than a b node same other = ap (λ (n : Node). same_node n node) (same_is a b same) ∙ other

refreshed_other : (link : ℕ) (node other : Node) (xs : List Station) → same_node other node ≡ false
    → map (refreshed link other) (of_node node xs) ≡ of_node node xs
refreshed_other link node other [] different = refl
refreshed_other link node other (x ∷ xs) different = grind (arith, refreshed_other link node other xs different, false≢true, other_than)

-- ---- a station that comes to a link

pub of_without : (node : Node) (xs : List Station) → of_node node (without node xs) ≡ []
of_without node [] = refl
of_without node (x ∷ xs) = grind (arith, of_without node xs)

of_without_other : (node other : Node) (xs : List Station) → same_node other node ≡ false → of_node node (without other xs) ≡ of_node node xs
of_without_other node other [] different = refl
of_without_other node other (x ∷ xs) different = grind (arith, of_without_other node other xs different, other_than)

one_by : (node : Node) (new : Station) (b : Bool) → same_node new.node node ≡ true → of_node node (if b then new ∷ [] else []) ≡ (if b then new ∷ [] else [])
one_by node new b same = grind arith

none_by : (node : Node) (new : Station) (b : Bool) → same_node new.node node ≡ false → of_node node (if b then new ∷ [] else []) ≡ []
none_by node new b other = grind arith

module _ (setting : Setting) where
  pub of_placed : (share : ℕ) (new : Station) (xs : List Station)
      → of_node new.node (placed setting share new xs) ≡ (if has_room setting share new.link (without new.node xs) then new ∷ [] else [])
  of_placed share new xs = grind (arith, filter-append, of_without, one_by, same_itself)

  pub of_placed_other : (share : ℕ) (new : Station) (node : Node) (xs : List Station) → same_node new.node node ≡ false
      → of_node node (placed setting share new xs) ≡ of_node node xs
  of_placed_other share new node xs other = grind (arith, filter-append, of_without_other, none_by, append-nil)

  -- ---- what others do

  module _ (node other : Node) (xs : List Station) (different : same_node other node ≡ false) where
    learned_at : (share link : ℕ) (here : Bool)
        → of_node node (if here then map (refreshed link other) xs else placed setting share (heard_at link other) xs) ≡ of_node node xs
    learned_at share link true = of_refreshed link node other xs ∙ refreshed_other link node other xs different
    learned_at share link false = of_placed_other share (heard_at link other) node xs different

    learned_other : (kind : Link) (link : ℕ) → of_node node (learned setting kind link other xs) ≡ of_node node xs
    learned_other kind link = grind (arith, learned_at)

    heard_by : (kind : Link) (link : ℕ) (taken : Bool) → of_node node (if taken then learned setting kind link other xs else xs) ≡ of_node node xs
    heard_by kind link taken = grind (arith, learned_other)

    pub heard_other : (ls : List Link) (link : ℕ) → of_node node (heard setting ls link other xs) ≡ of_node node xs
    heard_other ls link = heard_by (link_at link ls) link (counts setting ls xs link other)

    came_by : (share link : ℕ) (ordinary : Bool) → of_node node (if ordinary then placed setting share (sure_at link other) xs else xs) ≡ of_node node xs
    came_by share link true = of_placed_other share (sure_at link other) node xs different
    came_by share link false = refl

    pub came_other : (kind : Link) (link : ℕ) → of_node node (came setting kind link other xs) ≡ of_node node xs
    came_other kind link = grind (arith, came_by)
