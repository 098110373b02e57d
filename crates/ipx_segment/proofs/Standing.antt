-- What holds of the links and stations of every history.
use Rattle.std.proofs.Common.{◌≡◌, ◌∙◌, ap, subst, arith, ℕ, ◌≤◌, Bool, true, false, ◌==◌, ◌&&◌, not, if◌then◌else◌, inl, inr, List, [], ◌∷◌, length, filter, map, length-set}
use Rattle.std.proofs.lemmas.Bool.{cases_Bool, false≢true, eq-eqb}
use Rattle.std.proofs.lemmas.List.{length-map, length-replicate, get_or-set_other}
use Rattle.ipx_wire.specs.declared.node.Node.{Node}
use Rattle.ipx_segment.specs.declared.link.Link.{Link}
use Rattle.ipx_segment.specs.declared.link.Link.TheVariants.{Down}
use Rattle.ipx_segment.specs.declared.setting.Setting.{Setting}
use Rattle.ipx_segment.specs.declared.station.Station.{Station}
use Rattle.ipx_segment.specs.Nodes.{same_node}
use Rattle.ipx_segment.specs.Events.{Event, Changes, Heard, Comes, Leaves, Second, Sends, History}
use Rattle.ipx_segment.specs.Links.{link_at, links}
use Rattle.ipx_segment.specs.Stations.{placed, refreshed, learned, heard, counts, came, later, stays, heard_at, sure_at, stations}
use Rattle.ipx_segment.specs.Laws.{of_node, turns, concerns, link_after}
use Rattle.ipx_segment.proofs.Lists.{filter-swap, filter_few}
use Rattle.ipx_segment.proofs.Nodes.{same_is}
use Rattle.ipx_segment.proofs.Own.{of_refreshed, of_later, of_placed, heard_other, came_other}

module _ (setting : Setting) where
  -- ---- links

  pub links_long : (history : History) → length (links setting history) ≡ setting.links
  links_long [] = length-replicate setting.links Down
  links_long (Changes link to ∷ earlier) = length-set (links setting earlier) link to ∙ links_long earlier
  links_long (Heard link source destination ∷ earlier) = links_long earlier
  links_long (Comes link node ∷ earlier) = links_long earlier
  links_long (Leaves link node ∷ earlier) = links_long earlier
  links_long (Second ∷ earlier) = links_long earlier
  links_long (Sends destination ∷ earlier) = links_long earlier

  -- a link is as it was, but for its own changes
  pub link_kept : (node : Node) (link : ℕ) (event : Event) (earlier : History) → turns node link event ≡ false
      → link_after setting link (event ∷ earlier) ≡ link_after setting link earlier
  link_kept node link event earlier other = grind (arith, get_or-set_other, false≢true, eq-eqb)

  -- what concerns it not at all doesn't turn it
  pub turns_not : (node : Node) (link : ℕ) (event : Event) → concerns node link event ≡ false → turns node link event ≡ false
  turns_not node link event other = grind arith

  -- ---- the stations of a node

  abbrev pub own : Node → History → List Station
  own node history = of_node node (stations setting history)

  pub own_changes : (node : Node) (link : ℕ) (to : Link) (earlier : History)
      → own node (Changes link to ∷ earlier) ≡ filter (λ s. not (s.link == link)) (own node earlier)
  own_changes node link to earlier = filter-swap (λ (s : Station). same_node s.node node) (λ (s : Station). not (s.link == link)) (stations setting earlier)

  pub own_leaves : (node leaver : Node) (link : ℕ) (earlier : History)
      → own node (Leaves link leaver ∷ earlier) ≡ filter (λ s. not (same_node s.node leaver && (s.link == link))) (own node earlier)
  own_leaves node leaver link earlier = grind (arith, filter-swap)

  pub own_second : (node : Node) (earlier : History) → own node (Second ∷ earlier) ≡ filter stays (map later (own node earlier))
  own_second node earlier = grind (arith, filter-swap, of_later)

  -- ---- none twice

  few_placed : (node : Node) (room : Bool) (new : Station) → length (if room then new ∷ [] else []) ≤ 1
  few_placed node room new = grind arith

  once_placed : (share : ℕ) (new : Station) (xs : List Station) → length (of_node new.node (placed setting share new xs)) ≤ 1
  once_placed share new xs = grind (arith, of_placed, few_placed)

  module _ (node : Node) (xs : List Station) (once : length (of_node node xs) ≤ 1) where
    once_at : (share link : ℕ) (here : Bool)
        → length (of_node node (if here then map (refreshed link node) xs else placed setting share (heard_at link node) xs)) ≤ 1
    once_at share link true = omega (arith, once, ap length (of_refreshed link node node xs), length-map (of_node node xs) (refreshed link node))
    once_at share link false = once_placed share (heard_at link node) xs

    once_learned : (kind : Link) (link : ℕ) → length (of_node node (learned setting kind link node xs)) ≤ 1
    once_learned kind link = grind (arith, once_at)

    once_taken : (kind : Link) (link : ℕ) (taken : Bool) → length (of_node node (if taken then learned setting kind link node xs else xs)) ≤ 1
    once_taken kind link taken = grind (arith, once_learned)

    once_sure : (share link : ℕ) (ordinary : Bool) → length (of_node node (if ordinary then placed setting share (sure_at link node) xs else xs)) ≤ 1
    once_sure share link true = once_placed share (sure_at link node) xs
    once_sure share link false = once

    once_came : (kind : Link) (link : ℕ) → length (of_node node (came setting kind link node xs)) ≤ 1
    once_came kind link = grind (arith, once_sure)

  pub once : (history : History) (node : Node) → length (of_node node (stations setting history)) ≤ 1
  once [] node = omega arith
  once (Changes link to ∷ earlier) node =
      omega (
        arith,
        once earlier node,
        filter_few (λ (s : Station). not (s.link == link)) (of_node node (stations setting earlier)),
        ap length (filter-swap (λ (s : Station). same_node s.node node) (λ (s : Station). not (s.link == link)) (stations setting earlier)),
      )
  once (Heard link source destination ∷ earlier) node =
      elim (cases_Bool (same_node source node)) [
        | inl same ↦
            subst (λ (n : Node). length (of_node n (heard setting (links setting earlier) link source (stations setting earlier))) ≤ 1) (same_is source node same)
            (once_taken source (stations setting earlier) (once earlier source) (link_at link (links setting earlier)) link
            (counts setting (links setting earlier) (stations setting earlier) link source))
        | inr other ↦ omega (arith, once earlier node, ap length (heard_other setting node source (stations setting earlier) other (links setting earlier) link))
      ]
  once (Comes link comer ∷ earlier) node =
      elim (cases_Bool (same_node comer node)) [
        | inl same ↦
            subst (λ (n : Node). length (of_node n (came setting (link_at link (links setting earlier)) link comer (stations setting earlier))) ≤ 1) (same_is comer node same)
            (once_came comer (stations setting earlier) (once earlier comer) (link_at link (links setting earlier)) link)
        | inr other ↦ omega (arith, once earlier node, ap length (came_other setting node comer (stations setting earlier) other (link_at link (links setting earlier)) link))
      ]
  once (Leaves link leaver ∷ earlier) node =
      omega (
        arith,
        once earlier node,
        filter_few (λ (s : Station). not (same_node s.node leaver && (s.link == link))) (of_node node (stations setting earlier)),
        ap length (filter-swap (λ (s : Station). same_node s.node node) (λ (s : Station). not (same_node s.node leaver && (s.link == link))) (stations setting earlier)),
      )
  once (Second ∷ earlier) node =
      omega (
        arith,
        once earlier node,
        filter_few stays (map later (of_node node (stations setting earlier))),
        length-map (of_node node (stations setting earlier)) later,
        ap length (filter-swap (λ (s : Station). same_node s.node node) stays (map later (stations setting earlier))),
        ap (λ (l : List Station). length (filter stays l)) (of_later node (stations setting earlier)),
      )
  once (Sends destination ∷ earlier) node = once earlier node
