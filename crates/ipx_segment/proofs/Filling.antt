-- How many stations are known.
use Rattle.std.proofs.Common.{◌≡◌, ◌∙◌, refl, sym, ap, subst, arith, ℕ, ◌<◌, ◌≤◌, Bool, true, false, ◌==◌, ◌&&◌, not, nat_lt, if◌then◌else◌, cond, suc, inl, inr, List, [], ◌∷◌, ◌++◌, length, filter, map, length-append}
use Rattle.std.specs.List.{AllByRecursion}
use Rattle.std.proofs.lemmas.Bool.{cases_Bool, ltb-true, cases_eq, eq-eqb, ne_eqb}
use Rattle.std.proofs.lemmas.List.{length-map}
use Rattle.std.proofs.lemmas.List.Elements.{filter-append}
use Rattle.ipx_wire.specs.declared.node.Node.{Node}
use Rattle.ipx_segment.specs.declared.link.Link.{Link}
use Rattle.ipx_segment.specs.declared.link.Link.TheVariants.{Cable, Sure}
use Rattle.ipx_segment.specs.declared.setting.Setting.{Setting}
use Rattle.ipx_segment.specs.declared.station.Station.{Station}
use Rattle.ipx_segment.specs.Nodes.{same_node}
use Rattle.ipx_segment.specs.Events.{Changes, Heard, Comes, Leaves, Second, Sends, History}
use Rattle.ipx_segment.specs.Links.{link_at, links}
use Rattle.ipx_segment.specs.Stations.{station_of, is_at, at_link, has_room, without, placed, refreshed, learned, counts, came, later, stays, heard_at, sure_at, stations}
use Rattle.ipx_segment.specs.Laws.{of_node, share_of, link_after}
use Rattle.ipx_segment.proofs.Lists.{filter-swap, filter-map, filter_few, filter_one, filter_none}
use Rattle.ipx_segment.proofs.Own.{station_first}
use Rattle.ipx_segment.proofs.Standing.{once, link_kept}
use Rattle.ipx_segment.proofs.Staying.{known_by, later_link}

left_of : (a b : Bool) → (a && b) ≡ true → a ≡ true
left_of a b is = grind arith

right_of : (a b : Bool) → (a && b) ≡ true → b ≡ true
right_of a b is = grind arith

module _ (setting : Setting) where
  -- ---- in all

  few_placed : (share : ℕ) (new : Station) (xs : List Station) → length xs ≤ setting.capacity → length (placed setting share new xs) ≤ setting.capacity
  few_placed share new xs few =
      let w = without new.node xs in
      let fewer = filter_few (λ (s : Station). not (same_node s.node new.node)) xs in
      elim (cases_Bool (has_room setting share new.link w)) [
        | inl room ↦
            let less = ltb-true (length w) setting.capacity (left_of (nat_lt (length w) setting.capacity) (nat_lt (length (at_link new.link w)) share) room) in
            subst (λ (b : Bool). length (w ++ (if b then new ∷ [] else [])) ≤ setting.capacity) (sym room)
            (omega (arith, less, length-append w (new ∷ [])))
        | inr full ↦
            let none : List Station = [] in
            subst (λ (b : Bool). length (w ++ (if b then new ∷ [] else [])) ≤ setting.capacity) (sym full)
            (omega (arith, fewer, few, length-append w none))
      ]

  module _ (node : Node) (xs : List Station) (few : length xs ≤ setting.capacity) where
    few_at : (share link : ℕ) (here : Bool) → length (if here then map (refreshed link node) xs else placed setting share (heard_at link node) xs) ≤ setting.capacity
    few_at share link true = omega (arith, few, length-map xs (refreshed link node))
    few_at share link false = few_placed share (heard_at link node) xs few

    few_learned : (kind : Link) (link : ℕ) → length (learned setting kind link node xs) ≤ setting.capacity
    few_learned kind link = grind (arith, few_at)

    few_taken : (kind : Link) (link : ℕ) (taken : Bool) → length (if taken then learned setting kind link node xs else xs) ≤ setting.capacity
    few_taken kind link taken = grind (arith, few_learned)

    few_sure : (share link : ℕ) (ordinary : Bool) → length (if ordinary then placed setting share (sure_at link node) xs else xs) ≤ setting.capacity
    few_sure share link true = few_placed share (sure_at link node) xs few
    few_sure share link false = few

    few_came : (kind : Link) (link : ℕ) → length (came setting kind link node xs) ≤ setting.capacity
    few_came kind link = grind (arith, few_sure)

  pub capacity : (history : History) → length (stations setting history) ≤ setting.capacity
  capacity [] = omega arith
  capacity (Changes link to ∷ earlier) = omega (arith, capacity earlier, filter_few (λ (s : Station). not (s.link == link)) (stations setting earlier))
  capacity (Heard link source destination ∷ earlier) = grind (arith, capacity earlier, few_taken)
  capacity (Comes link comer ∷ earlier) = few_came comer (stations setting earlier) (capacity earlier) (link_at link (links setting earlier)) link
  capacity (Leaves link leaver ∷ earlier) = omega (arith, capacity earlier, filter_few)
  capacity (Second ∷ earlier) = grind (arith, capacity earlier, filter_few, length-map)
  capacity (Sends destination ∷ earlier) = capacity earlier

  -- ---- of a link

  module _ (link : ℕ) where
    pub fewer_kept : (p : Station → Bool) (xs : List Station) → length (at_link link (filter p xs)) ≤ length (at_link link xs)
    fewer_kept p xs = grind (arith, filter_few, filter-swap)

    -- a link whose stations are forgotten has none
    forgotten : (xs : List Station) → at_link link (filter (λ s. not (s.link == link)) xs) ≡ []
    forgotten [] = refl
    forgotten (x ∷ xs) = elim (cases_Bool (x.link == link)) [ inl e ↦ rw e (forgotten xs) | inr e ↦ rw (e, e) (forgotten xs) ]

    same_link : (place : ℕ) (node : Node) (xs : List Station) → AllByRecursion (λ s. s.link ≡ place) (of_node node xs)
        → length (at_link link (map (refreshed place node) xs)) ≡ length (at_link link xs)
    same_link place node [] all = refl
    same_link place node (x ∷ xs) all = elim (cases_Bool (same_node x.node node)) [
      | inl own ↦
          let each : AllByRecursion (λ (s : Station). s.link ≡ place) (x ∷ of_node node xs) =
          subst (λ (b : Bool). AllByRecursion (λ (s : Station). s.link ≡ place) (cond b (x ∷ of_node node xs) (of_node node xs))) own all in
          let rest = same_link place node xs each.1 in
          let head : (place == link) ≡ (x.link == link) = ap (λ (n : ℕ). n == link) (sym each.0) in
          elim (cases_Bool (x.link == link)) [
            | inl at ↦ rw (own, head, at) (ap suc rest)
            | inr away ↦ rw (own, head, away) rest
          ]
      | inr other ↦
          let rest = same_link place node xs (subst (λ (b : Bool). AllByRecursion (λ (s : Station). s.link ≡ place) (cond b (x ∷ of_node node xs) (of_node node xs))) other all) in
          elim (cases_Bool (x.link == link)) [
            | inl at ↦ rw (other, at) (ap suc rest)
            | inr away ↦ rw (other, away) rest
          ]
    ]

    share_placed : (share n : ℕ) (new : Station) (xs : List Station) → length (at_link link xs) ≤ n → (new.link ≡ link → share ≡ n)
        → length (at_link link (placed setting share new xs)) ≤ n
    share_placed share n new xs few same =
        let w = without new.node xs in
        let at = λ (s : Station). s.link == link in
        let fewer = fewer_kept (λ (s : Station). not (same_node s.node new.node)) xs in
        let sized = λ (b : Bool). ap length (filter-append at w (if b then new ∷ [] else [])) ∙ length-append (filter at w) (filter at (if b then new ∷ [] else [])) in
        elim (cases_Bool (has_room setting share new.link w)) [
          | inl room ↦
              let less = ltb-true (length (at_link new.link w)) share (right_of (nat_lt (length w) setting.capacity) (nat_lt (length (at_link new.link w)) share) room) in
              subst (λ (b : Bool). length (at_link link (w ++ (if b then new ∷ [] else []))) ≤ n) (sym room)
              (elim (cases_eq new.link link) [
                | inl here ↦
                    let one : length (filter at (new ∷ [])) ≡ 1 = ap length (filter_one at new (eq-eqb new.link link here)) in
                    let less_here : length (at_link link w) < share = subst (λ (l : ℕ). length (at_link l w) < share) here less in
                    omega (arith, one, less_here, same here, sized true)
                | inr away ↦
                    let none : length (filter at (new ∷ [])) ≡ 0 = ap length (filter_none at new (ne_eqb new.link link away)) in
                    omega (arith, none, fewer, few, sized true)
              ])
          | inr full ↦
              subst (λ (b : Bool). length (at_link link (w ++ (if b then new ∷ [] else []))) ≤ n) (sym full)
              (omega (arith, fewer, few, sized false))
        ]

    module _ (node : Node) (xs : List Station) (ls : List Link) (once_known : length (of_node node xs) ≤ 1) (few : length (at_link link xs) ≤ share_of (link_at link ls)) where
      share_at : (share place : ℕ) (here : Bool) → is_at place (station_of node xs) ≡ here → link_at place ls ≡ Cable share
          → length (at_link link (if here then map (refreshed place node) xs else placed setting share (heard_at place node) xs)) ≤ share_of (link_at link ls)
      share_at share place true is kind = grind (arith, known_by, station_first, same_link)
      share_at share place false is kind =
          share_placed share (share_of (link_at link ls)) (heard_at place node) xs few
          (λ e. sym (ap share_of (ap (λ (l : ℕ). link_at l ls) (sym e) ∙ kind)))

      share_learned : (kind : Link) (place : ℕ) → link_at place ls ≡ kind → length (at_link link (learned setting kind place node xs)) ≤ share_of (link_at link ls)
      share_learned kind place is = grind (arith, share_at)

      share_taken : (kind : Link) (place : ℕ) (taken : Bool) → link_at place ls ≡ kind
          → length (at_link link (if taken then learned setting kind place node xs else xs)) ≤ share_of (link_at link ls)
      share_taken kind place taken is = grind (arith, share_learned)

      share_sure : (share place : ℕ) (ordinary : Bool) → link_at place ls ≡ Sure share
          → length (at_link link (if ordinary then placed setting share (sure_at place node) xs else xs)) ≤ share_of (link_at link ls)
      share_sure share place true kind =
          share_placed share (share_of (link_at link ls)) (sure_at place node) xs few
          (λ e. sym (ap share_of (ap (λ (l : ℕ). link_at l ls) (sym e) ∙ kind)))
      share_sure share place false kind = few

      share_came : (kind : Link) (place : ℕ) → link_at place ls ≡ kind → length (at_link link (came setting kind place node xs)) ≤ share_of (link_at link ls)
      share_came kind place is = grind (arith, share_sure)

    later_links : (xs : List Station) → at_link link (map later xs) ≡ map later (at_link link xs)
    later_links xs = filter-map (λ (s : Station). s.link == link) later (λ s. ap (λ (n : ℕ). n == link) (later_link s)) xs

    pub share : (history : History) → length (at_link link (stations setting history)) ≤ share_of (link_after setting link history)
    share [] = omega arith
    share (Changes changed to ∷ earlier) = elim (cases_eq changed link) [
      | inl same ↦
          let none : at_link link (stations setting (Changes changed to ∷ earlier)) ≡ [] =
          ap (λ (l : ℕ). at_link link (filter (λ s. not (s.link == l)) (stations setting earlier))) same ∙ forgotten (stations setting earlier) in
          omega (arith, ap length none)
      | inr other ↦
          let kept = link_kept setting (record { 0 = [] }) link (Changes changed to) earlier (ne_eqb changed link other) in
          omega (arith, share earlier, fewer_kept (λ (s : Station). not (s.link == changed)) (stations setting earlier), ap share_of kept)
    ]
    share (Heard place source destination ∷ earlier) =
        share_taken source (stations setting earlier) (links setting earlier) (once setting earlier source) (share earlier) (link_at place (links setting earlier)) place
        (counts setting (links setting earlier) (stations setting earlier) place source) refl
    share (Comes place comer ∷ earlier) =
        share_came comer (stations setting earlier) (links setting earlier) (once setting earlier comer) (share earlier) (link_at place (links setting earlier)) place refl
    share (Leaves place leaver ∷ earlier) =
        omega (arith, share earlier, fewer_kept (λ (s : Station). not (same_node s.node leaver && (s.link == place))) (stations setting earlier))
    share (Second ∷ earlier) =
        omega (arith, share earlier, fewer_kept stays (map later (stations setting earlier)), ap length (later_links (stations setting earlier)), length-map (at_link link (stations setting earlier)) later)
    share (Sends destination ∷ earlier) = share earlier
