-- A station stays at the link that proved it.
use Rattle.std.proofs.Common.{◌≡◌, ◌∙◌, refl, ap, ℕ, Bool, true, false, ◌==◌, if◌then◌else◌, inl, inr, List, [], ◌∷◌, ◌++◌, filter, map, Some, arith}
use Rattle.std.specs.List.{AllByRecursion}
use Rattle.std.proofs.lemmas.Bool.{cases_Bool, false≢true}
use Rattle.ipx_wire.specs.declared.node.Node.{Node}
use Rattle.ipx_segment.specs.declared.link.Link.{Link}
use Rattle.ipx_segment.specs.declared.link.Link.TheVariants.{Sure}
use Rattle.ipx_segment.specs.declared.setting.Setting.{Setting}
use Rattle.ipx_segment.specs.declared.station.Station.{Station}
use Rattle.ipx_segment.specs.Nodes.{same_node, is_ordinary}
use Rattle.ipx_segment.specs.Events.{Event, Changes, Heard, Comes, Leaves, Second, Sends, History}
use Rattle.ipx_segment.specs.Links.{link_at, links}
use Rattle.ipx_segment.specs.Stations.{station_of, has_room, without, placed, heard, counts, came, later, stays, sure_at, stations}
use Rattle.ipx_segment.specs.Laws.{of_node, turns, link_after, is_known}
use Rattle.ipx_segment.proofs.Nodes.{same_is}
use Rattle.ipx_segment.proofs.Own.{one_known, none_known, of_placed}
use Rattle.ipx_segment.proofs.Standing.{own, own_second, link_kept}
use Rattle.ipx_segment.proofs.Staying.{same_step, sure_later}

module _ (setting : Setting) (node : Node) (link : ℕ) where
  -- ---- a link that proves it

  pub came_there : (earlier : History) (share : ℕ) (room : Bool) → link_after setting link earlier ≡ Sure share → is_ordinary setting node ≡ true
      → has_room setting share link (without node (stations setting earlier)) ≡ room
      → own setting node (Comes link node ∷ earlier) ≡ (if room then sure_at link node ∷ [] else [])
  came_there earlier share room sure ordinary is =
      let xs = stations setting earlier in
      ap (λ (k : Link). of_node node (came setting k link node xs)) sure
      ∙ ap (λ (b : Bool). of_node node (if b then placed setting share (sure_at link node) xs else xs)) ordinary
      ∙ of_placed setting share (sure_at link node) xs
      ∙ ap (λ (b : Bool). if b then sure_at link node ∷ [] else []) is

  -- who is known there is the one that came
  pub came_known : (earlier : History) (share : ℕ) → link_after setting link earlier ≡ Sure share → is_ordinary setting node ≡ true
      → is_known setting node link (Comes link node ∷ earlier) ≡ true → own setting node (Comes link node ∷ earlier) ≡ sure_at link node ∷ []
  came_known earlier share sure ordinary known = grind (arith, came_there, false≢true, none_known)

  -- ---- words from elsewhere

  pub uncounted : (ls : List Link) (xs : List Station) (place : ℕ) → station_of node xs ≡ Some (sure_at link node) → (link == place) ≡ false
      → counts setting ls xs place node ≡ false
  uncounted ls xs place known apart = grind arith

  heard_nothing : (share : ℕ) (ls : List Link) (xs : List Station) (place : ℕ) → station_of node xs ≡ Some (sure_at link node) → link_at link ls ≡ Sure share
      → heard setting ls place node xs ≡ xs
  heard_nothing share ls xs place known sure = grind arith

  sure_step : (share : ℕ) (event : Event) (earlier : History) → turns node link event ≡ false → link_after setting link earlier ≡ Sure share
      → own setting node earlier ≡ sure_at link node ∷ [] → own setting node (event ∷ earlier) ≡ sure_at link node ∷ []
  sure_step share (Changes changed to) earlier other sure only =
      same_step setting node link (sure_at link node) (Changes changed to) earlier (λ e. cc) other refl only
  sure_step share (Heard place source destination) earlier other sure only = elim (cases_Bool (same_node source node)) [
    | inl same ↦
        let xs = stations setting earlier in
        let ls = links setting earlier in
        ap (λ (n : Node). of_node node (heard setting ls place n xs)) (same_is source node same)
        ∙ ap (of_node node) (heard_nothing share ls xs place (one_known node xs (sure_at link node) only) sure) ∙ only
    | inr apart ↦ same_step setting node link (sure_at link node) (Heard place source destination) earlier (λ e. cc) apart refl only
  ]
  sure_step share (Comes place comer) earlier other sure only =
      same_step setting node link (sure_at link node) (Comes place comer) earlier (λ e. cc) other refl only
  sure_step share (Leaves place leaver) earlier other sure only =
      same_step setting node link (sure_at link node) (Leaves place leaver) earlier (λ e. cc) other refl only
  sure_step share Second earlier other sure only =
      own_second setting node earlier ∙ ap (λ (l : List Station). filter stays (map later l)) only ∙ sure_later (sure_at link node) refl
  sure_step share (Sends destination) earlier other sure only = only

  pub sure_through : (share : ℕ) (later base : History) → AllByRecursion (λ e. turns node link e ≡ false) later → link_after setting link base ≡ Sure share
      → own setting node base ≡ sure_at link node ∷ []
      → (link_after setting link (later ++ base) ≡ Sure share) × (own setting node (later ++ base) ≡ sure_at link node ∷ [])
  sure_through share [] base others sure only = (sure, only)
  sure_through share (event ∷ later) base others sure only = grind (arith, sure_through share later base others.1 sure only, link_kept, sure_step)
