-- A station stays where it was heard, or where it came to.
use Rattle.std.proofs.Common.{◌≡◌, ◌≢◌, ◌∙◌, refl, sym, ap, ap₂, subst, arith, ℕ, ◌+◌, ◌-◌, ◌<◌, ◌≤◌, Bool, true, false, ◌==◌, ◌&&◌, ◌||◌, not, nat_lt, if◌then◌else◌, ◌⊎◌, inl, inr, List, [], ◌∷◌, ◌++◌, length, filter, map, rules}
use Rattle.std.specs.List.{AllByRecursion}
use Rattle.std.proofs.lemmas.Bool.{cases_Bool, false≢true, ltb-true, ltb-false, eq-eqb, eqb-true}
use Rattle.ipx_wire.specs.declared.node.Node.{Node}
use Rattle.ipx_segment.specs.declared.link.Link.{Link}
use Rattle.ipx_segment.specs.declared.link.Link.TheVariants.{Cable}
use Rattle.ipx_segment.specs.declared.setting.Setting.{Setting}
use Rattle.ipx_segment.specs.declared.station.Station.{Station}
use Rattle.ipx_segment.specs.Numbers.{station_lasts}
use Rattle.ipx_segment.specs.Nodes.{same_node}
use Rattle.ipx_segment.specs.Events.{Event, Changes, Heard, Comes, Leaves, Second, Sends, History}
use Rattle.ipx_segment.specs.Links.{link_at, links}
use Rattle.ipx_segment.specs.Stations.{station_of, is_at, has_room, without, placed, refreshed, learned, later, stays, heard_at, stations}
use Rattle.ipx_segment.specs.Receivers.{takes}
use Rattle.ipx_segment.specs.Laws.{of_node, seconds, turns, concerns, link_after, is_known}
use Rattle.ipx_segment.proofs.Lists.{first, each-filter, filter_one, filter_none}
use Rattle.ipx_segment.proofs.Nodes.{same_is, turned}
use Rattle.ipx_segment.proofs.Own.{station_first, one_known, none_known, of_refreshed, of_placed, heard_other, came_other}
use Rattle.ipx_segment.proofs.Standing.{own, own_changes, own_leaves, own_second, once, link_kept, turns_not}

-- ---- one station

-- a node's only station is at that link, and has so many seconds left at least
pub record At (link least : ℕ) (xs : List Station) : Type 0 where
  pub station : Station
  pub only : xs ≡ station ∷ []
  pub at : station.link ≡ link
  pub left : least ≤ station.seconds_left

pub at_least : (link m n : ℕ) (xs : List Station) → m ≤ n → At link n xs → At link m xs
at_least link m n xs less a = record { station = a.station; only = a.only; at = a.at; left = omega (arith, less, a.left) }

-- another link changes
other_link : (link changed : ℕ) (s : Station) → s.link ≡ link → (changed == link) ≡ false → filter (λ t. not (t.link == changed)) (s ∷ []) ≡ s ∷ []
other_link link changed s at other =
    filter_one (λ (t : Station). not (t.link == changed)) s (ap not (ap (λ (n : ℕ). n == changed) at ∙ turned changed link other))

-- another node leaves
other_leaves : (node leaver : Node) (link : ℕ) (s : Station) → same_node s.node node ≡ true → same_node leaver node ≡ false
    → filter (λ t. not (same_node t.node leaver && (t.link == link))) (s ∷ []) ≡ s ∷ []
other_leaves node leaver link s own other = search (rules, false≢true, same_is, own, filter_one)

-- the station of a node has this node
own_node : (node : Node) (xs : List Station) (s : Station) → of_node node xs ≡ s ∷ [] → same_node s.node node ≡ true
own_node node xs s only = grind (arith, each-filter)

-- ---- a second

later_sure : (s : Station) → s.is_sure ≡ true → later s ≡ s
later_sure s sure = ap (λ (b : Bool). if b then s else record s { seconds_left = s.seconds_left - 1 }) sure

stays_sure : (s : Station) → s.is_sure ≡ true → stays s ≡ true
stays_sure s sure = ap (λ (b : Bool). b || nat_lt 0 s.seconds_left) sure

pub sure_later : (s : Station) → s.is_sure ≡ true → filter stays (map later (s ∷ [])) ≡ s ∷ []
sure_later s sure =
    ap (λ (t : Station). filter stays (t ∷ [])) (later_sure s sure) ∙ filter_one stays s (stays_sure s sure)

other_later : (s : Station) → s.is_sure ≡ false → 1 < s.seconds_left → filter stays (map later (s ∷ [])) ≡ record s { seconds_left = s.seconds_left - 1 } ∷ []
other_later s other some = grind arith

gone_later : (s : Station) → s.is_sure ≡ false → s.seconds_left ≤ 1 → filter stays (map later (s ∷ [])) ≡ []
gone_later s other last = grind arith

at_second : (link least : ℕ) (xs : List Station) → 0 < least → At link (least + 1) xs → At link least (filter stays (map later xs))
at_second link least xs some a = grind arith

-- nowhere, or at that link
abbrev pub Nowhere : ℕ → List Station → Type 0
Nowhere link xs = (xs ≡ []) ⊎ At link 0 xs

none_or_one : (s : Station) (link : ℕ) (b : Bool) → s.link ≡ link → Nowhere link (if b then s ∷ [] else [])
none_or_one s link true at = inr (record { station = s; only = refl; at = at; left = omega arith })
none_or_one s link false at = inl refl

pub later_link : (s : Station) → ◌≡◌ {A = ℕ} (let t : Station = later s in t.link) s.link
later_link s = grind arith

filter_by : (s : Station) → filter stays (s ∷ []) ≡ (if stays s then s ∷ [] else [])
filter_by s = elim (cases_Bool (stays s)) [ inl e ↦ filter_one stays s e ∙ sym (ap (λ (b : Bool). if b then s ∷ [] else []) e) | inr e ↦ filter_none stays s e ∙ sym (ap (λ (b : Bool). if b then s ∷ [] else []) e) ]

-- what is known is the only station of its node
pub known_by : (link : ℕ) (xs : List Station) → length xs ≤ 1 → is_at link (first xs) ≡ true → (s : Station) × (xs ≡ s ∷ []) × (s.link ≡ link)
known_by link [] few is = absurd (false≢true is)
known_by link (s ∷ []) few is = (s, refl, eqb-true s.link link is)
known_by link (s ∷ t ∷ xs) few is = absurd (omega (arith, few))

module _ (setting : Setting) (node : Node) (link : ℕ) where
  -- ---- what doesn't concern the node

  -- but for seconds, its station is as it was
  pub same_step : (s : Station) (event : Event) (earlier : History) → event ≢ Second → concerns node link event ≡ false → s.link ≡ link
      → own setting node earlier ≡ s ∷ [] → own setting node (event ∷ earlier) ≡ s ∷ []
  same_step s (Changes changed to) earlier still other at only =
      own_changes setting node changed to earlier ∙ ap (filter (λ (t : Station). not (t.link == changed))) only ∙ other_link link changed s at other
  same_step s (Heard place source destination) earlier still other at only =
      heard_other setting node source (stations setting earlier) other (links setting earlier) place ∙ only
  same_step s (Comes place comer) earlier still other at only =
      came_other setting node comer (stations setting earlier) other (link_at place (links setting earlier)) place ∙ only
  same_step s (Leaves place leaver) earlier still other at only =
      own_leaves setting node leaver place earlier ∙ ap (filter (λ (t : Station). not (same_node t.node leaver && (t.link == place)))) only
      ∙ other_leaves node leaver place s (own_node node (stations setting earlier) s only) other
  same_step s Second earlier still other at only = absurd (still refl)
  same_step s (Sends destination) earlier still other at only = only

  pub at_step : (least : ℕ) (event : Event) (earlier : History) → event ≢ Second → concerns node link event ≡ false
      → At link least (own setting node earlier) → At link least (own setting node (event ∷ earlier))
  at_step least event earlier still other a = grind (arith, same_step)

  -- as long as seconds don't take all
  pub found_through : (later base : History) → AllByRecursion (λ e. concerns node link e ≡ false) later → seconds later < station_lasts
      → At link station_lasts (own setting node base) → At link (station_lasts - seconds later) (own setting node (later ++ base))
  found_through [] base others recent a = a
  found_through (Changes changed to ∷ later) base others recent a =
      at_step _ (Changes changed to) (later ++ base) (λ e. cc) others.0 (found_through later base others.1 recent a)
  found_through (Heard place source destination ∷ later) base others recent a =
      at_step _ (Heard place source destination) (later ++ base) (λ e. cc) others.0 (found_through later base others.1 recent a)
  found_through (Comes place comer ∷ later) base others recent a =
      at_step _ (Comes place comer) (later ++ base) (λ e. cc) others.0 (found_through later base others.1 recent a)
  found_through (Leaves place leaver ∷ later) base others recent a =
      at_step _ (Leaves place leaver) (later ++ base) (λ e. cc) others.0 (found_through later base others.1 recent a)
  found_through (Second ∷ later) base others recent a =
      let before = found_through later base others.1 (omega (arith, recent)) a in
      let least = station_lasts - (seconds later + 1) in
      let longer : At link (least + 1) (own setting node (later ++ base)) =
      at_least link (least + 1) (station_lasts - seconds later) (own setting node (later ++ base)) (omega (arith, recent)) before in
      subst (At link least) (sym (own_second setting node (later ++ base)))
      (at_second link least (own setting node (later ++ base)) (omega (arith, recent)) longer)
  found_through (Sends destination ∷ later) base others recent a =
      at_step _ (Sends destination) (later ++ base) (λ e. cc) others.0 (found_through later base others.1 recent a)

  -- ---- nowhere else

  none_step : (event : Event) (earlier : History) → concerns node link event ≡ false → own setting node earlier ≡ [] → own setting node (event ∷ earlier) ≡ []
  none_step (Changes changed to) earlier other none =
      own_changes setting node changed to earlier ∙ ap (filter (λ (t : Station). not (t.link == changed))) none
  none_step (Heard place source destination) earlier other none =
      heard_other setting node source (stations setting earlier) other (links setting earlier) place ∙ none
  none_step (Comes place comer) earlier other none =
      came_other setting node comer (stations setting earlier) other (link_at place (links setting earlier)) place ∙ none
  none_step (Leaves place leaver) earlier other none =
      own_leaves setting node leaver place earlier ∙ ap (filter (λ (t : Station). not (same_node t.node leaver && (t.link == place)))) none
  none_step Second earlier other none = own_second setting node earlier ∙ ap (λ (l : List Station). filter stays (map later l)) none
  none_step (Sends destination) earlier other none = none

  some_step : (event : Event) (earlier : History) → event ≢ Second → concerns node link event ≡ false
      → Nowhere link (own setting node earlier) → Nowhere link (own setting node (event ∷ earlier))
  some_step event earlier still other before = grind (arith, none_step, at_step)

  second_step : (earlier : History) → Nowhere link (own setting node earlier) → Nowhere link (own setting node (Second ∷ earlier))
  second_step earlier before = grind (arith, none_step, own, own_second, filter_by, none_or_one, later_link)

  pub reaches_through : (later base : History) → AllByRecursion (λ e. concerns node link e ≡ false) later
      → Nowhere link (own setting node base) → Nowhere link (own setting node (later ++ base))
  reaches_through [] base others before = before
  reaches_through (Changes changed to ∷ later) base others before =
      some_step (Changes changed to) (later ++ base) (λ e. cc) others.0 (reaches_through later base others.1 before)
  reaches_through (Heard place source destination ∷ later) base others before =
      some_step (Heard place source destination) (later ++ base) (λ e. cc) others.0 (reaches_through later base others.1 before)
  reaches_through (Comes place comer ∷ later) base others before =
      some_step (Comes place comer) (later ++ base) (λ e. cc) others.0 (reaches_through later base others.1 before)
  reaches_through (Leaves place leaver ∷ later) base others before =
      some_step (Leaves place leaver) (later ++ base) (λ e. cc) others.0 (reaches_through later base others.1 before)
  reaches_through (Second ∷ later) base others before = second_step (later ++ base) (reaches_through later base others.1 before)
  reaches_through (Sends destination ∷ later) base others before =
      some_step (Sends destination) (later ++ base) (λ e. cc) others.0 (reaches_through later base others.1 before)

  pub others_step : (event : Event) (earlier : History) → event ≢ Second → concerns node link event ≡ false
      → Nowhere link (own setting node earlier) → Nowhere link (own setting node (event ∷ earlier))
  others_step event earlier still other before = some_step event earlier still other before

  pub link_through : (later base : History) → AllByRecursion (λ e. turns node link e ≡ false) later
      → link_after setting link (later ++ base) ≡ link_after setting link base
  link_through [] base others = refl
  link_through (event ∷ later) base others = link_kept setting node link event (later ++ base) others.0 ∙ link_through later base others.1

  pub turns_none : (later : History) → AllByRecursion (λ e. concerns node link e ≡ false) later → AllByRecursion (λ e. turns node link e ≡ false) later
  turns_none [] others = tt
  turns_none (event ∷ later) others = (turns_not setting node link event others.0, turns_none later others.1)

  -- ---- what is heard of the node

  module _ (share : ℕ) (xs : List Station) (few : length (of_node node xs) ≤ 1) where
    abbrev after : Bool → List Station
    after here = if here then map (refreshed link node) xs else placed setting share (heard_at link node) xs

    here_again : is_at link (station_of node xs) ≡ true → of_node node (after true) ≡ heard_at link node ∷ []
    here_again here = grind (arith, known_by, station_first, of_refreshed, own_node)

    new_there : (room : Bool) → has_room setting share link (without node xs) ≡ room → of_node node (after false) ≡ (if room then heard_at link node ∷ [] else [])
    new_there room is = of_placed setting share (heard_at link node) xs ∙ ap (λ (b : Bool). if b then heard_at link node ∷ [] else []) is

    heard_room : (here : Bool) → is_at link (station_of node xs) ≡ here → has_room setting share link (without node xs) ≡ true
        → of_node node (after here) ≡ heard_at link node ∷ []
    heard_room true is room = here_again is
    heard_room false is room = new_there true room

    heard_any : (here : Bool) → is_at link (station_of node xs) ≡ here
        → (of_node node (after here) ≡ []) ⊎ (of_node node (after here) ≡ heard_at link node ∷ [])
    heard_any here is = grind (arith, here_again, new_there)

  -- the stations after a packet of the node, from a cable
  heard_after : (destination : Node) (earlier : History) (share : ℕ) → link_after setting link earlier ≡ Cable share
      → takes setting (Heard link node destination ∷ earlier) ≡ true
      → own setting node (Heard link node destination ∷ earlier)
      ≡ of_node node (if is_at link (station_of node (stations setting earlier)) then map (refreshed link node) (stations setting earlier) else placed setting share (heard_at link node) (stations setting earlier))
  heard_after destination earlier share cable counted =
      ap₂ (λ (b : Bool) (k : Link). of_node node (if b then learned setting k link node (stations setting earlier) else stations setting earlier)) counted cable

  pub heard_then : (destination : Node) (earlier : History) (share : ℕ) → link_after setting link earlier ≡ Cable share
      → takes setting (Heard link node destination ∷ earlier) ≡ true
      → (own setting node (Heard link node destination ∷ earlier) ≡ []) ⊎ (own setting node (Heard link node destination ∷ earlier) ≡ heard_at link node ∷ [])
  heard_then destination earlier share cable counted =
      subst (λ (l : List Station). (l ≡ []) ⊎ (l ≡ heard_at link node ∷ [])) (sym (heard_after destination earlier share cable counted))
      (heard_any share (stations setting earlier) (once setting earlier node) (is_at link (station_of node (stations setting earlier))) refl)

  pub heard_in_room : (destination : Node) (earlier : History) (share : ℕ) → link_after setting link earlier ≡ Cable share
      → takes setting (Heard link node destination ∷ earlier) ≡ true → has_room setting share link (without node (stations setting earlier)) ≡ true
      → own setting node (Heard link node destination ∷ earlier) ≡ heard_at link node ∷ []
  heard_in_room destination earlier share cable counted room = grind (arith, heard_after, heard_room, once)

  pub at_heard : (xs : List Station) → xs ≡ heard_at link node ∷ [] → At link station_lasts xs
  at_heard xs is = record { station = heard_at link node; only = is; at = refl; left = omega arith }

  -- ---- what is known

  pub at_known : (least : ℕ) (history : History) → At link least (own setting node history) → is_known setting node link history ≡ true
  at_known least history a = ap (is_at link) (one_known node (stations setting history) a.station a.only) ∙ eq-eqb a.station.link link a.at

  pub known_some : (history : History) → is_known setting node link history ≡ true → own setting node history ≢ []
  known_some history known none = false≢true (sym (ap (is_at link) (none_known node (stations setting history) none)) ∙ known)

  pub known_nowhere : (other : ℕ) (history : History) → (link == other) ≡ false
      → (own setting node history ≡ []) ⊎ (own setting node history ≡ heard_at link node ∷ [])
      → is_known setting node other history ≡ false
  known_nowhere other history apart before = grind (arith, none_known, one_known)

  -- ---- fading

  -- nowhere, or at most so long after it was heard
  pub record Fading (passed : ℕ) (xs : List Station) : Type 0 where
    pub station : Station
    pub only : xs ≡ station ∷ []
    pub at : station.link ≡ link
    pub unsure : station.is_sure ≡ false
    pub some : 0 < station.seconds_left
    pub most : station.seconds_left + passed ≤ station_lasts

  fade_step : (passed : ℕ) (event : Event) (earlier : History) → event ≢ Second → concerns node link event ≡ false
      → (own setting node earlier ≡ []) ⊎ Fading passed (own setting node earlier)
      → (own setting node (event ∷ earlier) ≡ []) ⊎ Fading passed (own setting node (event ∷ earlier))
  fade_step passed event earlier still other before = grind (arith, none_step, same_step)

  fade_second : (passed : ℕ) (earlier : History) → (own setting node earlier ≡ []) ⊎ Fading passed (own setting node earlier)
      → (own setting node (Second ∷ earlier) ≡ []) ⊎ Fading (passed + 1) (own setting node (Second ∷ earlier))
  fade_second passed earlier before = elim before [
    | inl none ↦ inl (none_step Second earlier refl none)
    | inr f ↦
        let s = f.station in
        let step = own_second setting node earlier ∙ ap (λ (l : List Station). filter stays (map later l)) f.only in
        elim (cases_Bool (nat_lt 1 s.seconds_left)) [
          | inl more ↦ inr (record {
            station = record s { seconds_left = s.seconds_left - 1 };
            only = step ∙ other_later s f.unsure (ltb-true 1 s.seconds_left more);
            at = f.at;
            unsure = f.unsure;
            some = omega (arith, ltb-true 1 s.seconds_left more);
            most = omega (arith, f.most, f.some);
          })
          | inr last ↦ inl (step ∙ gone_later s f.unsure (ltb-false 1 s.seconds_left last))
        ]
  ]

  pub fades_through : (later base : History) → AllByRecursion (λ e. concerns node link e ≡ false) later
      → (own setting node base ≡ []) ⊎ Fading 0 (own setting node base)
      → (own setting node (later ++ base) ≡ []) ⊎ Fading (seconds later) (own setting node (later ++ base))
  fades_through [] base others before = before
  fades_through (Changes changed to ∷ later) base others before =
      fade_step _ (Changes changed to) (later ++ base) (λ e. cc) others.0 (fades_through later base others.1 before)
  fades_through (Heard place source destination ∷ later) base others before =
      fade_step _ (Heard place source destination) (later ++ base) (λ e. cc) others.0 (fades_through later base others.1 before)
  fades_through (Comes place comer ∷ later) base others before =
      fade_step _ (Comes place comer) (later ++ base) (λ e. cc) others.0 (fades_through later base others.1 before)
  fades_through (Leaves place leaver ∷ later) base others before =
      fade_step _ (Leaves place leaver) (later ++ base) (λ e. cc) others.0 (fades_through later base others.1 before)
  fades_through (Second ∷ later) base others before = fade_second (seconds later) (later ++ base) (fades_through later base others.1 before)
  fades_through (Sends destination ∷ later) base others before =
      fade_step _ (Sends destination) (later ++ base) (λ e. cc) others.0 (fades_through later base others.1 before)
