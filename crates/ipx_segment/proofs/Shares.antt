-- Where the shares of all links fit into the capacity, each link has its own.
use Rattle.std.proofs.Common.{◌≡◌, ◌≢◌, refl, ap₂, subst, arith, ℕ, zero, suc, ◌+◌, ◌<◌, ◌≤◌, true, inl, inr, List, [], ◌∷◌, length}
use Rattle.std.specs.List.{AllByRecursion}
use Rattle.std.proofs.lemmas.Bool.{cases_eq, eq-eqb, ne_eqb, ltb-true, ltb-false, lt-ltb}
use Rattle.std.proofs.lemmas.List.{get_or_past}
use Rattle.ipx_wire.specs.declared.node.Node.{Node}
use Rattle.ipx_segment.specs.declared.link.Link.{Link}
use Rattle.ipx_segment.specs.declared.setting.Setting.{Setting}
use Rattle.ipx_segment.specs.declared.station.Station.{Station}
use Rattle.ipx_segment.specs.Events.{History}
use Rattle.ipx_segment.specs.Links.{link_at, links}
use Rattle.ipx_segment.specs.Stations.{at_link, has_room, without, stations}
use Rattle.ipx_segment.specs.Laws.{sum_below, share_of, link_after, shares}
use Rattle.ipx_segment.proofs.Filling.{share, fewer_kept}
use Rattle.ipx_segment.proofs.Lists.{filter_few}
use Rattle.ipx_segment.proofs.Standing.{links_long}

-- ---- sums

sum_least : (f g : ℕ → ℕ) (n : ℕ) → ((l : ℕ) → f l ≤ g l) → sum_below f n ≤ sum_below g n
sum_least f g zero each = omega arith
sum_least f g (suc n) each = omega (arith, sum_least f g n each, each n)

sum_less : (f g : ℕ → ℕ) (k n : ℕ) → k < n → ((l : ℕ) → f l ≤ g l) → f k < g k → sum_below f n < sum_below g n
sum_less f g k zero within each less = absurd (omega (arith, within))
sum_less f g k (suc n) within each less = elim (cases_eq k n) [
  | inl last ↦
      let less_last : f n < g n = subst (λ (m : ℕ). f m < g m) last less in
      omega (arith, sum_least f g n each, less_last)
  | inr before ↦ omega (arith, sum_less f g k n (omega (arith, within, before)) each less, each n)
]

-- ---- stations, link by link

at_one : (l : ℕ) (x : Station) (xs : List Station) → x.link ≡ l → length (at_link l (x ∷ xs)) ≡ length (at_link l xs) + 1
at_one l x xs same = let is = eq-eqb x.link l same in rw is (omega arith)

at_other : (l : ℕ) (x : Station) (xs : List Station) → x.link ≢ l → length (at_link l (x ∷ xs)) ≡ length (at_link l xs)
at_other l x xs other = let is = ne_eqb x.link l other in rw is refl

sum_other : (x : Station) (xs : List Station) (n : ℕ) → n ≤ x.link
    → sum_below (λ l. length (at_link l (x ∷ xs))) n ≡ sum_below (λ l. length (at_link l xs)) n
sum_other x xs zero past = refl
sum_other x xs (suc n) past =
    ap₂ (λ (a b : ℕ). a + b) (sum_other x xs n (omega (arith, past))) (at_other n x xs (λ e. absurd (omega (arith, e, past))))

sum_one : (x : Station) (xs : List Station) (n : ℕ) → x.link < n
    → sum_below (λ l. length (at_link l (x ∷ xs))) n ≡ sum_below (λ l. length (at_link l xs)) n + 1
sum_one x xs zero within = absurd (omega (arith, within))
sum_one x xs (suc n) within = elim (cases_eq x.link n) [
  | inl last ↦ omega (arith, sum_other x xs n (omega (arith, last)), at_one n x xs last)
  | inr before ↦ omega (arith, sum_one x xs n (omega (arith, within, before)), at_other n x xs before)
]

all_counted : (xs : List Station) (n : ℕ) → AllByRecursion (λ s. s.link < n) xs → length xs ≤ sum_below (λ l. length (at_link l xs)) n
all_counted [] n all = omega arith
all_counted (x ∷ xs) n all = omega (arith, all_counted xs n all.1, sum_one x xs n all.0)

-- ---- links that have a share

shared_within : (ls : List Link) (l : ℕ) → 0 < share_of (link_at l ls) → l < length ls
shared_within ls l some = grind (arith, ltb-true, get_or_past, ltb-false)

at_fewer : (l : ℕ) (x : Station) (xs : List Station) → length (at_link l xs) ≤ length (at_link l (x ∷ xs))
at_fewer l x xs = elim (cases_eq x.link l) [ inl same ↦ omega (arith, at_one l x xs same) | inr other ↦ omega (arith, at_other l x xs other) ]

each_within : (ls : List Link) (xs : List Station) → ((l : ℕ) → length (at_link l xs) ≤ share_of (link_at l ls)) → AllByRecursion (λ s. s.link < length ls) xs
each_within ls [] few = tt
each_within ls (x ∷ xs) few = (
  shared_within ls x.link (omega (arith, few x.link, at_one x.link x xs refl)),
  each_within ls xs (λ l. omega (arith, few l, at_fewer l x xs)),
)

module _ (setting : Setting) (history : History) where
  less_than_all : (link : ℕ) → shares setting history ≤ setting.capacity
      → length (at_link link (stations setting history)) < share_of (link_after setting link history) → length (stations setting history) < setting.capacity
  less_than_all link fit less =
      let xs = stations setting history in
      let ls = links setting history in
      let long = links_long setting history in
      let within : link < setting.links = omega (arith, shared_within ls link (omega (arith, less)), long) in
      let all : AllByRecursion (λ (s : Station). s.link < setting.links) xs =
      subst (λ (n : ℕ). AllByRecursion (λ (s : Station). s.link < n) xs) long (each_within ls xs (λ l. share setting l history)) in
      omega (
        arith,
        fit,
        all_counted xs setting.links all,
        sum_less (λ l. length (at_link l xs)) (λ l. share_of (link_after setting l history)) link setting.links within (λ l. share setting l history) less,
      )

  pub own_share : (node : Node) (link : ℕ) → shares setting history ≤ setting.capacity
      → length (at_link link (stations setting history)) < share_of (link_after setting link history)
      → has_room setting (share_of (link_after setting link history)) link (without node (stations setting history)) ≡ true
  own_share node link fit less = grind (arith, lt-ltb, filter_few, less_than_all, fewer_kept)
