-- Which links a packet goes to.
use Rattle.std.proofs.Common.{◌≡◌, ◌≢◌, ◌∙◌, refl, sym, ap, ap₂, arith, ℕ, zero, suc, ◌+◌, ◌<◌, ◌≤◌, ◌==◌, Bool, true, false, ◌&&◌, not, if◌then◌else◌, inl, inr, List, [], ◌∷◌, ◌++◌, length, filter, length-append, Option, Some}
use Rattle.std.proofs.lemmas.Bool.{cases_Bool, cases_eq, eq-eqb, ne_eqb}
use Rattle.std.proofs.lemmas.List.{get_or_past, append-nil}
use Rattle.std.proofs.lemmas.List.Elements.{filter-append}
use Rattle.ipx_wire.specs.declared.node.Node.{Node}
use Rattle.ipx_segment.specs.declared.link.Link.{Link}
use Rattle.ipx_segment.specs.declared.setting.Setting.{Setting}
use Rattle.ipx_segment.specs.declared.station.Station.{Station}
use Rattle.ipx_segment.specs.Nodes.{same_node, is_ordinary}
use Rattle.ipx_segment.specs.Links.{is_up, link_at}
use Rattle.ipx_segment.specs.Stations.{station_of}
use Rattle.ipx_segment.specs.Receivers.{numbers, sought, is_towards, is_back, gets, is_meant, links_for}
use Rattle.ipx_segment.specs.Laws.{copies}
use Rattle.ipx_segment.proofs.Lists.{filter_few, filter_none}

-- ---- numbers that pass a test

pub length_numbers : (n : ℕ) → length (numbers n) ≡ n
length_numbers zero = refl
length_numbers (suc n) = omega (arith, length-append (numbers n) (n ∷ []), length_numbers n)

copies-append : (k : ℕ) (xs ys : List ℕ) → copies k (xs ++ ys) ≡ copies k xs + copies k ys
copies-append k xs ys = grind (arith, filter-append, length-append)

filter_more : (f : ℕ → Bool) (n : ℕ) → filter f (numbers (suc n)) ≡ filter f (numbers n) ++ filter f (n ∷ [])
filter_more f n = filter-append f (numbers n) (n ∷ [])

-- what fails the test isn't there
pub copies_none : (f : ℕ → Bool) (k : ℕ) (xs : List ℕ) → f k ≡ false → copies k (filter f xs) ≡ 0
copies_none f k [] fails = refl
copies_none f k (x ∷ xs) fails =
    let rest = copies_none f k xs fails in
    elim (cases_eq x k) [
      | inl same ↦
          let none : f x ≡ false = ap f same ∙ fails in
          rw none rest
      | inr other ↦ elim (cases_Bool (f x)) [
        | inl fx ↦
            let apart : (x == k) ≡ false = ne_eqb x k other in
            rw (fx, apart) rest
        | inr fx ↦ rw fx rest
      ]
    ]

copies_past : (f : ℕ → Bool) (k n : ℕ) → n ≤ k → copies k (filter f (numbers n)) ≡ 0
copies_past f k zero past = refl
copies_past f k (suc n) past =
    let apart : (n == k) ≡ false = ne_eqb n k (λ e. absurd (omega (arith, e, past))) in
    let last : copies k (filter f (n ∷ [])) ≡ 0 = elim (cases_Bool (f n)) [ inl e ↦ rw (e, apart) refl | inr e ↦ rw e refl ] in
    ap (copies k) (filter_more f n) ∙ copies-append k (filter f (numbers n)) (filter f (n ∷ []))
    ∙ ap₂ (λ (a b : ℕ). a + b) (copies_past f k n (omega (arith, past))) last

-- what passes it is there once
pub copies_one : (f : ℕ → Bool) (k n : ℕ) → k < n → f k ≡ true → copies k (filter f (numbers n)) ≡ 1
copies_one f k zero within passes = absurd (omega (arith, within))
copies_one f k (suc n) within passes =
    let split = ap (copies k) (filter_more f n) ∙ copies-append k (filter f (numbers n)) (filter f (n ∷ [])) in
    elim (cases_eq n k) [
      | inl same ↦
          let also : f n ≡ true = ap f same ∙ passes in
          let itself : (n == k) ≡ true = eq-eqb n k same in
          let last : copies k (filter f (n ∷ [])) ≡ 1 = rw (also, itself) refl in
          split ∙ ap₂ (λ (a b : ℕ). a + b) (copies_past f k n (omega (arith, same))) last
      | inr other ↦
          let apart : (n == k) ≡ false = ne_eqb n k other in
          let last : copies k (filter f (n ∷ [])) ≡ 0 = elim (cases_Bool (f n)) [ inl e ↦ rw (e, apart) refl | inr e ↦ rw e refl ] in
          split ∙ ap₂ (λ (a b : ℕ). a + b) (copies_one f k n (omega (arith, other, within)) passes) last
    ]

nothing_passes : (f : ℕ → Bool) (n : ℕ) → ((l : ℕ) → l < n → f l ≡ false) → filter f (numbers n) ≡ []
nothing_passes f zero none = refl
nothing_passes f (suc n) none =
    filter_more f n ∙ ap₂ (λ (a b : List ℕ). a ++ b) (nothing_passes f n (λ l within. none l (omega (arith, within)))) (filter_none f n (none n (omega arith)))

-- where all others fail it, it is there alone
pub only_one : (f : ℕ → Bool) (k n : ℕ) → k < n → ((l : ℕ) → l ≢ k → f l ≡ false) → filter f (numbers n) ≡ (if f k then k ∷ [] else [])
only_one f k zero within others = absurd (omega (arith, within))
only_one f k (suc n) within others =
    elim (cases_eq n k) [
      | inl same ↦
          let before : filter f (numbers n) ≡ [] = nothing_passes f n (λ l less. others l (λ e. absurd (omega (arith, e, same, less)))) in
          let last : filter f (n ∷ []) ≡ (if f k then k ∷ [] else []) =
          ap (λ (m : ℕ). filter f (m ∷ [])) same in
          filter_more f n ∙ ap₂ (λ (a b : List ℕ). a ++ b) before last
      | inr other ↦
          filter_more f n
          ∙ ap₂ (λ (a b : List ℕ). a ++ b) (only_one f k n (omega (arith, other, within)) others) (filter_none f n (others n other))
          ∙ append-nil (if f k then k ∷ [] else [])
    ]

-- ---- links

up_or_not : (link n : ℕ) (ls : List Link) → length ls ≡ n → (n ≤ link → is_up (link_at link ls) ≡ false) → is_up (link_at link ls) ≡ true → link < n
up_or_not link n ls long down up = grind arith

-- a link that is up is one of the segment's
pub up_within : (link : ℕ) (ls : List Link) (n : ℕ) → length ls ≡ n → is_up (link_at link ls) ≡ true → link < n
up_within link ls n long up = grind (arith, up_or_not, get_or_past)

up_of : (own up back towards : Bool) → (not own && (up && not back && towards)) ≡ true → up ≡ true
up_of own up back towards is = grind arith

pub none_of : (a b : Bool) → (a && b && false) ≡ false
none_of a b = grind arith

all_three : (up back there : Bool) → up ≡ true → back ≡ false → there ≡ true → (up && not back && there) ≡ true
all_three up back there given forth is = grind arith

few_by : (n : ℕ) (is_own : Bool) (f : ℕ → Bool) → length (if is_own then [] else filter f (numbers n)) ≤ n
few_by n is_own f = grind (arith, filter_few, length_numbers)

-- ---- a packet

module _ (setting : Setting) (ls : List Link) (xs : List Station) (came : Option ℕ) (long : length ls ≡ setting.links) where
  in_parts : (is_own : Bool) (f : ℕ → Bool) → (if is_own then [] else filter f (numbers setting.links)) ≡ filter (λ l. not is_own && f l) (numbers setting.links)
  in_parts is_own f = grind (arith, nothing_passes)

  pub meant : (destination : Node) (link : ℕ)
      → copies link (links_for setting ls xs came destination) ≡ (if is_meant setting ls xs came destination link then 1 else 0)
  meant destination link =
      let f = is_meant setting ls xs came destination in
      ap (copies link) (in_parts (same_node destination setting.node) (gets ls (sought destination xs) came))
      ∙ elim (cases_Bool (f link)) [
        | inl meets ↦ copies_one f link setting.links (up_within link ls setting.links long (up_of (same_node destination setting.node) (is_up (link_at link ls)) (is_back came link) (is_towards (sought destination xs) link) meets)) meets ∙ sym (ap (λ (b : Bool). if b then 1 else 0) meets)
        | inr fails ↦ copies_none f link (numbers setting.links) fails ∙ sym (ap (λ (b : Bool). if b then 1 else 0) fails)
      ]

  pub few : (destination : Node) → length (links_for setting ls xs came destination) ≤ setting.links
  few destination = few_by setting.links (same_node destination setting.node) (gets ls (sought destination xs) came)

  pub towards : (node : Node) → is_ordinary setting node ≡ true
      → links_for setting ls xs came node ≡ filter (gets ls (station_of node xs) came) (numbers setting.links)
  towards node ordinary = grind arith

  -- ---- the link of the destination

  back_or_there : (up back there : Bool) (link : ℕ) → up ≡ true → there ≡ true → (if up && not back && there then link ∷ [] else []) ≡ (if back then [] else link ∷ [])
  back_or_there up back there link is given = grind arith

  -- where it is known, a packet goes there alone
  pub alone : (s : Station) (link : ℕ) → s.link ≡ link → is_up (link_at link ls) ≡ true
      → filter (gets ls (Some s) came) (numbers setting.links) ≡ (if is_back came link then [] else link ∷ [])
  alone s link at up =
      let others : (l : ℕ) → l ≢ link → gets ls (Some s) came l ≡ false =
      λ l other. ap (λ (b : Bool). is_up (link_at l ls) && not (is_back came l) && b) (ne_eqb s.link l (λ e. absurd (other (sym e ∙ at))))
      ∙ none_of (is_up (link_at l ls)) (not (is_back came l)) in
      only_one (gets ls (Some s) came) link setting.links (up_within link ls setting.links long up) others
      ∙ back_or_there (is_up (link_at link ls)) (is_back came link) (s.link == link) link up (eq-eqb s.link link at)

  -- where it is known or not, it goes there once
  pub comes_there : (known : Option Station) (link : ℕ) → is_towards known link ≡ true → is_up (link_at link ls) ≡ true → is_back came link ≡ false
      → copies link (filter (gets ls known came) (numbers setting.links)) ≡ 1
  comes_there known link there up forth = grind (arith, copies_one, up_within, all_three)
