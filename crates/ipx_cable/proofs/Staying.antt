-- Who is known stays known.
use Rattle.std.proofs.Common.{◌≡◌, ◌∙◌, refl, sym, ap, subst, arith, ℕ, ◌+◌, ◌-◌, ◌<◌, ◌≤◌, inl, inr, Bool, true, false, ◌&&◌, not, List, [], ◌∷◌, ◌++◌, filter, map, Option, None, Some}
use Rattle.std.proofs.lemmas.Bool.{cases_Bool, and_parts}
use Rattle.ipx_cable.specs.declared.station.Station.{Station}
use Rattle.ipx_cable.specs.Stations.{is_kind, same_node, station_lasts, is_known, is_of, aged, all_aged, heard, station_of, has_another, place, put, after_word}
use Rattle.ipx_cable.specs.Kinds.{stations_at}
use Rattle.ipx_cable.specs.History.{Word, Second, History, Hashes, known, seconds, station_after, counts_after}
use Rattle.ipx_cable.specs.Laws.{SpokeIn}
use Rattle.ipx_cable.proofs.Filters.{head, first_passes}
use Rattle.ipx_cable.proofs.Nodes.{same_is}
use Rattle.ipx_cable.proofs.Places.{found_first, one_found, none_found, own_word, new_word}
use Rattle.ipx_cable.proofs.Buckets.{whole, at_second, at_unheard, at_word}
use Rattle.ipx_cable.proofs.Alone.{Alone, nobody_there, somebody, alone, others_stay, known_longer, second_filter}

same_some : (s t : Station) → ◌≡◌ {A = Option Station} (Some s) (Some t) → s ≡ t
same_some s t is = cc

-- the one that is known is the only one with that node
pub record Only (node : List ℕ) (station : Station) (history : History) (xs : List Station) : Type 0 where
  pub one : filter (is_of node) xs ≡ station ∷ []
  pub spoke : SpokeIn node station.kind station.left history
  pub is : is_of node station ≡ true

pub only : (hash : Hashes) (history : History) (node : List ℕ) (station : Station) → station_after hash node history ≡ Some station
    → Only node station history (stations_at (hash node) (known hash history))
only hash history node station is = by (alone hash history node)
  where
    by : Alone node history (stations_at (hash node) (known hash history)) → Only node station history (stations_at (hash node) (known hash history))
    by (nobody_there none) =
        let no : ◌≡◌ {A = Option Station} None (Some station) = sym (none_found node (stations_at (hash node) (known hash history)) none) ∙ is in
        absurd cc
    by (somebody s one spoke) =
        let same = same_some s station (sym (one_found node (stations_at (hash node) (known hash history)) s one) ∙ is) in
        record {
          one = subst (λ (t : Station). filter (is_of node) (stations_at (hash node) (known hash history)) ≡ t ∷ []) same one;
          spoke = subst (λ (t : Station). SpokeIn node t.kind t.left history) same spoke;
          is = first_passes (is_of node) (stations_at (hash node) (known hash history)) station
              (sym (found_first node (stations_at (hash node) (known hash history))) ∙ is);
        }

pub valid_kind : (hash : Hashes) (history : History) (node : List ℕ) (station : Station) → station_after hash node history ≡ Some station → is_kind station.kind ≡ true
valid_kind hash history node station is =
    let known_now = (and_parts (is_known station) (same_node station.node node) (only hash history node station is).is).0 in
    (and_parts _ (is_kind station.kind) known_now).1

pub displaced : (hash : Hashes) (history : History) (node other : List ℕ) (kind : ℕ) (is_for_all : Bool) → same_node other node ≡ false
    → station_after hash node (Word other kind is_for_all ∷ history) ≡ station_after hash node history
displaced hash history node other kind is_for_all differ =
    let after = stations_at (hash node) (known hash (Word other kind is_for_all ∷ history)) in
    let before = stations_at (hash node) (known hash history) in
    found_first node after ∙ ap head (others_stay hash history node other kind is_for_all differ) ∙ sym (found_first node before)

-- ---- a word that counts

pub known_now : (hash : Hashes) (history : History) (node : List ℕ) (kind index : ℕ) (is_for_all : Bool)
    → counts_after hash node kind is_for_all history ≡ true
    → has_another node kind (stations_at (hash node) (known hash history)) ≡ false
    → place node (stations_at (hash node) (known hash history)) ≡ Some index
    → station_after hash node (Word node kind is_for_all ∷ history) ≡ Some (heard node kind)
known_now hash history node kind index is_for_all counts no_other there =
    let before = known hash history in
    let xs = stations_at (hash node) before in
    let valid = (and_parts (is_kind kind) (not (is_for_all && has_another node kind xs)) counts).0 in
    let new : stations_at (hash node) (known hash (Word node kind is_for_all ∷ history)) ≡ put (Some index) (heard node kind) xs =
    at_word (hash node) node kind is_for_all before (whole hash history) counts ∙ rw no_other (ap (λ o. put o (heard node kind) xs) there) in
    ap (station_of node) new ∙ one_found node (put (Some index) (heard node kind) xs) (heard node kind) (by (alone hash history node) valid)
  where
    by : Alone node history (stations_at (hash node) (known hash history)) → is_kind kind ≡ true
        → filter (is_of node) (put (Some index) (heard node kind) (stations_at (hash node) (known hash history))) ≡ heard node kind ∷ []
    by (nobody_there none) valid = new_word node kind (stations_at (hash node) (known hash history)) valid none index there
    by (somebody s one spoke) valid = own_word node kind (stations_at (hash node) (known hash history)) s valid one (Some index) there

-- ---- any events

-- it is known, for no fewer seconds than it was but for those that passed
pub record KnownStill (hash : Hashes) (node : List ℕ) (history : History) (most : ℕ) : Type 0 where
  pub station : Station
  pub is : station_after hash node history ≡ Some station
  pub longer : most ≤ station.left

after_second : (hash : Hashes) (node : List ℕ) (history : History) (most : ℕ) → 1 < most → KnownStill hash node history most
    → KnownStill hash node (Second ∷ history) (most - 1)
after_second hash node history most more still =
    let station = still.station in
    let it = only hash history node station still.is in
    let xs = stations_at (hash node) (known hash history) in
    let longer = known_longer node station it.is (omega (arith, more, still.longer)) in
    let one : filter (is_of node) (all_aged xs) ≡ aged station ∷ [] =
    second_filter node xs ∙ ap (λ l. filter (is_of node) (map aged l)) it.one ∙ rw longer refl in
    record {
      station = aged station;
      is = ap (station_of node) (at_second (hash node) (known hash history) (whole hash history)) ∙ one_found node (all_aged xs) (aged station) one;
      longer = omega (arith, still.longer);
    }

after_counted : (hash : Hashes) (node : List ℕ) (kind : ℕ) (is_for_all : Bool) (history : History) (most : ℕ) → most ≤ station_lasts
    → counts_after hash node kind is_for_all history ≡ true → KnownStill hash node history most
    → KnownStill hash node (Word node kind is_for_all ∷ history) most
after_counted hash node kind is_for_all history most small counts still =
    let before = known hash history in
    let xs = stations_at (hash node) before in
    let it = only hash history node still.station still.is in
    let valid = (and_parts (is_kind kind) (not (is_for_all && has_another node kind xs)) counts).0 in
    let new : stations_at (hash node) (known hash (Word node kind is_for_all ∷ history)) ≡ after_word node kind xs =
    at_word (hash node) node kind is_for_all before (whole hash history) counts in
    elim (cases_Bool (has_another node kind xs)) [
      | inl e ↦
          let same : stations_at (hash node) (known hash (Word node kind is_for_all ∷ history)) ≡ xs = new ∙ rw e refl in
          record { station = still.station; is = ap (station_of node) same ∙ still.is; longer = still.longer }
      | inr e ↦
          let written : stations_at (hash node) (known hash (Word node kind is_for_all ∷ history)) ≡ put (place node xs) (heard node kind) xs = new ∙ rw e refl in
          record {
            station = heard node kind;
            is = ap (station_of node) written
                ∙ one_found node (put (place node xs) (heard node kind) xs) (heard node kind) (own_word node kind xs still.station valid it.one (place node xs) refl);
            longer = small;
          }
    ]

after_word_of : (hash : Hashes) (node from : List ℕ) (kind : ℕ) (is_for_all : Bool) (history : History) (most : ℕ) → most ≤ station_lasts
    → KnownStill hash node history most → KnownStill hash node (Word from kind is_for_all ∷ history) most
after_word_of hash node from kind is_for_all history most small still = elim (cases_Bool (same_node from node)) [
  | inl same ↦
      subst (λ (n : List ℕ). KnownStill hash node (Word n kind is_for_all ∷ history) most) (sym (same_is from node same))
      (elim (cases_Bool (counts_after hash node kind is_for_all history)) [
        | inl counts ↦ after_counted hash node kind is_for_all history most small counts still
        | inr copy ↦ record {
          station = still.station;
          is = ap (station_of node) (at_unheard (hash node) (hash node) node kind is_for_all (known hash history) copy) ∙ still.is;
          longer = still.longer;
        }
      ])
  | inr differ ↦ record {
    station = still.station;
    is = displaced hash history node from kind is_for_all differ ∙ still.is;
    longer = still.longer;
  }
]

known_still : (hash : Hashes) (later earlier : History) (node : List ℕ) (most : ℕ) → most ≤ station_lasts → seconds later < most
    → KnownStill hash node earlier most → KnownStill hash node (later ++ earlier) (most - seconds later)
known_still hash [] earlier node most small few still = subst (λ n. KnownStill hash node earlier n) (omega arith) still
known_still hash (Word from kind is_for_all ∷ later) earlier node most small few still =
    after_word_of hash node from kind is_for_all (later ++ earlier) (most - seconds later) (omega (arith, small)) (known_still hash later earlier node most small few still)
known_still hash (Second ∷ later) earlier node most small few still =
    let before = known_still hash later earlier node most small (omega (arith, few)) still in
    let less : most - seconds later - 1 ≡ most - (seconds later + 1) = omega arith in
    subst (λ n. KnownStill hash node (Second ∷ (later ++ earlier)) n) less (after_second hash node (later ++ earlier) (most - seconds later) (omega (arith, few)) before)

pub stays_known : (hash : Hashes) (later earlier : History) (node : List ℕ) (before : Station) → station_after hash node earlier ≡ Some before
    → seconds later < before.left → (station : Station) × (station_after hash node (later ++ earlier) ≡ Some station)
stays_known hash later earlier node before is few =
    let it = only hash earlier node before is in
    let start : KnownStill hash node earlier before.left = record { station = before; is = is; longer = omega arith } in
    let still = known_still hash later earlier node before.left (omega (arith, it.spoke.lately)) few start in
    (still.station, still.is)
