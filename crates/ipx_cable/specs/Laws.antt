-- The words of the laws.
use Rattle.std.specs.Prelude.{◌≡◌, ◌≢◌, ℕ, ◌+◌, ◌<◌, Bool, true, List, [], ◌∷◌, ◌++◌}
use Rattle.ipx_cable.specs.Stations.{is_kind, same_node, station_lasts, stays}
use Rattle.ipx_cable.specs.Kinds.{kind_lasts}
use Rattle.ipx_cable.specs.History.{Word, Second, History, Hashes, seconds, counts_after}

-- each word of a node was in another kind, and came less than five seconds after its last one in this kind
abbrev pub OnlyOthers : List ℕ → ℕ → History → Type 0
OnlyOthers node kind [] = Unit {0}
OnlyOthers node kind (Second ∷ earlier) = OnlyOthers node kind earlier
OnlyOthers node kind (Word from other is_for_all ∷ earlier) =
    (same_node from node ≡ true → is_kind other ≡ true → (other ≢ kind) × (seconds earlier < stays)) × OnlyOthers node kind earlier

-- a node's word in a kind, less than 300 seconds ago, is its last; or the last but for words in other kinds just after it
pub record SpokeIn (node : List ℕ) (kind left : ℕ) (history : History) : Type 0 where
  pub later : History
  pub is_for_all : Bool
  pub earlier : History
  pub event : history ≡ later ++ Word node kind is_for_all ∷ earlier
  pub lately : left + seconds later ≡ station_lasts
  pub others : OnlyOthers node kind later

-- a word in a kind counted less than an hour ago
pub record WasHeard (hash : Hashes) (kind : ℕ) (history : History) : Type 0 where
  pub later : History
  pub node : List ℕ
  pub is_for_all : Bool
  pub earlier : History
  pub event : history ≡ later ++ Word node kind is_for_all ∷ earlier
  pub counted : counts_after hash node kind is_for_all earlier ≡ true
  pub lately : seconds later < kind_lasts
