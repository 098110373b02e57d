-- The stations of one hash, when something happens.
use Rattle.std.proofs.Common.{◌≡◌, ◌∙◌, refl, sym, ap, arith, ℕ, ◌<◌, ◌≢◌, Bool, true, false, List, [], ◌∷◌, length, get_or, length-set}
use Rattle.std.proofs.lemmas.List.{get_or-set_same, get_or-set_other, get_or-map, get_or-replicate, length-map}
use Rattle.ipx_cable.specs.declared.bucket.Bucket.{Bucket}
use Rattle.ipx_cable.specs.declared.kinds.Kinds.{Kinds}
use Rattle.ipx_cable.specs.Stations.{after_word, all_aged, aged_bucket}
use Rattle.ipx_cable.specs.Kinds.{nothing, empty, bucket_of, stations_at, is_heard, word, second, later}
use Rattle.ipx_cable.specs.History.{Word, Second, History, Hashes, known}

pub few : (hash : ℕ) → bucket_of hash < 64
few hash = grind arith

-- ---- how many buckets and kinds there are

pub record IsWhole (kinds : Kinds) : Type 0 where
  pub buckets : length kinds.buckets ≡ 64
  pub left : length kinds.left ≡ 4

word_whole : (hash : ℕ) (node : List ℕ) (kind : ℕ) (is_for_all : Bool) (kinds : Kinds) → IsWhole kinds → (b : Bool) → is_heard hash node kind is_for_all kinds ≡ b
    → IsWhole (word hash node kind is_for_all kinds)
word_whole hash node kind is_for_all kinds whole true is =
    rw is (record { buckets = length-set kinds.buckets _ _ ∙ whole.buckets; left = length-set kinds.left _ _ ∙ whole.left })
word_whole hash node kind is_for_all kinds whole false is = rw is whole

pub whole : (hash : Hashes) (history : History) → IsWhole (known hash history)
whole hash [] = record { buckets = refl; left = refl }
whole hash (Word node kind is_for_all ∷ earlier) = word_whole (hash node) node kind is_for_all (known hash earlier) (whole hash earlier) _ refl
whole hash (Second ∷ earlier) =
    let before = whole hash earlier in
    record {
      buckets = length-map (known hash earlier).buckets aged_bucket ∙ before.buckets;
      left = length-map (known hash earlier).left later ∙ before.left;
    }

-- ---- the stations of a hash

pub at_first : (hash : ℕ) → stations_at hash nothing ≡ empty.stations
at_first hash = ap (λ (b : Bucket). b.stations) (get_or-replicate 64 (bucket_of hash) empty empty (few hash))

pub at_second : (hash : ℕ) (kinds : Kinds) → IsWhole kinds → stations_at hash (second kinds) ≡ all_aged (stations_at hash kinds)
at_second hash kinds whole =
    let few : bucket_of hash < length kinds.buckets = omega (arith, few hash, whole.buckets) in
    ap (λ (b : Bucket). b.stations) (get_or-map aged_bucket kinds.buckets (bucket_of hash) empty empty few)

pub at_unheard : (other hash : ℕ) (node : List ℕ) (kind : ℕ) (is_for_all : Bool) (kinds : Kinds) → is_heard hash node kind is_for_all kinds ≡ false
    → stations_at other (word hash node kind is_for_all kinds) ≡ stations_at other kinds
at_unheard other hash node kind is_for_all kinds is = rw is refl

pub at_word : (hash : ℕ) (node : List ℕ) (kind : ℕ) (is_for_all : Bool) (kinds : Kinds) → IsWhole kinds → is_heard hash node kind is_for_all kinds ≡ true
    → stations_at hash (word hash node kind is_for_all kinds) ≡ after_word node kind (stations_at hash kinds)
at_word hash node kind is_for_all kinds whole is =
    let few : bucket_of hash < length kinds.buckets = omega (arith, few hash, whole.buckets) in
    rw is (ap (λ (b : Bucket). b.stations) (get_or-set_same kinds.buckets (bucket_of hash) _ empty few))

same_stations : (other hash : ℕ) (kinds : Kinds) → bucket_of other ≡ bucket_of hash → stations_at other kinds ≡ stations_at hash kinds
same_stations other hash kinds same = ap (λ n. (get_or kinds.buckets n empty).stations) same

pub at_word_there : (other hash : ℕ) (node : List ℕ) (kind : ℕ) (is_for_all : Bool) (kinds : Kinds) → IsWhole kinds → bucket_of other ≡ bucket_of hash
    → is_heard hash node kind is_for_all kinds ≡ true
    → stations_at other (word hash node kind is_for_all kinds) ≡ after_word node kind (stations_at other kinds)
at_word_there other hash node kind is_for_all kinds all same is =
    same_stations other hash (word hash node kind is_for_all kinds) same
    ∙ at_word hash node kind is_for_all kinds all is
    ∙ ap (λ stations. after_word node kind stations) (sym (same_stations other hash kinds same))

pub at_word_elsewhere : (other hash : ℕ) (node : List ℕ) (kind : ℕ) (is_for_all : Bool) (kinds : Kinds) → bucket_of other ≢ bucket_of hash
    → stations_at other (word hash node kind is_for_all kinds) ≡ stations_at other kinds
at_word_elsewhere other hash node kind is_for_all kinds differ = by (is_heard hash node kind is_for_all kinds) refl
  where
    by : (b : Bool) → is_heard hash node kind is_for_all kinds ≡ b → stations_at other (word hash node kind is_for_all kinds) ≡ stations_at other kinds
    by true is = rw is (ap (λ (b : Bucket). b.stations) (get_or-set_other kinds.buckets (bucket_of hash) (bucket_of other) _ empty differ))
    by false is = rw is refl
