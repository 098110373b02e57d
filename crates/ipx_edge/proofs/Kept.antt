-- Entries that are kept, in lists.
use Rattle.std.proofs.Common.{◌≡◌, ◌∙◌, refl, ap, ap₂, arith, ℕ, zero, suc, ◌*◌, ◌≤◌, Bool, true, false, if◌then◌else◌, List, [], ◌∷◌, length, length-take-le, length-drop, take, drop, map}
use Rattle.std.specs.Int.{from_be_bytes, w16, w32}
use Rattle.std.specs.List.{filter, AllByRecursion}
use Rattle.std.proofs.Math.Nat.{mul-suc}
use Rattle.ipx_wire.specs.Items.{items}
use Rattle.ipx_wire.specs.Piece.{piece}
use Rattle.ipx_wire.specs.Rip.{entry_at, entries_at}
use Rattle.ipx_wire.specs.SapEntries.{sap_entry_at, sap_entries_at}
use Rattle.ipx_wire.specs.declared.rip.RipEntry.{RipEntry}
use Rattle.ipx_wire.proofs.Items.{map-items}
use Rattle.ipx_edge.proofs.Headers.{same_entry}
use Rattle.ipx_edge.proofs.Pieces.{piece_within}

-- ---- filters

module _ {X : Type 0} (p : X → Bool) where
  abbrev one : Bool → X → List X → List X
  one b x xs = if b then x ∷ xs else xs

  few_more : (b : Bool) (x : X) (xs ys : List X) → length xs ≤ length ys → length (one b x xs) ≤ length (x ∷ ys)
  few_more true x xs ys few = omega (arith, few)
  few_more false x xs ys few = omega (arith, few)

  pub filter_few : (xs : List X) → length (filter p xs) ≤ length xs
  filter_few [] = omega arith
  filter_few (x ∷ xs) = few_more (p x) x (filter p xs) xs (filter_few xs)

  all_more : (b : Bool) (x : X) (xs ys : List X) → length xs ≤ length ys → (length xs ≡ length ys → xs ≡ ys) → length (one b x xs) ≡ length (x ∷ ys) → one b x xs ≡ x ∷ ys
  all_more true x xs ys few rest e = ap (λ (l : List X). x ∷ l) (rest (omega (arith, e)))
  all_more false x xs ys few rest e = absurd (omega (arith, few, e))

  pub filter_all : (xs : List X) → length (filter p xs) ≡ length xs → filter p xs ≡ xs
  filter_all [] e = refl
  filter_all (x ∷ xs) e = all_more (p x) x (filter p xs) xs (filter_few xs) (filter_all xs) e

  twice_more : (b : Bool) (x : X) (xs : List X) → p x ≡ b → filter p xs ≡ xs → filter p (one b x xs) ≡ one b x xs
  twice_more true x xs is rest = rw is (ap (λ (l : List X). x ∷ l) rest)
  twice_more false x xs is rest = rest

  pub filter_twice : (xs : List X) → filter p (filter p xs) ≡ filter p xs
  filter_twice [] = refl
  filter_twice (x ∷ xs) = twice_more (p x) x (filter p xs) refl (filter_twice xs)

  each_more : (P : X → Type 0) (b : Bool) (x : X) (xs : List X) → P x → AllByRecursion P xs → AllByRecursion P (one b x xs)
  each_more P true x xs is all = (is, all)
  each_more P false x xs is all = all

  pub filter_each : (P : X → Type 0) (xs : List X) → AllByRecursion P xs → AllByRecursion P (filter p xs)
  filter_each P [] all = tt
  filter_each P (x ∷ xs) all = each_more P (p x) x (filter p xs) all.0 (filter_each P xs all.1)

  pub filter_none : (xs : List X) → AllByRecursion (λ x. p x ≡ true) xs → filter p xs ≡ xs
  filter_none [] all = refl
  filter_none (x ∷ xs) all = rw all.0 (ap (λ (l : List X). x ∷ l) (filter_none xs all.1))

map_more : {X Y : Type 0} (f : X → Y) (b : Bool) (x : X) (xs : List X) → map f (if b then x ∷ xs else xs) ≡ (if b then f x ∷ map f xs else map f xs)
map_more f true x xs = refl
map_more f false x xs = refl

pub map_filter : {X Y : Type 0} (f : X → Y) (t : Y → Bool) (xs : List X) → map f (filter (λ x. t (f x)) xs) ≡ filter t (map f xs)
map_filter f t [] = refl
map_filter {X} {Y} f t (x ∷ xs) =
    map_more f (t (f x)) x (filter (λ y. t (f y)) xs) ∙ ap (λ (l : List Y). if t (f x) then f x ∷ l else l) (map_filter f t xs)

-- ---- pieces

pub each_sized : (size n : ℕ) (bytes : List ℕ) → size * n ≤ length bytes → AllByRecursion (λ e. length e ≡ size) (items (take size) size n bytes)
unfolding items
each_sized size zero bytes room = tt
each_sized size (suc n) bytes room =
    (length-take-le size bytes (omega (arith, room, mul-suc size n)), each_sized size n (drop size bytes) (omega (arith, room, mul-suc size n, length-drop size bytes)))

items_alike : {E : Type 0} (f g : List ℕ → E) (size n : ℕ) (bytes : List ℕ) → ((b : List ℕ) → f b ≡ g b) → items f size n bytes ≡ items g size n bytes
unfolding items
items_alike f g size zero bytes same = refl
items_alike {E} f g size (suc n) bytes same = ap₂ (λ (x : E) (xs : List E). x ∷ xs) (same bytes) (items_alike f g size n (drop size bytes) same)

abbrev route : ℕ → ℕ → ℕ → RipEntry
route network hops ticks = record { network = record { 0 = network }; hops = hops; ticks = ticks }

route_alone : (bytes : List ℕ) → entry_at (take 8 bytes) 0 ≡ entry_at bytes 0
unfolding entry_at
route_alone bytes =
    ap (λ (l : List ℕ). route (from_be_bytes w32 l) (from_be_bytes w16 (piece (take 8 bytes) 4 2)) (from_be_bytes w16 (piece (take 8 bytes) 6 2))) (piece_within bytes 8 0 4 (omega arith))
    ∙ ap (λ (l : List ℕ). route (from_be_bytes w32 (piece bytes 0 4)) (from_be_bytes w16 l) (from_be_bytes w16 (piece (take 8 bytes) 6 2))) (piece_within bytes 8 4 2 (omega arith))
    ∙ ap (λ (l : List ℕ). route (from_be_bytes w32 (piece bytes 0 4)) (from_be_bytes w16 (piece bytes 4 2)) (from_be_bytes w16 l)) (piece_within bytes 8 6 2 (omega arith))

-- entries are read from their pieces
pub routes_of_pieces : (n : ℕ) (bytes : List ℕ) → map (λ e. entry_at e 0) (items (take 8) 8 n bytes) ≡ entries_at n bytes
routes_of_pieces n bytes =
    map-items (take 8) (λ e. entry_at e 0) 8 n bytes ∙ items_alike (λ b. entry_at (take 8 b) 0) (λ b. entry_at b 0) 8 n bytes route_alone

pub services_of_pieces : (n : ℕ) (bytes : List ℕ) → map sap_entry_at (items (take 64) 64 n bytes) ≡ sap_entries_at n bytes
services_of_pieces n bytes =
    map-items (take 64) sap_entry_at 64 n bytes
    ∙ items_alike (λ b. sap_entry_at (take 64 b)) sap_entry_at 64 n bytes (λ b. same_entry (take 64 b) b (λ i m fits. piece_within b 64 i m fits))
