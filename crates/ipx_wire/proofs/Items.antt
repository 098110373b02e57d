-- Lists of items of one size, of whatever kind.
use Rattle.std.proofs.Common.{◌≡◌, ℕ, zero, suc, ◌+◌, ◌-◌, ◌*◌, ◌≤◌, ◌<◌, List, [], ◌∷◌, ◌++◌, length, take, drop, map, slice_get, Some, refl, sym, ap, ◌∙◌, arith, append_assoc, length-append, length-drop, take-add}
use Rattle.std.proofs.lemmas.List.{drop_at, drop-drop, get_or-drop}
use Rattle.std.proofs.Math.Nat.{mul-suc}
use Rattle.std.specs.List.{flat_map, AllByRecursion}
use Rattle.ipx_wire.specs.Piece.{IsBytes}
use Rattle.ipx_wire.specs.Items.{items}

-- the bytes behind are bytes
pub bytes_behind : (bytes : List ℕ) (n : ℕ) → IsBytes bytes → IsBytes (drop n bytes)
bytes_behind bytes n are = λ i. rw (get_or-drop n bytes i 0) (are (n + i))

pub length-items : {E : Type 0} (read : List ℕ → E) (size n : ℕ) (bytes : List ℕ) → length (items read size n bytes) ≡ n
unfolding items
length-items read size zero bytes = refl
length-items read size (suc n) bytes = ap suc (length-items read size n (drop size bytes))

-- the room of all items is that of the first and of those behind it
room_of_first : (size n : ℕ) (bytes : List ℕ) → size * suc n ≤ length bytes → size ≤ length bytes
room_of_first size n bytes room = omega (arith, room, mul-suc size n)

room_of_rest : (size n : ℕ) (bytes : List ℕ) → size * suc n ≤ length bytes → size * n ≤ length (drop size bytes)
room_of_rest size n bytes room = omega (arith, room, mul-suc size n, length-drop size bytes)

-- where an item has the bytes that it was read from, so have all of them
pub items_back : {E : Type 0} (read : List ℕ → E) (write : E → List ℕ) (size : ℕ)
    → ((bytes : List ℕ) → IsBytes bytes → size ≤ length bytes → write (read bytes) ≡ take size bytes)
    → (n : ℕ) (bytes : List ℕ) → IsBytes bytes → size * n ≤ length bytes → flat_map write (items read size n bytes) ≡ take (size * n) bytes
unfolding items
items_back read write size back zero bytes are room =
    ap (λ (k : ℕ). take k bytes) (let none : 0 ≡ size * 0 = omega arith in none)
items_back read write size back (suc n) bytes are room =
    let whole : size * suc n ≡ size + size * n = omega (arith, mul-suc size n) in
    ap (λ (x : List ℕ). x ++ flat_map write (items read size n (drop size bytes))) (back bytes are (room_of_first size n bytes room))
    ∙ ap (λ (x : List ℕ). take size bytes ++ x) (items_back read write size back n (drop size bytes) (bytes_behind bytes size are) (room_of_rest size n bytes room))
    ∙ sym (take-add size (size * n) bytes)
    ∙ ap (λ (k : ℕ). take k bytes) (sym whole)

-- what holds of an item that was read holds of all of them
pub items_each : {E : Type 0} (read : List ℕ → E) (is : E → Type 0) (size : ℕ)
    → ((bytes : List ℕ) → IsBytes bytes → size ≤ length bytes → is (read bytes))
    → (n : ℕ) (bytes : List ℕ) → IsBytes bytes → size * n ≤ length bytes → AllByRecursion is (items read size n bytes)
unfolding items
items_each read is size holds zero bytes are room = tt
items_each read is size holds (suc n) bytes are room = grind (arith, items_each read is size holds n (drop size bytes) (bytes_behind bytes size are) (room_of_rest size n bytes room))

-- where an item is read again from its bytes, whatever follows, so are all of them
pub items_again : {E : Type 0} (read : List ℕ → E) (write : E → List ℕ) (is : E → Type 0) (size : ℕ)
    → ((e : E) → is e → length (write e) ≡ size)
    → ((e : E) (further : List ℕ) → is e → read (write e ++ further) ≡ e)
    → (es : List E) (further : List ℕ) → AllByRecursion is es → items read size (length es) (flat_map write es ++ further) ≡ es
unfolding items
items_again read write is size long again [] further are = refl
items_again {E} read write is size long again (e ∷ es) further are =
    let regrouped = append_assoc (write e) (flat_map write es) further in
    ap (λ (x : List ℕ). read x ∷ items read size (length es) (drop size x)) regrouped
    ∙ ap (λ (x : E). x ∷ items read size (length es) (drop size (write e ++ (flat_map write es ++ further)))) (again e (flat_map write es ++ further) are.0)
    ∙ ap (λ (x : List ℕ). e ∷ items read size (length es) x) (drop_at (write e) (flat_map write es ++ further) size (long e are.0))
    ∙ ap (λ (x : List E). e ∷ x) (items_again read write is size long again es further are.1)

-- how many bytes items have
pub length-written : {E : Type 0} (write : E → List ℕ) (is : E → Type 0) (size : ℕ)
    → ((e : E) → is e → length (write e) ≡ size)
    → (es : List E) → AllByRecursion is es → length (flat_map write es) ≡ size * length es
length-written write is size long [] are = (let none : 0 ≡ size * 0 = omega arith in none)
length-written write is size long (e ∷ es) are = grind (arith, length-written write is size long es are.1, length-append, mul-suc)

-- the item with k others before it
pub slice_get-items : {E : Type 0} (read : List ℕ → E) (size n k : ℕ) (bytes : List ℕ) → k < n
    → slice_get (items read size n bytes) k ≡ Some (read (drop (size * k) bytes))
unfolding items
slice_get-items read size zero k bytes below = absurd (omega (arith, below))
slice_get-items read size (suc n) zero bytes below = grind arith
slice_get-items read size (suc n) (suc k) bytes below =
    let next : size * k + size ≡ size * suc k = omega (arith, mul-suc size k) in
    let order : size + size * k ≡ size * suc k = omega (arith, mul-suc size k) in
    slice_get-items read size n k (drop size bytes) (omega (arith, below))
    ∙ ap (λ (b : List ℕ). Some (read b)) (drop-drop (size * k) size bytes ∙ ap (λ (m : ℕ). drop m bytes) order)

-- what is made of each item is read as such
pub map-items : {D E : Type 0} (read : List ℕ → D) (f : D → E) (size n : ℕ) (bytes : List ℕ)
    → map f (items read size n bytes) ≡ items (λ b. f (read b)) size n bytes
unfolding items
map-items read f size zero bytes = refl
map-items {D} {E} read f size (suc n) bytes = ap (λ (x : List E). f (read bytes) ∷ x) (map-items read f size n (drop size bytes))

-- no item of none
pub items-none : {E : Type 0} (read : List ℕ → E) (size n : ℕ) (bytes : List ℕ) → n ≡ 0 → items read size n bytes ≡ []
unfolding items
items-none read size n bytes e = rw e refl

-- the first item and those behind it
pub items-first : {E : Type 0} (read : List ℕ → E) (size n : ℕ) (bytes : List ℕ) → 0 < n
    → items read size n bytes ≡ read bytes ∷ items read size (n - 1) (drop size bytes)
unfolding items
items-first read size n bytes some = grind arith
