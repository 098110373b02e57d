-- The slots of a place's numbers.
use Rattle.std.proofs.Common.{◌≡◌, ◌∙◌, refl, sym, ap, arith, ℕ, ◌<◌, ◌%◌, Bool, cond, ◌||◌, ◌==◌, not, nat_lt, nat_le, max, inl, inr, List, [], ◌∷◌, length, set, get_or, replicate, length-set}
use Rattle.std.specs.List.{list_any}
use Rattle.std.proofs.lemmas.Bool.{cases_Bool, cases_eq, lt-ltb, eq-eqb, ne_eqb}
use Rattle.std.proofs.lemmas.List.{get_or-set_same, get_or-set_other, get_or-replicate, length-replicate}
use Rattle.std.proofs.lemmas.List.FromFn.{get_or-map-range_with_len, length-map-range_with_len}
use Rattle.std.proofs.lemmas.Grind.{same_number_lists}
use Rattle.ipx_peers.specs.Windows.{shuts_out, is_fresh, newest}
use Rattle.ipx_peers.specs.Memory.{highest, slots}

-- ---- whether a number is heard

one_shuts_out : (number heard high : ℕ) (others : Bool) → not others ≡ nat_lt high number → not (nat_le number heard || others) ≡ nat_lt (max heard high) number
one_shuts_out number heard high others before = grind arith

pub fresh_by_slot : (number : ℕ) (numbers : List ℕ) → 0 < number → is_fresh number numbers ≡ nat_lt (highest (number % 256) numbers) number
fresh_by_slot number [] some = sym (lt-ltb 0 number some)
fresh_by_slot number (heard ∷ numbers) some =
    let before = fresh_by_slot number numbers some in
    elim (cases_Bool (heard % 256 == number % 256)) [
      | inl e ↦ rw e (one_shuts_out number heard (highest (number % 256) numbers) (list_any (shuts_out number) numbers) before)
      | inr e ↦ rw e before
    ]

-- ---- slots

pub slot_at : (numbers : List ℕ) (slot : ℕ) → slot < 256 → get_or (slots numbers) slot 0 ≡ highest slot numbers
unfolding slots
slot_at numbers slot within = get_or-map-range_with_len (λ k. highest k numbers) 0 256 slot slot 0 within (omega arith)

pub slots_long : (numbers : List ℕ) → length (slots numbers) ≡ 256
unfolding slots
slots_long numbers = length-map-range_with_len (λ k. highest k numbers) 0 256

few : (number : ℕ) → number % 256 < 256
few number = grind arith

higher_is_max : (a b : ℕ) → b < a → max a b ≡ a
higher_is_max a b higher = grind arith

slot_more : (number : ℕ) (numbers : List ℕ) (k : ℕ) → k < 256 → highest (number % 256) numbers < number
    → get_or (set (slots numbers) (number % 256) number) k 0 ≡ highest k (number ∷ numbers)
slot_more number numbers k within higher = elim (cases_eq (number % 256) k) [
  | inl same ↦
      let here : get_or (set (slots numbers) (number % 256) number) k 0 ≡ number =
      ap (λ j. get_or (set (slots numbers) (number % 256) number) j 0) (sym same)
      ∙ get_or-set_same (slots numbers) (number % 256) number 0 (omega (arith, few number, slots_long numbers)) in
      let high : highest k numbers < number = omega (arith, higher, ap (λ j. highest j numbers) same) in
      let there : highest k (number ∷ numbers) ≡ max number (highest k numbers) = rw (eq-eqb (number % 256) k same) refl in
      here ∙ sym (there ∙ higher_is_max number (highest k numbers) high)
  | inr differ ↦
      let there : highest k (number ∷ numbers) ≡ highest k numbers = rw (ne_eqb (number % 256) k differ) refl in
      get_or-set_other (slots numbers) (number % 256) k number 0 (λ same. differ (sym same)) ∙ slot_at numbers k within ∙ sym there
]

pub slots_more : (number : ℕ) (numbers : List ℕ) → highest (number % 256) numbers < number → set (slots numbers) (number % 256) number ≡ slots (number ∷ numbers)
slots_more number numbers higher =
    let long : length (set (slots numbers) (number % 256) number) ≡ 256 = length-set (slots numbers) (number % 256) number ∙ slots_long numbers in
    same_number_lists (set (slots numbers) (number % 256) number) (slots (number ∷ numbers)) (long ∙ sym (slots_long (number ∷ numbers)))
    (λ k within. slot_more number numbers k (omega (arith, within, long)) higher ∙ sym (slot_at (number ∷ numbers) k (omega (arith, within, long))))

pub slots_none : slots [] ≡ replicate 256 0
slots_none =
    let zero : ℕ = 0 in
    same_number_lists (slots []) (replicate 256 zero) (slots_long [] ∙ sym (length-replicate 256 zero))
    (λ k within. let small : k < 256 = omega (arith, within, slots_long []) in slot_at [] k small ∙ sym (get_or-replicate 256 k zero zero small))

-- ---- the highest number

pub newest_is : (number : ℕ) (numbers : List ℕ) → cond (nat_lt (newest numbers) number) number (newest numbers) ≡ newest (number ∷ numbers)
newest_is number numbers = by number (newest numbers)
  where
    by : (a b : ℕ) → cond (nat_lt b a) a b ≡ max a b
    by a b = grind arith
