-- Counts add up.
use Rattle.std.proofs.Common.{◌≡◌, ◌≢◌, ◌∙◌, refl, sym, ap, subst, arith, inl, inr, ℕ, ◌+◌, ◌/◌, ◌%◌, ◌<◌, ◌≤◌, ◌==◌, Bool, true, false, nat_lt, List, [], ◌∷◌, length, get_or}
use Rattle.std.specs.List.{sum, list_all}
use Rattle.std.proofs.Math.Nat.{min-eq_left}
use Rattle.std.proofs.lemmas.Bool.{cases_Bool, and_parts, ltb-true, eqb-true, eqb-false}
use Rattle.std.proofs.lemmas.List.{length-set, get_or-set_same, get_or-set_other, get_or-replicate}
use Rattle.std.proofs.lemmas.List.Sums.{sum_by-set, get_or-le-sum_by}
use Rattle.ipx_fates.specs.declared.counts.Counts.{Counts}
use Rattle.ipx_fates.specs.declared.fate.Fate.{Fate}
use Rattle.ipx_fates.specs.declared.fate.Fate.TheVariants.{Elsewhere, Heard, Dropped, HandedOn, Answered, Stays, Awaited, Probe, Lost}
use Rattle.ipx_fates.specs.declared.reason.Reason.{Reason}
use Rattle.ipx_fates.specs.declared.reason.Reason.TheVariants.{TooLong, FalseSource, Stranger, NoRoom, NotAllowed, NoClient, NoIpx, OtherKind, SecondKind, ForAnother, OwnFrame, NoMemory, NotExtended, NotSent, NobodyThere, TooManyStrangers, TooMuchForClient, TooMuchForAddress, TooMuchForLine, TooMuchForLink, TooManyPings, TooManyQuestions, TooManyAdvertisements, TooManyAnswers, ForFarRouters, TooMuchForRouter, FromAfar, Denied, NotSealed, Repeated, OtherSession}
use Rattle.ipx_fates.specs.Fates.{reasons_count, reason_number}
use Rattle.ipx_fates.specs.Counting.{largest, more, more_at, has_place, place_of, hundreds_count, rest_count, drops_count, nothing, one_came, one_lost, one_dropped, counted}
use Rattle.ipx_fates.specs.Laws.{counts_of, one, number_of, is_taken, is_here, can_be, is_lost_for}

-- ---- one more

more_is : (count : ℕ) → count < largest → more count ≡ count + 1
more_is count few = min-eq_left (omega (arith, few))

long_still : (list : List ℕ) (index : ℕ) → length (more_at list index) ≡ length list
long_still list index = length-set list index (more (get_or list index 0))

sum_more : (list : List ℕ) (index : ℕ) → index < length list → sum list < largest → sum (more_at list index) ≡ sum list + 1
sum_more list index within few =
    let part : get_or list index 0 ≤ sum list = get_or-le-sum_by (λ x. x) list index 0 within in
    let here : more (get_or list index 0) ≡ get_or list index 0 + 1 = more_is (get_or list index 0) (omega (arith, part, few)) in
    let all : sum (more_at list index) + get_or list index 0 ≡ sum list + more (get_or list index 0) = sum_by-set (λ x. x) list index (more (get_or list index 0)) 0 within in
    omega (arith, all, here)

reason_small : (why : Reason) → reason_number why < reasons_count
reason_small TooLong = omega arith
reason_small FalseSource = omega arith
reason_small Stranger = omega arith
reason_small NoRoom = omega arith
reason_small NotAllowed = omega arith
reason_small NoClient = omega arith
reason_small NoIpx = omega arith
reason_small OtherKind = omega arith
reason_small SecondKind = omega arith
reason_small ForAnother = omega arith
reason_small OwnFrame = omega arith
reason_small NoMemory = omega arith
reason_small NotExtended = omega arith
reason_small NotSent = omega arith
reason_small NobodyThere = omega arith
reason_small TooManyStrangers = omega arith
reason_small TooMuchForClient = omega arith
reason_small TooMuchForAddress = omega arith
reason_small TooMuchForLine = omega arith
reason_small TooMuchForLink = omega arith
reason_small TooManyPings = omega arith
reason_small TooManyQuestions = omega arith
reason_small TooManyAdvertisements = omega arith
reason_small TooManyAnswers = omega arith
reason_small ForFarRouters = omega arith
reason_small TooMuchForRouter = omega arith
reason_small FromAfar = omega arith
reason_small Denied = omega arith
reason_small NotSealed = omega arith
reason_small Repeated = omega arith
reason_small OtherSession = omega arith

place_small : (number : ℕ) → has_place number ≡ true → place_of number < drops_count
place_small number has =
    let (hundreds, rest) = and_parts (nat_lt (number / 100) hundreds_count) (nat_lt (number % 100) rest_count) has in
    let high : number / 100 < hundreds_count = ltb-true (number / 100) hundreds_count hundreds in
    let low : number % 100 < rest_count = ltb-true (number % 100) rest_count rest in
    omega (arith, high, low)

-- ---- what counts are of

record Adds (counts : Counts) (taken here : ℕ) : Type 0 where
  lost_long : length counts.lost ≡ reasons_count
  dropped_long : length counts.dropped ≡ drops_count
  exact : counts.came ≡ taken + sum counts.lost + sum counts.dropped
  all : counts.came ≡ here

none_yet : Adds nothing 0 0
none_yet = record { lost_long = refl; dropped_long = refl; exact = refl; all = refl }

elsewhere : (counts : Counts) (taken here : ℕ) → Adds counts taken here → Adds counts (taken + 0) (here + 0)
elsewhere counts taken here it = record {
  lost_long = it.lost_long;
  dropped_long = it.dropped_long;
  exact = omega (arith, it.exact);
  all = omega (arith, it.all);
}

taken_one : (counts : Counts) (taken here : ℕ) → here < largest → Adds counts taken here → Adds (one_came counts) (taken + 1) (here + 1)
taken_one counts taken here few it =
    let more_came : more counts.came ≡ counts.came + 1 = more_is counts.came (omega (arith, few, it.all)) in
    record {
      lost_long = it.lost_long;
      dropped_long = it.dropped_long;
      exact = omega (arith, more_came, it.exact);
      all = omega (arith, more_came, it.all);
    }

lost_one : (why : Reason) (counts : Counts) (taken here : ℕ) → here < largest → Adds counts taken here → Adds (one_lost why (one_came counts)) (taken + 0) (here + 1)
lost_one why counts taken here few it =
    let more_came : more counts.came ≡ counts.came + 1 = more_is counts.came (omega (arith, few, it.all)) in
    let small = reason_small why in
    let within : reason_number why < length counts.lost = omega (arith, small, it.lost_long) in
    let room : sum counts.lost < largest = omega (arith, few, it.all, it.exact) in
    let sums : sum (more_at counts.lost (reason_number why)) ≡ sum counts.lost + 1 = sum_more counts.lost (reason_number why) within room in
    record {
      lost_long = long_still counts.lost (reason_number why) ∙ it.lost_long;
      dropped_long = it.dropped_long;
      exact = omega (arith, more_came, sums, it.exact);
      all = omega (arith, more_came, it.all);
    }

dropped_at : (index : ℕ) (counts : Counts) (taken here : ℕ) → index < drops_count → here < largest → Adds counts taken here
    → Adds (record {
      came = more counts.came;
      lost = counts.lost;
      dropped = more_at counts.dropped index;
    }) (taken + 0) (here + 1)
dropped_at index counts taken here small few it =
    let more_came : more counts.came ≡ counts.came + 1 = more_is counts.came (omega (arith, few, it.all)) in
    let within : index < length counts.dropped = omega (arith, small, it.dropped_long) in
    let room : sum counts.dropped < largest = omega (arith, few, it.all, it.exact) in
    let sums : sum (more_at counts.dropped index) ≡ sum counts.dropped + 1 = sum_more counts.dropped index within room in
    record {
      lost_long = it.lost_long;
      dropped_long = long_still counts.dropped index ∙ it.dropped_long;
      exact = omega (arith, more_came, sums, it.exact);
      all = omega (arith, more_came, it.all);
    }

dropped_one : (number : ℕ) (counts : Counts) (taken here : ℕ) → has_place number ≡ true → here < largest → Adds counts taken here
    → Adds (one_dropped number (one_came counts)) (taken + 0) (here + 1)
dropped_one number counts taken here has few it = rw has (dropped_at (place_of number) counts taken here (place_small number has) few it)

one_more : (fate : Fate) (counts : Counts) (taken here : ℕ) → can_be fate ≡ true → here < largest → Adds counts taken here
    → Adds (counted fate counts) (taken + one (is_taken fate)) (here + one (is_here fate))
one_more Elsewhere counts taken here can few it = elsewhere counts taken here it
one_more Heard counts taken here can few it = taken_one counts taken here few it
one_more (Dropped number) counts taken here can few it = dropped_one number counts taken here can few it
one_more HandedOn counts taken here can few it = taken_one counts taken here few it
one_more Answered counts taken here can few it = taken_one counts taken here few it
one_more Stays counts taken here can few it = taken_one counts taken here few it
one_more Awaited counts taken here can few it = taken_one counts taken here few it
one_more Probe counts taken here can few it = taken_one counts taken here few it
one_more (Lost why) counts taken here can few it = lost_one why counts taken here few it

one_small : (b : Bool) → one b ≤ 1
one_small true = omega arith
one_small false = omega arith

few_of : (is : Fate → Bool) (fates : List Fate) → number_of is fates ≤ length fates
few_of is [] = omega arith
few_of is (fate ∷ earlier) = let small = one_small (is fate) in let rest = few_of is earlier in omega (arith, small, rest)

adds : (fates : List Fate) → length fates ≤ largest → list_all can_be fates ≡ true → Adds (counts_of fates) (number_of is_taken fates) (number_of is_here fates)
adds [] few can = none_yet
adds (fate ∷ earlier) few can =
    let (this, others) = and_parts (can_be fate) (list_all can_be earlier) can in
    let rest = few_of is_here earlier in
    one_more fate (counts_of earlier) (number_of is_taken earlier) (number_of is_here earlier) this (omega (arith, few, rest))
    (adds earlier (omega (arith, few)) others)

pub add_up : (fates : List Fate) → length fates ≤ largest → list_all can_be fates ≡ true
    → (counts_of fates).came ≡ number_of is_taken fates + sum (counts_of fates).lost + sum (counts_of fates).dropped
add_up fates few can = (adds fates few can).exact

pub all_came : (fates : List Fate) → length fates ≤ largest → list_all can_be fates ≡ true → (counts_of fates).came ≡ number_of is_here fates
all_came fates few can = (adds fates few can).all

-- ---- each reason

-- the number that counts a reason
abbrev pub count_for : Reason → Counts → ℕ
count_for why counts = get_or counts.lost (reason_number why) 0

for_itself : (why other : Reason) (counts : Counts) → length counts.lost ≡ reasons_count → count_for why counts < largest
    → get_or (more_at counts.lost (reason_number other)) (reason_number why) 0 ≡ count_for why counts + one (reason_number why == reason_number other)
for_itself why other counts long few =
    let is = reason_small other in
    let small : reason_number other < length counts.lost = omega (arith, is, long) in
    elim (cases_Bool (reason_number why == reason_number other)) [
      | inl e ↦
          let same : reason_number why ≡ reason_number other = eqb-true (reason_number why) (reason_number other) e in
          rw e (subst (λ index. get_or (more_at counts.lost (reason_number other)) index 0 ≡ get_or counts.lost index 0 + 1) (sym same)
          (get_or-set_same counts.lost (reason_number other) (more (get_or counts.lost (reason_number other) 0)) 0 small
          ∙ more_is (get_or counts.lost (reason_number other) 0) (subst (λ index. get_or counts.lost index 0 < largest) same few)))
      | inr e ↦
          let differ : reason_number why ≢ reason_number other = eqb-false (reason_number why) (reason_number other) e in
          let kept : get_or (more_at counts.lost (reason_number other)) (reason_number why) 0 ≡ get_or counts.lost (reason_number why) 0 =
          get_or-set_other counts.lost (reason_number other) (reason_number why) (more (get_or counts.lost (reason_number other) 0)) 0 differ in
          rw e (omega (arith, kept))
    ]

for_drops : (why : Reason) (number : ℕ) (counts : Counts) → count_for why (one_dropped number counts) ≡ count_for why counts
for_drops why number counts = elim (cases_Bool (has_place number)) [ inl e ↦ rw e refl | inr e ↦ rw e refl ]

one_more_for : (why : Reason) (fate : Fate) (counts : Counts) → length counts.lost ≡ reasons_count → count_for why counts < largest
    → count_for why (counted fate counts) ≡ count_for why counts + one (is_lost_for why fate)
one_more_for why Elsewhere counts long few = omega arith
one_more_for why Heard counts long few = omega arith
one_more_for why (Dropped number) counts long few = let same = for_drops why number (one_came counts) in omega (arith, same)
one_more_for why HandedOn counts long few = omega arith
one_more_for why Answered counts long few = omega arith
one_more_for why Stays counts long few = omega arith
one_more_for why Awaited counts long few = omega arith
one_more_for why Probe counts long few = omega arith
one_more_for why (Lost other) counts long few = for_itself why other counts long few

pub each_reason : (why : Reason) (fates : List Fate) → length fates ≤ largest → list_all can_be fates ≡ true
    → count_for why (counts_of fates) ≡ number_of (is_lost_for why) fates
each_reason why [] few can = get_or-replicate reasons_count (reason_number why) 0 0 (reason_small why)
each_reason why (fate ∷ earlier) few can =
    let (this, others) = and_parts (can_be fate) (list_all can_be earlier) can in
    let before = adds earlier (omega (arith, few)) others in
    let so_far = each_reason why earlier (omega (arith, few)) others in
    let rest = few_of (is_lost_for why) earlier in
    one_more_for why fate (counts_of earlier) before.lost_long (omega (arith, few, so_far, rest)) ∙ ap (λ n. n + one (is_lost_for why fate)) so_far
