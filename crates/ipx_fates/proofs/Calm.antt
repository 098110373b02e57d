-- Ways on which no step of a sort is taken.
use Rattle.std.proofs.Common.{◌≡◌, ◌∙◌, refl, ap, ℕ, suc, Bool, true, false, ◌||◌, if◌then◌else◌, Option, None, Some}
use Rattle.std.specs.List.{list_any}
use Rattle.std.proofs.lemmas.Bool.{or_from}
use Rattle.ipx_fates.specs.declared.course.Course.{Course}
use Rattle.ipx_fates.specs.declared.course.Course.TheVariants.{Goes, Ends}
use Rattle.ipx_fates.specs.declared.fate.Fate.{Fate}
use Rattle.ipx_fates.specs.declared.fate.Fate.TheVariants.{Lost}
use Rattle.ipx_fates.specs.declared.reason.Reason.{Reason}
use Rattle.ipx_fates.specs.declared.step.Step.{Step}
use Rattle.ipx_fates.specs.Fates.{reason_at}
use Rattle.ipx_fates.specs.Steps.{is_yes, either, ended_by, unless_refused}
use Rattle.ipx_fates.specs.Courses.{after_step}
use Rattle.ipx_fates.specs.Walks.{Answers, steps_by}

-- one of the next steps is of that sort
abbrev pub any_by : (Step → Bool) → Answers → Course → ℕ → Bool
any_by is told course n = list_any is (steps_by told course n)

pub at_end : (is : Step → Bool) (told : Answers) (fate : Fate) (n : ℕ) → any_by is told (Ends fate) n ≡ false
unfolding steps_by
at_end is told fate n = refl

goes_on : (is : Step → Bool) (told : Answers) (step : Step) (n : ℕ) → any_by is told (Goes step) (suc n) ≡ (is step || any_by is told (after_step (told step) step) n)
unfolding steps_by
goes_on is told step n = refl

-- a step that isn't, and none behind it
pub deed : (is : Step → Bool) (told : Answers) (step : Step) (n : ℕ) (on : Course) → after_step (told step) step ≡ on → is step ≡ false
    → any_by is told on n ≡ false → any_by is told (Goes step) (suc n) ≡ false
deed is told step n on then_on other none =
    goes_on is told step n ∙ or_from (is step) (any_by is told (after_step (told step) step) n) other (ap (λ course. any_by is told course n) then_on ∙ none)

by_answer : (is : Step → Bool) (told : Answers) (answer : Bool) (n : ℕ) (a b : Course) → any_by is told a n ≡ false → any_by is told b n ≡ false
    → any_by is told (if answer then a else b) n ≡ false
by_answer is told true n a b none_a none_b = none_a
by_answer is told false n a b none_a none_b = none_b

pub fork : (is : Step → Bool) (told : Answers) (step : Step) (n : ℕ) (a b : Course) → after_step (told step) step ≡ either (told step) a b → is step ≡ false
    → any_by is told a n ≡ false → any_by is told b n ≡ false → any_by is told (Goes step) (suc n) ≡ false
fork is told step n a b then_on other none_a none_b =
    deed is told step n (either (told step) a b) then_on other (by_answer is told (is_yes (told step)) n a b none_a none_b)

-- what is known to be yes, or no
pub yes_goes : (is : Step → Bool) (told : Answers) (step : Step) (n : ℕ) (a b : Course) → after_step (told step) step ≡ either (told step) a b → is step ≡ false
    → is_yes (told step) ≡ true → any_by is told a n ≡ false → any_by is told (Goes step) (suc n) ≡ false
yes_goes is told step n a b then_on other answer none =
    deed is told step n (either (told step) a b) then_on other (ap (λ answer. any_by is told (if answer then a else b) n) answer ∙ none)

pub no_goes : (is : Step → Bool) (told : Answers) (step : Step) (n : ℕ) (a b : Course) → after_step (told step) step ≡ either (told step) a b → is step ≡ false
    → is_yes (told step) ≡ false → any_by is told b n ≡ false → any_by is told (Goes step) (suc n) ≡ false
no_goes is told step n a b then_on other answer none =
    deed is told step n (either (told step) a b) then_on other (ap (λ answer. any_by is told (if answer then a else b) n) answer ∙ none)

by_reason : (is : Step → Bool) (told : Answers) (why : Option Reason) (n : ℕ) (on : Course) → any_by is told on n ≡ false
    → any_by is told (ended_by why on) n ≡ false
by_reason is told None n on none = none
by_reason is told (Some why) n on none = at_end is told (Lost why) n

pub limit : (is : Step → Bool) (told : Answers) (step : Step) (n : ℕ) (on : Course) → after_step (told step) step ≡ unless_refused (told step) on → is step ≡ false
    → any_by is told on n ≡ false → any_by is told (Goes step) (suc n) ≡ false
limit is told step n on then_on other none =
    deed is told step n (unless_refused (told step) on) then_on other (by_reason is told (reason_at (told step)) n on none)

-- a limit that refuses
pub refuses : (is : Step → Bool) (told : Answers) (step : Step) (n : ℕ) (on : Course) (why : Reason) → after_step (told step) step ≡ unless_refused (told step) on
    → is step ≡ false → reason_at (told step) ≡ Some why → any_by is told (Goes step) (suc n) ≡ false
refuses is told step n on why then_on other because =
    deed is told step n (unless_refused (told step) on) then_on other
    (ap (λ reason. any_by is told (ended_by reason on) n) because ∙ at_end is told (Lost why) n)
