-- One step of a way, and what it makes of the conditions.
use Rattle.std.proofs.Common.{◌≡◌, ◌∙◌, refl, ap, ℕ, suc, Bool, true, false, ◌&&◌, not, if◌then◌else◌, Option, None, Some, List}
use Rattle.ipx_fates.specs.declared.course.Course.{Course}
use Rattle.ipx_fates.specs.declared.course.Course.TheVariants.{Goes, Ends}
use Rattle.ipx_fates.specs.declared.fate.Fate.{Fate}
use Rattle.ipx_fates.specs.declared.fate.Fate.TheVariants.{Lost}
use Rattle.ipx_fates.specs.declared.reason.Reason.{Reason}
use Rattle.ipx_fates.specs.declared.step.Step.{Step}
use Rattle.ipx_fates.specs.Fates.{reason_at}
use Rattle.ipx_fates.specs.Steps.{is_yes, either, ended_by, unless_refused}
use Rattle.ipx_fates.specs.Courses.{after_step}
use Rattle.ipx_fates.specs.Walks.{Answers, fate_by}
use Rattle.ipx_fates.specs.Conditions.{when, refused, or_else, first_of}

-- ---- one step

pub at_end : (told : Answers) (fate : Fate) (n : ℕ) → fate_by told (Ends fate) n ≡ Some fate
unfolding fate_by
at_end told fate n = refl

pub goes_on : (told : Answers) (step : Step) (n : ℕ) → fate_by told (Goes step) (suc n) ≡ fate_by told (after_step (told step) step) n
unfolding fate_by
goes_on told step n = refl

-- a deed
pub deed : (told : Answers) (step : Step) (n : ℕ) (on : Course) (row : Option Fate) → after_step (told step) step ≡ on
    → fate_by told on n ≡ row → fate_by told (Goes step) (suc n) ≡ row
deed told step n on row is goes = goes_on told step n ∙ ap (λ course. fate_by told course n) is ∙ goes

by_answer : (told : Answers) (yes_it_is : Bool) (n : ℕ) (a b : Course) (row_a row_b : Option Fate) → fate_by told a n ≡ row_a → fate_by told b n ≡ row_b
    → fate_by told (if yes_it_is then a else b) n ≡ (if yes_it_is then row_a else row_b)
by_answer told true n a b row_a row_b goes_a goes_b = goes_a
by_answer told false n a b row_a row_b goes_a goes_b = goes_b

-- a question
pub fork : (told : Answers) (step : Step) (n : ℕ) (a b : Course) (row_a row_b : Option Fate) → after_step (told step) step ≡ either (told step) a b
    → fate_by told a n ≡ row_a → fate_by told b n ≡ row_b
    → fate_by told (Goes step) (suc n) ≡ (if is_yes (told step) then row_a else row_b)
fork told step n a b row_a row_b is goes_a goes_b =
    goes_on told step n ∙ ap (λ course. fate_by told course n) is ∙ by_answer told (is_yes (told step)) n a b row_a row_b goes_a goes_b

by_reason : (told : Answers) (why : Option Reason) (n : ℕ) (on : Course) (row : Option Fate) → fate_by told on n ≡ row
    → fate_by told (ended_by why on) n ≡ or_else (refused why) row
by_reason told None n on row goes = goes
by_reason told (Some why) n on row goes = at_end told (Lost why) n

-- a limit
pub limit : (told : Answers) (step : Step) (n : ℕ) (on : Course) (row : Option Fate) → after_step (told step) step ≡ unless_refused (told step) on
    → fate_by told on n ≡ row
    → fate_by told (Goes step) (suc n) ≡ or_else (refused (reason_at (told step))) row
limit told step n on row is goes =
    goes_on told step n ∙ ap (λ course. fate_by told course n) is ∙ by_reason told (reason_at (told step)) n on row goes

-- ---- conditions

pub ends_if : (a : Bool) (fate : Fate) (rest : Option Fate) → (if a then Some fate else rest) ≡ or_else (when a fate) rest
ends_if true fate rest = refl
ends_if false fate rest = refl

pub ends_unless : (a : Bool) (fate : Fate) (rest : Option Fate) → (if a then rest else Some fate) ≡ or_else (when (not a) fate) rest
ends_unless true fate rest = refl
ends_unless false fate rest = refl

pub either_way : (a : Bool) (rest : Option Fate) → (if a then rest else rest) ≡ rest
either_way true rest = refl
either_way false rest = refl

pub of_lists : (a : Bool) (l m : List (Option Fate)) → (if a then first_of l else first_of m) ≡ first_of (if a then l else m)
of_lists true l m = refl
of_lists false l m = refl

-- no: and of what is asked then, either ends it
pub unless_one : (a b : Bool) (first last : Fate) (rest : Option Fate) → (if a then rest else (if b then Some first else Some last))
    ≡ or_else (when (not a && b) first) (or_else (when (not a) last) rest)
unless_one true b first last rest = refl
unless_one false true first last rest = refl
unless_one false false first last rest = refl

-- yes: and of what is asked then, either ends it
pub if_one : (a b : Bool) (first last : Fate) (rest : Option Fate) → (if a then (if b then Some first else Some last) else rest)
    ≡ or_else (when (a && b) first) (or_else (when a last) rest)
if_one true true first last rest = refl
if_one true false first last rest = refl
if_one false b first last rest = refl

pub unless_two : (a b c : Bool) (first second last : Fate) (rest : Option Fate)
    → (if a then rest else (if b then Some first else (if c then Some second else Some last)))
    ≡ or_else (when (not a && b) first) (or_else (when (not a && c) second) (or_else (when (not a) last) rest))
unless_two true b c first second last rest = refl
unless_two false true c first second last rest = refl
unless_two false false true first second last rest = refl
unless_two false false false first second last rest = refl

-- the same, where it is no that ends it
pub unless_none : (a b c : Bool) (first second last : Fate) (rest : Option Fate)
    → (if a then rest else (if b then (if c then Some last else Some second) else Some first))
    ≡ or_else (when (not a && not b) first) (or_else (when (not a && not c) second) (or_else (when (not a) last) rest))
unless_none true b c first second last rest = refl
unless_none false false c first second last rest = refl
unless_none false true false first second last rest = refl
unless_none false true true first second last rest = refl

pub unless_both : (a b : Bool) (fate : Fate) (rest : Option Fate) → (if a then rest else (if b then rest else Some fate))
    ≡ or_else (when (not a && not b) fate) rest
unless_both true b fate rest = refl
unless_both false true fate rest = refl
unless_both false false fate rest = refl
