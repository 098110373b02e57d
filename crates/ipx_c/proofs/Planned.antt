-- A plan that is written out for C.
use Rattle.std.proofs.Common.{◌≡◌, ◌∙◌, ap, subst₂, ℕ, ◌≤◌, true, List, ◌++◌, length, map, drop, None, arith}
use Rattle.std.specs.List.{list_all}
use Rattle.std.proofs.lemmas.List.{length-map}
use Rattle.ipx_plan.specs.declared.link.Link.{Link}
use Rattle.ipx_plan.specs.Planned.{Planned, IsPlan}
use Rattle.ipx_c.specs.PlanValues.{most_planned, is_carrier, planned_link}
use Rattle.ipx_c.specs.Plans.{plan_fault}
use Rattle.ipx_c.specs.declared.plan_values.PlanLink.{PlanLink}
use Rattle.ipx_c.specs.declared.plan_values.PlanOrigin.{PlanOrigin}
use Rattle.ipx_c.specs.declared.plan_values.PlanFate.{PlanFate}

module _ (old new : List PlanLink) (origins : List PlanOrigin) (fates : List PlanFate) where
  pub no_fault : length old ≤ most_planned → length new ≤ most_planned → length new ≤ length origins → length old ≤ length fates
      → list_all is_carrier old ≡ true → list_all is_carrier new ≡ true → plan_fault old new origins fates ≡ None
  no_fault old_few new_few origins_room fates_room old_carried new_carried = grind arith

-- what is written of a list that has as many elements as another
pub written : {X Y Z : Type 0} (f : X → Y) (xs ys : List X) (zs : List Z) (out old : List Y) → out ≡ map f xs ++ drop (length xs) old → xs ≡ ys → length ys ≡ length zs
    → out ≡ map f ys ++ drop (length zs) old
written f xs ys zs out old is same long = grind arith

-- the links that C gave
pub is_of_values : (old new : List PlanLink) (before after : List Link) (plan : Planned) → before ≡ map planned_link old → after ≡ map planned_link new
    → IsPlan before after plan → IsPlan (map planned_link old) (map planned_link new) plan
is_of_values old new before after plan one other is = subst₂ (λ (a b : List Link). IsPlan a b plan) one other is

pub long_as : (values : List PlanLink) (links : List Link) (n : ℕ) → links ≡ map planned_link values → n ≡ length links → n ≡ length values
long_as values links n is long = long ∙ ap length is ∙ length-map values planned_link
