-- What the plan of a reload answers to C.
use Rattle.std.specs.Prelude.{◌≡◌, ℤ, pos, Bool, ◌&&◌, ◌||◌, nat_lt, if◌then◌else◌, List, ◌++◌, length, map, drop, Option, None, Some}
use Rattle.std.specs.List.{list_all}
use Rattle.ipx_plan.specs.Planned.{Planned, IsPlan}
use Rattle.ipx_c.specs.PlanValues.{most_planned, is_carrier, planned_link, origin_record, fate_record}
use Rattle.ipx_c.specs.declared.fault.Fault.{Fault}
use Rattle.ipx_c.specs.declared.fault.Fault.TheVariants.{ShortBuffer, BadLink, ManyLinks}
use Rattle.ipx_c.specs.declared.plan_values.PlanLink.{PlanLink}
use Rattle.ipx_c.specs.declared.plan_values.PlanOrigin.{PlanOrigin}
use Rattle.ipx_c.specs.declared.plan_values.PlanFate.{PlanFate}

-- why there is none: the first reason that holds
abbrev pub plan_fault : List PlanLink → List PlanLink → List PlanOrigin → List PlanFate → Option Fault
plan_fault old new origins fates =
    if nat_lt most_planned (length old) || nat_lt most_planned (length new) then Some ManyLinks else
    if nat_lt (length origins) (length new) || nat_lt (length fates) (length old) then Some ShortBuffer else
    if list_all is_carrier old && list_all is_carrier new then None else Some BadLink

-- there is one: it is written to the front of what was lent for it
pub record IsPlanned (old new : List PlanLink) (origins origins_after : List PlanOrigin) (fates fates_after : List PlanFate) (stays : Bool) : Type 0 where
  pub plan : Planned
  pub is : IsPlan (map planned_link old) (map planned_link new) plan
  pub origins_written : origins_after ≡ map origin_record plan.origins ++ drop (length new) origins
  pub fates_written : fates_after ≡ map fate_record plan.fates ++ drop (length old) fates
  pub router : stays ≡ plan.keeps_router

-- there is none
pub record IsUnplanned (origins origins_after : List PlanOrigin) (fates fates_after : List PlanFate) : Type 0 where
  pub origins_kept : origins_after ≡ origins
  pub fates_kept : fates_after ≡ fates

-- 1 if the router stays, 0 if it doesn't
abbrev pub stays_code : Bool → ℤ
stays_code stays = if stays then pos 1 else pos 0
