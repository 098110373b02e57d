-- What holds of all services of a list holds of the nearest of them, and of either of two lists.
use Rattle.std.proofs.Common.{Bool, if◌then◌else◌, List, [], ◌∷◌, inl, inr, arith}
use Rattle.std.specs.List.{AllByRecursion}
use Rattle.std.proofs.lemmas.Bool.{cases_Bool}
use Rattle.ipx_wire.specs.declared.service.Service.{Service}
use Rattle.ipx_router.specs.Sends.{is_nearer, nearest_of}

pub either : (P : Service → Type 0) (c : Bool) (xs ys : List Service) → AllByRecursion P xs → AllByRecursion P ys → AllByRecursion P (if c then xs else ys)
either P c xs ys one two = grind arith

pub nearest_all : (P : Service → Type 0) (services : List Service) → AllByRecursion P services → AllByRecursion P (nearest_of services)
nearest_all P [] all = tt
nearest_all P (service ∷ services) all = by (nearest_of services) (nearest_all P services all.1)
  where
    by : (found : List Service) → AllByRecursion P found → AllByRecursion P (elim found [
      | [] ↦ service ∷ []
      | ◌∷◌ best rest ↦ if is_nearer best service then best ∷ [] else service ∷ []
    ])
    by [] some = (all.0, tt)
    by (best ∷ rest) some = elim (cases_Bool (is_nearer best service)) [
      | inl e ↦ rw e (some.0, tt)
      | inr e ↦ rw e (all.0, tt)
    ]
