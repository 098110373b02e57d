-- What is told of a change fits into the fields of a packet.
use Rattle.std.proofs.Common.{ℕ, Bool, if◌then◌else◌, List, [], ◌∷◌, map, Option, IfSome, arith}
use Rattle.std.specs.List.{AllByRecursion}
use Rattle.std.specs.Ordering.{is_eq}
use Rattle.std.specs.declared.cmp.Ordering.{Ordering}
use Rattle.ipx_wire.specs.Rip.{IsEntry}
use Rattle.ipx_router.specs.Changes.{Change, change_at, changes, differs, put_keys}
use Rattle.ipx_router.specs.News.{same_route, same_service, route_told, news, service_told, news_services}
use Rattle.ipx_router.specs.Port.{Port}
use Rattle.ipx_router.specs.Routes.{network_order}
use Rattle.ipx_router.specs.Services.{service_order}
use Rattle.ipx_router.specs.declared.route_offer.RouteOffer.{RouteOffer}
use Rattle.ipx_router.specs.declared.service_offer.ServiceOffer.{ServiceOffer}
use Rattle.ipx_router.proofs.bytes.FieldsAreBytes.{IsTellable}
use Rattle.ipx_router.proofs.lists.EachElement.{all-filter, all-find, all-map, all-flat_map}
use Rattle.ipx_router.proofs.tables.HeldFitsFields.{RouteFits, ServiceFits}

-- both offers of a change are such ones
abbrev pub ChangeOf : {O : Type 0} → (O → Type 0) → Change O → Type 0
ChangeOf P change = IfSome change.before P × IfSome change.after P

pub anything : {X : Type 0} (xs : List X) → AllByRecursion (λ x. Unit {0}) xs
anything [] = tt
anything (x ∷ xs) = (tt, anything xs)

module _ {O K : Type 0} (P : O → Type 0) (key_of : O → K) (order : K → K → Ordering) (same : O → O → Bool) where
  pub changes_fit : (before after : List O) → AllByRecursion P before → AllByRecursion P after
      → AllByRecursion (ChangeOf P) (changes key_of order same before after)
  changes_fit before after old new =
      let keys = put_keys key_of order same before (put_keys key_of order same after []) in
      all-filter (ChangeOf P) (differs key_of order same) (map (change_at key_of order same before after) keys)
      (all-map (λ key. Unit {0}) (ChangeOf P) (change_at key_of order same before after)
      (λ key here. (all-find P (λ o. is_eq (order (key_of o) key)) before old, all-find P (λ o. is_eq (order (key_of o) key)) after new))
      keys (anything keys))

-- nothing, or one item
pub one_or_none : {X : Type 0} (P : X → Type 0) (c : Bool) (x : X) → P x → AllByRecursion P (if c then [] else x ∷ [])
one_or_none P c x is = grind arith

-- ---- routes

route_told_fits : (ports : List Port) (number : ℕ) (before after : Option RouteOffer) → IfSome before RouteFits → IfSome after RouteFits
    → AllByRecursion IsEntry (route_told ports number (record { before = before; after = after }))
route_told_fits ports number before after old new = grind arith

pub news_fit : (ports : List Port) (before after : List RouteOffer) (number : ℕ) → AllByRecursion RouteFits before → AllByRecursion RouteFits after
    → AllByRecursion IsEntry (news ports before after number)
news_fit ports before after number old new =
    all-flat_map (ChangeOf RouteFits) IsEntry (route_told ports number) (λ c is. route_told_fits ports number c.before c.after is.0 is.1)
    (changes (λ r. r.network) network_order same_route before after)
    (changes_fit RouteFits (λ r. r.network) network_order same_route before after old new)

-- ---- services

service_told_fits : (number : ℕ) (before after : Option ServiceOffer) → IfSome before ServiceFits → IfSome after ServiceFits
    → AllByRecursion IsTellable (service_told number (record { before = before; after = after }))
service_told_fits number before after old new = grind arith

pub news_services_fit : (before after : List ServiceOffer) (number : ℕ) → AllByRecursion ServiceFits before → AllByRecursion ServiceFits after
    → AllByRecursion IsTellable (news_services before after number)
news_services_fit before after number old new =
    all-flat_map (ChangeOf ServiceFits) IsTellable (service_told number) (λ c is. service_told_fits number c.before c.after is.0 is.1)
    (changes (λ s. (s.service.kind, s.service.name)) service_order same_service before after)
    (changes_fit ServiceFits (λ s. (s.service.kind, s.service.name)) service_order same_service before after old new)
