-- What holds of each entry that a router advertises, by what holds of its ports' networks and of its routes.
use Rattle.std.proofs.Common.{arith}
use Rattle.std.proofs.Common.{◌≡◌, ℕ, ◌==◌, not, true, List, ◌++◌, map, filter, Option, IfSome}
use Rattle.std.specs.List.{AllByRecursion}
use Rattle.ipx_wire.specs.declared.rip.RipEntry.{RipEntry}
use Rattle.ipx_router.specs.Changes.{changes}
use Rattle.ipx_router.specs.News.{same_route, route_told, news}
use Rattle.ipx_router.specs.Port.{Port, port_at, is_up}
use Rattle.ipx_router.specs.Routes.{network_order}
use Rattle.ipx_router.specs.Told.{network_before, told, told_at, direct_entry, direct, entry_of, is_route_told, dead}
use Rattle.ipx_router.specs.declared.route_offer.RouteOffer.{RouteOffer}
use Rattle.ipx_router.proofs.lists.EachElement.{all-filter, all_sorted, all-map, all-flat_map}
use Rattle.ipx_router.proofs.changes.ChangesFitFields.{ChangeOf, changes_fit}
use Rattle.ipx_router.proofs.port_values.PortOfEachNumber.{members}
use Rattle.ipx_router.proofs.tables.HeldWasOffered.{all-append}

-- such are the networks of the ports that are up, as a port of any cost advertises them
abbrev pub Opens : (RipEntry → Type 0) → List Port → List ℕ → Type 0
Opens P ports up = (port cost : ℕ) → is_up up port ≡ true → P (told_at cost (direct_entry ports port))

module _ (P : RipEntry → Type 0) (K : RouteOffer → Type 0) (ports : List Port)
    (heard : (route : RouteOffer) (cost : ℕ) → K route → P (told_at cost (entry_of route))) where
  pub told_are : (up : List ℕ) (routes : List RouteOffer) (number : ℕ) → Opens P ports up → AllByRecursion K routes
      → AllByRecursion P (told ports up routes number)
  told_are up routes number opens table =
      let cost = (port_at ports number).cost in
      let others = filter (λ other. not (other == number)) up in
      let learned = filter (is_route_told number) routes in
      let Told : RipEntry → Type 0 = λ entry. P (told_at cost entry) in
      let own : AllByRecursion Told (direct ports up number) =
      all-map (λ j. is_up up j ≡ true) Told (direct_entry ports) (λ j there. opens j cost there) others
      (all-filter (λ j. is_up up j ≡ true) (λ other. not (other == number)) up (members up)) in
      let far : AllByRecursion Told (map entry_of learned) =
      all-map K Told entry_of (λ r is. heard r cost is) learned (all-filter K (is_route_told number) routes table) in
      all_sorted P network_before (map (told_at cost) (direct ports up number ++ map entry_of learned))
      (all-map Told P (told_at cost) (λ e is. is) (direct ports up number ++ map entry_of learned)
      (all-append Told (direct ports up number) (map entry_of learned) own far))

  module _ (gone : (route : RouteOffer) → K route → P (dead (entry_of route))) where
    change_is : (number : ℕ) (before after : Option RouteOffer) → IfSome before K → IfSome after K
        → AllByRecursion P (route_told ports number (record { before = before; after = after }))
    change_is number before after old new = grind arith

    pub news_are : (before after : List RouteOffer) (number : ℕ) → AllByRecursion K before → AllByRecursion K after
        → AllByRecursion P (news ports before after number)
    news_are before after number old new =
        all-flat_map (ChangeOf K) P (route_told ports number) (λ c is. change_is number c.before c.after is.0 is.1)
        (changes (λ r. r.network) network_order same_route before after)
        (changes_fit K (λ r. r.network) network_order same_route before after old new)
