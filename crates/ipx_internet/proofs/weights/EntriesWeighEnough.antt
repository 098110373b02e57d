-- The entries of a response weigh as much as they bring: a record each, and what is told of it.
use Rattle.std.proofs.Common.{◌≡◌, refl, ap, ◌∙◌, ℕ, suc, ◌+◌, ◌-◌, ◌*◌, ◌<◌, ◌≤◌, List, [], ◌∷◌, ◌++◌, Option, None, Some, inl, inr, arith, mul-add, mul-one}
use Rattle.std.specs.List.{sum_by}
use Rattle.std.proofs.lemmas.Bool.{cases_Bool, leb-false}
use Rattle.std.proofs.lemmas.List.Sums.{sum_by-cons}
use Rattle.ipx_table.specs.Facts.{Fact, Offered}
use Rattle.ipx_wire.specs.declared.node.Node.{Node}
use Rattle.ipx_wire.specs.declared.rip.RipEntry.{RipEntry}
use Rattle.ipx_wire.specs.declared.sap_entries.SapEntry.{SapEntry}
use Rattle.ipx_router.specs.Facts.{route_offer, routes_offered, services_offered}
use Rattle.ipx_router.specs.News.{same_route, same_service}
use Rattle.ipx_router.specs.Numbers.{unreachable}
use Rattle.ipx_router.specs.Port.{Port, takes_no_route}
use Rattle.ipx_router.specs.Routes.{route_reading, network_order}
use Rattle.ipx_router.specs.Services.{service_reading, service_order}
use Rattle.ipx_router.specs.declared.route_offer.RouteOffer.{RouteOffer}
use Rattle.ipx_router.specs.declared.service_offer.ServiceOffer.{ServiceOffer}
use Rattle.ipx_router.proofs.bounds.PacketsOfEachEvent.{network_total, service_total}
use Rattle.ipx_router.proofs.telling.LawsOfTold.{route-same, service-same}
use Rattle.ipx_internet.specs.Internet.{Internet}
use Rattle.ipx_internet.specs.InternetWeight.{most_hearers, weight_in_reach, entry_weight, routes_weight, services_weight}
use Rattle.ipx_internet.proofs.records.HeardChangesItsKeys.{service_offer}
use Rattle.ipx_internet.proofs.weights.OffersPayTheirCost as costs

module _ (net : Internet) where
  -- what is told of an offer weighs, at each that hears it: the packet, and the entry a hop farther
  abbrev pub told_weight : ℕ → ℕ
  told_weight hops = 1 + entry_weight net (hops + 1)

  abbrev pub route_told_weight : RouteOffer → ℕ
  route_told_weight r = told_weight r.hops

  abbrev pub service_told_weight : ServiceOffer → ℕ
  service_told_weight s = told_weight s.service.hops

  -- an entry that isn't unreachable weighs a record of it and what is told of that
  pub entry_pays : (hops : ℕ) → hops < unreachable → most_hearers net * (1 + told_weight hops) ≡ entry_weight net hops
  entry_pays hops near =
      let d = most_hearers net in
      let further = weight_in_reach net (unreachable - (hops + 1)) in
      let step : unreachable - hops ≡ suc (unreachable - (hops + 1)) = omega (arith, near) in
      let whole = ap (weight_in_reach net) step in
      let record_too = mul-add d 1 (1 + further) in
      let packet_too = mul-add d 1 further in
      let once = mul-one d in
      omega (arith, whole, record_too, packet_too, once)

  module _ (capacity : ℕ) (shares : List ℕ) where
    abbrev pub brings : Fact RouteOffer → ℕ
    brings = costs.brings route_reading network_order same_route network_total route-same capacity shares route_told_weight (λ r. omega arith)

    abbrev pub service_brings : Fact ServiceOffer → ℕ
    service_brings = costs.brings service_reading service_order same_service service_total service-same capacity shares service_told_weight (λ s. omega arith)

    one_route : (r : RouteOffer) → most_hearers net * brings (Offered r) ≤ entry_weight net r.hops
    one_route r = grind (arith, entry_pays, leb-false)

    one_service : (s : ServiceOffer) → most_hearers net * service_brings (Offered s) ≤ entry_weight net s.service.hops
    one_service s = grind (arith, entry_pays, leb-false)

    pub routes_bring : (ports : List Port) (number : ℕ) (node : Node) (entries : List RipEntry)
        → most_hearers net * sum_by brings (routes_offered ports number node entries) ≤ routes_weight net entries
    routes_bring ports number node [] = omega arith
    routes_bring ports number node (e ∷ entries) =
        let rest = routes_bring ports number node entries in
        let others = routes_offered ports number node entries in
        let weight = sum_by-cons (λ (e : RipEntry). entry_weight net e.hops) e entries in
        elim (cases_Bool (takes_no_route ports e.network)) [
          | inl none ↦
              let same : routes_offered ports number node (e ∷ entries) ≡ others = rw none refl in
              let scaled = ap (λ fs. most_hearers net * sum_by brings fs) same in
              omega (arith, rest, weight, scaled)
          | inr taken ↦
              let offer = route_offer number node e in
              let same : routes_offered ports number node (e ∷ entries) ≡ Offered offer ∷ others = rw taken refl in
              let sum = ap (sum_by brings) same ∙ sum_by-cons brings (Offered offer) others in
              let scaled = ap (λ (n : ℕ). most_hearers net * n) sum in
              let split = mul-add (most_hearers net) (brings (Offered offer)) (sum_by brings others) in
              let one = one_route offer in
              omega (arith, rest, weight, scaled, split, one)
        ]

    pub services_bring : (number : ℕ) (node : Node) (entries : List SapEntry)
        → most_hearers net * sum_by service_brings (services_offered number node entries) ≤ services_weight net entries
    services_bring number node [] = omega arith
    services_bring number node (e ∷ entries) =
        let rest = services_bring number node entries in
        let weight = sum_by-cons (λ (e : SapEntry). entry_weight net e.hops) e entries in
        let one = by e.name in
        omega (arith, rest, weight, one)
      where
        by : (name : Option (List ℕ))
            → most_hearers net * sum_by service_brings (elim name [ None ↦ [] | Some name ↦ Offered (service_offer number node e name) ∷ [] ] ++ services_offered number node entries)
            ≤ entry_weight net e.hops + most_hearers net * sum_by service_brings (services_offered number node entries)
        by None = omega arith
        by (Some name) =
            let offer = service_offer number node e name in
            let others = services_offered number node entries in
            let sum = sum_by-cons service_brings (Offered offer) others in
            let scaled = ap (λ (n : ℕ). most_hearers net * n) sum in
            let split = mul-add (most_hearers net) (service_brings (Offered offer)) (sum_by service_brings others) in
            let one = one_service offer in
            omega (arith, scaled, split, one)
