-- Where every route to a network off the list is of a real way from the first, a router is as after the ticks after which all such routes are.
use Rattle.std.proofs.Common.{◌≡◌, refl, ◌⊎◌, ℕ, ◌+◌, ◌*◌, ◌<◌, ◌≤◌, List, [], ◌∷◌, length, map, inl}
use Rattle.std.specs.List.{AllByRecursion}
use Rattle.ipx_table.specs.declared.held.Held.{Held}
use Rattle.ipx_table.proofs.Order.{all-from_order}
use Rattle.ipx_table.proofs.Standing.{rules_total}
use Rattle.ipx_table.specs.Alive.{lifetime}
use Rattle.ipx_wire.specs.declared.network.Network.{Network}
use Rattle.ipx_router.specs.Facts.{routes_held, offers}
use Rattle.ipx_router.specs.Routes.{route_rules, route_reading, network_order}
use Rattle.ipx_router.specs.declared.route_offer.RouteOffer.{RouteOffer}
use Rattle.ipx_router.proofs.bounds.PacketsOfEachEvent.{network_total}
use Rattle.ipx_internet.specs.Internet.{Internet, IsInternet, ports_of}
use Rattle.ipx_internet.specs.Queue.{history_of}
use Rattle.ipx_internet.specs.Run.{AreHistories, Run}
use Rattle.ipx_internet.proofs.lists.EachElement.{all_then}
use Rattle.ipx_internet.proofs.packets.SentOnOrReply.{Layouts}
use Rattle.ipx_laws.specs.Apart.{IsRealApart, AreRealApart}
use Rattle.ipx_laws.specs.Gone.{most_ticks_gone}
use Rattle.ipx_laws.specs.Ups.{ups}
use Rattle.ipx_laws.proofs.ticks.RealOrSoonEnded.{Endures}
use Rattle.ipx_laws.proofs.ticks.TickAfterTick.{Rests}

-- what holds of the offers of records holds of each record's
of_offers : {O : Type 0} (P : O → Type 0) (xs : List (Held O)) → AllByRecursion P (offers xs) → AllByRecursion (λ h. P h.offer) xs
of_offers P [] all = tt
of_offers P (x ∷ xs) all = (all.0, of_offers P xs all.1)

module _ (net : Internet) (laws : Layouts) (is : IsInternet net) (most_routes most_services : ℕ) (run : Run) (foreign : List Network)
    (are : AreHistories net run.histories) (quiet : run.waiting ≡ []) (real : AreRealApart net most_routes run.histories (ups net run.histories) foreign) where
  abbrev Fine : ℕ → RouteOffer → Type 0
  Fine = IsRealApart net (ups net run.histories) foreign

  endures : (router : ℕ) → router < length net → Endures 0 0 net (ups net run.histories) foreign most_routes router most_ticks_gone (history_of run.histories router)
  endures router inside = record {
    routes =
        all_then (λ h. Fine router h.offer)
        (λ h. Fine router h.offer ⊎ (most_ticks_gone ≤ 0 + (0 + lifetime) * h.offer.hops + h.age)) (λ h fine. inl fine) _
        (all-from_order (route_rules (ports_of net router) most_routes).by_key
        (rules_total route_reading network_order network_total most_routes (map (λ p. p.route_share) (ports_of net router)))
        (λ h. Fine router h.offer) _
        (of_offers (Fine router) (routes_held (ports_of net router) most_routes (history_of run.histories router)) (real router inside)));
    ups = refl;
  }

  pub rests_at_once : Rests net laws is most_routes most_services (ups net run.histories) foreign most_ticks_gone run
  rests_at_once = record { are = are; routers = endures; quiet = quiet }
