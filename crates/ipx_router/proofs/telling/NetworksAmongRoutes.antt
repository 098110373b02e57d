-- The networks of other ports, and the learned routes among them.
use Rattle.std.proofs.Common.{arith}
use Rattle.std.proofs.lemmas.Grind.{common_steps}
use Rattle.std.proofs.Common.{◌≡◌, ℕ, ◌+◌, ◌<◌, List, [], ◌∷◌, ◌++◌, length, take, map, get_or}
use Rattle.std.proofs.lemmas.List.{take_more, map-append}
use Rattle.std.proofs.lemmas.List.Elements.{filter-append}
use Rattle.ipx_wire.specs.declared.rip.RipEntry.{RipEntry}
use Rattle.ipx_router.specs.Port.{Port, port_at}
use Rattle.ipx_router.specs.Sorted.{put_all}
use Rattle.ipx_router.specs.Told.{network_before, by_network, told_at, direct, learned, told}
use Rattle.ipx_router.specs.declared.route_offer.RouteOffer.{RouteOffer}
use Rattle.ipx_router.proofs.lists.PutInOrder.{sorted-append}

direct-append : (ports : List Port) (number : ℕ) (xs ys : List ℕ) → direct ports (xs ++ ys) number ≡ direct ports xs number ++ direct ports ys number
direct-append ports number xs ys = grind (arith, filter-append, map-append)

-- one more port's network among those of the ports before it
pub direct_step : (cost : ℕ) (ports : List Port) (number : ℕ) (up : List ℕ) (i : ℕ) (now next : List RipEntry) → i < length up
    → now ≡ by_network (map (told_at cost) (direct ports (take i up) number))
    → next ≡ put_all network_before now (map (told_at cost) (direct ports (get_or up i 0 ∷ []) number))
    → next ≡ by_network (map (told_at cost) (direct ports (take (i + 1) up) number))
direct_step cost ports number up i now next below before step = grind (arith, common_steps, sorted-append, map-append, direct-append, take_more)

-- what is told is the learned routes placed among the networks
pub told_both : (ports : List Port) (up : List ℕ) (routes : List RouteOffer) (number : ℕ)
    → told ports up routes number
    ≡ put_all network_before (by_network (map (told_at (port_at ports number).cost) (direct ports up number))) (map (told_at (port_at ports number).cost) (learned routes number))
told_both ports up routes number = grind (arith, map-append, sorted-append)

-- so it is where the networks were placed first
pub told_placed : (cost : ℕ) (ports : List Port) (up : List ℕ) (routes : List RouteOffer) (number : ℕ) (first : List RipEntry) → cost ≡ (port_at ports number).cost
    → first ≡ by_network (map (told_at cost) (direct ports up number))
    → put_all network_before first (map (told_at cost) (learned routes number)) ≡ told ports up routes number
told_placed cost ports up routes number first same placed = grind (arith, told_both)
