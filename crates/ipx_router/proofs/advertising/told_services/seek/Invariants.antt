use Rattle.std.proofs.Common.{◌≡◌, not, drop, length}
use Rattle.std.specs.List.{prefix_len}
use Rattle.ipx_router.specs.Told.{is_service_told}
use Rattle.ipx_router.proofs.advertising.told_services.seek.Given as goal

abbrev pub invariant-loop-offer : goal.invariant-loop-offer
invariant-loop-offer l =
    drop (prefix_len (λ offer. not (is_service_told l.number offer)) l.rest) l.rest
    ≡ drop (prefix_len (λ offer. not (is_service_told l.number offer)) l.services) l.services

abbrev pub decreases-loop-offer : goal.decreases-loop-offer
decreases-loop-offer l = length l.rest
