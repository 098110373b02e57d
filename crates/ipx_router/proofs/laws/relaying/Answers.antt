use Rattle.std.proofs.Common.{◌∙◌, ap, List}
use Rattle.std.specs.List.{slice_get}
use Rattle.ipx_router.specs.Relays.{Sent}
use Rattle.ipx_router.proofs.relays.AskedIsRelated.{relay_listed, relay_all, relay_in_order}
use Rattle.ipx_router.proofs.laws.relaying.Goals as goal

pub returns-clause-listed : goal.returns-clause-listed
returns-clause-listed c ports up routes number bytes p k s are table read there =
    relay_listed ports up routes number bytes p read k s
    (λ p k s undropped read there. c.relays.ensures.listed ports up routes number bytes p k s are table undropped read there) there

pub returns-clause-all : goal.returns-clause-all
returns-clause-all c ports up routes number bytes s are is =
    let (undropped, (p, k, read, there)) = c.relays.ensures.all ports up routes number bytes s are is in
    (p, k, read, ap (λ (list : List Sent). slice_get list k) (relay_all ports up routes number bytes p read undropped) ∙ there)

pub returns-clause-in_order : goal.returns-clause-in_order
returns-clause-in_order c ports up routes number p rises =
    relay_in_order ports up routes number p (c.relays.ensures.in_order ports up routes number p rises)
