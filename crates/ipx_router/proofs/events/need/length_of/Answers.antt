use Rattle.std.proofs.Common.{◌≤◌, ◌∙◌, sym, ap, length, arith}
use Rattle.ipx_router.specs.Bounds.{most_length}
use Rattle.ipx_router.specs.Happened.{happened}
use Rattle.ipx_router.specs.Numbers.{most_own_length}
use Rattle.ipx_router.specs.declared.event.Event.{Event}
use Rattle.ipx_router.proofs.bounds.LengthOfWhatCame.{most_of_few}
use Rattle.ipx_router.proofs.events.need.length_of.Goals as goal

pub returns-then-bytes-le-MOST_OWN_LENGTH-clause-value :
    goal.returns-then-bytes-le-MOST_OWN_LENGTH-clause-value
returns-then-bytes-le-MOST_OWN_LENGTH-clause-value c =
    let few : length c.in-Packet.bytes.now ≤ most_own_length = omega (arith, c.if-bytes-le-MOST_OWN_LENGTH.true) in
    sym (ap (λ (event : Event). most_length (happened event)) c.in-Packet.is ∙ most_of_few c.in-Packet.port c.in-Packet.bytes.now few)
