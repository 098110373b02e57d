use Rattle.std.proofs.Common.{arith}
use Rattle.ipx_router.proofs.withdrawing.ended.add_ended.Goals as goal

pub add_item-requires : goal.add_item-requires
add_item-requires g c = grind arith

pub returns-then-port-envelope : goal.returns-then-port-envelope
returns-then-port-envelope g c = grind arith
