use Rattle.ipx_cmd.proofs.acts.RoutersAreAdded.{added_stands}
use Rattle.ipx_cmd.proofs.making.internet.add_router.Goals as goal

pub returns-in-Ok-clause-stands : goal.returns-in-Ok-clause-stands
returns-in-Ok-clause-stands c = λ q was.
    added_stands _ _ c.args.internet.now c.add.new.self c.in_ok-router.router q c.in-Ok.ensures.last c.add.ensures.queue c.in_ok-router.ensures.stands was
