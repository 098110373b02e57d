use Rattle.ipx_table.specs.Reading.{rules_of}
use Rattle.ipx_router.specs.Services.{service_reading, service_order}
use Rattle.ipx_router.proofs.changes.EqualOffersAreOne.{service_exact}
use Rattle.ipx_router.proofs.changes.LearnedEntryByEntry.{named_stands}
use Rattle.ipx_router.proofs.learning.offering.offer_service.Goals as goal

pub returns-in-Some-clause-stands : goal.returns-in-Some-clause-stands
returns-in-Some-clause-stands g c = λ facts stands.
    named_stands (rules_of service_reading service_order g.row.S c.args.table.now.shares) c.take.new.table.records c.args.number c.args.node c.args.entry.now
    c.in-Some.name c.in-Some.is facts (c.take.ensures.stands facts stands)

pub returns-in-Some-clause-touches : goal.returns-in-Some-clause-touches
returns-in-Some-clause-touches g c = λ before old. c.take.ensures.touches service_exact before old
