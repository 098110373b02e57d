use Rattle.std.proofs.Common.{arith}
use Rattle.ipx_capture.proofs.Once.{came_once, failed_once}
use Rattle.ipx_capture.proofs.asking.ask.Goals as goal

pub returns-clause-ok : goal.returns-clause-ok
returns-clause-ok g c =
    came_once g.S.Source.asked c.args.intake.now c.read.new.self c.read.new.buf c.read.result (omega arith) c.read.ensures.ok c.read.ensures.calls c.read.ensures.once

pub returns-clause-err : goal.returns-clause-err
returns-clause-err g c =
    failed_once g.S.Source.asked c.args.intake.now c.read.new.self c.read.new.buf c.read.result (omega arith) c.read.ensures.err c.read.ensures.once c.read.ensures.spared
