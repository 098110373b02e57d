use Rattle.std.proofs.Common.{arith}
use Rattle.ipx_capture.proofs.Heading.{header_told, header_lost}
use Rattle.ipx_capture.proofs.taking.read_header.Goals as goal

pub returns-clause-ok : goal.returns-clause-ok
returns-clause-ok g c =
    (header_told g.S.Source.asked c.args.intake.now c.read_front.new.intake c.read_front.new.bytes c.in-Ok.count c.file_order.result c.in-Ok.ensures.ok (omega arith) c.requires c.file_order.ensures).0

pub returns-clause-err : goal.returns-clause-err
returns-clause-err g c =
    (header_told g.S.Source.asked c.args.intake.now c.read_front.new.intake c.read_front.new.bytes c.in-Ok.count c.file_order.result c.in-Ok.ensures.ok (omega arith) c.requires c.file_order.ensures).1

pub returns-in_default-clause-err : goal.returns-in_default-clause-err
returns-in_default-clause-err g c =
    header_lost g.S.Source.asked c.args.intake.now c.read_front.new.intake 24 (omega arith) c.in_default.ensures.err
