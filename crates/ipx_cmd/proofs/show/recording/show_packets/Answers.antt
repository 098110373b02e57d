use Rattle.std.proofs.Common.{[], ◌∙◌, refl, true, false}
use Rattle.std.proofs.KnownBytes.{Consumes-nil}
use Rattle.ipx_recording.specs.declared.recording.Step.TheVariants as step
use Rattle.ipx_cmd.proofs.captures.HowARunEnds.{on_err_always, wrote_none}
use Rattle.ipx_cmd.proofs.recordings.BetweenTwoParts.{between_start, between_passed, between_packet, between_moved, between_brought, between_stays, moved_all, passed_fits, packet_fits, passed_shrinks, packet_shrinks, brought_shrinks, brought_as, stepped_by, refused_by}
use Rattle.ipx_cmd.proofs.recordings.HowARecordingEnds.{cut, fault_told, end_met, stopped}
use Rattle.ipx_cmd.proofs.show.recording.show_packets.Goals as goal

pub loop-size-init : goal.loop-size-init
loop-size-init g c =
    between_start c.args.recording.now c.args.intake.now c.args.outlet.now c.args.window.now.ahead c.args.text.now.items c.requires.window c.requires.text c.requires.intake c.requires.outlet c.requires.bounded

pub take-requires : goal.take-requires
take-requires g c =
    let t = stepped_by c.step.result c.in-Ok-Passed.field-0 (step.Passed c.in-Ok-Passed.size) c.step.ensures.ok c.in-Ok-Passed.is c.in-Ok-Passed.field-0-is c.ahead.ensures in
    passed_fits t

pub loop-size-smaller-in-Ok-Passed : goal.loop-size-smaller-in-Ok-Passed
loop-size-smaller-in-Ok-Passed g c =
    let t = stepped_by c.step.result c.in-Ok-Passed.field-0 (step.Passed c.in-Ok-Passed.size) c.step.ensures.ok c.in-Ok-Passed.is c.in-Ok-Passed.field-0-is c.ahead.ensures in
    passed_shrinks c.loop-size.intake.calls t c.take.ensures.ahead

pub loop-size-preserved-in-Ok-Passed : goal.loop-size-preserved-in-Ok-Passed
loop-size-preserved-in-Ok-Passed g c =
    let t = stepped_by c.step.result c.in-Ok-Passed.field-0 (step.Passed c.in-Ok-Passed.size) c.step.ensures.ok c.in-Ok-Passed.is c.in-Ok-Passed.field-0-is c.ahead.ensures in
    between_passed c.loop-size.invariant t c.take.ensures.ahead

pub take-requires-in-Ok-Packet : goal.take-requires-in-Ok-Packet
take-requires-in-Ok-Packet g c =
    let t = stepped_by c.step.result c.in-Ok-Packet.field-0 (step.Packet c.in-Ok-Packet.kept) c.step.ensures.ok c.in-Ok-Packet.is c.in-Ok-Packet.field-0-is c.ahead.ensures in
    packet_fits t

pub returns-in_err-recorded_lines-in-Ok-Packet-clause-err : goal.returns-in_err-recorded_lines-in-Ok-Packet-clause-err
returns-in_err-recorded_lines-in-Ok-Packet-clause-err g c =
    on_err_always c.from_residual.result (cut c.loop-size.invariant c.loop-size.intake [] (Consumes-nil c.loop-size.intake.left)
    (wrote_none c.loop-size.outlet c.loop-size.outlet c.loop-size.text.items refl))

pub loop-size-smaller-in_ok-write_large-in-Ok-Packet : goal.loop-size-smaller-in_ok-write_large-in-Ok-Packet
loop-size-smaller-in_ok-write_large-in-Ok-Packet g c =
    let t = stepped_by c.step.result c.in-Ok-Packet.field-0 (step.Packet c.in-Ok-Packet.kept) c.step.ensures.ok c.in-Ok-Packet.is c.in-Ok-Packet.field-0-is c.ahead.ensures in
    packet_shrinks c.loop-size.intake.calls t c.take-in-Ok-Packet.ensures.ahead

pub loop-size-preserved-in_ok-write_large-in-Ok-Packet : goal.loop-size-preserved-in_ok-write_large-in-Ok-Packet
loop-size-preserved-in_ok-write_large-in-Ok-Packet g c =
    let t = stepped_by c.step.result c.in-Ok-Packet.field-0 (step.Packet c.in-Ok-Packet.kept) c.step.ensures.ok c.in-Ok-Packet.is c.in-Ok-Packet.field-0-is c.ahead.ensures in
    let m = between_packet c.loop-size.invariant t c.take-in-Ok-Packet.ensures.ahead (c.taken.ensures ∙ c.take-in-Ok-Packet.ensures.taken) c.in_ok-recorded_lines-in-Ok-Packet.ensures.text in
    between_moved m c.in_ok-write_large-in-Ok-Packet.ensures.ok

pub returns-in_err-write_large-in-Ok-Packet-clause-err : goal.returns-in_err-write_large-in-Ok-Packet-clause-err
returns-in_err-write_large-in-Ok-Packet-clause-err g c =
    let t = stepped_by c.step.result c.in-Ok-Packet.field-0 (step.Packet c.in-Ok-Packet.kept) c.step.ensures.ok c.in-Ok-Packet.is c.in-Ok-Packet.field-0-is c.ahead.ensures in
    let m = between_packet c.loop-size.invariant t c.take-in-Ok-Packet.ensures.ahead (c.taken.ensures ∙ c.take-in-Ok-Packet.ensures.taken) c.in_ok-recorded_lines-in-Ok-Packet.ensures.text in
    on_err_always c.from_residual-in_err-write_large-in-Ok-Packet.result (cut m c.loop-size.intake [] (Consumes-nil c.loop-size.intake.left) c.in_err-write_large-in-Ok-Packet.ensures.err)

pub returns-in_err-flush-in-Ok-Wants-clause-err : goal.returns-in_err-flush-in-Ok-Wants-clause-err
returns-in_err-flush-in-Ok-Wants-clause-err g c =
    on_err_always c.from_residual-in_err-flush-in-Ok-Wants.result (cut c.loop-size.invariant c.loop-size.intake [] (Consumes-nil c.loop-size.intake.left) c.in_err-flush-in-Ok-Wants.ensures.err)

pub returns-in_err-gather-in-Ok-Wants-clause-err : goal.returns-in_err-gather-in-Ok-Wants-clause-err
returns-in_err-gather-in-Ok-Wants-clause-err g c =
    let moved = moved_all c.loop-size.outlet c.flush.new.outlet c.loop-size.text.items c.flush.new.text.items c.in_ok-flush-in-Ok-Wants.ensures.ok c.in_ok-flush-in-Ok-Wants.ensures.emptied c.in_ok-flush-in-Ok-Wants.ensures.fine in
    on_err_always c.from_residual-in_err-gather-in-Ok-Wants.result (stopped (between_moved c.loop-size.invariant moved) c.flush.new.outlet c.in_err-gather-in-Ok-Wants.ensures.err refl)

pub returns-then-not-branch-clause-ok : goal.returns-then-not-branch-clause-ok
returns-then-not-branch-clause-ok g c =
    let t = stepped_by c.step.result c.in-Ok-Wants.field-0 (step.Wants c.in-Ok-Wants.need) c.step.ensures.ok c.in-Ok-Wants.is c.in-Ok-Wants.field-0-is c.ahead.ensures in
    let moved = moved_all c.loop-size.outlet c.flush.new.outlet c.loop-size.text.items c.flush.new.text.items c.in_ok-flush-in-Ok-Wants.ensures.ok c.in_ok-flush-in-Ok-Wants.ensures.emptied c.in_ok-flush-in-Ok-Wants.ensures.fine in
    let b = brought_as c.in_ok-gather-in-Ok-Wants.field-0 false c.in_ok-gather-in-Ok-Wants.ensures.ok cc in
    (end_met (between_moved c.loop-size.invariant moved) c.end-then-not-branch.new.outlet c.end.result c.end-then-not-branch.result c.in_ok-flush-in-Ok-Wants.ensures.emptied t b c.end.ensures c.ahead-then-not-branch.ensures c.end-then-not-branch.ensures).0

pub returns-then-not-branch-clause-err : goal.returns-then-not-branch-clause-err
returns-then-not-branch-clause-err g c =
    let t = stepped_by c.step.result c.in-Ok-Wants.field-0 (step.Wants c.in-Ok-Wants.need) c.step.ensures.ok c.in-Ok-Wants.is c.in-Ok-Wants.field-0-is c.ahead.ensures in
    let moved = moved_all c.loop-size.outlet c.flush.new.outlet c.loop-size.text.items c.flush.new.text.items c.in_ok-flush-in-Ok-Wants.ensures.ok c.in_ok-flush-in-Ok-Wants.ensures.emptied c.in_ok-flush-in-Ok-Wants.ensures.fine in
    let b = brought_as c.in_ok-gather-in-Ok-Wants.field-0 false c.in_ok-gather-in-Ok-Wants.ensures.ok cc in
    (end_met (between_moved c.loop-size.invariant moved) c.end-then-not-branch.new.outlet c.end.result c.end-then-not-branch.result c.in_ok-flush-in-Ok-Wants.ensures.emptied t b c.end.ensures c.ahead-then-not-branch.ensures c.end-then-not-branch.ensures).1

pub loop-size-smaller : goal.loop-size-smaller
loop-size-smaller g c =
    let t = stepped_by c.step.result c.in-Ok-Wants.field-0 (step.Wants c.in-Ok-Wants.need) c.step.ensures.ok c.in-Ok-Wants.is c.in-Ok-Wants.field-0-is c.ahead.ensures in
    let b = brought_as c.in_ok-gather-in-Ok-Wants.field-0 true c.in_ok-gather-in-Ok-Wants.ensures.ok cc in
    brought_shrinks c.loop-size.invariant t b

pub loop-size-preserved : goal.loop-size-preserved
loop-size-preserved g c =
    let t = stepped_by c.step.result c.in-Ok-Wants.field-0 (step.Wants c.in-Ok-Wants.need) c.step.ensures.ok c.in-Ok-Wants.is c.in-Ok-Wants.field-0-is c.ahead.ensures in
    let moved = moved_all c.loop-size.outlet c.flush.new.outlet c.loop-size.text.items c.flush.new.text.items c.in_ok-flush-in-Ok-Wants.ensures.ok c.in_ok-flush-in-Ok-Wants.ensures.emptied c.in_ok-flush-in-Ok-Wants.ensures.fine in
    let b = brought_as c.in_ok-gather-in-Ok-Wants.field-0 true c.in_ok-gather-in-Ok-Wants.ensures.ok cc in
    between_stays (between_brought c.in-Ok-Wants.need true (between_moved c.loop-size.invariant moved) b) t

pub returns-in-Err-clause-ok : goal.returns-in-Err-clause-ok
returns-in-Err-clause-ok g c =
    let t = refused_by c.step.result c.in-Err.fault c.step.ensures.err c.in-Err.is c.ahead.ensures in
    (fault_told c.loop-size.invariant c.tell_fault.new.outlet c.in-Err.fault c.tell_fault.result t c.tell_fault.ensures).0

pub returns-in-Err-clause-err : goal.returns-in-Err-clause-err
returns-in-Err-clause-err g c =
    let t = refused_by c.step.result c.in-Err.fault c.step.ensures.err c.in-Err.is c.ahead.ensures in
    (fault_told c.loop-size.invariant c.tell_fault.new.outlet c.in-Err.fault c.tell_fault.result t c.tell_fault.ensures).1
