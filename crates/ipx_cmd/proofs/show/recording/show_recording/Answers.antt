use Rattle.std.proofs.Common.{sym}
use Rattle.ipx_cmd.specs.Decoded.{CutOff, Decoded}
use Rattle.ipx_cmd.proofs.captures.HowARunEnds.{if_ok_all, on_err_all}
use Rattle.ipx_cmd.proofs.recordings.HowARecordingEnds.{calls_bounded, header_refused, packets_shown}
use Rattle.ipx_cmd.proofs.show.recording.show_recording.Goals as goal

pub show_packets-requires-clause-bounded : goal.show_packets-requires-clause-bounded
show_packets-requires-clause-bounded g c =
    calls_bounded c.requires.front.1 c.requires.recording c.in-Ok.recording (sym c.in-Ok.ensures.ok)

pub returns-in-Ok-clause-ok : goal.returns-in-Ok-clause-ok
returns-in-Ok-clause-ok g c =
    if_ok_all (λ before ended. Decoded before c.show_packets.new.intake c.args.outlet.now c.show_packets.new.outlet ended) c.show_packets.result (λ before h.
    (packets_shown h c.requires.recording c.in-Ok.recording c.show_packets.new.intake c.args.outlet.now c.show_packets.new.outlet c.show_packets.result (sym c.in-Ok.ensures.ok)
    c.show_packets.ensures.ok c.show_packets.ensures.err).0)

pub returns-in-Ok-clause-err : goal.returns-in-Ok-clause-err
returns-in-Ok-clause-err g c =
    on_err_all (λ before. CutOff before c.show_packets.new.intake c.args.outlet.now c.show_packets.new.outlet) c.show_packets.result (λ before h.
    (packets_shown h c.requires.recording c.in-Ok.recording c.show_packets.new.intake c.args.outlet.now c.show_packets.new.outlet c.show_packets.result (sym c.in-Ok.ensures.ok)
    c.show_packets.ensures.ok c.show_packets.ensures.err).1)

pub returns-clause-ok : goal.returns-clause-ok
returns-clause-ok g c =
    if_ok_all (λ before ended. Decoded before c.args.intake.now c.args.outlet.now c.tell_fault.new.outlet ended) c.tell_fault.result (λ before h.
    (header_refused h c.requires.recording c.args.outlet.now c.tell_fault.new.outlet c.new-text.result.items c.in-Err.fault c.tell_fault.result (sym c.in-Err.ensures.err)
    c.new-text.ensures.items c.tell_fault.ensures).0)

pub returns-clause-err : goal.returns-clause-err
returns-clause-err g c =
    on_err_all (λ before. CutOff before c.args.intake.now c.args.outlet.now c.tell_fault.new.outlet) c.tell_fault.result (λ before h.
    (header_refused h c.requires.recording c.args.outlet.now c.tell_fault.new.outlet c.new-text.result.items c.in-Err.fault c.tell_fault.result (sym c.in-Err.ensures.err)
    c.new-text.ensures.items c.tell_fault.ensures).1)
