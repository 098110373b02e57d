use Rattle.std.proofs.Common.{[], refl, ap, ◌∙◌, Ok, Err, Some, None}
use Rattle.std.proofs.KnownBytes.{Consumes-nil}
use Rattle.ipx_capture.specs.Place.{place}
use Rattle.ipx_cmd.specs.Decoded.{CutOff, Decoded}
use Rattle.ipx_cmd.proofs.captures.HowARunEnds.{takes_of, cut, done, fault_ok, fault_err, wrote_none, on_err_always, on_err_all, if_ok_all}
use Rattle.ipx_cmd.proofs.captures.BetweenTwoRecords.{midway_start, midway_moved, midway_took, shrinks}
use Rattle.ipx_cmd.proofs.show.run.show_records.Goals as goal

pub loop-capture-init : goal.loop-capture-init
loop-capture-init g c =
    (midway_start c.requires.capture.0 (place c.args.capture.now) c.args.outlet.now c.args.text.now.items c.requires.capture.1 c.requires.text c.requires.outlet, refl)

pub returns-in_err-write_some-clause-err : goal.returns-in_err-write_some-clause-err
returns-in_err-write_some-clause-err g c =
    let now = place c.loop-capture.capture in
    on_err_always c.from_residual.result (λ before opened. cut opened c.loop-capture.invariant.0 now.input [] (Consumes-nil now.input.left) c.in_err-write_some.ensures.err)

pub returns-in_err-record_lines-in-Ok-Some-clause-err : goal.returns-in_err-record_lines-in-Ok-Some-clause-err
returns-in_err-record_lines-in-Ok-Some-clause-err g c =
    let now = place c.loop-capture.capture in
    let next = place c.next.follows.lender-at-none in
    let m = midway_moved c.loop-capture.invariant.0 c.in_ok-write_some.ensures.ok in
    let t = takes_of now next c.next.result (Ok (Some c.in-Ok-Some.captured)) c.loop-capture.invariant.0.goes_on c.next.follows.holds-at-none.0 (c.in-Ok-Some.is ∙ ap Ok c.in-Ok-Some.field-0-is) in
    on_err_always c.from_residual-in_err-record_lines-in-Ok-Some.result (λ before opened. cut opened m next.input t.more t.read
    (wrote_none c.write_some.new.outlet c.write_some.new.outlet c.write_some.new.text.items refl))

pub loop-capture-smaller : goal.loop-capture-smaller
loop-capture-smaller g c =
    let now = place c.loop-capture.capture in
    let next = place c.next.follows.lender-at-none in
    let t = takes_of now next c.next.result (Ok (Some c.in-Ok-Some.captured)) c.loop-capture.invariant.0.goes_on c.next.follows.holds-at-none.0 (c.in-Ok-Some.is ∙ ap Ok c.in-Ok-Some.field-0-is) in
    shrinks c.loop-capture.invariant.0 t

pub loop-capture-preserved : goal.loop-capture-preserved
loop-capture-preserved g c =
    let now = place c.loop-capture.capture in
    let next = place c.next.follows.lender-at-none in
    let m = midway_moved c.loop-capture.invariant.0 c.in_ok-write_some.ensures.ok in
    let t = takes_of now next c.next.result (Ok (Some c.in-Ok-Some.captured)) c.loop-capture.invariant.0.goes_on c.next.follows.holds-at-none.0 (c.in-Ok-Some.is ∙ ap Ok c.in-Ok-Some.field-0-is) in
    (midway_took m t c.in_ok-record_lines-in-Ok-Some.ensures.text, c.next.follows.holds-at-none.1 ∙ c.loop-capture.invariant.1)

pub returns-in_err-flush-in-Ok-None-clause-err : goal.returns-in_err-flush-in-Ok-None-clause-err
returns-in_err-flush-in-Ok-None-clause-err g c =
    let now = place c.loop-capture.capture in
    let next = place c.next.follows.lender-at-none in
    let m = midway_moved c.loop-capture.invariant.0 c.in_ok-write_some.ensures.ok in
    let t = takes_of now next c.next.result (Ok None) c.loop-capture.invariant.0.goes_on c.next.follows.holds-at-none.0 (c.in-Ok-None.is ∙ ap Ok c.in-Ok-None.field-0-is) in
    on_err_always c.from_residual-in_err-flush-in-Ok-None.result (λ before opened. cut opened m next.input t.more t.read c.in_err-flush-in-Ok-None.ensures.err)

pub returns-in-Ok-None-clause-ok : goal.returns-in-Ok-None-clause-ok
returns-in-Ok-None-clause-ok g c = λ before opened.
    let now = place c.loop-capture.capture in
    let next = place c.next.follows.lender-at-none in
    let m = midway_moved c.loop-capture.invariant.0 c.in_ok-write_some.ensures.ok in
    let t = takes_of now next c.next.result (Ok None) c.loop-capture.invariant.0.goes_on c.next.follows.holds-at-none.0 (c.in-Ok-None.is ∙ ap Ok c.in-Ok-None.field-0-is) in
    done opened m t c.in_ok-flush-in-Ok-None.ensures.ok

pub returns-in-Err-clause-ok : goal.returns-in-Err-clause-ok
returns-in-Err-clause-ok g c =
    let now = place c.loop-capture.capture in
    let next = place c.next.follows.lender-at-none in
    let m = midway_moved c.loop-capture.invariant.0 c.in_ok-write_some.ensures.ok in
    let t = takes_of now next c.next.result (Err c.in-Err.fault) c.loop-capture.invariant.0.goes_on c.next.follows.holds-at-none.0 c.in-Err.is in
    if_ok_all (λ before ended. Decoded before next.input c.args.outlet.now c.refused.new.outlet ended) c.refused.result (λ before opened.
    fault_ok opened m c.refused.new.outlet c.in-Err.fault c.refused.result t c.refused.ensures)

pub returns-in-Err-clause-err : goal.returns-in-Err-clause-err
returns-in-Err-clause-err g c =
    let now = place c.loop-capture.capture in
    let next = place c.next.follows.lender-at-none in
    let m = midway_moved c.loop-capture.invariant.0 c.in_ok-write_some.ensures.ok in
    let t = takes_of now next c.next.result (Err c.in-Err.fault) c.loop-capture.invariant.0.goes_on c.next.follows.holds-at-none.0 c.in-Err.is in
    on_err_all (λ before. CutOff before next.input c.args.outlet.now c.refused.new.outlet) c.refused.result (λ before opened.
    fault_err opened m c.refused.new.outlet c.in-Err.fault c.refused.result t c.refused.ensures)
