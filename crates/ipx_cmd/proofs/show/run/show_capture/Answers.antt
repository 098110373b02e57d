use Rattle.std.proofs.Common.{◌∙◌, sym, rules}
use Rattle.ipx_capture.specs.Place.{place}
use Rattle.ipx_cmd.specs.Decoded.{CutOff, Decoded}
use Rattle.ipx_cmd.specs.inside.Recording.{HasRead}
use Rattle.ipx_cmd.proofs.captures.HowARunEnds.{header_exit, header_fault_is, few_calls, opened_by, ok_opened, err_opened, other_input, other_input_cut, if_ok_all, on_err_all}
use Rattle.ipx_cmd.proofs.show.run.show_capture.Goals as goal

pub begun-capture-requires-clause-bounded : goal.begun-capture-requires-clause-bounded
begun-capture-requires-clause-bounded g c =
    few_calls c.requires.front.0 c.args.intake.now c.args.front.now c.in-Ok.order c.requires.front.1 (sym c.in-Ok.is ∙ c.file_order.ensures)

pub show_records-answer-requires-clause-capture : goal.show_records-answer-requires-clause-capture
show_records-answer-requires-clause-capture g c =
    (c.requires.front.0, opened_by c.requires.front.0 c.args.intake.now c.args.front.now c.in-Ok.order (place c.begun-capture.result) c.requires.front.1 c.requires.intake (sym c.in-Ok.is ∙ c.file_order.ensures) c.begun-capture.ensures.place)

pub returns-in-Ok-clause-ok : goal.returns-in-Ok-clause-ok
returns-in-Ok-clause-ok g c =
    ok_opened c.show_records-answer.result (place c.begun-capture.result)
    (λ before ended. Decoded before (place c.show_records-answer.new.capture).input c.args.outlet.now c.show_records-answer.new.outlet ended) _
    (λ before. HasRead before c.args.intake.now c.args.front.now)
    (λ before h. opened_by before c.args.intake.now c.args.front.now c.in-Ok.order (place c.begun-capture.result) h c.requires.intake (sym c.in-Ok.is ∙ c.file_order.ensures) c.begun-capture.ensures.place)
    (λ before ended d. search (rules, other_input))
    c.show_records-answer.ensures.ok

pub returns-in-Ok-clause-err : goal.returns-in-Ok-clause-err
returns-in-Ok-clause-err g c =
    err_opened c.show_records-answer.result (place c.begun-capture.result)
    (λ before. CutOff before (place c.show_records-answer.new.capture).input c.args.outlet.now c.show_records-answer.new.outlet) _
    (λ before. HasRead before c.args.intake.now c.args.front.now)
    (λ before h. opened_by before c.args.intake.now c.args.front.now c.in-Ok.order (place c.begun-capture.result) h c.requires.intake (sym c.in-Ok.is ∙ c.file_order.ensures) c.begun-capture.ensures.place)
    (λ before d. search (rules, other_input_cut))
    c.show_records-answer.ensures.err

pub returns-clause-ok : goal.returns-clause-ok
returns-clause-ok g c =
    if_ok_all (λ before ended. Decoded before c.args.intake.now c.args.outlet.now c.refused.new.outlet ended) c.refused.result (λ before h.
    (header_exit before c.args.intake.now c.args.outlet.now c.refused.new.outlet c.args.front.now c.new-text.result.items c.in-Err.fault c.refused.result h c.requires.capture
    (sym c.file_order.ensures ∙ c.in-Err.is) c.new-text.ensures.items c.refused.ensures).0)

pub returns-clause-err : goal.returns-clause-err
returns-clause-err g c =
    on_err_all (λ before. CutOff before c.args.intake.now c.args.outlet.now c.refused.new.outlet) c.refused.result (λ before h.
    (header_exit before c.args.intake.now c.args.outlet.now c.refused.new.outlet c.args.front.now c.new-text.result.items c.in-Err.fault c.refused.result h c.requires.capture
    (sym c.file_order.ensures ∙ c.in-Err.is) c.new-text.ensures.items c.refused.ensures).1)

pub returns-clause-fault : goal.returns-clause-fault
returns-clause-fault g c =
    header_fault_is c.args.intake.now c.args.front.now c.in-Err.fault c.args.outlet.now c.refused.new.outlet c.new-text.result.items c.refused.result
    (sym c.file_order.ensures ∙ c.in-Err.is) c.requires.intake c.refused.ensures
