use Rattle.std.proofs.Common.{[], ◌∷◌}
use Rattle.std.proofs.lemmas.Result.{err_from_is_err_and}
use Rattle.ipx_router.specs.Happened.{happened}
use Rattle.ipx_cmd.specs.EventText.{events_text}
use Rattle.ipx_cmd.proofs.written.TextOfEvents.{event_written}
use Rattle.ipx_cmd.proofs.written.AddedOneAfterAnother.{says_memory}
use Rattle.ipx_cmd.proofs.texts.event_text.happen.Goals as goal

pub returns-clause-says : goal.returns-clause-says
returns-clause-says g c = λ h stands.
    let ports = c.args.router.now.ports in
    let event = happened c.args.event in
    c.write_much.ensures.says c.args.text.now.items (events_text ports h (event ∷ []))
    (event_written ports h event c.in_ok-outcome.outcome c.clear.new.self.sent c.step.new.outbox.sent c.args.text.now.items c.write_event.new.text.items
    c.clear.ensures.sent (c.in_ok-outcome.ensures.sends h stands) (c.in_ok-outcome.ensures.outcome h stands) c.in_ok-write_event.ensures.text)

pub returns-in_err-write_event-clause-says : goal.returns-in_err-write_event-clause-says
returns-in_err-write_event-clause-says g c =
    let p = err_from_is_err_and c.from_residual-in_err-write_event.result c.from_residual-in_err-write_event.ensures.1 in
    rw (p.1, p.2) (λ h stands. says_memory c.args.outlet.now c.args.text.now.items c.write_event.new.text.items _ c.requires.outlet)
