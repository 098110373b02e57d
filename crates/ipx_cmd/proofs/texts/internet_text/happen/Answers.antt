use Rattle.std.proofs.Common.{ap, ◌++◌, ◌∙◌}
use Rattle.ipx_router.specs.Happened.{happened}
use Rattle.ipx_internet.specs.Moment.{net_at}
use Rattle.ipx_router.specs.declared.outcome.Outcome.{Outcome}
use Rattle.ipx_cmd.specs.EventText.{reason}
use Rattle.ipx_cmd.specs.InternetMachine.{event_said}
use Rattle.ipx_cmd.specs.InternetText.{dropped_text}
use Rattle.ipx_cmd.proofs.acts.EventsOneAfterAnother.{where_ok}
use Rattle.ipx_cmd.proofs.texts.internet_text.happen.Goals as goal

pub returns-in_ok-write_dropped-in-Ok-clause-stands : goal.returns-in_ok-write_dropped-in-Ok-clause-stands
returns-in_ok-write_dropped-in-Ok-clause-stands g c = where_ok c.write_much.result c.in-Ok.ensures.stands

pub returns-in_ok-write_dropped-in-Ok-clause-says : goal.returns-in_ok-write_dropped-in-Ok-clause-says
returns-in_ok-write_dropped-in-Ok-clause-says g c = λ q stands.
    c.write_much.ensures.says c.args.text.now.items (event_said (net_at c.args.internet.now) q c.args.router (happened c.args.event))
    (c.in_ok-write_dropped-in-Ok.ensures.text ∙ ap (λ (o : Outcome). c.args.text.now.items ++ dropped_text (reason o)) (c.in-Ok.ensures.outcome q stands))
