use Rattle.std.proofs.Common.{arith}
use Rattle.ipx_cmd.proofs.acts.EventsOneAfterAnother.{all_seconds, nothing_happened, second_more}
use Rattle.ipx_cmd.proofs.texts.internet_text.pass_one.Goals as goal

pub loop-router-init : goal.loop-router-init
loop-router-init c = nothing_happened c.args.internet.now

pub loop-router-preserved : goal.loop-router-preserved
loop-router-preserved c =
    second_more c.args.internet.now c.loop-router.internet c.event.new.self c.loop-router.router c.loop-router.invariant c.event.ensures.net c.in-Ok.ensures.stands

pub returns : goal.returns
returns c =
    let all = all_seconds c.args.internet.now c.loop-router.internet c.loop-router.router (omega (arith, c.loop-router.auto.router-end, c.len-router-end.ensures.value))
    (omega (arith, c.loop-router-test.false, c.len-router-end.ensures.value)) c.loop-router.invariant in
    record { net = all.net; stands = all.stands; fault = tt }
