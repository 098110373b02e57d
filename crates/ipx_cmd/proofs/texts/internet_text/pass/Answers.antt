use Rattle.ipx_cmd.proofs.acts.EventsOneAfterAnother.{all_rounds, nothing_happened, round_more}
use Rattle.ipx_cmd.proofs.texts.internet_text.pass.Goals as goal

pub loop-passed-init : goal.loop-passed-init
loop-passed-init c = nothing_happened c.args.internet.now

pub loop-passed-preserved : goal.loop-passed-preserved
loop-passed-preserved c =
    round_more c.args.internet.now c.loop-passed.internet c.pass_one.new.internet c.loop-passed._passed c.loop-passed.invariant c.pass_one.ensures.net c.in_ok-pass_one.ensures.stands

pub returns : goal.returns
returns c =
    let all = all_rounds c.args.internet.now c.loop-passed.internet c.args.count c.loop-passed._passed c.loop-passed.auto._passed-end c.loop-passed-test.false c.loop-passed.invariant in
    record { net = all.net; stands = all.stands; fault = tt }
