use Rattle.ipx_cmd.proofs.acts.SecondsOfALine.{none_yet, one_more, cut_short}
use Rattle.ipx_cmd.proofs.texts.event_text.pass.Goals as goal

pub loop-passed-init : goal.loop-passed-init
loop-passed-init g c = none_yet c.args.router.now c.args.outlet.now c.args.text.now.items c.requires

pub loop-passed-preserved : goal.loop-passed-preserved
loop-passed-preserved g c =
    one_more c.args.router.now c.loop-passed.router c.happen.new.router c.args.outlet.now c.loop-passed.outlet c.happen.new.outlet
    c.args.text.now.items c.loop-passed.text.items c.happen.new.text.items c.loop-passed._passed c.loop-passed.invariant
    c.happen.ensures.ports c.in_default.ensures.fine c.in_default.ensures.stands c.in_default.ensures.says

pub returns-in-Err-clause-says : goal.returns-in-Err-clause-says
returns-in-Err-clause-says g c =
    cut_short c.args.router.now c.loop-passed.router c.args.outlet.now c.loop-passed.outlet c.happen.new.outlet
    c.args.text.now.items c.loop-passed.text.items c.happen.new.text.items c.loop-passed._passed c.args.count c.in-Err.fault
    c.loop-passed.invariant c.loop-passed-test.true c.in-Err.ensures.says
