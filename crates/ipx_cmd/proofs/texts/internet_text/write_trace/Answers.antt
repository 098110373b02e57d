use Rattle.std.proofs.Common.{arith}
use Rattle.ipx_internet.specs.Traced.{traced}
use Rattle.ipx_cmd.proofs.written.TextOfAnInternet.{copies_added, copy_cut, copy_more, no_copies}
use Rattle.ipx_cmd.proofs.texts.internet_text.write_trace.Goals as goal

pub loop-number-init : goal.loop-number-init
loop-number-init g c = no_copies c.args.trace.now.receptions c.args.outlet.now c.args.text.now.items c.requires

pub loop-number-preserved : goal.loop-number-preserved
loop-number-preserved g c =
    copy_more c.args.trace.now.receptions c.args.outlet.now c.loop-number.outlet c.write_reception.new.outlet c.args.text.now.items c.loop-number.text.items
    c.write_reception.new.text.items c.loop-number.number (traced c.get.result) c.get.ensures c.loop-number.invariant c.in_default.ensures.fine c.in_default.ensures.says

pub returns-in-Err : goal.returns-in-Err
returns-in-Err g c = record {
  fine = tt;
  says = copy_cut c.args.trace.now.receptions c.args.outlet.now c.loop-number.outlet c.write_reception.new.outlet c.args.text.now.items c.loop-number.text.items
      c.write_reception.new.text.items c.loop-number.number (traced c.get.result) c.in-Err.fault c.get.ensures c.loop-number.invariant c.in-Err.ensures.says;
}

pub returns : goal.returns
returns g c = record {
  fine = c.loop-number.invariant.fine;
  says = copies_added c.args.trace.now.receptions c.args.outlet.now c.loop-number.outlet c.args.text.now.items c.loop-number.text.items c.loop-number.number
      (omega (arith, c.loop-number-test.false, c.len-number-end.ensures)) c.loop-number.invariant;
}
