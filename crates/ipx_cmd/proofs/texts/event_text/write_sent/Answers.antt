use Rattle.std.proofs.Common.{arith}
use Rattle.ipx_cmd.specs.EventText.{sent_text}
use Rattle.ipx_cmd.proofs.captures.HowARunEnds.{on_err_always}
use Rattle.ipx_cmd.proofs.written.GrowsByItems.{listed_full, listed_more}
use Rattle.ipx_cmd.proofs.texts.event_text.write_sent.Goals as goal

pub loop-place-preserved : goal.loop-place-preserved
unfolding sent_text
loop-place-preserved c = (
  listed_more sent_text c.args.outbox.now.sent c.loop-place.place _ _ _ _ c.get-sent.ensures c.loop-place.invariant.0 c.in_ok-out_line.ensures.text,
  omega (arith, c.loop-place.invariant.1, c.in_ok-out_line.ensures.kept),
)

pub returns-in_err-out_line-clause-room : goal.returns-in_err-out_line-clause-room
unfolding sent_text
returns-in_err-out_line-clause-room c =
    on_err_always c.from_residual.result
    (listed_full sent_text c.args.outbox.now.sent c.loop-place.place _ _ _ _ _ c.get-sent.ensures c.loop-place.invariant.0 c.loop-place.invariant.1 c.in_err-out_line.ensures.room)
