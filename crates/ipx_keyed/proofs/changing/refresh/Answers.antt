use Rattle.std.proofs.Common.{◌∙◌, sym}
use Rattle.ipx_tunnel.proofs.Lists.{mapped_more}
use Rattle.ipx_keyed.proofs.Staying.{all_same}
use Rattle.ipx_keyed.proofs.changing.refresh.Goals as goal

pub returns-then-not-prolongs : goal.returns-then-not-prolongs
returns-then-not-prolongs c =
    sym (all_same c.args.from c.args.said (sym c.prolongs.ensures ∙ c.if-not-prolongs.true) c.args.clients.now)

pub loop-client-preserved : goal.loop-client-preserved
loop-client-preserved c = mapped_more c.loop-client.invariant c.loop-client-test.true _ _ c.refreshed.ensures
