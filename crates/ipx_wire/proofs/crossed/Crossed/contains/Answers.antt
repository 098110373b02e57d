use Rattle.std.proofs.Common.{sym}
use Rattle.ipx_wire.proofs.Crossings.{among_at}
use Rattle.ipx_wire.proofs.crossed.Crossed.contains.Goals as goal

pub returns-then-get-network : goal.returns-then-get-network
returns-then-get-network c =
    sym (among_at c.args.network c.args.self.now c.loop-k.k c.get.result c.get.ensures c.if-get-network.true)
