use Rattle.std.proofs.Common.{sym, arith}
use Rattle.ipx_edge.proofs.Nearer.{one_nearer}
use Rattle.ipx_edge.proofs.nearest.are_no_nearer.Goals as goal

pub returns-then-entry-hops : goal.returns-then-entry-hops
returns-then-entry-hops c = sym (one_nearer c.args.hops c.loop-k.k c.args.entries.now c.entry.result c.entry.ensures (omega arith))
