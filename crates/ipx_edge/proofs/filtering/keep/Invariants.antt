use Rattle.ipx_edge.specs.inside.Verdict.{size_of, passes_of, Keeps}
use Rattle.ipx_edge.proofs.filtering.keep.Given as goal

abbrev pub invariant-loop-k : goal.invariant-loop-k
invariant-loop-k l = Keeps (passes_of l.way l.rules l.listed) (size_of l.listed) l.k l.fn.bytes l.bytes l.from l.to
