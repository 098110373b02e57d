use Rattle.std.proofs.Common.{◌∙◌, arith, ◌+◌, ◌≤◌, length}
use Rattle.ipx_edge.specs.inside.Verdict.{size_of, passes_of}
use Rattle.ipx_edge.proofs.Fitting.{piece_room}
use Rattle.ipx_edge.proofs.Keeping.{start, loses, holds_there, moves_down, some_size}
use Rattle.ipx_edge.proofs.filtering.keep.Goals as goal
use Rattle.ipx_edge.proofs.filtering.keep.Goals.{then-passes, then-to-from, else-to-from, else-passes}

pub loop-k-init : goal.loop-k-init
loop-k-init c = start (passes_of c.args.way c.args.rules.now c.args.listed) (size_of c.args.listed) c.args.bytes.now

pub loop-k-preserved : goal.loop-k-preserved
loop-k-preserved c =
    let l = c.loop-k in
    let passes = passes_of c.args.way c.args.rules.now c.args.listed in
    let size = size_of c.args.listed in
    let n = c.size-size.result in
    let wide : l.from + n ≤ length l.bytes =
    omega (arith, piece_room size l.k c.args.count (length c.args.bytes.now) c.loop-k-test.true c.requires, l.invariant.from_is, l.invariant.long, c.size-size.ensures) in
    elim c.if-passes.branch [
      | then-passes w ↦ elim w.if-to-from.branch [
        | then-to-from v ↦ moves_down passes size l.k c.args.bytes.now l.bytes l.from l.to l.invariant n c.size-size.ensures wide c.passes.result c.passes.ensures (some_size c.args.listed)
            w.if-passes.true v.if-to-from.true c.if-passes.bytes c.if-passes.to (w.bytes-is ∙ v.bytes-is ∙ v.move_down.ensures) w.to-is
        | else-to-from v ↦ holds_there passes size l.k c.args.bytes.now l.bytes l.from l.to l.invariant n c.size-size.ensures wide c.passes.result c.passes.ensures (some_size c.args.listed)
            w.if-passes.true v.if-to-from.false c.if-passes.bytes c.if-passes.to (w.bytes-is ∙ v.bytes-is) w.to-is
      ]
      | else-passes w ↦ loses passes size l.k c.args.bytes.now l.bytes l.from l.to l.invariant n c.size-size.ensures wide c.passes.result c.passes.ensures
          (some_size c.args.listed) w.if-passes.false c.if-passes.bytes c.if-passes.to w.bytes-is w.to-is
    ]
