use Rattle.std.proofs.Common.{◌∙◌, sym, subst, ◌+◌, arith}
use Rattle.ipx_plan.proofs.Ports.{Compared, other_port, within_new, compared_more, compared_same, all_compared}
use Rattle.ipx_plan.proofs.routing.keeps_router.Goals as goal
use Rattle.ipx_plan.proofs.routing.keeps_router.Goals.{then-old-j+else-not-is_port_like, else-old-j}

pub returns-then-not-is_port_like : goal.returns-then-not-is_port_like
returns-then-not-is_port_like c =
    sym (other_port c.args.old.now c.args.new.now c.loop-j.j c.loop-j.k c.loop-j.invariant.rest c.loop-j.invariant.first c.loop-j-test.true c.if-old-j.true
    (sym c.is_port_like.ensures ∙ c.if-not-is_port_like.true))

pub next_port-k-requires-then-old-j : goal.next_port-k-requires-then-old-j
next_port-k-requires-then-old-j c =
    omega (
      arith,
      within_new c.args.old.now c.args.new.now c.loop-j.j c.loop-j.k c.loop-j.invariant.rest c.loop-j.invariant.first c.loop-j-test.true c.if-old-j.true
          (sym c.is_port_like.ensures ∙ c.if-not-is_port_like.false),
    )

pub loop-j-preserved : goal.loop-j-preserved
loop-j-preserved c = elim c.if-old-j.branch [
  | then-old-j+else-not-is_port_like w ↦
      subst (Compared c.args.old.now c.args.new.now (c.loop-j.j + 1)) (sym w.k-is)
      (compared_more c.args.old.now c.args.new.now c.loop-j.j c.loop-j.k w.next_port-k-then-old-j.result c.loop-j.invariant c.loop-j-test.true w.if-old-j.true
      (sym w.is_port_like.ensures ∙ w.if-not-is_port_like.false) w.next_port-k-then-old-j.ensures)
  | else-old-j w ↦
      subst (Compared c.args.old.now c.args.new.now (c.loop-j.j + 1)) (sym w.k-is)
      (compared_same c.args.old.now c.args.new.now c.loop-j.j c.loop-j.k c.loop-j.invariant c.loop-j-test.true w.if-old-j.false)
]

pub returns : goal.returns
returns c =
    all_compared c.args.old.now c.args.new.now c.loop-j.j c.loop-j.k c.loop-j.invariant.rest c.loop-j.invariant.first
    (omega (arith, c.loop-j-test.false)) c.loop-j.invariant.within
