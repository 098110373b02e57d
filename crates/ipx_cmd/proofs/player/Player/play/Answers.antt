use Rattle.std.proofs.Common.{ℕ, List, ◌≡◌, ◌+◌, ◌++◌, ◌∷◌, arith, length, length-append, ap}
use Rattle.std.proofs.lemmas.List.Elements.{All-append}
use Rattle.ipx_cmd.specs.Lines.{line_feed}
use Rattle.ipx_cmd.proofs.cuts.LinesOfBytes.{not_feed}
use Rattle.ipx_cmd.proofs.cuts.WhyAStretchEnds.{on_ok_always, mid_end, mid_kept, mid_line, mid_off, mid_start}
use Rattle.ipx_cmd.proofs.cuts.WaysOut.{err_by}
use Rattle.ipx_cmd.proofs.player.Player.play.Goals as goal

pub loop-front-init : goal.loop-front-init
loop-front-init g c = mid_start g.M.Act.acts g.M.Act.stands c.args.self.now.machine c.args.self.now.number c.args.self.now.pending.items c.args.piece.now c.args.outlet.now
    c.args.text.now.items c.requires.line c.requires.outlet

pub end_line-requires-clause-line : goal.end_line-requires-clause-line
end_line-requires-clause-line g c = c.loop-front.invariant.line

-- a line and its line feed are at the front of what is left
abbrev taken : (rest front behind : List ℕ) → rest ≡ front ++ line_feed ∷ behind → length rest ≡ length front + 1 + length behind
taken rest front behind split = omega (arith, ap length split, length-append front (line_feed ∷ behind))

pub end_line-requires-clause-number : goal.end_line-requires-clause-number
end_line-requires-clause-number g c = omega (arith, c.loop-front.invariant.bound, c.requires.number, taken c.loop-front.rest.now c.in-Some.front.now c.in-Some.behind.now c.in-Some.ensures.1)

pub end_line-requires-clause-outlet : goal.end_line-requires-clause-outlet
end_line-requires-clause-outlet g c = c.loop-front.invariant.fine

pub returns-in_err-end_line-clause-number : goal.returns-in_err-end_line-clause-number
returns-in_err-end_line-clause-number g c =
    omega (arith, c.loop-front.invariant.bound, c.end_line.ensures.number, taken c.loop-front.rest.now c.in-Some.front.now c.in-Some.behind.now c.in-Some.ensures.1)

pub returns-in_err-end_line-clause-off : goal.returns-in_err-end_line-clause-off
returns-in_err-end_line-clause-off g c =
    let new = c.end_line.new in
    err_by _ c.in_err-end_line.field-0.0 c.from_residual.result c.from_residual.ensures.1
    (mid_off c.loop-front.invariant c.in-Some.front.now c.in-Some.behind.now c.in-Some.ensures.1 new.outlet new.text.items new.self.number c.in_err-end_line.field-0.0
    c.in_err-end_line.ensures.off)

pub loop-front-smaller : goal.loop-front-smaller
loop-front-smaller g c = omega (arith, taken c.loop-front.rest.now c.in-Some.front.now c.in-Some.behind.now c.in-Some.ensures.1)

pub loop-front-preserved : goal.loop-front-preserved
loop-front-preserved g c =
    rw c.in_ok-end_line.ensures.line (mid_line c.loop-front.invariant c.in-Some.front.now c.in-Some.behind.now c.in-Some.ensures.1 c.in_ok-end_line.ensures.went
    c.end_line.ensures.number c.in_ok-end_line.ensures.fine)

pub keep-requires-clause-line : goal.keep-requires-clause-line
keep-requires-clause-line g c = c.loop-front.invariant.line

pub returns-clause-number : goal.returns-clause-number
returns-clause-number g c = omega (arith, c.keep.ensures.number, c.loop-front.invariant.bound)

pub returns-clause-fine : goal.returns-clause-fine
returns-clause-fine g c = on_ok_always c.keep.result c.loop-front.invariant.fine

pub returns-clause-went : goal.returns-clause-went
returns-clause-went g c =
    mid_end c.loop-front.invariant c.keep.new.self.pending.items c.keep.result c.keep.ensures.machine c.keep.ensures.number c.keep.ensures.kept c.keep.ensures.line

pub returns-clause-off : goal.returns-clause-off
returns-clause-off g c =
    let l = c.loop-front in
    mid_kept l.invariant c.keep.result (All-append not_feed l.self.pending.items l.rest.now l.invariant.line.one c.in_default.ensures) c.keep.ensures.number c.keep.ensures.refused
