use Rattle.std.proofs.Common.{rules, ◌≡◌, ◌<◌, ◌≤◌, arith, length, length-take}
use Rattle.ipx_cmd.specs.WroteFront.{IsFaultOf}
use Rattle.ipx_cmd.specs.declared.ended.Ended.TheVariants.{Done}
use Rattle.ipx_cmd.proofs.cuts.BetweenTwoPieces.{fault_at_end, fault_in_piece, given_up_at_end, given_up_at_read, given_up_in_piece, known_now, played_bad, played_end, script_more, script_start, so_far, still_fine}
use Rattle.ipx_cmd.proofs.cuts.WhyAStretchEnds.{on_ok_always}
use Rattle.ipx_cmd.proofs.cuts.WaysOut.{err_by, if_err, if_ok, no_read, on_err, on_err_always}
use Rattle.ipx_cmd.proofs.play.play_script.Goals as goal

pub loop-count-init : goal.loop-count-init
loop-count-init g c =
    let p = c.new-player.result in
    script_start g.M.Act.acts g.M.Act.stands c.args.machine p.machine p.number p.pending.items c.args.intake.now c.args.outlet.now c.new-text.result.items c.requires.known
    c.new-player.ensures.machine c.new-player.ensures.number c.new-player.ensures.pending c.new-text.ensures.items c.requires.intake c.requires.outlet

pub returns-in_default-clause-err : goal.returns-in_default-clause-err
returns-in_default-clause-err g c = given_up_at_read c.loop-count.invariant c.in_default.ensures.err

pub returns-in_default-clause-read : goal.returns-in_default-clause-read
returns-in_default-clause-read g c = λ is. so_far c.loop-count.invariant c.in_default.ensures.err

pub play_end-requires-clause-line : goal.play_end-requires-clause-line
play_end-requires-clause-line g c = c.loop-count.invariant.line

pub play_end-requires-clause-known : goal.play_end-requires-clause-known
play_end-requires-clause-known g c = known_now c.loop-count.invariant

pub play_end-requires-clause-outlet : goal.play_end-requires-clause-outlet
play_end-requires-clause-outlet g c = c.loop-count.invariant.fine_out

pub returns-then-count-eq0-clause-ok : goal.returns-then-count-eq0-clause-ok
returns-then-count-eq0-clause-ok g c =
    let zero : c.in-Ok.count ≡ 0 = search rules in
    let room : length c.ask.new.piece ≡ 8192 = search rules in
    let some : 0 < length c.ask.new.piece = omega (arith, room) in
    if_ok c.play_end.result c.play_end.ensures.completed (λ ended completed. played_end c.loop-count.invariant c.in-Ok.ensures.ok zero some completed)

pub returns-then-count-eq0-clause-err : goal.returns-then-count-eq0-clause-err
returns-then-count-eq0-clause-err g c =
    let zero : c.in-Ok.count ≡ 0 = search rules in
    let room : length c.ask.new.piece ≡ 8192 = search rules in
    let some : 0 < length c.ask.new.piece = omega (arith, room) in
    on_err c.play_end.result c.play_end.ensures.unfinished (λ why unfinished. given_up_at_end c.loop-count.invariant c.in-Ok.ensures.ok zero some unfinished)

pub returns-then-count-eq0-clause-read : goal.returns-then-count-eq0-clause-read
returns-then-count-eq0-clause-read g c = λ is state at.
    let fault = fault_at_end c.loop-count.invariant c.in-Ok.ensures.ok (rw is at c.play_end.ensures.unfinished) state at in
    let fine = still_fine c.loop-count.invariant c.in-Ok.ensures.ok in
    absurd cc

pub returns-then-count-eq0-clause-fault : goal.returns-then-count-eq0-clause-fault
returns-then-count-eq0-clause-fault g c =
    if_err c.play_end.result c.play_end.ensures.unfinished (λ why unfinished. fault_at_end c.loop-count.invariant c.in-Ok.ensures.ok unfinished)

pub returns-then-count-eq0-clause-fine_intake : goal.returns-then-count-eq0-clause-fine_intake
returns-then-count-eq0-clause-fine_intake g c = on_ok_always c.play_end.result (still_fine c.loop-count.invariant c.in-Ok.ensures.ok)

pub play_piece-requires-clause-line : goal.play_piece-requires-clause-line
play_piece-requires-clause-line g c = c.loop-count.invariant.line

pub play_piece-requires-clause-known : goal.play_piece-requires-clause-known
play_piece-requires-clause-known g c = known_now c.loop-count.invariant

pub play_piece-requires-clause-number : goal.play_piece-requires-clause-number
play_piece-requires-clause-number g c =
    let room : length c.ask.new.piece ≡ 8192 = search rules in
    omega (arith, c.loop-count.invariant.few, room, length-take c.in-Ok.count c.ask.new.piece)

pub play_piece-requires-clause-outlet : goal.play_piece-requires-clause-outlet
play_piece-requires-clause-outlet g c = c.loop-count.invariant.fine_out

pub returns-in_err-play_piece-clause-err : goal.returns-in_err-play_piece-clause-err
returns-in_err-play_piece-clause-err g c =
    on_err_always c.from_residual.result (given_up_in_piece c.loop-count.invariant c.in-Ok.ensures.ok c.in_err-play_piece.ensures.gave_up)

pub returns-in_err-play_piece-clause-read : goal.returns-in_err-play_piece-clause-read
returns-in_err-play_piece-clause-read g c = λ is state at.
    no_read c.ask.new.intake.failed c.play_piece.new.outlet.failed c.in_err-play_piece.field-0.0 c.from_residual.result c.from_residual.ensures.1
    (fault_in_piece c.loop-count.invariant c.in-Ok.ensures.ok c.in_err-play_piece.ensures.gave_up state at) (still_fine c.loop-count.invariant c.in-Ok.ensures.ok) is

pub returns-in_err-play_piece-clause-fault : goal.returns-in_err-play_piece-clause-fault
returns-in_err-play_piece-clause-fault g c =
    err_by (λ why. (state : g.M.Act.State) → g.M.Act.stands c.args.machine state → IsFaultOf c.ask.new.intake.failed c.play_piece.new.outlet.failed why)
    c.in_err-play_piece.field-0.0 c.from_residual.result c.from_residual.ensures.1
    (fault_in_piece c.loop-count.invariant c.in-Ok.ensures.ok c.in_err-play_piece.ensures.gave_up)

pub returns-in-BadInput-clause-ok : goal.returns-in-BadInput-clause-ok
returns-in-BadInput-clause-ok g c = played_bad c.loop-count.invariant c.in-Ok.ensures.ok (rw c.in-BadInput.is at c.in_ok-play_piece.ensures.passed)

pub returns-in-BadInput-clause-fine_intake : goal.returns-in-BadInput-clause-fine_intake
returns-in-BadInput-clause-fine_intake g c = still_fine c.loop-count.invariant c.in-Ok.ensures.ok

pub loop-count-preserved : goal.loop-count-preserved
loop-count-preserved g c =
    let room : length c.ask.new.piece ≡ 8192 = search rules in
    let most : length c.ask.new.piece ≤ 8192 = omega (arith, room) in
    let ended : c.in_ok-play_piece.field-0 ≡ Done = search rules in
    let passed = rw ended at c.in_ok-play_piece.ensures.passed in
    script_more c.loop-count.invariant c.in-Ok.ensures.ok most c.ask.ensures.calls (λ state at. (passed state at).0) (c.in_ok-play_piece.ensures.line ended)
    c.in_ok-play_piece.ensures.emptied c.in_ok-play_piece.ensures.fine c.play_piece.ensures.number
