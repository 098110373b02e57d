use Rattle.std.proofs.Common.{◌≡◌, ◌+◌, ap, ◌∙◌, arith, subst}
use Rattle.std.proofs.lemmas.Result.{err_from_is_err_and}
use Rattle.ipx_capture.specs.Reads.{Gathered}
use Rattle.ipx_capture.specs.Records.{kept_count, wire_count}
use Rattle.ipx_capture.proofs.First.{none_ahead, some_bytes}
use Rattle.ipx_capture.proofs.Taken.{took_lost_header, took_end, took_cut_header, took_long, took_lost, took_cut, took_whole}
use Rattle.ipx_capture.proofs.taking.take_record.Goals as goal

pub returns-in_err-gather-clause-took : goal.returns-in_err-gather-clause-took
returns-in_err-gather-clause-took g c =
    let p = err_from_is_err_and c.from_residual.result c.from_residual.ensures.1 in
    rw (p.1, p.2) (took_lost_header g.S.Source.asked c.args.order c.args.window.now c.gather.new.self c.args.intake.now c.gather.new.intake _ c.in_err-gather.ensures.err
    c.gather.ensures.memory c.requires.room c.in_err-gather.ensures.refused)

pub returns-then-is_empty-clause-took : goal.returns-then-is_empty-clause-took
returns-then-is_empty-clause-took g c =
    let now = c.gather.new.self in
    let gathered = subst (λ b. Gathered g.S.Source.asked c.args.window.now.ahead now.ahead c.args.intake.now c.gather.new.intake 16 b) c.if-not-branch.true c.in_ok-gather.ensures.ok in
    took_end g.S.Source.asked c.args.order c.args.window.now now c.args.intake.now c.gather.new.intake gathered c.requires.fine c.gather.ensures.memory
    (none_ahead c.ahead.result.now now.ahead c.ahead.ensures c.if-is_empty.ensures)

pub returns-then-not-branch-clause-took : goal.returns-then-not-branch-clause-took
returns-then-not-branch-clause-took g c =
    let now = c.gather.new.self in
    let gathered = subst (λ b. Gathered g.S.Source.asked c.args.window.now.ahead now.ahead c.args.intake.now c.gather.new.intake 16 b) c.if-not-branch.true c.in_ok-gather.ensures.ok in
    took_cut_header g.S.Source.asked c.args.order c.args.window.now now c.args.intake.now c.gather.new.intake gathered c.requires.fine c.gather.ensures.memory
    (some_bytes c.ahead.result.now now.ahead c.ahead.ensures c.if-is_empty.ensures)

pub returns-then-kept-gt-LONGEST-clause-took : goal.returns-then-kept-gt-LONGEST-clause-took
returns-then-kept-gt-LONGEST-clause-took g c =
    let now = c.gather.new.self in
    let gathered = subst (λ b. Gathered g.S.Source.asked c.args.window.now.ahead now.ahead c.args.intake.now c.gather.new.intake 16 b) c.if-not-branch.false c.in_ok-gather.ensures.ok in
    let kept : c.u32_at-kept.result ≡ kept_count c.args.order now.ahead = c.u32_at-kept.ensures ∙ ap (kept_count c.args.order) c.ahead-2.ensures in
    took_long g.S.Source.asked c.args.order c.args.window.now now c.args.intake.now c.gather.new.intake gathered c.requires.fine c.gather.ensures.memory (omega (arith, kept))

pub returns-in_err-gather-2-clause-took : goal.returns-in_err-gather-2-clause-took
returns-in_err-gather-2-clause-took g c =
    let one = c.gather.new.self in
    let kept = c.u32_at-kept.result in
    let first = subst (λ b. Gathered g.S.Source.asked c.args.window.now.ahead one.ahead c.args.intake.now c.gather.new.intake 16 b) c.if-not-branch.false c.in_ok-gather.ensures.ok in
    let is : kept ≡ kept_count c.args.order one.ahead = c.u32_at-kept.ensures ∙ ap (kept_count c.args.order) c.ahead-2.ensures in
    let p = err_from_is_err_and c.from_residual-in_err-gather-2.result c.from_residual-in_err-gather-2.ensures.1 in
    rw (p.1, p.2) (took_lost g.S.Source.asked c.args.order c.args.window.now one c.gather-2.new.self c.args.intake.now c.gather.new.intake c.gather-2.new.intake kept _ first
    c.in_err-gather-2.ensures.err is (omega arith) c.gather.ensures.memory c.gather-2.ensures.memory c.in_err-gather-2.ensures.refused)

pub returns-then-not-branch-2-clause-took : goal.returns-then-not-branch-2-clause-took
returns-then-not-branch-2-clause-took g c =
    let one = c.gather.new.self in
    let now = c.gather-2.new.self in
    let kept = c.u32_at-kept.result in
    let first = subst (λ b. Gathered g.S.Source.asked c.args.window.now.ahead one.ahead c.args.intake.now c.gather.new.intake 16 b) c.if-not-branch.false c.in_ok-gather.ensures.ok in
    let second = subst (λ b. Gathered g.S.Source.asked one.ahead now.ahead c.gather.new.intake c.gather-2.new.intake (16 + kept) b) c.if-not-branch-2.true c.in_ok-gather-2.ensures.ok in
    let is : kept ≡ kept_count c.args.order one.ahead = c.u32_at-kept.ensures ∙ ap (kept_count c.args.order) c.ahead-2.ensures in
    took_cut g.S.Source.asked c.args.order c.args.window.now one now c.args.intake.now c.gather.new.intake c.gather-2.new.intake kept first second c.requires.fine is (omega arith)
    c.gather.ensures.memory c.gather-2.ensures.memory

pub returns-clause-took : goal.returns-clause-took
returns-clause-took g c =
    let one = c.gather.new.self in
    let now = c.gather-2.new.self in
    let kept = c.u32_at-kept.result in
    let first = subst (λ b. Gathered g.S.Source.asked c.args.window.now.ahead one.ahead c.args.intake.now c.gather.new.intake 16 b) c.if-not-branch.false c.in_ok-gather.ensures.ok in
    let second = subst (λ b. Gathered g.S.Source.asked one.ahead now.ahead c.gather.new.intake c.gather-2.new.intake (16 + kept) b) c.if-not-branch-2.false c.in_ok-gather-2.ensures.ok in
    let is : kept ≡ kept_count c.args.order one.ahead = c.u32_at-kept.ensures ∙ ap (kept_count c.args.order) c.ahead-2.ensures in
    let wired : c.u32_at-wire.result ≡ wire_count c.args.order one.ahead = c.u32_at-wire.ensures ∙ ap (wire_count c.args.order) c.ahead-3.ensures in
    took_whole g.S.Source.asked c.args.order c.args.window.now one now c.take.new.self c.args.intake.now c.gather.new.intake c.gather-2.new.intake kept c.u32_at-wire.result first second
    c.requires.fine is wired (omega arith) c.take.ensures.taken c.take.ensures.ahead c.gather.ensures.memory c.gather-2.ensures.memory c.take.ensures.memory
