use Rattle.std.proofs.Common.{◌≡◌, ◌∙◌, ap, subst, arith, ◌-◌, length}
use Rattle.ipx_fair.specs.declared.tally.Tally.{Tally}
use Rattle.ipx_fair.specs.Serving.{Passed}
use Rattle.ipx_fair.specs.Tallies.{state_of}
use Rattle.ipx_fair.specs.Keeping.{IsKept}
use Rattle.ipx_fair.proofs.Queues.{length-lowered}
use Rattle.ipx_fair.proofs.Kept.{passed_kept}
use Rattle.ipx_fair.proofs.Agreed.{begun_state, agrees_begun}
use Rattle.ipx_fair.proofs.serving.pass.Goals as goal

pub returns-then-tally-gt-MOST_SERVED-clause-held : goal.returns-then-tally-gt-MOST_SERVED-clause-held
returns-then-tally-gt-MOST_SERVED-clause-held c =
    let t = c.args.tally.now in
    let m = c.advance.new.tally in
    let n = c.begin_anew.new.tally in
    let ends = c.args.ends.now in
    let same = begun_state m n ends c.begin_anew.new.ends c.begin_anew.ensures.tally c.begin_anew.ensures.ends in
    let kept = passed_kept c.args.nanoseconds (state_of t ends) (state_of m ends) c.requires.kept c.advance.ensures.passed in
    let setting : n.setting ≡ t.setting = ap (λ (x : Tally). x.setting) c.begin_anew.ensures.tally ∙ c.advance.ensures.passed.setting in
    let served : n.served ≡ 0 = ap (λ (x : Tally). x.served) c.begin_anew.ensures.tally in
    let latest : n.latest ≡ m.latest - m.served = ap (λ (x : Tally). x.latest) c.begin_anew.ensures.tally in
    let long : length c.begin_anew.new.ends ≡ length ends = ap length c.begin_anew.ensures.ends ∙ length-lowered m.served ends in
    record {
      agrees = agrees_begun m n ends c.begin_anew.new.ends c.advance.ensures.agrees c.begin_anew.ensures.tally c.begin_anew.ensures.ends;
      kept = subst IsKept same kept;
      small = record {
        own = rw setting c.requires.small.own;
        reserve = rw setting c.requires.small.reserve;
        room = rw setting c.requires.small.room;
        speakers = omega (arith, long, c.requires.small.speakers);
        served = omega (arith, served);
        latest = omega (arith, latest, c.advance.ensures.latest, c.requires.small.latest);
      };
    }

pub returns-then-tally-gt-MOST_SERVED-clause-passed : goal.returns-then-tally-gt-MOST_SERVED-clause-passed
returns-then-tally-gt-MOST_SERVED-clause-passed c =
    let t = c.args.tally.now in
    let same = begun_state c.advance.new.tally c.begin_anew.new.tally c.args.ends.now c.begin_anew.new.ends c.begin_anew.ensures.tally c.begin_anew.ensures.ends in
    subst (Passed c.args.nanoseconds (state_of t c.args.ends.now)) same c.advance.ensures.passed

pub returns-else-tally-gt-MOST_SERVED-clause-held : goal.returns-else-tally-gt-MOST_SERVED-clause-held
returns-else-tally-gt-MOST_SERVED-clause-held c =
    let t = c.args.tally.now in
    let n = c.advance.new.tally in
    let setting = c.advance.ensures.passed.setting in
    record {
      agrees = c.advance.ensures.agrees;
      kept = passed_kept c.args.nanoseconds (state_of t c.args.ends.now) (state_of n c.args.ends.now) c.requires.kept c.advance.ensures.passed;
      small = record {
        own = rw setting c.requires.small.own;
        reserve = rw setting c.requires.small.reserve;
        room = rw setting c.requires.small.room;
        speakers = c.requires.small.speakers;
        served = omega arith;
        latest = rw c.advance.ensures.latest c.requires.small.latest;
      };
    }
