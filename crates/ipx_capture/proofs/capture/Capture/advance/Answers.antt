use Rattle.std.proofs.Common.{ℕ, ◌+◌, refl, subst, Option, Some, None, Ok, Err}
use Rattle.ipx_capture.specs.Place.{Place, place}
use Rattle.ipx_capture.specs.inside.Taking.{Took}
use Rattle.ipx_capture.specs.declared.standing.Standing.TheVariants.{Ended, Broken}
use Rattle.ipx_capture.proofs.Taken.{takes, few_taken, room_taken, nexts_open}
use Rattle.ipx_capture.proofs.capture.Capture.advance.Goals as goal

pub invariant_of-self : goal.invariant_of-self
invariant_of-self g c =
    let old = c.args.self.now in
    let w = c.take_record.new.window in
    let after = c.take_record.new.intake in
    let took = subst (λ (o : Option ℕ). Took g.S.Source.asked old.order old.window w old.intake.now after (Ok o)) c.in-Ok-Some.field-0-is c.in-Ok-Some.ensures.took in
    record {
      few = λ _. few_taken g.S.Source.asked old.order old.window w old.intake.now after c.in-Ok-Some.wire old.taken took (old.few c.in-Open.is);
      bounded = λ _. took.gained.bounded (old.bounded c.in-Open.is);
      room = room_taken g.S.Source.asked old.order old.window w old.intake.now after (Ok (Some c.in-Ok-Some.wire)) took old.room;
      fine = λ _. (took.gives 0).2;
    }

pub returns-in-Ok-Some-clause-by : goal.returns-in-Ok-Some-clause-by
returns-in-Ok-Some-clause-by g c = λ is.
    let old = c.args.self.now in
    let w = c.take_record.new.window in
    let after = c.take_record.new.intake in
    let new : Place = record { order = old.order; taken = old.taken + 1; ahead = w.ahead; memory = w.memory; standing = old.standing; input = after } in
    let took = subst (λ (o : Option ℕ). Took g.S.Source.asked old.order old.window w old.intake.now after (Ok o)) c.in-Ok-Some.field-0-is c.in-Ok-Some.ensures.took in
    takes g.S.Source.asked (place old) new old.window w (old.taken + 1) (Ok (Some c.in-Ok-Some.wire)) took refl refl old.room.1 refl refl refl refl refl is c.in-Ok-Some.ensures.still

pub returns-in-Ok-None-clause-by : goal.returns-in-Ok-None-clause-by
returns-in-Ok-None-clause-by g c = λ is.
    let old = c.args.self.now in
    let w = c.take_record.new.window in
    let after = c.take_record.new.intake in
    let new : Place = record { order = old.order; taken = old.taken; ahead = w.ahead; memory = w.memory; standing = Ended; input = after } in
    let took = subst (λ (o : Option ℕ). Took g.S.Source.asked old.order old.window w old.intake.now after (Ok o)) c.in-Ok-None.field-0-is c.in-Ok-None.ensures.took in
    takes g.S.Source.asked (place old) new old.window w (old.taken + 1) (Ok None) took refl refl old.room.1 refl refl refl refl refl refl c.in-Ok-None.ensures.still

pub returns-in-Err-clause-by : goal.returns-in-Err-clause-by
returns-in-Err-clause-by g c = λ is.
    let old = c.args.self.now in
    let w = c.take_record.new.window in
    let after = c.take_record.new.intake in
    let new : Place = record { order = old.order; taken = old.taken; ahead = w.ahead; memory = w.memory; standing = Broken c.in-Err.fault; input = after } in
    takes g.S.Source.asked (place old) new old.window w (old.taken + 1) (Err c.in-Err.fault) c.in-Err.ensures.took refl refl old.room.1 refl refl refl refl refl refl c.in-Err.ensures.still

pub returns-in-Ok-Some-clause-after : goal.returns-in-Ok-Some-clause-after
returns-in-Ok-Some-clause-after g c = nexts_open _ _ _ c.in-Open.is (returns-in-Ok-Some-clause-by g c c.in-Open.is).takes

pub returns-in-Ok-None-clause-after : goal.returns-in-Ok-None-clause-after
returns-in-Ok-None-clause-after g c = nexts_open _ _ _ c.in-Open.is (returns-in-Ok-None-clause-by g c c.in-Open.is).takes

pub returns-in-Err-clause-after : goal.returns-in-Err-clause-after
returns-in-Err-clause-after g c = nexts_open _ _ _ c.in-Open.is (returns-in-Err-clause-by g c c.in-Open.is).takes
