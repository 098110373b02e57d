use Rattle.ipx_plan.proofs.Sharing.{is_kept_at, closed_or_kept, opened_once, opened_anew, shared_alike}
use Rattle.ipx_plan.proofs.laws.cables.Goals as goal

pub returns-clause-shared : goal.returns-clause-shared
returns-clause-shared c = λ old new plan is k l a b there here other. shared_alike old new plan is k l a b there here other

pub returns-clause-kept : goal.returns-clause-kept
returns-clause-kept c = λ old new plan is j k link there has.
    let kept = is_kept_at old new plan is j k link there has in
    (kept.before, kept.there, kept.first, kept.on)

pub returns-clause-closed : goal.returns-clause-closed
returns-clause-closed c = λ old new plan is j before fate there first has. closed_or_kept old new plan is j before fate there first has

pub returns-clause-opened : goal.returns-clause-opened
returns-clause-opened c = λ old new plan is i k has. opened_once old new plan is i k has

pub returns-clause-anew : goal.returns-clause-anew
returns-clause-anew c = λ old new plan is i j k link before there has shared old_there. opened_anew old new plan is i j k link before there has shared old_there
