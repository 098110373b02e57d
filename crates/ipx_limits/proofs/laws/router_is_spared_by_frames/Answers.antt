use Rattle.ipx_limits.specs.Deciding.{is_question, is_told}
use Rattle.ipx_limits.proofs.Limited.{at_most_of}
use Rattle.ipx_limits.proofs.OfFrames.{frames_asked_runs, frames_told_runs}
use Rattle.ipx_limits.proofs.laws.router_is_spared_by_frames.Goals as goal

pub returns-clause-questions : goal.returns-clause-questions
returns-clause-questions c = λ limits old new events run fits.
    at_most_of limits.questions old.asked new.asked is_question events (frames_asked_runs limits old new events run) fits

pub returns-clause-advertisements : goal.returns-clause-advertisements
returns-clause-advertisements c = λ limits old new events run fits.
    at_most_of limits.advertisements old.advertised new.advertised is_told events (frames_told_runs limits old new events run) fits
