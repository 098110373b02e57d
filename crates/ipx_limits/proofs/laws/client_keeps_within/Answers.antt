use Rattle.ipx_limits.specs.Metered.{pings_of, questions_of, answers_to, pages_to, uses_of}
use Rattle.ipx_limits.proofs.Limited.{at_most}
use Rattle.ipx_limits.proofs.OneClient.{client_pings, client_asks, client_answered, client_paged}
use Rattle.ipx_limits.proofs.laws.client_keeps_within.Goals as goal

pub returns-clause-pings : goal.returns-clause-pings
returns-clause-pings c = λ limits old new events run fits.
    at_most limits.pings old.pinged new.pinged (uses_of pings_of events) (client_pings limits old new events run) fits

pub returns-clause-questions : goal.returns-clause-questions
returns-clause-questions c = λ limits old new events run fits.
    at_most limits.questions old.asked new.asked (uses_of questions_of events) (client_asks limits old new events run) fits

pub returns-clause-answers : goal.returns-clause-answers
returns-clause-answers c = λ limits old new events run fits.
    at_most limits.answers old.answered new.answered (uses_of answers_to events) (client_answered limits old new events run) fits

pub returns-clause-pages : goal.returns-clause-pages
returns-clause-pages c = λ limits old new events run fits.
    at_most limits.pages old.paged new.paged (uses_of pages_to events) (client_paged limits old new events run) fits
