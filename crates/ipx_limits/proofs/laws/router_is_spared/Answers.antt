use Rattle.ipx_limits.specs.Limits.{of_clients}
use Rattle.ipx_limits.specs.Deciding.{is_question, is_told}
use Rattle.ipx_limits.specs.Metered.{any}
use Rattle.ipx_limits.proofs.Limited.{at_most_of, handed_runs, asked_runs, told_runs}
use Rattle.ipx_limits.proofs.laws.router_is_spared.Goals as goal

pub returns-clause-packets : goal.returns-clause-packets
returns-clause-packets c = λ limits clients old new events run fits.
    at_most_of limits.handed old.account.handed new.account.handed any events (handed_runs limits clients old new events run) fits

pub returns-clause-questions : goal.returns-clause-questions
returns-clause-questions c = λ limits clients old new events run fits.
    at_most_of (of_clients clients limits.questions) old.address.asked new.address.asked is_question events (asked_runs limits clients old new events run) fits

pub returns-clause-advertisements : goal.returns-clause-advertisements
returns-clause-advertisements c = λ limits clients old new events run fits.
    at_most_of limits.advertisements old.account.advertised new.account.advertised is_told events (told_runs limits clients old new events run) fits
