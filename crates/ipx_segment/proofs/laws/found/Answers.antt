use Rattle.ipx_segment.proofs.Finding.{known_now, found_heard, found_sent}
use Rattle.ipx_segment.proofs.laws.found.Goals as goal

pub returns-clause-known : goal.returns-clause-known
returns-clause-known c = λ setting history node link last known recent. known_now setting node link history last known recent

pub returns-clause-heard : goal.returns-clause-heard
returns-clause-heard c = λ setting history node link last came source known recent other counted.
    found_heard setting node link history last came source known recent other counted

pub returns-clause-sent : goal.returns-clause-sent
returns-clause-sent c = λ setting history node link last known recent. found_sent setting node link history last known recent
