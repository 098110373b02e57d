use Rattle.ipx_segment.proofs.Finding.{reaches_heard, reaches_sent}
use Rattle.ipx_segment.proofs.laws.reaches.Goals as goal

pub returns-clause-heard : goal.returns-clause-heard
returns-clause-heard c = λ setting history node link last came source other forth counted.
    reaches_heard setting node link history last came source other forth counted

pub returns-clause-sent : goal.returns-clause-sent
returns-clause-sent c = λ setting history node link last. reaches_sent setting node link history last
