use Rattle.ipx_keyed.proofs.Heard.{each_heard, each_left, ends, none_later}
use Rattle.ipx_keyed.proofs.laws.proof.Goals as goal

pub returns-clause-proved : goal.returns-clause-proved
returns-clause-proved c = λ setting history. each_heard setting history

pub returns-clause-left : goal.returns-clause-left
returns-clause-left c = λ setting history. each_left setting history

pub returns-clause-ends : goal.returns-clause-ends
returns-clause-ends c = λ setting history from bytes place node before after. ends setting history from bytes place node before after

pub returns-clause-datagrams : goal.returns-clause-datagrams
returns-clause-datagrams c = λ setting history to place node bytes none. (none_later setting history place node none, none)
