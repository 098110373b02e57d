use Rattle.ipx_settings.proofs.ListsAgain.{sockets_again, allow_again, trust_again}
use Rattle.ipx_settings.proofs.laws.lists_are_read_again.Goals as goal

pub returns-clause-sockets : goal.returns-clause-sockets
returns-clause-sockets c = sockets_again

pub returns-clause-allowed : goal.returns-clause-allowed
returns-clause-allowed c = allow_again

pub returns-clause-trusted : goal.returns-clause-trusted
returns-clause-trusted c = trust_again
