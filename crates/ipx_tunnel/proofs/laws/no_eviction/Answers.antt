use Rattle.ipx_tunnel.proofs.Clients.{stays_through}
use Rattle.ipx_tunnel.proofs.Heard.{answers_there, speaks_there, own_alone}
use Rattle.ipx_tunnel.proofs.Silence.{client_left}
use Rattle.ipx_tunnel.proofs.laws.no_eviction.Goals as goal

pub returns-clause-answers : goal.returns-clause-answers
returns-clause-answers c = λ setting history place events client all.
    stays_through setting place events history client (answers_there setting place events history all)

pub returns-clause-trusted : goal.returns-clause-trusted
returns-clause-trusted c = λ setting history place events client all each.
    stays_through setting place events history client (speaks_there setting place events history all each)

pub returns-clause-stays : goal.returns-clause-stays
returns-clause-stays c = λ setting history place events client all. stays_through setting place events history client all

pub returns-clause-own : goal.returns-clause-own
returns-clause-own c = λ setting history place. own_alone setting place history

pub returns-clause-left : goal.returns-clause-left
returns-clause-left c = λ setting history place client. client_left setting place history client
