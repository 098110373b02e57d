use Rattle.ipx_fair.proofs.Served.{one_queues, one_left}
use Rattle.ipx_fair.proofs.laws.one_way.Goals as goal

pub returns : goal.returns
returns c = λ time old a b l m s t. (one_queues time old a b l m s t, one_left time old a b l m s t (one_queues time old a b l m s t))
