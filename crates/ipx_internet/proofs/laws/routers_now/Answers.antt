use Rattle.ipx_internet.proofs.laws.routers_now.Goals as goal
use Rattle.ipx_internet.proofs.trees.RoutersAsTreesSee.{after_histories}

pub returns : goal.returns
returns c most_routes most_services m q stands = after_histories most_routes most_services m q stands
