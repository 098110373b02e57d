use Rattle.ipx_tunnel.proofs.Extended.{copied_once}
use Rattle.ipx_tunnel.proofs.laws.once.Goals as goal

pub returns : goal.returns
returns c = λ from to other sockets named bytes is ordinary different. copied_once from to other sockets named bytes is ordinary different
