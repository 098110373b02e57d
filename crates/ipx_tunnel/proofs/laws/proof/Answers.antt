use Rattle.ipx_tunnel.specs.Clients.{is_there, clients}
use Rattle.ipx_tunnel.proofs.Heard.{proved}
use Rattle.ipx_tunnel.proofs.Members.{each_among}
use Rattle.ipx_tunnel.proofs.Standing.{each_there}
use Rattle.ipx_tunnel.proofs.laws.proof.Goals as goal

pub returns : goal.returns
returns c = λ setting history place client.
    proved setting place history
    (each_among (λ p. is_there setting p history) place (clients setting history) (each_there setting history) client)
