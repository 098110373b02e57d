use Rattle.ipx_peers.proofs.Standing.{after_second}
use Rattle.ipx_peers.proofs.peers.Peers.second.Goals as goal

pub returns : goal.returns
returns c = λ h stands. after_second c.args.self.now c.pass.new.places h stands c.pass.ensures
