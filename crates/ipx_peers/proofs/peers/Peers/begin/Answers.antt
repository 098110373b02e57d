use Rattle.std.proofs.Common.{rules, ◌≡◌, length}
use Rattle.ipx_peers.proofs.Standing.{after_beginning}
use Rattle.ipx_peers.proofs.peers.Peers.begin.Goals as goal

pub returns : goal.returns
returns c =
    let all : length c.args.self.now.places ≡ 64 = search rules in
    record { stands = λ h. after_beginning c.args.session c.args.self.now.places c.empty_all.new.places h all c.empty_all.ensures }
