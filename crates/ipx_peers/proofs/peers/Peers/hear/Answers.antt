use Rattle.std.proofs.Common.{◌∙◌}
use Rattle.ipx_peers.proofs.Standing.{decides, after_hearing}
use Rattle.ipx_peers.proofs.peers.Peers.hear.Goals as goal

pub returns-clause-verdict : goal.returns-clause-verdict
returns-clause-verdict c = λ h stands. c.decide.ensures.verdict ∙ decides c.args.opened.now c.args.self.now h stands

pub returns-clause-stands : goal.returns-clause-stands
returns-clause-stands c = λ h stands. after_hearing c.args.opened.now c.args.self.now c.decide.new.self h stands c.decide.ensures.peers
