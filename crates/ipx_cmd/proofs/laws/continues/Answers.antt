use Rattle.ipx_cmd.proofs.captures.BytesBehindACapture.{continues}
use Rattle.ipx_cmd.proofs.cuts.BytesBehindLines.{internet_continues, script_continues}
use Rattle.ipx_cmd.proofs.laws.continues.Goals as goal

pub returns-clause-capture : goal.returns-clause-capture
returns-clause-capture c = continues

pub returns-clause-script : goal.returns-clause-script
returns-clause-script c = script_continues

pub returns-clause-internet : goal.returns-clause-internet
returns-clause-internet c = internet_continues
