use Rattle.ipx_capture.proofs.GivenBytes.{given_records}
use Rattle.ipx_capture.proofs.laws.of_any_source.Goals as goal

pub returns : goal.returns
returns g c = given_records g.S.Source.asked
