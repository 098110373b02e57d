use Rattle.ipx_cable.proofs.InTime.{all_in_time}
use Rattle.ipx_cable.proofs.laws.all_go_in_time.Goals as goal

pub returns : goal.returns
returns c = λ start count between now later history shown all_shown left end. all_in_time start count between now later history shown all_shown left end
