use Rattle.std.proofs.Common.{rules, not, ◌==◌}
use Rattle.arrayvec.proofs.ArrayVecLemmas.{filter-from_retain}
use Rattle.ipx_segment.specs.declared.station.Station.{Station}
use Rattle.ipx_segment.proofs.learning.remove_all.Goals as goal

pub returns : goal.returns
returns g c = filter-from_retain _ (λ (s : Station). not (s.link == c.args.link)) _ (λ x b f' y called. search rules) _ _ c.retain.ensures.filtered
