use Rattle.std.proofs.Common.{rules, ◌∙◌, ap, filter}
use Rattle.arrayvec.proofs.ArrayVecLemmas.{filter-from_retain}
use Rattle.ipx_segment.specs.Stations.{later, stays}
use Rattle.ipx_segment.proofs.Lists.{refilled}
use Rattle.ipx_segment.proofs.learning.pass.Goals as goal

pub returns : goal.returns
returns g c =
    filter-from_retain _ stays _ (λ x b f' y called. search rules) _ _ c.retain.ensures.filtered
    ∙ ap (filter stays) (refilled later _ _ _ c.deref_mut.ensures.value c.age.ensures)
