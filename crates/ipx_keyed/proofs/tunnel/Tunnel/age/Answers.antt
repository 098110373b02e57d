use Rattle.std.proofs.Common.{rules, ◌∙◌, ap, map, filter}
use Rattle.arrayvec.proofs.ArrayVecLemmas.{filter-from_retain}
use Rattle.ipx_tunnel.proofs.Lists.{refilled}
use Rattle.ipx_keyed.specs.Members.{later, stays}
use Rattle.ipx_keyed.specs.Stands.{State}
use Rattle.ipx_keyed.proofs.tunnel.Tunnel.age.Goals as goal

pub returns-clause-waiting : goal.returns-clause-waiting
returns-clause-waiting g c =
    refilled later _ _ _ c.deref_mut.ensures.value c.pass.ensures
    ∙ ap (map later) (filter-from_retain _ stays _ (λ x b f' y called. search rules) _ _ c.retain.ensures.filtered)
    ∙ ap (λ (v : State). map later (filter stays v.tables.waiting)) c.self.view_is
