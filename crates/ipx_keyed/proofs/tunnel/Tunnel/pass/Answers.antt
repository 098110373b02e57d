use Rattle.std.proofs.Common.{rules, ◌∙◌, ap, map, filter}
use Rattle.arrayvec.proofs.ArrayVecLemmas.{filter-from_retain}
use Rattle.ipx_tunnel.proofs.Lists.{refilled}
use Rattle.ipx_keyed.specs.Members.{later, stays}
use Rattle.ipx_keyed.specs.Stands.{State}
use Rattle.ipx_keyed.proofs.tunnel.Tunnel.pass.Goals as goal

pub returns-clause-clients : goal.returns-clause-clients
returns-clause-clients g c =
    filter-from_retain _ stays _ (λ x b f' y called. search rules) _ _ c.retain.ensures.filtered
    ∙ ap (filter stays) (refilled later _ _ _ c.deref_mut.ensures.value c.pass.ensures)
    ∙ ap (λ (v : State). filter stays (map later v.tables.clients)) c.self.view_is
