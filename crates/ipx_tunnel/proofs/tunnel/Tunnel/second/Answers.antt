use Rattle.std.proofs.Common.{◌∙◌, ap, map, filter, not, List, ◌∷◌}
use Rattle.ipx_wire.specs.declared.network.Network.{Network}
use Rattle.ipx_tunnel.specs.declared.client.Client.{Client}
use Rattle.ipx_tunnel.specs.declared.setting.Setting.{Setting}
use Rattle.ipx_tunnel.specs.Events.{Second}
use Rattle.ipx_tunnel.specs.Own.{ping_to, own}
use Rattle.ipx_tunnel.specs.Stands.{State}
use Rattle.ipx_tunnel.specs.inside.Kept.{places_of, later, stays, pings_now}
use Rattle.ipx_tunnel.proofs.Standing.{left_second, pings_second, stands_later}
use Rattle.ipx_tunnel.proofs.tunnel.Tunnel.second.Goals as goal

pub returns-clause-stands : goal.returns-clause-stands
returns-clause-stands g c = λ h stands. stands_later c.args.self.now c.pass.new.self h c.pass.ensures.setting c.pass.ensures.clients stands

pub returns-clause-pings : goal.returns-clause-pings
returns-clause-pings g c = λ h stands.
    let pings = λ (network : Network) (clients : List Client). map (λ client. ping_to network client.place client.cookie) (filter pings_now clients) in
    let after = c.pass.new.self in
    c.put_pings.ensures
    ∙ ap (pings _) c.deref.ensures.0
    ∙ ap (λ (v : State). pings v.setting.network v.clients) c.self.view_is
    ∙ ap (pings after.setting.network) (stands_later c.args.self.now after h c.pass.ensures.setting c.pass.ensures.clients stands)
    ∙ pings_second after.setting h
    ∙ ap (λ (s : Setting). own s (Second ∷ h)) c.pass.ensures.setting

pub returns-clause-left : goal.returns-clause-left
returns-clause-left g c = λ h stands.
    c.pass.ensures.left
    ∙ ap (λ (l : List Client). places_of (filter (λ client. not (stays client)) (map later l))) stands
    ∙ left_second c.args.self.now.setting h
