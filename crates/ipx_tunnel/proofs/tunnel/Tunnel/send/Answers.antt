use Rattle.std.proofs.Common.{◌∙◌, sym, ap, filter, map, List}
use Rattle.ipx_wire.specs.declared.node.Node.{Node}
use Rattle.ipx_tunnel.specs.declared.setting.Setting.{Setting}
use Rattle.ipx_tunnel.specs.Receivers.{is_for}
use Rattle.ipx_tunnel.specs.Stands.{client_at}
use Rattle.ipx_tunnel.proofs.Standing.{clients_sent, seen}
use Rattle.ipx_tunnel.proofs.tunnel.Tunnel.send.Goals as goal

pub returns-clause-stands : goal.returns-clause-stands
returns-clause-stands g c = λ bytes h stands.
    let s = c.args.self.now.setting in
    stands ∙ ap (map (client_at s h)) (sym (clients_sent s c.args.to bytes h))

pub returns-clause-to : goal.returns-clause-to
returns-clause-to g c = λ bytes h stands.
    let s = c.args.self.now.setting in
    let meant = λ (setting : Setting) (places : List Node). filter (is_for c.args.to setting.node) places in
    c.put_receivers.ensures
    ∙ seen meant c.deref.result.now c.self.inside.clients.items c.self.inside.setting c.args.self.now h c.deref.ensures.0 c.self.view_is stands
    ∙ ap (meant s) (sym (clients_sent s c.args.to bytes h))
