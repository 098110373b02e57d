use Rattle.std.proofs.Common.{◌≡◌, ◌∙◌, ap, ◌∷◌}
use Rattle.ipx_tunnel.specs.Events.{History, Datagram}
use Rattle.ipx_tunnel.specs.Says.{said}
use Rattle.ipx_tunnel.specs.Clients.{lasts_by}
use Rattle.ipx_tunnel.specs.Own.{own_for}
use Rattle.ipx_tunnel.specs.Receivers.{to_for, is_heard_of}
use Rattle.ipx_tunnel.specs.Stands.{State, Stands}
use Rattle.ipx_tunnel.proofs.Standing.{stands_after, seen_before}
use Rattle.ipx_tunnel.proofs.tunnel.Tunnel.hear.Given.{Over}
use Rattle.ipx_tunnel.proofs.tunnel.Tunnel.hear.Goals as goal

says : (g : Over) (c : goal.After-of g) → c.said-said.result ≡ said c.args.self.now.setting.network c.args.from c.args.bytes.now
says g c = c.said-said.ensures ∙ ap (λ (v : State). said v.setting.network c.args.from c.args.bytes.now) c.self.view_is

after : (g : Over) (c : goal.After-of g) (h : History) → Stands c.args.self.now h → Stands c.admit.new.self (Datagram c.args.from c.args.bytes.now ∷ h)
after g c h stands =
    stands_after c.args.self.now c.admit.new.self c.args.from c.args.bytes.now h c.lasts.result c.admit.ensures.setting
    (c.lasts.ensures ∙ ap (lasts_by c.args.from.is_trusted) (says g c)) c.admit.ensures.clients stands

pub returns-clause-stands : goal.returns-clause-stands
returns-clause-stands g c = λ h stands. after g c h stands

pub returns-clause-said : goal.returns-clause-said
returns-clause-said g c = c.of.ensures.said ∙ says g c

pub returns-clause-own : goal.returns-clause-own
returns-clause-own g c = λ h stands.
    let event = Datagram c.args.from c.args.bytes.now in
    c.of.ensures.own
    ∙ seen_before (λ setting places. own_for setting places c.args.from c.said-said.result) c.deref.result.now c.self-2.inside.clients.items c.self-2.inside.setting
    c.admit.new.self (event ∷ h) c.args.self.now.setting c.deref.ensures.0 c.self-2.view_is c.admit.ensures.setting (after g c h stands)
    ∙ ap (own_for c.args.self.now.setting _ c.args.from) (says g c)

pub returns-clause-to : goal.returns-clause-to
returns-clause-to g c = λ h stands.
    let event = Datagram c.args.from c.args.bytes.now in
    c.of.ensures.to
    ∙ seen_before (λ setting places. to_for setting places c.args.from c.said-said.result) c.deref.result.now c.self-2.inside.clients.items c.self-2.inside.setting
    c.admit.new.self (event ∷ h) c.args.self.now.setting c.deref.ensures.0 c.self-2.view_is c.admit.ensures.setting (after g c h stands)
    ∙ ap (to_for c.args.self.now.setting _ c.args.from) (says g c)

pub returns-clause-heard : goal.returns-clause-heard
returns-clause-heard g c = λ h stands.
    let event = Datagram c.args.from c.args.bytes.now in
    c.of.ensures.heard
    ∙ seen_before (λ setting places. is_heard_of setting places c.args.from c.said-said.result) c.deref.result.now c.self-2.inside.clients.items c.self-2.inside.setting
    c.admit.new.self (event ∷ h) c.args.self.now.setting c.deref.ensures.0 c.self-2.view_is c.admit.ensures.setting (after g c h stands)
    ∙ ap (is_heard_of c.args.self.now.setting _ c.args.from) (says g c)
