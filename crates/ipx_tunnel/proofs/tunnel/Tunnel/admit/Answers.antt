use Rattle.std.proofs.Common.{◌∙◌, sym, ap, arith, List, [], ◌∷◌, ◌++◌}
use Rattle.std.proofs.lemmas.Bool.{lt-ltb}
use Rattle.ipx_tunnel.specs.declared.client.Client.{Client}
use Rattle.ipx_tunnel.specs.Clients.{is_open}
use Rattle.ipx_tunnel.specs.Stands.{State}
use Rattle.ipx_tunnel.specs.inside.Kept.{places_of, fresh, refreshed, admitted}
use Rattle.ipx_tunnel.proofs.Lists.{refilled}
use Rattle.ipx_tunnel.proofs.Standing.{admitted_new, admitted_known}
use Rattle.ipx_tunnel.proofs.tunnel.Tunnel.admit.Goals as goal

pub returns-then-is_new-clause-clients : goal.returns-then-is_new-clause-clients
returns-then-is_new-clause-clients g c =
    let from = c.args.from in
    let lasts = c.args.lasts in
    let setting = c.self.inside.setting in
    let kept = c.self.inside.clients.items in
    c.push.ensures.items
    ∙ ap (λ (l : List Client). l ++ fresh from lasts ∷ []) (refilled (refreshed from lasts) kept _ _ c.deref_mut.ensures.value c.refresh.ensures)
    ∙ admitted_new setting from lasts kept (lt-ltb 0 lasts (omega arith))
    (ap (λ (l : List Client). is_open setting from.place (places_of l)) (sym c.deref.ensures.0) ∙ sym c.is_open-is_new.ensures ∙ c.if-is_new.true)
    ∙ ap (λ (v : State). admitted v.setting from lasts v.clients) c.self.view_is

pub returns-else-is_new-clause-clients : goal.returns-else-is_new-clause-clients
returns-else-is_new-clause-clients g c =
    let from = c.args.from in
    let lasts = c.args.lasts in
    let setting = c.self.inside.setting in
    let kept = c.self.inside.clients.items in
    refilled (refreshed from lasts) kept _ _ c.deref_mut.ensures.value c.refresh.ensures
    ∙ admitted_known setting from lasts kept (lt-ltb 0 lasts (omega arith))
    (ap (λ (l : List Client). is_open setting from.place (places_of l)) (sym c.deref.ensures.0) ∙ sym c.is_open-is_new.ensures ∙ c.if-is_new.false)
    ∙ ap (λ (v : State). admitted v.setting from lasts v.clients) c.self.view_is
