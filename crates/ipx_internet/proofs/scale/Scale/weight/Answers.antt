use Rattle.std.proofs.Common.{◌≡◌, refl, sym, ap, ◌∙◌, ◌+◌, ◌-◌, ◌*◌, ◌==◌, ◌||◌, max, false, arith}
use Rattle.ipx_wire.specs.Packet.{Parts}
use Rattle.ipx_wire.specs.declared.header.Header.{Header}
use Rattle.ipx_wire.specs.declared.network.Network.{Network}
use Rattle.ipx_router.specs.Numbers.{most_routers, local_network}
use Rattle.ipx_router.specs.Port.{is_local}
use Rattle.ipx_router.specs.Why.{is_propagated}
use Rattle.ipx_internet.specs.InternetWeight.{said_weight, packet_weight}
use Rattle.ipx_internet.specs.Most.{most_on_network}
use Rattle.ipx_internet.proofs.scale.Scale.weight.Goals as goal
use Rattle.ipx_internet.proofs.weights.CountedUpToAWord.{scaled_more}

pub returns : goal.returns
returns c = λ net routes services port is same.
    let p : Parts = c.args.packet.now in
    let times = max 1 (most_on_network net - 1) in
    let said = said_weight net routes services p in
    let plain : is_propagated p.header ≡ false = ap is_propagated (sym c.header-header.ensures) ∙ sym c.is_propagated.ensures ∙ c.if-is_propagated.false in
    let far : is_local port p.header.destination.network ≡ false =
    ap (λ (h : Header). is_local port h.destination.network) (sym c.header-header.ensures)
    ∙ ap (λ (n : Network). (c.header-header.result.destination.network.0 == local_network) || (c.header-header.result.destination.network.0 == n.0)) same
    ∙ sym c.is_local.ensures ∙ c.if-is_local.false in
    let weight : packet_weight net routes services port p ≡ (most_routers - p.header.control) + times * said = rw (plain, far) refl in
    let receivers = is.receivers in
    let all = scaled_more times said c.said-said.result c.args.self.receivers c.saturating_mul.result (omega (arith, receivers)) (c.said-said.ensures net routes services is) c.saturating_mul.ensures in
    let control = ap (λ (h : Header). h.control) c.header-header.ensures in
    let routers = c.from-routers.ensures in
    let left = c.saturating_sub-2.ensures in
    let sum = c.saturating_add.ensures in
    omega (arith, weight, all, control, routers, left, sum)
