use Rattle.std.proofs.Common.{◌≡◌, sym, ap, ◌∙◌, ◌==◌, true, false, Ok}
use Rattle.std.proofs.lemmas.Bool.{ne_eqb}
use Rattle.ipx_wire.specs.Packet.{Parts}
use Rattle.ipx_wire.specs.Rip.{rip_of}
use Rattle.ipx_wire.specs.declared.header.Header.{Header}
use Rattle.ipx_router.specs.Numbers.{propagated_type}
use Rattle.ipx_router.specs.Why.{is_for_rip}
use Rattle.ipx_internet.specs.inside.Scales.{saturated}
use Rattle.ipx_internet.proofs.scale.Scale.said.Goals as goal
use Rattle.ipx_internet.proofs.weights.WeighedOneByOne.{rip_said}

pub returns-in-Ok : goal.returns-in-Ok
returns-in-Ok c = λ net routes services is.
    let p : Parts = c.args.packet.now in
    let plain : (p.header.kind == propagated_type) ≡ false = ap (λ (h : Header). h.kind == propagated_type) (sym c.header-header.ensures) ∙ ne_eqb c.header-header.result.kind propagated_type c.if-header-eq-PROPAGATED.false in
    let for_rip : is_for_rip p.header ≡ true = ap is_for_rip (sym c.header-header.ensures) ∙ sym c.eq.ensures ∙ c.if-eq.true in
    let read : rip_of p.payload ≡ Ok c.in-Ok.rip = ap rip_of (sym c.payload.ensures) ∙ sym c.read.ensures.value ∙ c.in-Ok.is in
    c.routing.ensures net routes services p.header.source is (ap (λ (h : Header). h.source.socket) (sym c.header-header.ensures))
    ∙ ap saturated (sym (rip_said net routes services p c.in-Ok.rip plain for_rip read))
