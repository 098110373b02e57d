use Rattle.std.proofs.Common.{◌≡◌, ◌+◌, ◌*◌, ◌∷◌, [], sym, ap, ◌∙◌, arith, refl}
use Rattle.ipx_wire.specs.declared.header.Header.{Header}
use Rattle.ipx_wire.specs.Crossed.{network_bytes}
use Rattle.ipx_wire.proofs.Forwarded.{changed, changed_whole, propagated_whole}
use Rattle.ipx_wire.proofs.Puts.{Reaches, skip, reached}
use Rattle.ipx_wire.proofs.forward.change_to_crossed.Goals as goal

control : (c : goal.After-slice_known-5-1) → c.from.result ≡ c.args.packet.now.header.control
control c = c.from.ensures ∙ ap (λ (h : Header). h.control) c.header-control.ensures

pub returns : goal.returns
unfolding network_bytes
returns c =
    let is = c.bytes.ensures.packet in
    let n = c.header-control.result.control in
    let first : Reaches c.args.bytes.now 2 (0xff ∷ 0xff ∷ []) c.put_u16.new.out = record { puts = c.put_u16.ensures; size = refl } in
    let second = skip 2 5 first c.put_u8.ensures refl refl in
    let third = skip 1 10 second c.put_u32.ensures refl refl in
    let fourth = skip (20 + 4 * n) (34 + 4 * n) third c.put_u32-2.ensures (omega (arith, c.from.ensures)) (omega (arith, c.from.ensures)) in
    reached fourth
    ∙ changed_whole n c.args.arrived c.args.outgoing c.args.bytes.now
    ∙ ap (λ (h : Header). changed h.control c.args.arrived c.args.outgoing c.args.bytes.now) c.header-control.ensures
    ∙ ap (changed c.args.packet.now.header.control c.args.arrived c.args.outgoing) c.requires.own
    ∙ sym (propagated_whole c.args.packet.now c.args.arrived c.args.outgoing is.header.destination is.header.source)
