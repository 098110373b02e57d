use Rattle.std.proofs.Common.{◌++◌, List, ℕ, [], length, drop, ap, ◌∙◌, refl, subst, append-nil, rules}
use Rattle.ipx_wire.specs.Forward.{propagated}
use Rattle.ipx_wire.specs.Packet.{IsPacket}
use Rattle.ipx_wire.specs.Write.{packet_bytes}
use Rattle.ipx_wire.proofs.Puts.{untouched}
use Rattle.ipx_wire.proofs.Rereading.{propagated_again}
use Rattle.ipx_wire.proofs.forward.write_crossed.Goals as goal

pub returns-clause-bytes : goal.returns-clause-bytes
returns-clause-bytes c =
    let sent = packet_bytes (propagated c.args.arrived c.args.outgoing c.args.packet.now) in
    ap (λ (x : List ℕ). x ++ drop (length c.bytes-bytes.result.now) c.put_bytes.new.out) c.change_to_crossed.ensures
    ∙ ap (λ (x : List ℕ). sent ++ x) (untouched (record { puts = c.put_bytes.ensures; size = refl }))
    ∙ ap (λ (k : ℕ). sent ++ drop k c.args.out.now) c.bytes-bytes.ensures.counted

pub returns-clause-packet : goal.returns-clause-packet
returns-clause-packet c =
    let p = propagated c.args.arrived c.args.outgoing c.args.packet.now in
    subst (λ (x : List ℕ). IsPacket x p) (append-nil (packet_bytes p))
    (propagated_again c.bytes-bytes.result.now c.args.packet.now c.args.arrived c.args.outgoing [] c.bytes-bytes.ensures.packet c.requires.free c.requires.eight
    (search rules))
