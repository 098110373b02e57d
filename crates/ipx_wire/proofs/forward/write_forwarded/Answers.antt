use Rattle.std.proofs.Common.{◌++◌, List, ℕ, length, drop, ap, ◌∙◌, refl}
use Rattle.ipx_wire.specs.Forward.{forwarded}
use Rattle.ipx_wire.specs.Write.{packet_bytes}
use Rattle.ipx_wire.proofs.Puts.{untouched}
use Rattle.ipx_wire.proofs.forward.write_forwarded.Goals as goal

pub returns-clause-bytes : goal.returns-clause-bytes
returns-clause-bytes c =
    let sent = packet_bytes (forwarded c.args.packet.now) in
    ap (λ (x : List ℕ). x ++ drop (length c.bytes-bytes.result.now) c.put_bytes.new.out) c.change_to_forwarded.ensures
    ∙ ap (λ (x : List ℕ). sent ++ x) (untouched (record { puts = c.put_bytes.ensures; size = refl }))
    ∙ ap (λ (k : ℕ). sent ++ drop k c.args.out.now) c.bytes-bytes.ensures.counted
