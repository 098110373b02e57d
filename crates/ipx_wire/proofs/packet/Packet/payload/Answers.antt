use Rattle.std.proofs.Common.{length, drop, ◌-◌, arith, ap, ◌∙◌, length-drop, take_all}
use Rattle.ipx_wire.specs.Packet.{Parts}
use Rattle.ipx_wire.proofs.packet.Packet.payload.Goals as goal

pub returns : goal.returns
returns c =
    let whole = c.self.inside.whole.now in
    take_all (length whole - 30) (drop 30 whole) (omega (arith, length-drop 30 whole)) ∙ ap (λ (p : Parts). p.payload) c.self.view_is
