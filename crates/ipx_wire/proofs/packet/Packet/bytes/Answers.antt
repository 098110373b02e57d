use Rattle.std.proofs.Common.{List, ℕ, ◌++◌, drop, sym, ap, ◌∙◌, subst}
use Rattle.std.proofs.lemmas.List.{take-append-drop}
use Rattle.ipx_wire.specs.Header.{header_bytes, header_at}
use Rattle.ipx_wire.specs.Packet.{Parts, IsPacket}
use Rattle.ipx_wire.proofs.Packets.{kept_is}
use Rattle.ipx_wire.proofs.packet.Packet.bytes.Goals as goal

pub returns-clause-value : goal.returns-clause-value
returns-clause-value c =
    let whole = c.self.inside.whole.now in
    sym (take-append-drop 30 whole)
    ∙ ap (λ (x : List ℕ). x ++ drop 30 whole) (sym c.self.invariant.front)
    ∙ ap (λ (p : Parts). header_bytes p.header ++ p.payload) c.self.view_is

pub returns-clause-counted : goal.returns-clause-counted
returns-clause-counted c = sym c.self.invariant.counted ∙ ap (λ (p : Parts). p.header.length) c.self.view_is

pub returns-clause-packet : goal.returns-clause-packet
returns-clause-packet c =
    let whole = c.self.inside.whole.now in
    subst (IsPacket whole) c.self.view_is (kept_is (header_at whole) whole c.self.invariant)
