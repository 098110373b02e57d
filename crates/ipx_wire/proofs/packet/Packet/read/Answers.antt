use Rattle.std.proofs.Common.{◌≡◌, Ok, Result, ap, take, sym, ◌∙◌, arith, subst}
use Rattle.ipx_wire.specs.Piece.{IsBytes}
use Rattle.ipx_wire.specs.Header.{length_field, header_at}
use Rattle.ipx_wire.specs.Packet.{Parts, IsPacket}
use Rattle.ipx_wire.specs.declared.packet.PacketFault.{PacketFault}
use Rattle.ipx_wire.proofs.Packets.{Counts, packet_counts, is_packet, packet_parts, kept_parts, is_kept, front_header, packet_of-counts}
use Rattle.ipx_wire.proofs.packet.Packet.read.Goals as goal

pub returns-then-bytes-lt-SIZE-clause-only : goal.returns-then-bytes-lt-SIZE-clause-only
returns-then-bytes-lt-SIZE-clause-only c = λ p is.
    let counts = packet_counts c.args.bytes.now p is in omega (arith, counts.enough)

pub returns-then-length-lt-SIZE-clause-only : goal.returns-then-length-lt-SIZE-clause-only
returns-then-length-lt-SIZE-clause-only c = λ p is.
    let counts = packet_counts c.args.bytes.now p is in omega (arith, counts.long)

pub returns-then-bytes-length-clause-only : goal.returns-then-bytes-length-clause-only
returns-then-bytes-length-clause-only c = λ p is.
    let counts = packet_counts c.args.bytes.now p is in omega (arith, counts.within)

-- the comparisons that the code made
made : (c : goal.Else-bytes-length) → Counts c.args.bytes.now
made c = record { enough = omega arith; long = omega arith; within = omega arith }

field : (c : goal.Else-bytes-length) → c.from-length.result ≡ length_field c.args.bytes.now
field c = c.from-length.ensures ∙ c.u16_at.ensures

bytes : (c : goal.Else-bytes-length) → IsBytes c.args.bytes.now
bytes c = λ i. omega (arith, c.type_inv.bytes i)

head : (c : goal.Else-bytes-length) → header_at (take c.from-length.result c.args.bytes.now) ≡ header_at c.args.bytes.now
head c = front_header c.from-length.result c.args.bytes.now (bytes c) (made c) (field c)

pub invariant_of-result : goal.invariant_of-result
invariant_of-result c = is_kept _ _ c.args.bytes.now (bytes c) (made c) (head c) (field c)

pub returns-clause-found : goal.returns-clause-found
returns-clause-found c =
    subst (IsPacket c.args.bytes.now) (sym (kept_parts _ _ c.args.bytes.now (head c) (field c)))
    (is_packet c.args.bytes.now (bytes c) (made c))

pub returns-clause-only : goal.returns-clause-only
returns-clause-only c = λ p is.
    kept_parts _ _ c.args.bytes.now (head c) (field c) ∙ packet_parts c.args.bytes.now p is

pub returns-clause-value : goal.returns-clause-value
returns-clause-value c =
    let read : Parts → Result Parts PacketFault = Ok in
    ap read (kept_parts _ _ c.args.bytes.now (head c) (field c)) ∙ sym (packet_of-counts c.args.bytes.now (made c))
