use Rattle.std.proofs.Common.{◌≡◌, ap, sym, ◌∙◌, ◌++◌, List, ℕ, take, Ok, append_assoc}
use Rattle.ipx_wire.specs.Header.{header_at}
use Rattle.ipx_wire.specs.Packet.{packet_of}
use Rattle.ipx_wire.specs.declared.header.Header.{Header}
use Rattle.ipx_cmd.specs.PacketText.{data_text, header_text, packet_text}
use Rattle.ipx_cmd.proofs.written.TextOfPackets.{header_leads}
use Rattle.ipx_cmd.proofs.show.packet_lines.put_packet.Goals as goal

pub put_header-draft-inside-requires-clause-whole :
    goal.put_header-draft-inside-requires-clause-whole
put_header-draft-inside-requires-clause-whole c =
    (header_leads c.args.bytes.now c.in-Ok.packet (sym c.read.ensures.value ∙ c.in-Ok.is)).whole

pub returns-in-Ok : goal.returns-in-Ok
unfolding packet_text
returns-in-Ok c =
    let b = c.args.bytes.now in
    let read : packet_of b ≡ Ok c.in-Ok.packet = sym c.read.ensures.value ∙ c.in-Ok.is in
    let header = header_leads b c.in-Ok.packet read in
    let old = c.args.draft.now in
    let lines = data_text c.in-Ok.packet.header c.in-Ok.packet.payload in
    let line : take c.put_header-draft-inside.result c.put_header-draft-inside.new.room ≡ old ++ header_text c.in-Ok.packet.header =
    c.put_header-draft-inside.ensures.room ∙ ap (λ (t : List ℕ). t ++ header_text (header_at b)) c.draft.view_is ∙ ap (λ (h : Header). old ++ header_text h) (sym header.header) in
    c.put_data.ensures
    ∙ ap (λ (h : Header). take c.put_header-draft-inside.result c.put_header-draft-inside.new.room ++ data_text h c.payload.result.now) c.header-header.ensures
    ∙ ap (λ (p : List ℕ). take c.put_header-draft-inside.result c.put_header-draft-inside.new.room ++ data_text c.in-Ok.packet.header p) c.payload.ensures
    ∙ ap (λ (t : List ℕ). t ++ lines) line
    ∙ append_assoc old (header_text c.in-Ok.packet.header) lines
    ∙ ap (λ r. old ++ packet_text r) (sym read)
