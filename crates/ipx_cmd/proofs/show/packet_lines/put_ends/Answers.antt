use Rattle.std.proofs.Common.{ap, ◌∙◌, ◌++◌, List, ℕ, take, codes}
use Rattle.ipx_wire.specs.Address.{address_at}
use Rattle.ipx_wire.specs.AddressWord.{address_word}
use Rattle.ipx_wire.specs.Header.{header_at}
use Rattle.ipx_cmd.specs.PacketText.{ends_text}
use Rattle.ipx_cmd.proofs.bytes.DigitsTwoAtATime.{then}
use Rattle.ipx_cmd.proofs.written.TextOfPackets.{address_behind}
use Rattle.ipx_cmd.proofs.show.packet_lines.put_ends.Goals as goal

pub returns-clause-room : goal.returns-clause-room
unfolding ends_text header_at
returns-clause-room c =
    let b = c.args.bytes.now in
    let front = take c.args.at c.args.room.now in
    let source = ap (λ (o : List ℕ). front ++ address_word (address_at o 0)) c.split_at.ensures.back ∙ ap (λ a. front ++ address_word a) (address_behind b 18) in
    let before = take c.put_text-at.result c.put_text-at.new.room in
    let destination = ap (λ (o : List ℕ). before ++ address_word (address_at o 0)) c.split_at-2.ensures.back ∙ ap (λ a. before ++ address_word a) (address_behind b 6) in
    let first = then front (address_word (address_at b 18)) (codes " ") (c.put_address-at.ensures.room ∙ source) c.put_text-at.ensures.room in
    then front (address_word (address_at b 18) ++ codes " ") (address_word (address_at b 6)) first (c.put_address.ensures.room ∙ destination)
