use Rattle.std.proofs.Common.{ℕ, List, ap, sym, ◌++◌, ◌∙◌, inl, inr, take, drop, codes}
use Rattle.std.specs.Int.{from_be_bytes, to_be_bytes, w16}
use Rattle.hex.specs.Hex.{encode_upper}
use Rattle.ipx_wire.specs.Address.{address_at}
use Rattle.ipx_wire.specs.NameWord.{name_word}
use Rattle.ipx_wire.specs.Piece.{piece}
use Rattle.ipx_cmd.specs.ServiceWords.{offered_words}
use Rattle.ipx_cmd.proofs.bytes.DigitsTwoAtATime.{then}
use Rattle.ipx_cmd.proofs.written.LinesOfServices.{named_line, nameless_line}
use Rattle.ipx_cmd.proofs.texts.service_line.put_service_line.Goals as goal

pub returns-then-count-eq0-clause-room : goal.returns-then-count-eq0-clause-room
returns-then-count-eq0-clause-room c =
    c.put_text.ensures.room
    ∙ ap (λ (t : List ℕ). take c.args.at c.args.room.now ++ t) (sym (nameless_line c.args.entry.now c.before_zero-count.result c.before_zero-count.ensures (
    elim c.then-count-eq0.either [
      | inl none ↦ inl none
      | inr (_, whole) ↦ inr whole
    ]
    )))

pub returns-clause-room : goal.returns-clause-room
returns-clause-room c =
    let b = c.args.entry.now in
    let front = take c.args.at c.args.room.now in
    let kind = encode_upper (to_be_bytes w16 (from_be_bytes w16 (piece b 0 2))) in
    let name = name_word (take c.before_zero-count.result (piece b 2 48)) in
    let offered = offered_words (address_at (drop 50 b) 0) (from_be_bytes w16 (piece (drop 50 b) 12 2)) in
    let first = then front (codes "service ") kind c.put_text-at.ensures.room c.put_hex_16-at.ensures.room in
    let second = then front (codes "service " ++ kind) (codes " ") first c.put_text-at-2.ensures.room in
    let third = then front (codes "service " ++ kind ++ codes " ") name second c.put_name-at.ensures.room in
    let behind = ap (λ (o : List ℕ). take c.put_name-at.result c.put_name-at.new.room ++ offered_words (address_at o 0) (from_be_bytes w16 (piece o 12 2))) c.split_at.ensures.back in
    let fourth = then front (codes "service " ++ kind ++ codes " " ++ name) offered third (c.put_offered-at.ensures.room ∙ behind) in
    let same = named_line b c.before_zero-count.result c.requires.whole c.before_zero-count.ensures c.if-count-eq0.false c.if-count-eq-SIZE.false in
    then front (codes "service " ++ kind ++ codes " " ++ name ++ offered) (codes "\n") fourth c.put_text-2.ensures.room ∙ ap (λ (t : List ℕ). front ++ t) (sym same)
