use Rattle.std.proofs.Common.{arith, sym, ap, ◌∙◌, get_or, ◌++◌, ◌∷◌, [], List, ℕ, take, append-nil, append_assoc, refl}
use Rattle.hex.specs.Hex.{encode_upper}
use Rattle.ipx_wire.proofs.HexText.{encode_upper-more, encode_upper-none}
use Rattle.ipx_cmd.proofs.texts.put.put_hex.Goals as goal

pub loop-byte-init : goal.loop-byte-init
loop-byte-init c =
    let front = take c.args.at c.args.room.now in
    (sym (append-nil front) ∙ ap (λ (t : List ℕ). front ++ t) (sym encode_upper-none), omega arith, refl)

pub loop-byte-preserved : goal.loop-byte-preserved
loop-byte-preserved c =
    let byte = get_or c.args.bytes.now c.loop-byte.byte-index 0 in
    let front = take c.args.at c.args.room.now in
    let before = take c.loop-byte.byte-index c.args.bytes.now in (
      c.put_hex_byte-end.ensures.room ∙ ap (λ (t : List ℕ). t ++ encode_upper (byte ∷ [])) c.loop-byte.invariant.0
          ∙ append_assoc front (encode_upper before) (encode_upper (byte ∷ []))
          ∙ ap (λ (t : List ℕ). front ++ t) (encode_upper-more c.args.bytes.now c.loop-byte.byte-index c.loop-byte-test.true),
      omega (arith, c.put_hex_byte-end.ensures.end, c.loop-byte.invariant.1),
      c.put_hex_byte-end.ensures.size ∙ c.loop-byte.invariant.2,
    )
