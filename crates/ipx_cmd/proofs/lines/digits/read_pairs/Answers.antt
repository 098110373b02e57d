use Rattle.std.proofs.Common.{◌≡◌, ◌*◌, ◌+◌, ◌/◌, Some, arith, ap, sym, ◌∙◌, length, slice_index}
use Rattle.hex.proofs.Pairs.{decode_start, decode_step, decode_done}
use Rattle.hex.specs.Hex.{hex_digit_value}
use Rattle.ipx_cmd.proofs.bytes.TwoDigits.{pair_bytes, pair_read, digit_at}
use Rattle.ipx_cmd.proofs.lines.digits.read_pairs.Goals as goal

pub loop-i-init : goal.loop-i-init
loop-i-init c = decode_start c.args.digits.now c.args.out.now

pub digit_value-high-requires : goal.digit_value-high-requires
digit_value-high-requires c =
    let s = c.args.digits.now in
    let pair = pair_bytes s (length s / 2) c.loop-i.i c.from_le_bytes-pair.result c.as_chunks.result.0.now _ (λ k. omega (arith, c.type_inv.digits k))
    (omega (arith, c.requires.room)) (omega (arith, c.requires.room)) c.as_chunks.ensures.front c.from_le_bytes-pair.ensures in
    digit_at s (2 * c.loop-i.i) _ c.requires.digits (omega (arith, c.requires.room)) pair.low_byte

pub digit_value-low-requires : goal.digit_value-low-requires
digit_value-low-requires c =
    let s = c.args.digits.now in
    let pair = pair_bytes s (length s / 2) c.loop-i.i c.from_le_bytes-pair.result c.as_chunks.result.0.now _ (λ k. omega (arith, c.type_inv.digits k))
    (omega (arith, c.requires.room)) (omega (arith, c.requires.room)) c.as_chunks.ensures.front c.from_le_bytes-pair.ensures in
    digit_at s (2 * c.loop-i.i + 1) _ c.requires.digits (omega (arith, c.requires.room)) pair.high_byte

pub loop-i-preserved : goal.loop-i-preserved
loop-i-preserved c =
    let s = c.args.digits.now in
    let pair = pair_bytes s (length s / 2) c.loop-i.i c.from_le_bytes-pair.result c.as_chunks.result.0.now _ (λ k. omega (arith, c.type_inv.digits k))
    (omega (arith, c.requires.room)) (omega (arith, c.requires.room)) c.as_chunks.ensures.front c.from_le_bytes-pair.ensures in
    let high : hex_digit_value (slice_index s (2 * c.loop-i.i)) ≡ Some c.digit_value-high.result = ap hex_digit_value (sym pair.low_byte) ∙ c.digit_value-high.ensures.value in
    let low : hex_digit_value (slice_index s (2 * c.loop-i.i + 1)) ≡ Some c.digit_value-low.result = ap hex_digit_value (sym pair.high_byte) ∙ c.digit_value-low.ensures.value in
    decode_step s c.loop-i.out c.loop-i.i (c.digit_value-high.result * 16 + c.digit_value-low.result) (omega (arith, c.requires.room)) (omega (arith, c.loop-i.auto.out))
    (pair_read (slice_index s (2 * c.loop-i.i)) (slice_index s (2 * c.loop-i.i + 1)) (2 * c.loop-i.i) c.digit_value-high.result c.digit_value-low.result high low)
    c.loop-i.invariant

pub returns : goal.returns
returns c =
    decode_done c.args.digits.now c.loop-i.out c.loop-i.i (omega (arith, c.loop-i.auto.out)) (omega (arith, c.requires.room)) c.loop-i.invariant
