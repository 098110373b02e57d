use Rattle.std.proofs.Common.{arith}
use Rattle.hex.proofs.Pairs.{encode_step, encode_done}
use Rattle.hex.specs.Hex.{upper_digits}
use Rattle.ipx_wire.proofs.hex_text.put_digits.Goals as goal

pub loop-i-preserved : goal.loop-i-preserved
loop-i-preserved c =
    encode_step upper_digits c.args.bytes.now c.loop-i.out c.loop-i.i _ _ (omega arith) (omega (arith, c.loop-i.auto.out, c.requires))
    c.digit.ensures.value c.digit-in-loop-i.ensures.value c.loop-i.invariant

pub returns : goal.returns
returns c =
    encode_done upper_digits c.args.bytes.now c.loop-i.out c.loop-i.i (omega arith) (omega (arith, c.loop-i.auto.out, c.requires)) c.loop-i.invariant
