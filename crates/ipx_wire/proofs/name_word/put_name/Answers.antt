use Rattle.std.proofs.Common.{arith, sym, ap, ◌∙◌, get_or, ◌++◌, List, ℕ}
use Rattle.ipx_wire.specs.NameWord.{byte_word}
use Rattle.ipx_wire.proofs.NameWords.{name_word-more, name_word-none}
use Rattle.ipx_wire.proofs.name_word.put_name.Goals as goal

pub loop-byte-init : goal.loop-byte-init
loop-byte-init c = (sym name_word-none, omega arith)

pub loop-byte-preserved : goal.loop-byte-preserved
loop-byte-preserved c =
    let byte = get_or c.args.name.now c.loop-byte.byte-index 0 in (
      c.put_byte-count.ensures.word ∙ ap (λ (front : List ℕ). front ++ byte_word byte) c.loop-byte.invariant.0
          ∙ name_word-more c.args.name.now c.loop-byte.byte-index c.loop-byte-test.true,
      omega (arith, c.put_byte-count.ensures.most, c.loop-byte.invariant.1),
    )
