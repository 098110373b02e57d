use Rattle.std.proofs.Common.{arith, sym, ap, ◌∙◌, get_or, ◌++◌, List, ℕ, take, append-nil, append_assoc}
use Rattle.ipx_wire.specs.NameWord.{byte_word, name_word}
use Rattle.ipx_wire.proofs.NameWords.{name_word-more, name_word-none}
use Rattle.ipx_inside.proofs.line.Line.put_name.Goals as goal

pub loop-byte-init : goal.loop-byte-init
loop-byte-init c = (sym (append-nil c.args.self.now) ∙ ap (λ (t : List ℕ). c.args.self.now ++ t) (sym name_word-none), omega arith)

pub loop-byte-preserved : goal.loop-byte-preserved
loop-byte-preserved c =
    let byte = get_or c.args.name.now c.loop-byte.byte-index 0 in
    let front = c.args.self.now in
    let before = take c.loop-byte.byte-index c.args.name.now in (
      c.put_byte.ensures.text ∙ ap (λ (t : List ℕ). t ++ byte_word byte) c.loop-byte.invariant.0
          ∙ append_assoc front (name_word before) (byte_word byte)
          ∙ ap (λ (t : List ℕ). front ++ t) (name_word-more c.args.name.now c.loop-byte.byte-index c.loop-byte-test.true),
      omega (arith, c.put_byte.ensures.most, c.loop-byte.invariant.1),
    )
