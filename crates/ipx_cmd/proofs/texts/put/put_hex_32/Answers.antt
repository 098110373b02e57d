use Rattle.std.proofs.Common.{arith, ℕ, List, ap, sym, ◌++◌, ◌∙◌, take, refl}
use Rattle.std.proofs.lemmas.Nat.{be_bytes_4}
use Rattle.hex.specs.Hex.{encode_upper}
use Rattle.ipx_cmd.proofs.texts.put.put_hex_32.Goals as goal

pub returns-clause-room : goal.returns-clause-room
returns-clause-room c =
    let same = be_bytes_4 c.args.bytes.now _ c.requires.four (λ i. omega (arith, c.type_inv.bytes i)) refl in
    c.put_hex.ensures.room ∙ ap (λ (b : List ℕ). take c.args.at c.args.room.now ++ encode_upper b) (sym same)
