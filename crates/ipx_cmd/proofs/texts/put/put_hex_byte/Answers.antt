use Rattle.std.proofs.Common.{◌≡◌, arith, ap, ◌∙◌, ◌++◌, ◌∷◌, [], ◌*◌, ◌+◌, get_or, List, ℕ, take}
use Rattle.ipx_cmd.specs.declared.texts.put.TheConstants.{PAIRS}
use Rattle.ipx_cmd.proofs.bytes.PairsOfHexDigits.{pair_of}
use Rattle.ipx_cmd.proofs.texts.put.put_hex_byte.Goals as goal

pub returns-clause-room : goal.returns-clause-room
returns-clause-room c =
    let from : c.from-from.result * 2 ≡ c.args.byte * 2 = omega (arith, c.from-from.ensures) in
    c.put_text.ensures.room
    ∙ ap (λ (n : ℕ). take c.args.at c.args.room.now ++ (get_or PAIRS n 0 ∷ get_or PAIRS (n + 1) 0 ∷ [])) from
    ∙ ap (λ (t : List ℕ). take c.args.at c.args.room.now ++ t) (pair_of c.args.byte (omega (arith, c.ranges.byte.fits)))
