use Rattle.std.proofs.Common.{rules}
use Rattle.std.proofs.Common.{◌≡◌, ℕ, List, [], ◌++◌, arith, codes}
use Rattle.std.proofs.lemmas.Str.{IsAscii-append}
use Rattle.std.proofs.lemmas.Str.Ascii.{IsAscii-cons, IsAscii-nil}
use Rattle.std.specs.Str.{IsAscii}
use Rattle.ipx_wire.specs.declared.address.Address.{Address}
use Rattle.ipx_wire.specs.AddressWord.{address_word}
use Rattle.ipx_wire.proofs.HexText.{IsAscii-encode_upper}

point : IsAscii (codes ".")
point = IsAscii-cons 0x2E [] (omega arith) IsAscii-nil

three : (x y z : List ℕ) → IsAscii x → IsAscii y → IsAscii z → IsAscii (x ++ codes "." ++ y ++ codes "." ++ z)
three x y z p q r = search (rules, IsAscii-append, point)

-- the word of an address is ASCII
pub ascii_word : (word : List ℕ) (a : Address) → word ≡ address_word a → IsAscii word
unfolding address_word
ascii_word word a e = grind (arith, three, IsAscii-encode_upper)
