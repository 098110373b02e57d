-- Sources of offers, ports with nodes, that are taken for one are the same.
use Rattle.std.proofs.Common.{◌≡◌, ℕ, nat_eq, true, List, arith, rules}
use Rattle.std.specs.Cmp.Lexicographic.{pointwise}
use Rattle.std.proofs.lemmas.Bool.{and_parts, and_from, eq-eqb, eqb-true}
use Rattle.ipx_table.specs.Reading.{one_source}
use Rattle.ipx_wire.specs.declared.node.Node.{Node}

pub same_bytes : (xs ys : List ℕ) → pointwise nat_eq xs ys ≡ true → xs ≡ ys
same_bytes xs ys e = search (rules, and_parts, eqb-true)

pub source_parts : (a b : ℕ × Node) → one_source a b ≡ true → (a.0 ≡ b.0) × (a.1 ≡ b.1)
source_parts a b e = search (rules, and_parts, eqb-true, same_bytes)

pub bytes_same : (xs : List ℕ) → pointwise nat_eq xs xs ≡ true
bytes_same xs = search (rules, and_from, eq-eqb)

-- a source is the same as itself
pub source_itself : (a b : ℕ × Node) → a ≡ b → one_source a b ≡ true
source_itself a b same = grind (arith, and_from, eq-eqb, bytes_same)
