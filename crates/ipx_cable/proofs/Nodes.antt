-- Nodes that are the same.
use Rattle.std.proofs.Common.{◌≡◌, sym, true, List, ℕ}
use Rattle.std.specs.Cmp.Lexicographic.{same_text}
use Rattle.std.proofs.lemmas.Cmp.{nat_list_eq_equiv}
use Rattle.ipx_cable.specs.Stations.{same_node}

pub same_itself : (a : List ℕ) → same_node a a ≡ true
same_itself a = nat_list_eq_equiv.refl a

pub same_is : (a b : List ℕ) → same_node a b ≡ true → a ≡ b
same_is a b e = same_text a b (sym e)
