-- Nodes that are the same.
use Rattle.std.proofs.Common.{◌≡◌, sym, ap, true, List, ℕ}
use Rattle.std.specs.Cmp.Lexicographic.{same_text}
use Rattle.std.proofs.lemmas.Cmp.{nat_list_eq_equiv}
use Rattle.ipx_wire.specs.declared.node.Node.{Node}
use Rattle.ipx_tunnel.specs.Places.{same_node}

pub same_itself : (a : Node) → same_node a a ≡ true
same_itself a = nat_list_eq_equiv.refl a.0

pub same_is : (a b : Node) → same_node a b ≡ true → a ≡ b
same_is a b e = ap (λ (bytes : List ℕ). let node : Node = record { 0 = bytes } in node) (same_text a.0 b.0 (sym e))
