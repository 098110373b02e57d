-- Nodes and numbers that are the same.
use Rattle.std.proofs.Common.{◌≡◌, ◌∙◌, sym, ap, true, false, Bool, ◌==◌, ◌&&◌, not, ℕ, List, arith}
use Rattle.std.specs.Cmp.Lexicographic.{same_text}
use Rattle.std.proofs.lemmas.Bool.{eq-eqb, ne_eqb, false≢true}
use Rattle.std.proofs.lemmas.Cmp.{nat_list_eq_equiv}
use Rattle.ipx_wire.specs.declared.node.Node.{Node}
use Rattle.ipx_segment.specs.declared.setting.Setting.{Setting}
use Rattle.ipx_segment.specs.Nodes.{same_node, broadcast, is_ordinary}

pub same_itself : (a : Node) → same_node a a ≡ true
same_itself a = nat_list_eq_equiv.refl a.0

pub same_is : (a b : Node) → same_node a b ≡ true → a ≡ b
same_is a b e = ap (λ (bytes : List ℕ). let node : Node = record { 0 = bytes } in node) (same_text a.0 b.0 (sym e))

pub turned : (a b : ℕ) → (a == b) ≡ false → (b == a) ≡ false
turned a b is = ne_eqb b a (λ e. absurd (false≢true (sym is ∙ eq-eqb a b (sym e))))

both_not : (a b : Bool) → (not a && not b) ≡ true → (a ≡ false) × (b ≡ false)
both_not a b is = grind arith

-- an ordinary node is neither the one that stands for all nor the router's
pub ordinary_parts : (setting : Setting) (node : Node) → is_ordinary setting node ≡ true
    → (same_node node broadcast ≡ false) × (same_node node setting.node ≡ false)
ordinary_parts setting node is = both_not (same_node node broadcast) (same_node node setting.node) is
