-- What was said, and what it shows.
use Rattle.std.proofs.Common.{◌≡◌, ◌≢◌, ◌∙◌, refl, sym, ap, Bool, true, false, ◌||◌, ◌⊎◌, inl, inr, List}
use Rattle.std.proofs.lemmas.Bool.{false≢true}
use Rattle.ipx_wire.specs.declared.node.Node.{Node}
use Rattle.ipx_tunnel.specs.Places.{same_node}
use Rattle.ipx_tunnel.proofs.Nodes.{same_is}
use Rattle.ipx_tunnel.proofs.Sending.{left_of, right_of}
use Rattle.ipx_keyed.specs.declared.client.Client.{Client}
use Rattle.ipx_keyed.specs.declared.said.Said.{Said}
use Rattle.ipx_keyed.specs.declared.said.Said.TheVariants.{Nothing, Registers, Answers, Speaks}
use Rattle.ipx_keyed.specs.declared.sender.Sender.{Sender}
use Rattle.ipx_keyed.specs.Says.{node_in}
use Rattle.ipx_keyed.specs.Members.{is_remembered}
use Rattle.ipx_keyed.specs.Tables.{proves, prolongs, registers}
use Rattle.ipx_keyed.specs.Laws.{Shows}

pub either : (a b : Bool) → (a || b) ≡ true → (a ≡ true) ⊎ (b ≡ true)
either true b is = inl refl
either false b is = inr is

pub registers_is : (s : Said) → registers s ≡ true → s ≡ Registers
registers_is Nothing is = absurd (false≢true is)
registers_is Registers is = refl
registers_is (Answers node) is = absurd (false≢true is)
registers_is (Speaks header) is = absurd (false≢true is)

pub shows_prolonged : (from : Sender) (list : List Client) (node : Node) (s : Said) → prolongs from s ≡ true → node_in from s ≡ node → Shows from list node s
shows_prolonged from list node Nothing is named = absurd (false≢true is)
shows_prolonged from list node Registers is named = inr (inl (is, (λ e. cc), named))
shows_prolonged from list node (Answers other) is named = inl (ap (λ (n : Node). Answers n) named)
shows_prolonged from list node (Speaks header) is named = inr (inl (is, (λ e. cc), named))

pub shows_proven : (from : Sender) (list : List Client) (s : Said) → proves from list s ≡ true → Shows from list (node_in from s) s
shows_proven from list Nothing is = absurd (false≢true is)
shows_proven from list Registers is = absurd (false≢true is)
shows_proven from list (Answers node) is = inl refl
shows_proven from list (Speaks header) is =
    elim (either from.is_trusted _ is) [
      | inl trusted ↦ inr (inl (trusted, (λ e. cc), refl))
      | inr word ↦
          let named = same_is header.source.node from.node (left_of (same_node header.source.node from.node) _ word) in
          let kept = right_of (same_node header.source.node from.node) (is_remembered from.place from.node list) word in
          inr (inr (header, refl, refl, sym named, ap (λ n. is_remembered from.place n list) named ∙ kept))
    ]

-- what isn't trusted and no answer keeps nobody in
pub no_renewal : (from : Sender) (s : Said) → from.is_trusted ≡ false → ((node : Node) → s ≢ Answers node) → prolongs from s ≡ false
no_renewal from Nothing distrusted other = refl
no_renewal from Registers distrusted other = distrusted
no_renewal from (Answers node) distrusted other = absurd (other node refl)
no_renewal from (Speaks header) distrusted other = distrusted

-- whatever somebody trusted says does
pub trusted_renews : (from : Sender) (s : Said) → from.is_trusted ≡ true → s ≢ Nothing → prolongs from s ≡ true
trusted_renews from Nothing trusted some = absurd (some refl)
trusted_renews from Registers trusted some = trusted
trusted_renews from (Answers node) trusted some = refl
trusted_renews from (Speaks header) trusted some = trusted
