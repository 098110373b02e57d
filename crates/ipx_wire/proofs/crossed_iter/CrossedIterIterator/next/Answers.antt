use Rattle.std.proofs.Common.{◌≡◌, ℕ, List, [], ◌∷◌, ◌-◌, ◌<◌, drop, sym, ap, ◌∙◌, arith}
use Rattle.ipx_wire.specs.Crossed.{network_at}
use Rattle.ipx_wire.specs.declared.network.Network.{Network}
use Rattle.ipx_wire.specs.Items.{items}
use Rattle.ipx_wire.proofs.Items.{items-first, items-none}
use Rattle.ipx_wire.proofs.Yields.{goes_first}
use Rattle.ipx_wire.proofs.crossed_iter.CrossedIterIterator.next.Goals as goal

none : (c : goal.Then-self-eq0) → c.args.self.now ≡ []
none c = sym c.self.view_is ∙ items-none (λ b. network_at b 0) 4 c.self.inside.count c.self.inside.body.now c.if-self-eq0.true

pub returns-then-self-eq0-clause-steps : goal.returns-then-self-eq0-clause-steps
returns-then-self-eq0-clause-steps c = (none c, none c)

first : (c : goal.After-self-1) → c.args.self.now ≡ c.network_from-network.result ∷ items (λ b. network_at b 0) 4 (c.self.inside.count - 1) c.split_at.result.1.now
first c =
    let some : 0 < c.self.inside.count = omega (arith, c.if-self-eq0.false) in
    sym c.self.view_is
    ∙ items-first (λ b. network_at b 0) 4 c.self.inside.count c.self.inside.body.now some
    ∙ ap (λ (x : Network). x ∷ items (λ b. network_at b 0) 4 (c.self.inside.count - 1) (drop 4 c.self.inside.body.now)) (sym c.network_from-network.ensures)
    ∙ ap (λ (b : List ℕ). c.network_from-network.result ∷ items (λ b. network_at b 0) 4 (c.self.inside.count - 1) b) (sym c.split_at.ensures.back)

pub returns-clause-steps : goal.returns-clause-steps
returns-clause-steps c = first c

pub returns-clause-goes : goal.returns-clause-goes
returns-clause-goes c = goes_first _ (λ _. tt) _ _ _ (first c)
