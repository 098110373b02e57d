use Rattle.std.proofs.Common.{◌≡◌, ℕ, List, [], ◌∷◌, ◌-◌, ◌<◌, drop, sym, ap, ◌∙◌, arith}
use Rattle.ipx_wire.specs.SapEntries.{sap_entry_at}
use Rattle.ipx_wire.specs.declared.sap_entries.SapEntry.{SapEntry}
use Rattle.ipx_wire.specs.Items.{items}
use Rattle.ipx_wire.proofs.Items.{items-first, items-none}
use Rattle.ipx_wire.proofs.Yields.{goes_first}
use Rattle.ipx_wire.proofs.sap_iter.SapIterIterator.next.Goals as goal

none : (c : goal.Then-self-eq0) → c.args.self.now ≡ []
none c = sym c.self.view_is ∙ items-none sap_entry_at 64 c.self.inside.count c.self.inside.body.now c.if-self-eq0.true

pub returns-then-self-eq0-clause-steps : goal.returns-then-self-eq0-clause-steps
returns-then-self-eq0-clause-steps c = (none c, none c)

first : (c : goal.After-self-1) → c.args.self.now ≡ c.entry_from-entry.result ∷ items sap_entry_at 64 (c.self.inside.count - 1) c.split_at.result.1.now
first c =
    let some : 0 < c.self.inside.count = omega (arith, c.if-self-eq0.false) in
    sym c.self.view_is
    ∙ items-first sap_entry_at 64 c.self.inside.count c.self.inside.body.now some
    ∙ ap (λ (x : SapEntry). x ∷ items sap_entry_at 64 (c.self.inside.count - 1) (drop 64 c.self.inside.body.now)) (sym c.entry_from-entry.ensures)
    ∙ ap (λ (b : List ℕ). c.entry_from-entry.result ∷ items sap_entry_at 64 (c.self.inside.count - 1) b) (sym c.split_at.ensures.back)

pub returns-clause-steps : goal.returns-clause-steps
returns-clause-steps c = first c

pub returns-clause-goes : goal.returns-clause-goes
returns-clause-goes c = goes_first _ (λ _. tt) _ _ _ (first c)
