use Rattle.std.proofs.Common.{◌≡◌, ℕ, List, [], ◌∷◌, ◌-◌, ◌<◌, drop, sym, ap, ◌∙◌, arith}
use Rattle.ipx_wire.specs.Rip.{entries_at}
use Rattle.ipx_wire.specs.declared.rip.RipEntry.{RipEntry}
use Rattle.ipx_wire.proofs.Entries.{entries_at-first, entries_at-none}
use Rattle.ipx_wire.proofs.Yields.{goes_first}
use Rattle.ipx_wire.proofs.rip_entries.RipEntriesIterator.next.Goals as goal

none : (c : goal.Then-self-eq0) → c.args.self.now ≡ []
none c = sym c.self.view_is ∙ entries_at-none c.self.inside.count c.self.inside.body.now c.if-self-eq0.true

pub returns-then-self-eq0-clause-steps : goal.returns-then-self-eq0-clause-steps
returns-then-self-eq0-clause-steps c = (none c, none c)

first : (c : goal.After-self-1) → c.args.self.now ≡ c.entry_from-entry.result ∷ entries_at (c.self.inside.count - 1) c.split_at.result.1.now
first c =
    let some : 0 < c.self.inside.count = omega (arith, c.if-self-eq0.false) in
    sym c.self.view_is
    ∙ entries_at-first c.self.inside.count c.self.inside.body.now some
    ∙ ap (λ (e : RipEntry). e ∷ entries_at (c.self.inside.count - 1) (drop 8 c.self.inside.body.now)) (sym c.entry_from-entry.ensures)
    ∙ ap (λ (b : List ℕ). c.entry_from-entry.result ∷ entries_at (c.self.inside.count - 1) b) (sym c.split_at.ensures.back)

pub returns-clause-steps : goal.returns-clause-steps
returns-clause-steps c = first c

pub returns-clause-goes : goal.returns-clause-goes
returns-clause-goes c = goes_first _ (λ _. tt) _ _ _ (first c)
