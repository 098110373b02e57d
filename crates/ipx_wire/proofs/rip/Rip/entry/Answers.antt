use Rattle.std.proofs.Common.{◌<◌, sym, ap, ◌∙◌, length, arith, Some, slice_get}
use Rattle.ipx_wire.specs.Rip.{RipParts}
use Rattle.ipx_wire.specs.declared.rip.RipEntry.{RipEntry}
use Rattle.ipx_wire.proofs.Entries.{length-entries_at, slice_get-entries_at}
use Rattle.ipx_wire.proofs.rip.Rip.entry.Goals as goal

pub overflow_mul-k : goal.overflow_mul-k
overflow_mul-k c =
    let count = length-entries_at c.self.inside.count c.self.inside.body.now in
    let same = ap (λ (r : RipParts). length r.entries) c.self.view_is in
    omega (arith, count, same, c.self.invariant.enough, c.self.told)

pub entry_from-requires : goal.entry_from-requires
entry_from-requires c =
    let count = length-entries_at c.self.inside.count c.self.inside.body.now in
    let same = ap (λ (r : RipParts). length r.entries) c.self.view_is in
    omega (arith, count, same, c.self.invariant.enough, c.self.told)

pub returns : goal.returns
returns c =
    let count = length-entries_at c.self.inside.count c.self.inside.body.now in
    let same = ap (λ (r : RipParts). length r.entries) c.self.view_is in
    let below : c.args.k < c.self.inside.count = omega (arith, count, same) in
    ap (λ (r : RipParts). slice_get r.entries c.args.k) (sym c.self.view_is)
    ∙ slice_get-entries_at c.self.inside.count c.args.k c.self.inside.body.now below
    ∙ ap (λ (e : RipEntry). Some e) (sym c.entry_from.ensures)
