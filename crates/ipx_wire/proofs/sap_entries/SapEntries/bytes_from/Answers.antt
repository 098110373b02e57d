use Rattle.std.proofs.Common.{◌<◌, ℕ, List, sym, ap, ◌∙◌, length, arith, Some, slice_get}
use Rattle.ipx_wire.specs.SapEntries.{sap_entry_at}
use Rattle.ipx_wire.specs.declared.sap_entries.SapEntry.{SapEntry}
use Rattle.ipx_wire.proofs.Items.{length-items, slice_get-items}
use Rattle.ipx_wire.proofs.sap_entries.SapEntries.bytes_from.Goals as goal

pub overflow_mul-k : goal.overflow_mul-k
overflow_mul-k c =
    let count = length-items sap_entry_at 64 c.self.inside.count c.self.inside.body.now in
    let same = ap (λ (entries : List SapEntry). length entries) c.self.view_is in
    omega (arith, count, same, c.self.invariant.most)

pub split_at-requires : goal.split_at-requires
split_at-requires c =
    let count = length-items sap_entry_at 64 c.self.inside.count c.self.inside.body.now in
    let same = ap (λ (entries : List SapEntry). length entries) c.self.view_is in
    omega (arith, count, same, c.self.invariant.enough)

pub returns-clause-size : goal.returns-clause-size
returns-clause-size c =
    let count = length-items sap_entry_at 64 c.self.inside.count c.self.inside.body.now in
    let same = ap (λ (entries : List SapEntry). length entries) c.self.view_is in
    omega (arith, count, same, c.self.invariant.enough, c.split_at.ensures.back_len)

pub returns-clause-entry : goal.returns-clause-entry
returns-clause-entry c =
    let count = length-items sap_entry_at 64 c.self.inside.count c.self.inside.body.now in
    let same = ap (λ (entries : List SapEntry). length entries) c.self.view_is in
    let below : c.args.k < c.self.inside.count = omega (arith, count, same) in
    ap (λ (entries : List SapEntry). slice_get entries c.args.k) (sym c.self.view_is)
    ∙ slice_get-items sap_entry_at 64 c.self.inside.count c.args.k c.self.inside.body.now below
    ∙ ap (λ (bytes : List ℕ). Some (sap_entry_at bytes)) (sym c.split_at.ensures.back)
