use Rattle.std.proofs.Common.{arith, ap, sym, ◌∙◌, ◌++◌, List, ℕ, Some}
use Rattle.std.proofs.lemmas.List.{take_all}
use Rattle.std.specs.List.{flat_map}
use Rattle.ipx_wire.specs.SapEntries.{sap_entry_at, sap_entries_at}
use Rattle.ipx_wire.proofs.Items.{length-items, slice_get-items}
use Rattle.ipx_wire.specs.declared.sap_entries.SapEntry.{SapEntry}
use Rattle.ipx_cmd.specs.SapText.{service_entry_text}
use Rattle.ipx_cmd.proofs.written.GrowsByItems.{listed_more}
use Rattle.ipx_cmd.proofs.show.sap_lines.put_entries.Goals as goal

pub loop-place-preserved : goal.loop-place-preserved
loop-place-preserved c =
    let there = slice_get-items sap_entry_at 64 c.args.count c.loop-place.place c.args.entries.now c.loop-place-test.true ∙ ap (λ (b : List ℕ). Some (sap_entry_at b)) (sym c.split_at.ensures.back) in (
      listed_more service_entry_text (sap_entries_at c.args.count c.args.entries.now) c.loop-place.place (sap_entry_at c.split_at.result.1.now) _ _ _ there c.loop-place.invariant.0 c.put_entry.ensures.text,
      omega (arith, c.loop-place.invariant.1, c.put_entry.ensures.most),
    )

pub returns : goal.returns
returns c =
    let es = sap_entries_at c.args.count c.args.entries.now in
    c.loop-place.invariant.0
    ∙ ap (λ (some : List SapEntry). c.args.draft.now ++ flat_map service_entry_text some) (take_all c.loop-place.place es (omega (arith, length-items sap_entry_at 64 c.args.count c.args.entries.now, c.loop-place-test.false)))
