use Rattle.std.proofs.Common.{arith, ap, sym, ◌∙◌, ◌++◌, ◌≡◌, List, ℕ, Ok, drop}
use Rattle.ipx_wire.specs.Sap.{sap_of}
use Rattle.ipx_wire.specs.SapEntries.{sap_entries_at}
use Rattle.ipx_wire.specs.declared.sap.Sap.TheVariants.{Response}
use Rattle.ipx_wire.specs.declared.sap_entries.SapEntry.{SapEntry}
use Rattle.ipx_cmd.specs.SapText.{sap_text}
use Rattle.ipx_cmd.proofs.written.TextOfServiceAdvertising.{entries_stand}
use Rattle.ipx_cmd.proofs.show.sap_lines.put_sap.Goals as goal

pub put_services-requires-clause-whole : goal.put_services-requires-clause-whole
put_services-requires-clause-whole c =
    let read = sym c.read.ensures.value ∙ c.in-Ok-Response.is ∙ ap Ok c.in-Ok-Response.field-0-is in
    let facts = entries_stand c.args.payload.now c.in-Ok-Response.nearest c.in-Ok-Response.entries read in
    omega (arith, facts.whole, c.len.ensures.value)

pub returns-in-Ok-Response : goal.returns-in-Ok-Response
returns-in-Ok-Response c =
    let p = c.args.payload.now in
    let nearest = c.in-Ok-Response.nearest in
    let read : sap_of p ≡ Ok (Response nearest c.in-Ok-Response.entries) = sym c.read.ensures.value ∙ c.in-Ok-Response.is ∙ ap Ok c.in-Ok-Response.field-0-is in
    let facts = entries_stand p nearest c.in-Ok-Response.entries read in
    c.put_services.ensures
    ∙ ap (λ (n : ℕ). c.args.draft.now ++ sap_text (Ok (Response nearest (sap_entries_at n (drop 2 p))))) c.len.ensures.value
    ∙ ap (λ (es : List SapEntry). c.args.draft.now ++ sap_text (Ok (Response nearest es))) (sym facts.there)
    ∙ ap (λ r. c.args.draft.now ++ sap_text r) (sym read)
