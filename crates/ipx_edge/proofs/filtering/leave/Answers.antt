use Rattle.std.proofs.Common.{◌∙◌, sym, ap, ℕ, ◌+◌, ◌*◌}
use Rattle.std.specs.Int.{to_be_bytes, w16}
use Rattle.ipx_wire.specs.Numbers.{no_checksum}
use Rattle.ipx_edge.specs.Places.{with_at}
use Rattle.ipx_edge.specs.inside.Verdict.{passes_of}
use Rattle.ipx_edge.proofs.Leaving.{part}
use Rattle.ipx_edge.proofs.filtering.leave.Goals as goal

pub returns-clause-passes : goal.returns-clause-passes
returns-clause-passes c =
    part (passes_of c.args.way c.args.rules.now c.args.listed) c.args.listed c.args.count c.args.bytes.now c.keep-end.new.bytes c.keep-end.result
    c.keep-end.ensures c.requires.room
    (λ e. c.if-end-size.false (e ∙ ap (λ (m : ℕ). 32 + m * c.args.count) (sym c.size.ensures)))
    c.if-end-eq-ENTRIES.false
    c.put_u16-2.new.bytes
    (c.put_u16-2.ensures.bytes ∙ ap (with_at 0 (to_be_bytes w16 no_checksum)) c.put_u16.ensures.bytes)
