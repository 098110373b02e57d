use Rattle.std.proofs.Common.{◌+◌, arith, sym, ap, ◌∙◌, drop, length}
use Rattle.ipx_wire.specs.Piece.{piece}
use Rattle.ipx_capture.proofs.Pieces.{piece_within, piece_behind, length_piece}
use Rattle.ipx_capture.proofs.window.Window.take.Goals as goal

pub returns-clause-taken : goal.returns-clause-taken
returns-clause-taken c =
    let w = c.self.inside in
    let size = length_piece w.bytes.items w.from w.count (omega arith) in
    sym (ap (λ h. piece h.ahead c.args.header c.args.kept) (sym c.self.view_is) ∙ piece_within w.bytes.items w.from w.count c.args.header c.args.kept (omega (arith, ap (λ h. length h.ahead) c.self.view_is)))

pub returns-clause-ahead : goal.returns-clause-ahead
returns-clause-ahead c =
    let w = c.self.inside in
    let size = length_piece w.bytes.items w.from w.count (omega arith) in
    sym (ap (λ h. drop (c.args.header + c.args.kept) h.ahead) (sym c.self.view_is) ∙ piece_behind w.bytes.items w.from w.count (c.args.header + c.args.kept) (omega (arith, ap (λ h. length h.ahead) c.self.view_is)))
