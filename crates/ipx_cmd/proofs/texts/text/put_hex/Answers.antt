use Rattle.std.proofs.Common.{◌≡◌, List, ℕ, [], ◌++◌, sym, ap, ◌∙◌, arith, append_assoc, append-nil}
use Rattle.std.proofs.lemmas.Bool.{eqb-true}
use Rattle.std.proofs.lemmas.List.{nil_from_length}
use Rattle.hex.specs.Hex.{encode_upper, upper_digits}
use Rattle.ipx_wire.proofs.HexText.{encode_with-append, encode_upper-none}
use Rattle.ipx_cmd.proofs.captures.HowARunEnds.{on_err_always}
use Rattle.ipx_cmd.proofs.written.NoRoomForTheWhole.{full}
use Rattle.ipx_cmd.proofs.texts.text.put_hex.Goals as goal

pub loop-rest-preserved : goal.loop-rest-preserved
loop-rest-preserved c =
    let now = c.loop-rest.text.items in
    let piece = c.split_at.result.0.now in
    let behind = c.split_at.result.1.now in
    let digits : encode_upper c.loop-rest.rest.now ≡ encode_upper piece ++ encode_upper behind =
    ap encode_upper c.split_at.ensures.by_index.0 ∙ encode_with-append upper_digits piece behind in (
      ap (λ (t : List ℕ). t ++ encode_upper behind) c.in_ok-put_piece.ensures.text ∙ append_assoc now (encode_upper piece) (encode_upper behind)
          ∙ ap (λ (t : List ℕ). now ++ t) (sym digits) ∙ c.loop-rest.invariant.0,
      omega (arith, c.loop-rest.invariant.1, c.in_ok-put_piece.ensures.kept),
    )

pub returns-in_err-put_piece-clause-room : goal.returns-in_err-put_piece-clause-room
returns-in_err-put_piece-clause-room c =
    let now = c.loop-rest.text.items in
    let piece = c.split_at.result.0.now in
    let behind = c.split_at.result.1.now in
    let digits : encode_upper c.loop-rest.rest.now ≡ encode_upper piece ++ encode_upper behind =
    ap encode_upper c.split_at.ensures.by_index.0 ∙ encode_with-append upper_digits piece behind in
    on_err_always c.from_residual.result (full c.args.text.now.items (encode_upper c.args.bytes.now) now (encode_upper piece) (encode_upper behind) _ _
    (ap (λ (t : List ℕ). now ++ t) (sym digits) ∙ c.loop-rest.invariant.0) c.loop-rest.invariant.1 c.in_err-put_piece.ensures.room)

pub returns-clause-text : goal.returns-clause-text
returns-clause-text c =
    let now = c.loop-rest.text.items in
    let none : c.loop-rest.rest.now ≡ [] = nil_from_length c.loop-rest.rest.now (eqb-true _ _ (sym c.loop-rest-test.ensures)) in
    sym (append-nil now) ∙ ap (λ (t : List ℕ). now ++ t) (sym (ap encode_upper none ∙ encode_upper-none)) ∙ c.loop-rest.invariant.0
