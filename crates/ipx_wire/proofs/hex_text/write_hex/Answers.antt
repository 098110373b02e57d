use Rattle.std.proofs.Common.{◌≡◌, refl, [], ◌++◌, ◌∙◌, sym, ap, List, ℕ}
use Rattle.std.proofs.lemmas.Bool.{eqb-true}
use Rattle.std.proofs.lemmas.Grind.{put_two}
use Rattle.std.proofs.lemmas.List.{append_assoc, append-nil, nil_from_length}
use Rattle.std.proofs.Output.{has_written_of_eq, writes_in_calls_nil}
use Rattle.hex.specs.Hex.{encode_upper, upper_digits}
use Rattle.ipx_wire.proofs.HexText.{encode_with-append, encode_upper-none}
use Rattle.ipx_wire.proofs.hex_text.write_hex.Goals as goal

pub loop-rest-init : goal.loop-rest-init
loop-rest-init g c = λ plain. ([], record { wrote = writes_in_calls_nil _ _; plain = plain }, refl {a = encode_upper c.args.bytes.now})

pub loop-rest-preserved : goal.loop-rest-preserved
loop-rest-preserved g c = λ plain.
    let so_far = c.loop-rest.invariant plain in
    let more = c.in_ok-write_piece.ensures so_far.1.plain refl in
    let piece = c.split_at.result.0.now in
    let behind = c.split_at.result.1.now in
    let digits : encode_upper c.loop-rest.rest.now ≡ encode_upper piece ++ encode_upper behind =
    ap encode_upper c.split_at.ensures.by_index.0 ∙ encode_with-append upper_digits piece behind in (
      so_far.0 ++ encode_upper piece,
      put_two g.W.Write.write_str_gives _ _ _ so_far.0 (encode_upper piece) (so_far.0 ++ encode_upper piece) so_far.1 more (refl {a = so_far.0 ++ encode_upper piece}),
      append_assoc so_far.0 (encode_upper piece) (encode_upper behind) ∙ ap (λ (rest : List ℕ). so_far.0 ++ rest) (sym digits) ∙ so_far.2,
    )

pub returns : goal.returns
returns g c = λ plain done.
    let so_far = c.loop-rest.invariant plain in
    let none : c.loop-rest.rest.now ≡ [] = nil_from_length c.loop-rest.rest.now (eqb-true _ _ (sym c.loop-rest-test.ensures)) in
    let whole : so_far.0 ≡ encode_upper c.args.bytes.now =
    sym (append-nil so_far.0) ∙ ap (λ (rest : List ℕ). so_far.0 ++ rest) (sym (ap encode_upper none ∙ encode_upper-none)) ∙ so_far.2 in
    has_written_of_eq g.W.Write.write_str_gives c.args.f.now so_far.0 (encode_upper c.args.bytes.now) c.loop-rest.f whole so_far.1
