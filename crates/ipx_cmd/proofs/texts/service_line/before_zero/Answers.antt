use Rattle.std.proofs.Common.{◌≡◌, ◌==◌, ◌∙◌, ℕ, length, Option, ap, rules, tests}
use Rattle.std.proofs.lemmas.Iterator.Search.{position_from_yields_List}
use Rattle.std.proofs.lemmas.Iterator.{YieldsList-from_slice}
use Rattle.std.specs.List.{position}
use Rattle.std.specs.Option.{unwrap_or}
use Rattle.ipx_wire.proofs.Names.{position_or_length}
use Rattle.ipx_cmd.proofs.texts.service_line.before_zero.Goals as goal

pub returns : goal.returns
returns c =
    let found : c.position.result ≡ position (λ byte. byte == 0) c.args.bytes.now =
    position_from_yields_List (λ byte. byte == 0) _ _ c.position.result c.position.ensures.ran (YieldsList-from_slice _ c.iter.ensures.rest) (λ x b q k. search (rules, tests)) in
    c.unwrap_or.ensures
    ∙ ap (λ (place : Option ℕ). unwrap_or place (length c.args.bytes.now)) found
    ∙ position_or_length c.args.bytes.now
