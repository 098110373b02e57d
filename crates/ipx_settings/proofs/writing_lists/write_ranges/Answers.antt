use Rattle.std.proofs.Common.{◌≡◌, ◌∷◌, ◌++◌, take, length, flat_map, map, sym, ap, ◌∙◌, arith}
use Rattle.ipx_settings.specs.WritingLinks.{spaced}
use Rattle.ipx_settings.specs.WritingLines.{range_word}
use Rattle.ipx_settings.proofs.Spaces.{ranges_listed, given, list_length}
use Rattle.ipx_settings.proofs.writing_lists.write_ranges.Goals as goal

pub returns-clause-size : goal.returns-clause-size
returns-clause-size c =
    let ranges = c.args.ranges.now in
    let word = c.args.word.now in
    let text : take c.put_ranges-end.result c.put_ranges-end.new.room ≡ spaced (word ∷ map range_word ranges) =
    c.put_ranges-end.ensures.room ∙ ap (λ l. l ++ flat_map (λ range. 32 ∷ range_word range) ranges) c.put_text-at.ensures.room ∙ sym (ranges_listed word ranges) in
    c.give.ensures.size ∙ (given (word ∷ map range_word ranges) _ c.args.out.now (length ranges) (list_length range_word word ranges) (omega (arith, c.if-ranges-gt-MOST_LISTED.false)) text).0

pub returns-clause-bytes : goal.returns-clause-bytes
returns-clause-bytes c =
    let ranges = c.args.ranges.now in
    let word = c.args.word.now in
    let text : take c.put_ranges-end.result c.put_ranges-end.new.room ≡ spaced (word ∷ map range_word ranges) =
    c.put_ranges-end.ensures.room ∙ ap (λ l. l ++ flat_map (λ range. 32 ∷ range_word range) ranges) c.put_text-at.ensures.room ∙ sym (ranges_listed word ranges) in
    c.give.ensures.bytes ∙ (given (word ∷ map range_word ranges) _ c.args.out.now (length ranges) (list_length range_word word ranges) (omega (arith, c.if-ranges-gt-MOST_LISTED.false)) text).1
