use Rattle.std.proofs.Common.{◌≡◌, ◌∷◌, ◌++◌, take, length, flat_map, sym, ap, ◌∙◌, arith}
use Rattle.std.specs.Prelude.{codes}
use Rattle.ipx_settings.specs.WritingLinks.{spaced}
use Rattle.ipx_settings.specs.WritingLines.{socket_word, sockets_words}
use Rattle.ipx_settings.proofs.Spaces.{sockets_listed, given, list_length}
use Rattle.ipx_settings.proofs.writing_lists.write_sockets.Goals as goal

pub returns-clause-size : goal.returns-clause-size
returns-clause-size c =
    let sockets = c.args.sockets.now in
    let text : take c.put_sockets-end.result c.put_sockets-end.new.room ≡ spaced (sockets_words sockets) =
    c.put_sockets-end.ensures.room ∙ ap (λ l. l ++ flat_map (λ socket. 32 ∷ socket_word socket) sockets) c.put_text-at.ensures.room ∙ sym (sockets_listed sockets) in
    c.give.ensures.size ∙ (given (sockets_words sockets) _ c.args.out.now (length sockets) (list_length socket_word (codes "extend") sockets) (omega (arith, c.if-sockets-gt-MOST_LISTED.false)) text).0

pub returns-clause-bytes : goal.returns-clause-bytes
returns-clause-bytes c =
    let sockets = c.args.sockets.now in
    let text : take c.put_sockets-end.result c.put_sockets-end.new.room ≡ spaced (sockets_words sockets) =
    c.put_sockets-end.ensures.room ∙ ap (λ l. l ++ flat_map (λ socket. 32 ∷ socket_word socket) sockets) c.put_text-at.ensures.room ∙ sym (sockets_listed sockets) in
    c.give.ensures.bytes ∙ (given (sockets_words sockets) _ c.args.out.now (length sockets) (list_length socket_word (codes "extend") sockets) (omega (arith, c.if-sockets-gt-MOST_LISTED.false)) text).1
