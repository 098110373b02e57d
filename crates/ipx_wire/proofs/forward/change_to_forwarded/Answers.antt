use Rattle.std.proofs.Common.{◌+◌, [], ◌∷◌, ◌++◌, List, ℕ, append_assoc, take, drop, sym, ap, ◌∙◌}
use Rattle.ipx_wire.specs.declared.header.Header.{Header}
use Rattle.ipx_wire.proofs.Forwarded.{forwarded_whole}
use Rattle.ipx_wire.proofs.forward.change_to_forwarded.Goals as goal

pub returns : goal.returns
returns c =
    let came = c.args.bytes.now in
    c.put_u8.ensures.after
    ∙ append_assoc (take 4 came) ((c.header.result.control + 1) ∷ []) (drop 5 came)
    ∙ ap (λ (h : Header). take 4 came ++ (h.control + 1) ∷ drop 5 came) c.header.ensures
    ∙ ap (λ (x : List ℕ). take 4 x ++ (c.args.packet.now.header.control + 1) ∷ drop 5 x) c.requires.own
    ∙ sym (forwarded_whole c.args.packet.now)
