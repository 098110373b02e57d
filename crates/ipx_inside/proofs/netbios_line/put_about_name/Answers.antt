use Rattle.std.proofs.Common.{ℕ, List, [], ◌∷◌, ◌++◌, ap, ◌∙◌, codes}
use Rattle.hex.specs.Hex.{encode_upper}
use Rattle.ipx_inside.specs.NetBiosText.{name_text}
use Rattle.ipx_inside.proofs.netbios_line.put_about_name.Goals as goal

pub returns : goal.returns
returns c =
    let name = name_text c.args.name.now in
    let flags = encode_upper (c.args.flags ∷ []) in
    c.put_name.ensures.text
    ∙ ap (λ (t : List ℕ). t ++ name) c.put.ensures.text
    ∙ ap (λ (t : List ℕ). t ++ codes " name " ++ name) c.put_byte_field.ensures.text
    ∙ ap (λ (t : List ℕ). t ++ codes " flags " ++ flags ++ codes " name " ++ name) c.put_operation.ensures.text
