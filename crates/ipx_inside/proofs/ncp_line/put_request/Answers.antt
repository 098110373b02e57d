use Rattle.std.proofs.Common.{ℕ, List, ◌++◌, ap, decimal, ◌∙◌, codes}
use Rattle.ipx_inside.specs.Fields.{named}
use Rattle.ipx_inside.specs.NcpText.{caller_text, request_text, sub_text}
use Rattle.ipx_inside.proofs.ncp_line.put_request.Goals as goal

pub returns : goal.returns
unfolding request_text
returns c =
    let sub = sub_text c.args.sub in
    let name = named (codes " ") c.function_name.result.now in
    c.put_named.ensures.text
    ∙ ap (λ (t : List ℕ). t ++ name) c.put_sub.ensures.text
    ∙ ap (λ (t : List ℕ). t ++ sub ++ name) c.put_field.ensures.text
    ∙ ap (λ (t : List ℕ). t ++ codes " function " ++ decimal c.from.result ++ sub ++ name) c.put_caller.ensures.text
    ∙ ap (λ (n : ℕ). caller_text (codes "ncp request") c.args.caller ++ codes " function " ++ decimal n ++ sub ++ name) c.from.ensures
    ∙ ap (λ (t : List ℕ). caller_text (codes "ncp request") c.args.caller ++ codes " function " ++ decimal c.args.function ++ sub ++ named (codes " ") t) c.function_name.ensures.name
