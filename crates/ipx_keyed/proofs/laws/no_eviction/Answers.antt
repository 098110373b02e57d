use Rattle.std.proofs.Common.{◌∙◌, refl, ap, Bool, if◌then◌else◌, [], ◌∷◌}
use Rattle.ipx_tunnel.specs.Numbers.{answer_lasts, trust_lasts}
use Rattle.ipx_keyed.specs.Says.{said, node_in}
use Rattle.ipx_keyed.specs.Members.{fresh}
use Rattle.ipx_keyed.specs.Tables.{prolongs, clients}
use Rattle.ipx_keyed.proofs.Shown.{trusted_renews}
use Rattle.ipx_keyed.proofs.Staying.{others, same_clients, anew, a_second, stays_or_leaves}
use Rattle.ipx_keyed.proofs.laws.no_eviction.Goals as goal

pub returns-clause-others : goal.returns-clause-others
returns-clause-others c = λ setting history from bytes place other. others setting history from bytes place other

pub returns-clause-speech : goal.returns-clause-speech
returns-clause-speech c = λ setting history from bytes distrusted other there. same_clients setting history from bytes distrusted other there

pub returns-clause-answers : goal.returns-clause-answers
returns-clause-answers c = λ setting history from bytes node answers client.
    anew setting history from bytes node (ap (prolongs from) answers) (ap (node_in from) answers) client

pub returns-clause-trusted : goal.returns-clause-trusted
returns-clause-trusted c = λ setting history from bytes trusted some client.
    let node = node_in from (said setting.network from bytes) in
    anew setting history from bytes node (trusted_renews from (said setting.network from bytes) trusted some) refl client
    ∙ ap (λ (b : Bool). fresh from node (if b then trust_lasts else answer_lasts) ∷ []) trusted

pub returns-clause-left : goal.returns-clause-left
returns-clause-left c = λ setting history place node. stays_or_leaves place node (clients setting history)

pub returns-clause-second : goal.returns-clause-second
returns-clause-second c = λ setting history place. a_second setting history place
