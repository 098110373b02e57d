use Rattle.std.proofs.Common.{◌∙◌, sym, rules, tests}
use Rattle.std.proofs.lemmas.Iterator.{YieldsList-from_slice}
use Rattle.std.proofs.lemmas.Iterator.Search.{any_from_yields_List}
use Rattle.ipx_tunnel.specs.Places.{same_node}
use Rattle.ipx_tunnel.proofs.Lists.{any-map}
use Rattle.ipx_keyed.specs.declared.client.Client.{Client}
use Rattle.ipx_keyed.proofs.places.is_node.Goals as goal

pub returns : goal.returns
returns c =
    let node = c.args.node in
    let clients = c.args.clients.now in
    any_from_yields_List (λ (client : Client). same_node client.node node) _ _ _ c.any.ensures.ran (YieldsList-from_slice clients cc) (λ x b q k. search (rules, tests))
    ∙ sym (any-map (λ p. same_node p node) (λ (client : Client). client.node) clients)
