use Rattle.std.proofs.Common.{◌∙◌, sym, ap, rules, tests, length, filter}
use Rattle.std.proofs.lemmas.List.{length-map}
use Rattle.std.proofs.lemmas.Iterator.{YieldsList-from_slice}
use Rattle.std.proofs.lemmas.Iterator.Consumers.{count_from_yields_List, YieldsList-from_filter}
use Rattle.ipx_tunnel.specs.Places.{same_address}
use Rattle.ipx_keyed.specs.declared.client.Client.{Client}
use Rattle.ipx_tunnel.proofs.Lists.{filter-map}
use Rattle.ipx_keyed.proofs.places.of_address.Goals as goal

pub returns : goal.returns
returns c =
    let place = c.args.place in
    let clients = c.args.clients.now in
    let same = λ (client : Client). same_address client.place place in
    count_from_yields_List _ _ c.count.ensures.ran
    (YieldsList-from_filter _ same (YieldsList-from_slice clients cc) c.filter.ensures.closure (λ x b q k. search (rules, tests)))
    ∙ sym (length-map (filter same clients) (λ (client : Client). client.place))
    ∙ ap length (sym (filter-map (λ p. same_address p place) (λ (client : Client). client.place) clients))
