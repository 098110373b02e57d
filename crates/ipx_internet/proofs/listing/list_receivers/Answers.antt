use Rattle.std.proofs.Common.{sym, subst, ◌∙◌, suc, ◌∷◌, [], List, map, filter, drop, get_or}
use Rattle.std.proofs.lemmas.Result.{err_from_is_err_and}
use Rattle.ipx_internet.specs.Listed.{child, Fills}
use Rattle.ipx_internet.specs.inside.Stations.{hears}
use Rattle.ipx_internet.specs.declared.listing.Listed.{Listed}
use Rattle.ipx_internet.proofs.listing.list_receivers.Goals as goal
use Rattle.ipx_internet.proofs.trees.ListingUpToALimit.{cut_short, one_hears, some_station}

pub returns-in_err-add-clause-refused : goal.returns-in_err-add-clause-refused
returns-in_err-add-clause-refused c =
    let p = err_from_is_err_and c.from_residual.result c.from_residual.ensures.1 in
    let k = c.loop-station.station-index in
    let xs = c.args.stations.now in
    let first = c.args.list.now.items in
    let of = child c.args.parent c.args.start c.args.size in
    let test = hears c.args.parent.router c.args.link in
    let there = one_hears of test xs k some_station c.loop-station-test.true (sym c.hears.ensures ∙ c.if-hears.true) in
    let fills : Fills c.args.limit first c.loop-station.list.items (map of (filter test xs))
    (of (get_or xs k some_station) ∷ map of (filter test (drop (suc k) xs))) =
    subst (λ (r : List Listed). Fills c.args.limit first c.loop-station.list.items (map of (filter test xs)) r) there c.loop-station.invariant.fills in
    rw (p.1, p.2)
    (cut_short c.args.limit first c.loop-station.list.items (map of (filter test xs)) (of (get_or xs k some_station) ∷ [])
    (map of (filter test (drop (suc k) xs))) _ fills
    c.in_err-add.ensures.refused)
