use Rattle.std.proofs.Common.{rules, arith, ◌≡◌, ap, sym, subst, ◌≤◌, ◌∙◌, ◌⊎◌, inl, inr, List, length, leb}
use Rattle.std.proofs.lemmas.Bool.{cases_lt}
use Rattle.std.specs.List.{insert}
use Rattle.ipx_internet.specs.inside.Stations.{stations_on, IsIndex}
use Rattle.ipx_internet.specs.declared.stations.Station.{Station}
use Rattle.ipx_internet.proofs.lists.SortedByNumber.{IsPoint}
use Rattle.ipx_internet.proofs.places.IndexOfStations.{on_networks, index_put}
use Rattle.ipx_internet.proofs.stations.Stations.put.Goals as goal

put : (c : goal.After-self-1) → c.insert_at.new.list.items ≡ insert c.args.self.now.list c.bounds-place.result.1 c.args.station
put c = search rules

point : (c : goal.After-self-1) → IsPoint (λ x. leb x.network.0 c.args.station.network.0) c.args.self.now.list c.bounds-place.result.1
point c = search rules

within : (c : goal.After-self-1) → c.bounds-place.result.1 ≤ length c.args.self.now.list
within c = search rules

index : (c : goal.After-self-1) → IsIndex c.args.self.now.list c.self.inside.most
index c = search rules

last : (c : goal.After-self-1) → c.part-most.result.now ≡ stations_on (insert c.args.self.now.list c.bounds-place.result.1 c.args.station) c.args.station.network
last c = c.part-most.ensures ∙ ap (λ list. stations_on list c.args.station.network) (c.deref-2.ensures.value ∙ put c)

pub invariant_of-self : goal.invariant_of-self
invariant_of-self c =
    let P : List Station → Type 0 = λ list. IsIndex list c.max-self-inside.result in
    let most = c.max-self-inside.ensures in
    let size = ap (λ part. length part) (last c) in
    let there = stations_on (insert c.args.self.now.list c.bounds-place.result.1 c.args.station) c.args.station.network in
    let either : (c.max-self-inside.result ≡ c.self.inside.most) ⊎ (c.max-self-inside.result ≡ length there) =
    elim (cases_lt c.self.inside.most (length c.part-most.result.now)) [
      | inl less ↦ inr (omega (arith, most, size, less))
      | inr not_less ↦ inl (omega (arith, most, size, not_less))
    ] in
    subst P (sym (put c))
    (index_put c.args.self.now.list c.bounds-place.result.1 c.args.station (point c) (within c) c.self.inside.most c.max-self-inside.result (index c)
    (omega (arith, most)) (omega (arith, most, size)) either)

pub returns-clause-others : goal.returns-clause-others
returns-clause-others c network =
    ap (λ list. stations_on list network) (put c) ∙ on_networks c.args.self.now.list c.bounds-place.result.1 c.args.station (point c) (within c) network
