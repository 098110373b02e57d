use Rattle.std.proofs.Common.{rules, ltb, leb, arith, inl, inr}
use Rattle.std.proofs.lemmas.Bool.{cases_lt, ltb-true, ltb-false, le-leb, lt-leb}
use Rattle.std.proofs.lemmas.List.Sorted.{IsPartitionPoint-from_clause, IsPartitionedBy-ltb}
use Rattle.ipx_internet.proofs.lists.SortedByNumber.{IsPoint, part_is}
use Rattle.ipx_internet.proofs.stations.bounds.Goals as goal

below : (c : goal.After-end_from) → IsPoint (λ y. ltb y.network.0 c.args.network.0) c.args.list.now c.partition_point-first.result
below c =
    IsPartitionPoint-from_clause (λ y. ltb y.network.0 c.args.network.0) _ _ c.partition_point-first.ensures.partitioned
    (IsPartitionedBy-ltb (λ s. s.network.0) _ c.args.network.0 c.requires) (λ a r q k. search rules)

up_to : (c : goal.After-end_from) → IsPoint (λ y. leb y.network.0 c.args.network.0) c.args.list.now c.end_from.result
up_to c = (
  λ k d from less. elim (cases_lt k c.partition_point-first.result) [
    | inl before ↦ let low = ltb-true _ _ ((below c).0 k d from before) in le-leb _ _ (omega (arith, low))
    | inr behind ↦ let here = c.end_from.ensures.on k d behind less in le-leb _ _ (omega (arith, here))
  ],
  λ k d from less.
      let end_within = c.end_from.ensures.within in
      let first_from = c.end_from.ensures.from in
      let low = ltb-false _ _ ((below c).1 c.end_from.result d first_from (omega (arith, from, less))) in
      let other = c.end_from.ensures.other d (omega (arith, from, less)) in
      let up = c.requires c.end_from.result k d from less in
      lt-leb _ _ (omega (arith, low, other, up)),
)

pub end_from-requires : goal.end_from-requires
end_from-requires c = c.partition_point-first.ensures.bound

pub returns-clause-order : goal.returns-clause-order
returns-clause-order c = c.end_from.ensures.from

pub returns-clause-part : goal.returns-clause-part
returns-clause-part c =
    part_is (λ s. s.network.0) c.args.network.0 c.args.list.now c.partition_point-first.result c.end_from.result (below c) (up_to c)
    c.partition_point-first.ensures.bound c.end_from.ensures.within

pub returns-clause-point : goal.returns-clause-point
returns-clause-point c = up_to c
