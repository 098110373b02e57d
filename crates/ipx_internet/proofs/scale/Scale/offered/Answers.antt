use Rattle.std.proofs.Common.{arith}
use Rattle.ipx_wire.specs.declared.sap_entries.SapEntry.{SapEntry}
use Rattle.ipx_internet.specs.InternetWeight.{entry_weight, services_weight}
use Rattle.ipx_internet.proofs.scale.Scale.offered.Goals as goal
use Rattle.ipx_internet.proofs.weights.WeighedOneByOne.{sum_next, sum_whole}

pub loop-k-preserved : goal.loop-k-preserved
loop-k-preserved c =
    let entries = c.args.entries.now in
    let sum = c.saturating_add-sum.ensures in (
      λ net routes services is.
          let next = sum_next (λ (e : SapEntry). entry_weight net e.hops) entries c.loop-k.k c.loop-k.sum (services_weight net entries) (c.loop-k.invariant.0 net routes services is)
          c.entry-told.result c.entry-told.ensures c.entry-weight.result (c.entry-weight.ensures net routes services is) in
          omega (arith, next, sum),
      omega (arith, sum),
    )

pub returns : goal.returns
returns c = λ net routes services is.
    let entries = c.args.entries.now in
    let last = c.loop-k-test.false in
    let size = c.len-k-end.ensures.value in
    let few = c.loop-k.invariant.1 in
    sum_whole (λ (e : SapEntry). entry_weight net e.hops) entries c.loop-k.k c.loop-k.sum (services_weight net entries) (c.loop-k.invariant.0 net routes services is)
    (omega (arith, last, size)) (omega (arith, few))
