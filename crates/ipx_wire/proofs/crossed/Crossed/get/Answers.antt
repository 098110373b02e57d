use Rattle.std.proofs.Common.{◌<◌, List, sym, ap, ◌∙◌, length, arith, Some, slice_get}
use Rattle.ipx_wire.specs.declared.network.Network.{Network}
use Rattle.ipx_wire.proofs.Crossings.{length-networks_at, slice_get-networks_at}
use Rattle.ipx_wire.proofs.crossed.Crossed.get.Goals as goal

pub overflow_mul-k : goal.overflow_mul-k
overflow_mul-k c =
    let count = length-networks_at c.self.inside.count c.self.inside.payload.now in
    let same = ap (λ (ns : List Network). length ns) c.self.view_is in
    omega (arith, count, same, c.self.invariant.most, c.self.told)

pub network_from-requires : goal.network_from-requires
network_from-requires c =
    let count = length-networks_at c.self.inside.count c.self.inside.payload.now in
    let same = ap (λ (ns : List Network). length ns) c.self.view_is in
    omega (arith, count, same, c.self.invariant.most, c.self.invariant.enough, c.self.told)

pub returns : goal.returns
returns c =
    let count = length-networks_at c.self.inside.count c.self.inside.payload.now in
    let same = ap (λ (ns : List Network). length ns) c.self.view_is in
    let below : c.args.k < c.self.inside.count = omega (arith, count, same) in
    ap (λ (ns : List Network). slice_get ns c.args.k) (sym c.self.view_is)
    ∙ slice_get-networks_at c.self.inside.count c.args.k c.self.inside.payload.now below
    ∙ ap (λ (n : Network). Some n) (sym c.network_from.ensures)
