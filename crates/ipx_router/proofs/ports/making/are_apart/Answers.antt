use Rattle.std.proofs.Common.{◌≡◌, ap, sym, ◌∙◌, suc, ◌+◌, drop, true, List, arith}
use Rattle.std.proofs.lemmas.List.{take_rest}
use Rattle.ipx_wire.specs.declared.network.Network.{Network}
use Rattle.ipx_router.specs.Port.{Port, port_at}
use Rattle.ipx_router.proofs.port_values.NoTwoOnOneNetwork.{has_network, apart_from, not_apart}
use Rattle.ipx_router.proofs.ports.making.are_apart.Goals as goal

pub returns-then-is_on-clause-same : goal.returns-then-is_on-clause-same
returns-then-is_on-clause-same c = λ same.
    let next : c.loop-place.place + 1 ≡ suc c.loop-place.place = omega arith in
    let found : has_network (drop (suc c.loop-place.place) c.args.ports.now) (port_at c.args.ports.now c.loop-place.place).network ≡ true =
    ap (λ (n : Network). has_network (drop (suc c.loop-place.place) c.args.ports.now) n) (sym c.network_at.ensures)
    ∙ ap (λ k. has_network (drop k c.args.ports.now) c.network_at.result) (sym next)
    ∙ ap (λ (ports : List Port). has_network ports c.network_at.result) (sym (take_rest c.args.ports.now (c.loop-place.place + 1)))
    ∙ sym c.is_on.ensures ∙ c.if-is_on.true in
    not_apart c.args.ports.now c.loop-place.place c.loop-place-test.true found

pub returns-clause-apart : goal.returns-clause-apart
returns-clause-apart c = λ same.
    apart_from c.args.ports.now (λ k below. c.loop-place.invariant.none k (omega (arith, below, c.loop-place-test.false)))
