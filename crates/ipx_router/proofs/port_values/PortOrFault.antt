-- Values make a port, or there is a fault: each check in turn.
use Rattle.std.proofs.Common.{◌≡◌, sym, ap, ◌<◌, ◌^◌, ◌⊎◌, length, inl, inr, arith}
use Rattle.std.specs.Cmp.Lexicographic.{same_text, other_text}
use Rattle.std.proofs.lemmas.Bool.{cases_Bool, cases_eq, cases_lt}
use Rattle.ipx_wire.specs.Piece.{IsBytes}
use Rattle.ipx_wire.specs.declared.node.Node.{Node}
use Rattle.ipx_router.specs.Numbers.{default_route, least_longest}
use Rattle.ipx_router.specs.Port.{Port, IsPort, IsNoPort, broadcast, same_node}
use Rattle.ipx_router.specs.declared.port.PortFault.{PortFault}
use Rattle.ipx_router.specs.declared.port.PortFault.TheVariants.{Longest, Cost, Network as BadNetwork, Node as BadNode}

-- a node is the broadcast or another
broadcast_or_other : (node : Node) → (node ≡ broadcast) ⊎ (node ≡ broadcast → ⊥)
broadcast_or_other node = elim (cases_Bool (same_node node broadcast)) [
  | inl same ↦ inl (ap (λ bytes. record { 0 = bytes }) (same_text node.0 broadcast.0 (sym same)))
  | inr other ↦ inr (λ e. other_text node.0 broadcast.0 (sym other) (ap (λ n. n.0) e))
]

pub either : (p : Port) → p.cost < 2 ^ 16 → length p.node.0 ≡ 6 → IsBytes p.node.0 → IsPort p ⊎ ((fault : PortFault) × IsNoPort p.network p.node p.cost p.longest fault)
either p ticks six bytes = elim (cases_lt p.longest least_longest) [
  | inl short ↦ inr (Longest, short)
  | inr long ↦ elim (cases_eq p.cost 0) [
    | inl free ↦ inr (Cost, (long, free))
    | inr some ↦
        let cost : 0 < p.cost = omega (arith, some) in
        elim (cases_eq p.network.0 0) [
          | inl none ↦ inr (BadNetwork, (long, cost, inl none))
          | inr named ↦ elim (cases_lt p.network.0 default_route) [
            | inr beyond ↦ inr (BadNetwork, (long, cost, inr beyond))
            | inl ordinary ↦
                let network : 0 < p.network.0 = omega (arith, named) in
                elim (broadcast_or_other p.node) [
                  | inl all ↦ inr (BadNode, (long, cost, network, ordinary, all))
                  | inr one ↦ inl (record {
                    longest = long;
                    cost = cost;
                    ticks = ticks;
                    some_network = network;
                    ordinary_network = ordinary;
                    six_bytes = six;
                    bytes = bytes;
                    node = one;
                  })
                ]
          ]
        ]
  ]
]
