-- Networks that routes may lead to: no port is on one.
use Rattle.std.proofs.Common.{arith}
use Rattle.std.proofs.lemmas.Grind.{common_steps}
use Rattle.std.proofs.Common.{◌≡◌, refl, ℕ, ◌==◌, false, List, [], ◌∷◌, None}
use Rattle.std.specs.List.{list_any}
use Rattle.std.proofs.lemmas.Bool.{or_parts, eqb-false, ne_eqb}
use Rattle.ipx_wire.specs.declared.address.Address.{Address}
use Rattle.ipx_wire.specs.declared.network.Network.{Network}
use Rattle.ipx_router.specs.Numbers.{local_network}
use Rattle.ipx_router.specs.Outgoing.{port_to, is_own_port}
use Rattle.ipx_router.specs.Port.{Port, port_at, takes_no_route}

module _ (network : Network) where
  abbrev Elsewhere : List Port → Type 0
  Elsewhere ports = list_any (λ p. p.network.0 == network.0) ports ≡ false

  -- nor is the port behind the last, whose network is the local one
  none_at : (ports : List Port) (j : ℕ) → (network.0 == local_network) ≡ false → Elsewhere ports → ((port_at ports j).network.0 == network.0) ≡ false
  none_at ports j ordinary none = grind (arith, common_steps, ne_eqb, eqb-false, or_parts)

  none_to : (ports : List Port) (up : List ℕ) → (network.0 == local_network) ≡ false → Elsewhere ports → port_to ports up network ≡ None
  none_to ports [] ordinary none = refl
  none_to ports (j ∷ up) ordinary none = rw (none_at ports j ordinary none) (none_to ports up ordinary none)

module _ (destination : Address) where
  none_own : (ports : List Port) → Elsewhere destination.network ports → is_own_port ports destination ≡ false
  none_own [] none = refl
  none_own (p ∷ ports) none =
      let parts = or_parts (p.network.0 == destination.network.0) (list_any (λ q. q.network.0 == destination.network.0) ports) none in
      rw parts.0 (none_own ports parts.1)

  routed : (ports : List Port) → takes_no_route ports destination.network ≡ false
      → ((destination.network.0 == local_network) ≡ false) × Elsewhere destination.network ports
  routed ports taken = grind arith

  -- what is for such a network is for no port
  pub not_own : (ports : List Port) → takes_no_route ports destination.network ≡ false → is_own_port ports destination ≡ false
  not_own ports taken = none_own ports (routed ports taken).1

  -- and only a route says its way
  pub by_route : (ports : List Port) (up : List ℕ) → takes_no_route ports destination.network ≡ false → port_to ports up destination.network ≡ None
  by_route ports up taken = none_to destination.network ports up (routed ports taken).0 (routed ports taken).1
