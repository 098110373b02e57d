-- Offers that compare as equal, field by field, are one.
use Rattle.std.proofs.Common.{arith}
use Rattle.std.proofs.Common.{rules}
use Rattle.std.proofs.Common.{◌≡◌, sym, ap, ◌∙◌, ℕ, ◌==◌, Bool, true, ◌&&◌, List, Option}
use Rattle.std.specs.Cmp.Lexicographic.{same_text}
use Rattle.std.proofs.lemmas.Bool.{eqb-true}
use Rattle.ipx_wire.specs.Name.{same_name}
use Rattle.ipx_table.specs.Taken.{same_left}
use Rattle.ipx_router.specs.Port.{same_node}
use Rattle.ipx_router.specs.inside.Touched.{IsExact}
use Rattle.ipx_router.specs.declared.route_offer.RouteOffer.{RouteOffer}
use Rattle.ipx_router.specs.declared.service_offer.ServiceOffer.{ServiceOffer}

-- so are what a key had and has
pub exact_left : {O : Type 0} (same : O → O → Bool) → IsExact same → (a b : Option O) → same_left same a b ≡ true → a ≡ b
exact_left same exact a b e = grind arith

both : (a b : Bool) → (a && b) ≡ true → (a ≡ true) × (b ≡ true)
both a b e = grind arith

abbrev route : ℕ → ℕ → ℕ → ℕ → List ℕ → RouteOffer
route network hops ticks port node = record { network = record { 0 = network }; hops = hops; ticks = ticks; port = port; node = record { 0 = node } }

pub route_exact : (a b : RouteOffer)
    → ((a.network.0 == b.network.0) && ((a.hops == b.hops) && ((a.ticks == b.ticks) && ((a.port == b.port) && same_node a.node b.node)))) ≡ true → a ≡ b
route_exact a b e = search (rules, both, eqb-true)

abbrev service : ℕ → List ℕ → ℕ → List ℕ → ℕ → ℕ → ℕ → List ℕ → ServiceOffer
service kind name network node socket hops port from = record {
  service = record { kind = kind; name = name; address = record { network = record { 0 = network }; node = record { 0 = node }; socket = record { 0 = socket } }; hops = hops };
  port = port;
  node = record { 0 = from };
}

pub service_exact : (a b : ServiceOffer)
    → (((a.service.kind == b.service.kind) && (same_name a.service.name b.service.name
    && (((a.service.address.network.0 == b.service.address.network.0) && (same_node a.service.address.node b.service.address.node
    && (a.service.address.socket.0 == b.service.address.socket.0))) && (a.service.hops == b.service.hops))))
    && ((a.port == b.port) && same_node a.node b.node)) ≡ true → a ≡ b
service_exact a b e =
    let x = a.service in
    let y = b.service in
    let from = (x.address.network.0 == y.address.network.0) && (same_node x.address.node y.address.node && (x.address.socket.0 == y.address.socket.0)) in
    let offered = (a.port == b.port) && same_node a.node b.node in
    let halves = both ((x.kind == y.kind) && (same_name x.name y.name && (from && (x.hops == y.hops)))) offered e in
    let kinds = both (x.kind == y.kind) (same_name x.name y.name && (from && (x.hops == y.hops))) halves.0 in
    let names = both (same_name x.name y.name) (from && (x.hops == y.hops)) kinds.1 in
    let last = both from (x.hops == y.hops) names.1 in
    let networks = both (x.address.network.0 == y.address.network.0) (same_node x.address.node y.address.node && (x.address.socket.0 == y.address.socket.0)) last.0 in
    let nodes = both (same_node x.address.node y.address.node) (x.address.socket.0 == y.address.socket.0) networks.1 in
    let ports = both (a.port == b.port) (same_node a.node b.node) halves.1 in
    ap (λ (n : ℕ). service n x.name x.address.network.0 x.address.node.0 x.address.socket.0 x.hops a.port a.node.0) (eqb-true x.kind y.kind kinds.0)
    ∙ ap (λ (bytes : List ℕ). service y.kind bytes x.address.network.0 x.address.node.0 x.address.socket.0 x.hops a.port a.node.0) (same_text x.name y.name (sym names.0))
    ∙ ap (λ (n : ℕ). service y.kind y.name n x.address.node.0 x.address.socket.0 x.hops a.port a.node.0) (eqb-true x.address.network.0 y.address.network.0 networks.0)
    ∙ ap (λ (bytes : List ℕ). service y.kind y.name y.address.network.0 bytes x.address.socket.0 x.hops a.port a.node.0) (same_text x.address.node.0 y.address.node.0 (sym nodes.0))
    ∙ ap (λ (n : ℕ). service y.kind y.name y.address.network.0 y.address.node.0 n x.hops a.port a.node.0) (eqb-true x.address.socket.0 y.address.socket.0 nodes.1)
    ∙ ap (λ (n : ℕ). service y.kind y.name y.address.network.0 y.address.node.0 y.address.socket.0 n a.port a.node.0) (eqb-true x.hops y.hops last.1)
    ∙ ap (λ (n : ℕ). service y.kind y.name y.address.network.0 y.address.node.0 y.address.socket.0 y.hops n a.node.0) (eqb-true a.port b.port ports.0)
    ∙ ap (λ (bytes : List ℕ). service y.kind y.name y.address.network.0 y.address.node.0 y.address.socket.0 y.hops b.port bytes) (same_text a.node.0 b.node.0 (sym ports.1))
