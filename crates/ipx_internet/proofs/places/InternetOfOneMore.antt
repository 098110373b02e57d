-- One router more, none of whose ports has network and node of a port of another: it stays an internet.
use Rattle.std.proofs.lemmas.Grind.{common_steps}
use Rattle.std.proofs.Common.{◌≡◌, sym, ap, ◌∙◌, subst, ℕ, ◌+◌, ◌<◌, List, [], ◌∷◌, ◌++◌, length, drop, inl, inr, arith, length-append}
use Rattle.std.specs.List.{AllByRecursion}
use Rattle.std.proofs.lemmas.Bool.{cases_lt}
use Rattle.std.proofs.lemmas.List.{get_or_append_left, get_or-append-add, map-append}
use Rattle.ipx_router.specs.Port.{Port, IsPort, AreApart, port_at}
use Rattle.ipx_router.specs.RouterOf.{HasPast}
use Rattle.ipx_router.specs.Stands.{State}
use Rattle.ipx_internet.specs.Internet.{Internet, Place, IsInternet, NodesDiffer, IsPlace, ports_of, port_of, network_of}
use Rattle.ipx_internet.specs.Moment.{SharesNode}
use Rattle.ipx_internet.specs.Queue.{Delivery}
use Rattle.ipx_internet.specs.Rounds.{IsDelivery}
use Rattle.ipx_internet.specs.inside.Simulated.{net_among, IsSimulated}
use Rattle.ipx_internet.specs.inside.Stations.{AreOf}
use Rattle.ipx_internet.specs.declared.stations.Station.{Station}
use Rattle.ipx_internet.proofs.deliveries.FirstIsHandedOut.{within_net}
use Rattle.ipx_internet.proofs.lists.EachElement.{all_then, all-append}

module _ (net : Internet) (ports : List Port) where
  abbrev wider : Internet
  wider = net ++ ports ∷ []

  -- a place of the internet before
  same_ports : (router : ℕ) → router < length net → ports_of wider router ≡ ports_of net router
  same_ports router less = get_or_append_left net (ports ∷ []) [] router less

  same_port : (place : Place) → place.router < length net → port_of wider place ≡ port_of net place
  same_port place less = ap (λ (ps : List Port). port_at ps place.port) (same_ports place.router less)

  still_place : (place : Place) → IsPlace net place → IsPlace wider place
  still_place place there = grind (arith, same_ports, within_net)

  was_place : (place : Place) → place.router < length net → IsPlace wider place → IsPlace net place
  was_place place less there = subst (λ (ps : List Port). place.port < length ps) (same_ports place.router less) there

  -- a port of the router that is new
  last_number : (place : Place) → length net < place.router + 1 → IsPlace wider place → place.router ≡ length net
  last_number place from there = grind (arith, common_steps, within_net, length-append)

  last_ports : (router : ℕ) → router ≡ length net → ports_of wider router ≡ ports
  last_ports router is = grind (arith, common_steps, get_or-append-add)

  -- a port of it and one of another have different nodes, where they are on one network
  module _ (fresh : SharesNode net ports → ⊥) where
    new_differs : (a b : Place) → a.router < length net → b.router ≡ length net → IsPlace wider a → IsPlace wider b → network_of wider a ≡ network_of wider b
        → (port_of wider a).node ≡ (port_of wider b).node → ⊥
    new_differs a b less last there_a there_b network node =
        let at_a = same_port a less in
        let at_b : port_of wider b ≡ port_at ports b.port = ap (λ (ps : List Port). port_at ps b.port) (last_ports b.router last) in
        let within : b.port < length ports = subst (λ (ps : List Port). b.port < length ps) (last_ports b.router last) there_b in
        fresh (
          b.port,
          within,
          record {
            place = a;
            there = was_place a less there_a;
            network = sym (ap (λ (p : Port). p.network) at_a) ∙ network ∙ ap (λ (p : Port). p.network) at_b;
            node = sym (ap (λ (p : Port). p.node) at_a) ∙ node ∙ ap (λ (p : Port). p.node) at_b;
          },
        )

    nodes_differ : NodesDiffer net → NodesDiffer wider
    nodes_differ differ a b there_a there_b other network node = elim (cases_lt a.router (length net)) [
      | inl old_a ↦ elim (cases_lt b.router (length net)) [
        | inl old_b ↦
            let at_a = same_port a old_a in
            let at_b = same_port b old_b in
            differ a b (was_place a old_a there_a) (was_place b old_b there_b) other
            (sym (ap (λ (p : Port). p.network) at_a) ∙ network ∙ ap (λ (p : Port). p.network) at_b)
            (sym (ap (λ (p : Port). p.node) at_a) ∙ node ∙ ap (λ (p : Port). p.node) at_b)
        | inr new_b ↦ new_differs a b old_a (last_number b (omega (arith, new_b)) there_b) there_a there_b network node
      ]
      | inr new_a ↦ elim (cases_lt b.router (length net)) [
        | inl old_b ↦ new_differs b a old_b (last_number a (omega (arith, new_a)) there_a) there_b there_a (sym network) (sym node)
        | inr new_b ↦ absurd (other (last_number a (omega (arith, new_a)) there_a ∙ sym (last_number b (omega (arith, new_b)) there_b)))
      ]
    ]

  is_wider : IsInternet net → AllByRecursion IsPort ports → AreApart ports → IsInternet wider
  is_wider is are apart = grind (arith, all-append)

pub wider_net : (routers : List State) (r : State) → net_among (routers ++ r ∷ []) ≡ net_among routers ++ r.ports ∷ []
wider_net routers r = map-append (λ (s : State). s.ports) routers (r ∷ [])

pub wider_simulated : (most_routes most_services : ℕ) (routers : List State) (r : State) (list new : List Station) (front : List Delivery)
    (done : ℕ) (back : List Delivery)
    → IsSimulated most_routes most_services routers list front done back → (SharesNode (net_among routers) r.ports → ⊥)
    → AllByRecursion IsPort r.ports → AreApart r.ports → HasPast most_routes most_services r → AreOf (net_among routers ++ r.ports ∷ []) new
    → IsSimulated most_routes most_services (routers ++ r ∷ []) new front done back
wider_simulated most_routes most_services routers r list new front done back is fresh are apart past of =
    let net = net_among routers in
    let more = sym (wider_net routers r) in
    record {
      sound = record {
        internet = subst (λ (n : Internet). IsInternet n) more (is_wider net r.ports is.sound.internet are apart);
        nodes = subst (λ (n : Internet). NodesDiffer n) more (nodes_differ net r.ports fresh is.sound.nodes);
        pasts = all-append (HasPast most_routes most_services) routers (r ∷ []) is.sound.pasts (past, tt);
        stationed = subst (λ (n : Internet). AreOf n new) more of;
      };
      coming = subst (λ (n : Internet). AllByRecursion (IsDelivery n) (drop done front ++ back)) more
          (all_then (IsDelivery net) (IsDelivery (net ++ r.ports ∷ [])) (λ d is_one. record { place = still_place net r.ports d.to is_one.place; bytes = is_one.bytes }) (drop done front ++ back) is.coming);
      within = is.within;
    }
