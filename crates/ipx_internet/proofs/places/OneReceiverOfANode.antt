-- Who receives a packet: what a delivery says of the port, and that a packet for one node has one receiver.
use Rattle.std.proofs.Common.{◌≡◌, ◌≢◌, refl, ap, ℕ, zero, suc, ◌<◌, ◌||◌, true, false, List, [], ◌∷◌, length, arith}
use Rattle.std.specs.List.{AllByRecursion}
use Rattle.std.proofs.lemmas.Bool.{cases_eq}
use Rattle.ipx_wire.specs.declared.network.Network.{Network}
use Rattle.ipx_wire.specs.declared.node.Node.{Node}
use Rattle.ipx_router.specs.Port.{Port, IsPort, AreApart, broadcast, port_at, same_node}
use Rattle.ipx_internet.specs.Delivery.{receives}
use Rattle.ipx_internet.specs.Internet.{Internet, Place, ports_of, port_of, network_of, IsPlace, IsInternet, NodesDiffer}
use Rattle.ipx_internet.proofs.lists.EachElement.{all_or, all_at}
use Rattle.ipx_internet.proofs.packets.SentOnReadAgain.{Wire}

-- ---- ports of one router

-- two ports on one network are one port
pub one_port : (ports : List Port) → AreApart ports → (i j : ℕ) → i < length ports → j < length ports
    → (port_at ports i).network ≡ (port_at ports j).network → i ≡ j
one_port [] apart i j one two e = absurd (omega (arith, one))
one_port (p ∷ ports) apart zero zero one two e = refl
one_port (p ∷ ports) apart zero (suc j) one two e = grind (arith, all_at)
one_port (p ∷ ports) apart (suc i) zero one two e = grind (arith, all_at)
one_port (p ∷ ports) apart (suc i) (suc j) one two e = ap suc (one_port ports apart.1 i j (omega (arith, one)) (omega (arith, two)) e)

-- networks of one number are one
pub same_number : (a b : Network) → a.0 ≡ b.0 → a ≡ b
same_number a b e = grind arith

module _ (net : Internet) (is : IsInternet net) where
  -- ports of a router that there is or isn't
  pub apart_at : (router : ℕ) → AreApart (ports_of net router)
  apart_at router = all_or AreApart net router [] is.apart tt

  pub ports_at : (router : ℕ) → AllByRecursion IsPort (ports_of net router)
  ports_at router = all_or (AllByRecursion IsPort) net router [] is.ports tt

  -- the port at a place is one
  pub port_is : (place : Place) → IsPlace net place → IsPort (port_of net place)
  port_is place within = all_at IsPort (ports_of net place.router) place.port (port_at [] 0) (ports_at place.router) within

  -- places on one network in one router are one
  same_router : (r s i j : ℕ) → r ≡ s → IsPlace net (record { router = r; port = i }) → IsPlace net (record { router = s; port = j })
      → network_of net (record { router = r; port = i }) ≡ network_of net (record { router = s; port = j }) → i ≡ j
  same_router r s i j e one two nets = grind (arith, one_port, apart_at)

  pub same_place : (a b : Place) → a.router ≡ b.router → IsPlace net a → IsPlace net b → network_of net a ≡ network_of net b → a ≡ b
  same_place a b e one two nets = grind (arith, same_router)

-- ---- a delivery

-- what it says of the port that receives
pub record Receives (net : Internet) (from : Place) (link : Node) (to : Place) : Type 0 where
  pub other : to.router ≢ from.router
  pub network : network_of net to ≡ network_of net from
  pub node : (same_node (port_of net to).node link || same_node link broadcast) ≡ true

pub receives_is : (net : Internet) (from : Place) (link : Node) (to : Place) → receives net from link to ≡ true → Receives net from link to
receives_is net from link to e = grind arith

-- what isn't for all has the receiver's node
for_one : (w : Wire) (net : Internet) (from : Place) (link : Node) (to : Place) → Receives net from link to → same_node link broadcast ≡ false
    → (port_of net to).node ≡ link
for_one w net from link to received one = grind arith

-- a packet for one node is received by one port
pub one_receiver : Wire → (net : Internet) → IsInternet net → NodesDiffer net → (from : Place) (link : Node) (a b : Place) → same_node link broadcast ≡ false
    → IsPlace net a → IsPlace net b → Receives net from link a → Receives net from link b → a ≡ b
one_receiver w net is differ from link a b one at_a at_b first second = grind (arith, cases_eq, same_place, for_one)
