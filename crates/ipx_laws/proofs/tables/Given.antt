-- What the proofs of right tables take as given, in one: an internet, which ports stay up, the networks of which hosts may tell, room for all
-- of them, and the network that a route is to, which is none of those.
use Rattle.std.proofs.Common.{◌≡◌, ap, ◌∙◌, ℕ, ◌<◌, false, List, length}
use Rattle.std.specs.List.{AllByRecursion}
use Rattle.ipx_wire.specs.Crossed.{is_among}
use Rattle.ipx_wire.specs.declared.network.Network.{Network}
use Rattle.ipx_router.specs.declared.route_offer.RouteOffer.{RouteOffer}
use Rattle.ipx_internet.specs.Internet.{Internet, IsInternet, NodesDiffer, ports_of}
use Rattle.ipx_internet.proofs.packets.SentOnOrReply.{Layouts}
use Rattle.ipx_laws.specs.Apart.{IsRealApart, HasRoomBeside}
use Rattle.ipx_laws.specs.Least.{AreCheap, FifteenSuffice}
use Rattle.ipx_laws.specs.Real.{IsReal}

pub record Given : Type 0 where
  pub net : Internet
  pub laws : Layouts
  pub is : IsInternet net
  pub differ : NodesDiffer net
  pub cheap : AreCheap net
  pub up : ℕ → List ℕ
  pub in_ports : (router : ℕ) → AllByRecursion (λ j. j < length (ports_of net router)) (up router)
  pub most_routes : ℕ
  pub most_services : ℕ
  pub foreign : List Network
  pub room : HasRoomBeside net most_routes foreign
  pub network : Network
  pub suffice : FifteenSuffice net up network
  pub unlisted : is_among network foreign ≡ false

abbrev pub given_of : (net : Internet) → Layouts → IsInternet net → NodesDiffer net → AreCheap net → (up : ℕ → List ℕ)
    → ((router : ℕ) → AllByRecursion (λ j. j < length (ports_of net router)) (up router)) → (most_routes most_services : ℕ)
    → (foreign : List Network) → HasRoomBeside net most_routes foreign → (network : Network) → FifteenSuffice net up network
    → is_among network foreign ≡ false → Given
given_of net laws is differ cheap up in_ports most_routes most_services foreign room network suffice unlisted = record {
  net = net;
  laws = laws;
  is = is;
  differ = differ;
  cheap = cheap;
  up = up;
  in_ports = in_ports;
  most_routes = most_routes;
  most_services = most_services;
  foreign = foreign;
  room = room;
  network = network;
  suffice = suffice;
  unlisted = unlisted;
}

-- a route is of a real way, if hosts may not tell of its network
abbrev pub FineOf : Given → ℕ → RouteOffer → Type 0
FineOf given = IsRealApart given.net given.up given.foreign

-- so is one to that network
pub real_one : (given : Given) (router : ℕ) (r : RouteOffer) → FineOf given router r → r.network ≡ given.network → IsReal given.net given.up router r
real_one given router r fine named = fine (ap (λ n. is_among n given.foreign) named ∙ given.unlisted)
