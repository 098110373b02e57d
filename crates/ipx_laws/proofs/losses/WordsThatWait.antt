-- What is said on a port to all waits for each port of another router on its network.
use Rattle.std.proofs.Common.{◌≡◌, ◌≢◌, sym, ap, subst, ℕ, true, List, flat_map, arith, rules}
use Rattle.std.specs.List.{AllByRecursion}
use Rattle.ipx_wire.specs.declared.network.Network.{Network}
use Rattle.ipx_wire.specs.declared.node.Node.{Node}
use Rattle.ipx_wire.specs.declared.rip.RipEntry.{RipEntry}
use Rattle.ipx_wire.specs.declared.service.Service.{Service}
use Rattle.ipx_router.specs.Port.{Port, IsPort, broadcast, port_at, is_up, own_address, everyone}
use Rattle.ipx_router.specs.Relays.{Sent}
use Rattle.ipx_router.specs.Sends.{broadcasts, rip_broadcast, sap_broadcast}
use Rattle.ipx_router.proofs.bytes.LawsOfLayouts.{Readings, Rereadings}
use Rattle.ipx_router.proofs.sending.OwnPacketsAreValid.{Writable}
use Rattle.ipx_internet.specs.Delivery.{receives, delivered}
use Rattle.ipx_internet.specs.Internet.{Internet, Place, IsPlace, ports_of, port_of, network_of, places}
use Rattle.ipx_internet.specs.Queue.{Delivery, deliveries_of}
use Rattle.ipx_internet.proofs.packets.PagesReadAgain.{IsRipPage}
use Rattle.ipx_laws.specs.Least.{Way}
use Rattle.ipx_laws.proofs.lists.SomeElement.{AnyIs, any_in_front, any-map, any-filter, any-flat_map, number_any}
use Rattle.ipx_laws.proofs.tables.LeastWays.{all_places}
use Rattle.ipx_laws.proofs.tables.SaysItsLeastWay.{Tells, rip_tells}

-- any way; what is said of a network here doesn't depend on it
abbrev pub no_way : Way
no_way = record { hops = 0; ticks = 0 }

-- a packet leaves on a port, to all, with an entry of the network
abbrev pub TellsOf : List Port → Network → (RipEntry → Type 0) → ℕ → Sent → Type 0
TellsOf ports network P j = Tells ports network no_way P j

-- among what several ports send, what one of them sends has such an entry
pub tells_there : (readings : Readings) (again : Rereadings) (ports : List Port) (network : Network) (P : RipEntry → Type 0) (j : ℕ) → IsPort (port_at ports j)
    → (f : ℕ → List Sent) (up : List ℕ) → is_up up j ≡ true → (entries : List RipEntry) (services : List Service) → f j ≡ broadcasts ports j entries services
    → AllByRecursion (Writable P) entries → AnyIs (λ e. e.network ≡ network) entries → AnyIs (TellsOf ports network P j) (flat_map f up)
tells_there readings again ports network P j is_port f up on entries services here written any =
    any-flat_map (λ k. k ≡ j) (TellsOf ports network P j) f
    (λ k same. subst (λ (i : ℕ). AnyIs (TellsOf ports network P j) (f i)) (sym same)
    (subst (λ (ss : List Sent). AnyIs (TellsOf ports network P j) ss) (sym here)
    (any_in_front (TellsOf ports network P j) (rip_broadcast ports j entries) (sap_broadcast ports j services)
    (rip_tells ports network no_way readings again j is_port P entries written any)))) up (number_any j up on)

module _ (net : Internet) (network : Network) (P : RipEntry → Type 0) where
  -- a delivery for a place of what a port broadcast, with an entry of the network
  pub record IsWordFor (from to : Place) (d : Delivery) : Type 0 where
    pub at : d.to ≡ to
    pub page : IsRipPage P (own_address (port_of net from)) (everyone (port_of net from)) d.bytes
    pub has : AnyIs (λ e. e.network ≡ network) page.page

  module _ (from to : Place) (other : to.router ≢ from.router) (there : IsPlace net to) (one_network : network_of net to ≡ network_of net from) where
    received : (link : Node) → link ≡ broadcast → receives net from link to ≡ true
    received link all = grind arith

    one_waits : (s : Sent) → TellsOf (ports_of net from.router) network P from.port s → AnyIs (IsWordFor from to) (deliveries_of net from.router s)
    one_waits s tells =
        let at_port : Place = record { router = from.router; port = s.port } in
        let is_from : at_port ≡ from = ap (λ k. record { router = from.router; port = k }) tells.port in
        any-map (λ p. p ≡ to) (IsWordFor from to) (λ p. record { to = p; bytes = s.bytes })
        (λ p same. record { at = same; page = tells.page; has = tells.has }) (delivered net at_port s.link)
        (any-filter (λ p. p ≡ to) (receives net at_port s.link)
        (λ p same. subst (λ (q : Place). receives net at_port s.link q ≡ true) (sym same)
        (subst (λ (g : Place). receives net g s.link to ≡ true) (sym is_from) (received s.link tells.link)))
        (places net) (all_places net to there))

    pub word_waits : (sent : List Sent) → AnyIs (TellsOf (ports_of net from.router) network P from.port) sent
        → AnyIs (IsWordFor from to) (flat_map (deliveries_of net from.router) sent)
    word_waits sent any = search (rules, any-flat_map, one_waits)
