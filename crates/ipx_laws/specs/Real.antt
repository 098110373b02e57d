-- Routes of real ways: what a router may learn where ports are up as they are, and nothing but that.
use Rattle.std.specs.Prelude.{◌≡◌, ◌≢◌, ℕ, ◌<◌, true, false, List, [], ◌∷◌}
use Rattle.ipx_wire.specs.declared.rip.RipEntry.{RipEntry}
use Rattle.ipx_router.specs.Facts.{route_offer}
use Rattle.ipx_router.specs.Numbers.{unreachable}
use Rattle.ipx_router.specs.Port.{is_up, takes_no_route}
use Rattle.ipx_router.specs.Told.{told_at, direct_entry, entry_of}
use Rattle.ipx_router.specs.declared.route_offer.RouteOffer.{RouteOffer}
use Rattle.ipx_internet.specs.Internet.{Internet, Place, ports_of, port_of, network_of}

module _ (net : Internet) (up : ℕ → List ℕ) where
  -- a route is what a router takes of an entry that a port of another router sends: that port and its own are up, on one network; the
  -- neighbour is that port, network, hops and ticks are as the entry says, and the network is one to which the router takes routes
  pub record IsTaken (router : ℕ) (r : RouteOffer) (from : Place) (entry : RipEntry) : Type 0 where
    pub other : router ≢ from.router
    pub here : is_up (up router) r.port ≡ true
    pub there : is_up (up from.router) from.port ≡ true
    pub network : network_of net (record { router = router; port = r.port }) ≡ network_of net from
    pub wanted : takes_no_route (ports_of net router) r.network ≡ false
    pub offer : r ≡ route_offer r.port (port_of net from).node entry

  -- a route of a router is of a real way: its neighbour has the network on another port that is up, or has such a route by another
  -- port; it is taken of what the neighbour advertises of that, and the network is reached
  pub data IsReal : ℕ → RouteOffer → Type 0 where
    next : {router : ℕ} {r : RouteOffer} (from : Place) (beside : ℕ) → is_up (up from.router) beside ≡ true → beside ≢ from.port
        → IsTaken router r from (told_at (port_of net from).cost (direct_entry (ports_of net from.router) beside)) → IsReal router r
    farther : {router : ℕ} {r : RouteOffer} (from : Place) (s : RouteOffer) → s.port ≢ from.port
        → IsTaken router r from (told_at (port_of net from).cost (entry_of s)) → r.hops < unreachable → IsReal from.router s → IsReal router r

  -- the ports that such a way leads over: that of the router, that of its neighbour, and so on, with that on the network itself
  abbrev pub led_over : (router : ℕ) (r : RouteOffer) → IsReal router r → List Place
  led_over router r (next from beside on apart taken) =
      record { router = router; port = r.port } ∷ from ∷ record { router = from.router; port = beside } ∷ []
  led_over router r (farther from s apart taken near real) = record { router = router; port = r.port } ∷ from ∷ led_over from.router s real
