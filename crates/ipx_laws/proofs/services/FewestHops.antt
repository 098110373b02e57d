-- The fewest hops of all ways to a service: what a router may know with as many is announced beside it, or is passed on by a neighbour whose
-- fewest are one less.
use Rattle.std.proofs.Common.{◌≡◌, ◌≢◌, refl, sym, ap, ◌∙◌, subst, ◌⊎◌, ℕ, suc, ◌≤◌, true, List, Some, inl, inr, arith, slice_get, ◌==◌, Bool, false, find, Option, None, option_map, is_eq}
use Rattle.std.specs.List.{AllByRecursion}
use Rattle.std.proofs.lemmas.Bool.{cases_eq, ne_eqb}
use Rattle.ipx_wire.specs.declared.node.Node.{Node}
use Rattle.ipx_wire.specs.declared.service.Service.{Service}
use Rattle.ipx_router.specs.Port.{is_up}
use Rattle.ipx_router.specs.Services.{service_order}
use Rattle.ipx_router.specs.declared.service_offer.ServiceOffer.{ServiceOffer}
use Rattle.ipx_internet.specs.Internet.{Internet, Place, port_of, network_of}
use Rattle.ipx_internet.proofs.lists.FoundInAList.{nothing, it_is}
use Rattle.ipx_laws.specs.Regular.{NoneNearer}
use Rattle.ipx_laws.specs.Servers.{Announcer, Server, IsAnnouncedOn, IsServed, announced, passed_on, IsAway, beside, beyond, IsFewest, at_hops, known_of, IsOf}
use Rattle.ipx_laws.proofs.lists.SomeElement.{AnyIs, any_then, found_with, find_any}
use Rattle.ipx_laws.proofs.services.ServicesBecomeReal.{has_way}
use Rattle.ipx_laws.proofs.services.SpokenOfAServer.{IsFine}

module _ (net : Internet) (up : ℕ → List ℕ) (server : Server) where
  -- a port of a router that hears what another router's port says
  pub record Link (router port : ℕ) (from : Place) : Type 0 where
    pub other : router ≢ from.router
    pub here : is_up (up router) port ≡ true
    pub there : is_up (up from.router) from.port ≡ true
    pub network : network_of net (record { router = router; port = port }) ≡ network_of net from

  pub neighbour : (router port hops : ℕ) (from : Place) → Link router port from → IsFewest net up server router (suc hops) → IsAway net up server from.router hops
      → IsFewest net up server from.router hops
  neighbour router port hops from link fewest away = (
    away,
    λ others way.
        let less = fewest.1 (suc others) (beyond port from link.other link.here link.there link.network way) in
        omega (arith, less),
  )

  -- nobody is nearer than the nearest host says
  pub no_nearer : (nearest : ℕ) → NoneNearer server nearest → {router hops : ℕ} → IsAway net up server router hops → nearest ≤ hops
  no_nearer nearest least (beside port which host on listed network) = least which host listed
  no_nearer nearest least (beyond port from other here there network way) = let less = no_nearer nearest least way in omega (arith, less)

  -- the neighbour that passes a service on
  pub record PassedOn (router : ℕ) (s : ServiceOffer) : Type 0 where
    pub from : Place
    pub hops : ℕ
    pub more : s.service.hops ≡ suc hops
    pub link : Link router s.port from
    pub node : s.node ≡ (port_of net from).node
    pub fewest : IsFewest net up server from.router hops

  pub of_fewest : {router : ℕ} {s : ServiceOffer} → IsFewest net up server router s.service.hops → IsServed net up server router s
      → ((is_up (up router) s.port ≡ true) × IsAnnouncedOn server (network_of net (record { router = router; port = s.port })) s.node s.service)
      ⊎ PassedOn router s
  of_fewest fewest (announced on is) = inl (on, is)
  of_fewest {router} {s} fewest (passed_on from other apart on there network node same near served) =
      let hops : ℕ = other.service.hops in
      let more : s.service.hops ≡ suc hops = ap (λ (x : Service). x.hops) same ∙ omega arith in
      let link : Link router s.port from = record { other = apart; here = on; there = there; network = network } in
      inr (record {
        from = from;
        hops = hops;
        more = more;
        link = link;
        node = node;
        fewest = neighbour router s.port hops from link (subst (λ (n : ℕ). IsFewest net up server router n) more fewest) (has_way net up server served).1;
      })

  -- ---- where it is told

  -- what a neighbour of so many hops has isn't of the port on which it must be told to a router of one hop more: else that one were as near
  pub held_elsewhere : (router port hops : ℕ) (from : Place) → Link router port from → IsFewest net up server router (suc hops) → IsFewest net up server from.router hops
      → (s : ServiceOffer) → IsServed net up server from.router s → s.service.hops ≡ hops → s.port ≢ from.port
  held_elsewhere router port hops from link fewest nearer s served same there = by (of_fewest (subst (λ (n : ℕ). IsFewest net up server from.router n) (sym same) nearer) served)
    where
      network : network_of net (record { router = from.router; port = s.port }) ≡ network_of net (record { router = router; port = port })
      network = ap (λ (k : ℕ). network_of net (record { router = from.router; port = k })) there ∙ sym link.network

      too_near : (few : ℕ) → few ≤ hops → IsAway net up server router few → ⊥
      too_near few less way =
          let more = fewest.1 few way in
          omega (arith, more, less)

      beside_it : (which : ℕ) (host : Announcer) → slice_get server.announcers which ≡ Some host → host.hops ≤ hops
          → network_of net (record { router = from.router; port = s.port }) ≡ host.network → ⊥
      beside_it which host listed less on_it = too_near host.hops less (beside port which host link.here listed (sym network ∙ on_it))

      passed : (p : PassedOn from.router s) → (router ≡ p.from.router) ⊎ (router ≢ p.from.router) → ⊥
      passed p (inl own) =
          let more = p.more in
          too_near p.hops (omega (arith, more, same)) (subst (λ (k : ℕ). IsAway net up server k p.hops) (sym own) p.fewest.0)
      passed p (inr off) =
          let more = p.more in
          too_near (suc p.hops) (omega (arith, more, same)) (beyond port p.from off link.here p.link.there (sym network ∙ p.link.network) p.fewest.0)

      by : ((is_up (up from.router) s.port ≡ true) × IsAnnouncedOn server (network_of net (record { router = from.router; port = s.port })) s.node s.service)
          ⊎ PassedOn from.router s → ⊥
      by (inl (on, is)) = beside_it is.which _ is.listed (omega (arith, same)) refl
      by (inr p) = passed p (cases_eq router p.from.router)

  -- ---- who says it with the fewest hops

  -- a host beside the router, or a neighbour of one hop less
  pub record IsSaid (router hops : ℕ) : Type 0 where
    pub port : ℕ
    pub node : Node
    pub on : is_up (up router) port ≡ true
    pub who : ((which : ℕ) × (slice_get server.announcers which
        ≡ Some (record { network = network_of net (record { router = router; port = port }); node = node; hops = hops })))
        ⊎ ((from : Place) × (less : ℕ) × (hops ≡ suc less) × Link router port from × (node ≡ (port_of net from).node)
        × IsAway net up server from.router less)

  pub is_said : {router hops : ℕ} → IsAway net up server router hops → IsSaid router hops
  is_said (beside port which host on listed network) = record {
    port = port;
    node = host.node;
    on = on;
    who = inl (which, listed ∙ ap (λ n. Some (record { network = n; node = host.node; hops = host.hops })) (sym network));
  }
  is_said (beyond {hops = less} port from off here there network way) = record {
    port = port;
    node = (port_of net from).node;
    on = here;
    who = inr (from, less, refl, record { other = off; here = here; there = there; network = network }, refl, way);
  }

-- where none of what a router may know so came by a port, what it has didn't
module _ (net : Internet) (up : ℕ → List ℕ) (server : Server) (Listed : ℕ × List ℕ → Type 0) where
  pub held_off : (router port hops : ℕ) → ((s : ServiceOffer) → IsServed net up server router s → s.service.hops ≡ hops → s.port ≢ port) → (known : List ServiceOffer)
      → AllByRecursion (IsFine net up server Listed router) known → known_of server known ≡ Some (at_hops server hops)
      → AnyIs (λ s. (s.service ≡ at_hops server hops) × ((s.port == port) ≡ false)) known
  held_off router port hops apart known fine is_known = by (find test known) refl is_known
    where
      test : ServiceOffer → Bool
      test s = is_eq (service_order (s.service.kind, s.service.name) (server.kind, server.name))

      by : (o : Option ServiceOffer) → find test known ≡ o → option_map (λ s. s.service) o ≡ Some (at_hops server hops)
          → AnyIs (λ s. (s.service ≡ at_hops server hops) × ((s.port == port) ≡ false)) known
      by None e some = nothing some
      by (Some s) e some =
          let same : s.service ≡ at_hops server hops = it_is (λ (x : Service). s.service ≡ x) (at_hops server hops) s.service some refl in
          let of : IsOf server s.service = (ap (λ (x : Service). x.kind) same, ap (λ (x : Service). x.name) same) in
          let served = (found_with (IsFine net up server Listed router) test known s fine e).0.1 of in
          let off = ne_eqb s.port port (apart s served (ap (λ (x : Service). x.hops) same)) in
          any_then (λ y. y ≡ s) (λ y. (y.service ≡ at_hops server hops) × ((y.port == port) ≡ false))
          (λ y is_it. (ap (λ (x : ServiceOffer). x.service) is_it ∙ same, ap (λ (x : ServiceOffer). x.port == port) is_it ∙ off)) known
          (find_any test known s e)
