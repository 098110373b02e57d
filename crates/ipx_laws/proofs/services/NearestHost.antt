-- What is best of all that a router may know of a service: what the nearest hosts beside it say, and neighbours that are one hop nearer. There is
-- room for it.
use Rattle.std.proofs.Common.{◌≡◌, refl, sym, ap, ap₂, ◌∙◌, subst, ◌⊎◌, ℕ, suc, ◌+◌, ◌-◌, ◌<◌, ◌≤◌, nat_le, true, false, List, [], ◌∷◌, ◌++◌, find, length, map, None, Some, inl, inr, arith, is_eq, slice_get, rules}
use Rattle.std.specs.List.{AllByRecursion}
use Rattle.std.specs.Ordering.{is_gt}
use Rattle.std.proofs.Math.Nat.{mul-le-mul_left}
use Rattle.std.proofs.lemmas.Bool.{cases_Bool, cases_eq, leb-true, leb-false}
use Rattle.ipx_table.specs.Facts.{Fact, Offered}
use Rattle.ipx_table.specs.Reading.{one_source, rank_order, rules_of}
use Rattle.ipx_table.specs.declared.held.Held.{Held}
use Rattle.ipx_table.proofs.Living.{kept}
use Rattle.ipx_table.proofs.Standing.{rules_total}
use Rattle.ipx_wire.specs.declared.node.Node.{Node}
use Rattle.ipx_wire.specs.declared.sap_entries.SapEntry.{SapEntry}
use Rattle.ipx_wire.specs.declared.service.Service.{Service}
use Rattle.ipx_table.specs.Alive.{lifetime}
use Rattle.ipx_router.specs.Numbers.{unreachable}
use Rattle.ipx_router.specs.Port.{broadcast, is_up}
use Rattle.ipx_router.specs.Services.{service_reading, service_order}
use Rattle.ipx_router.specs.declared.service_offer.ServiceOffer.{ServiceOffer}
use Rattle.ipx_router.proofs.bounds.PacketsOfEachEvent.{service_total}
use Rattle.ipx_internet.specs.Internet.{Internet, Place, NodesDiffer, IsPlace, ports_of, port_of, network_of}
use Rattle.ipx_internet.proofs.lists.EachElement.{all_then, all_mapped, all_at, holds_of}
use Rattle.ipx_internet.proofs.records.HeardChangesItsKeys.{service_offer}
use Rattle.ipx_laws.specs.Announces.{service_of}
use Rattle.ipx_laws.specs.Least.{Way}
use Rattle.ipx_laws.specs.Regular.{HasRoomFor, IsListedName}
use Rattle.ipx_laws.specs.Servers.{Announcer, Server, IsOf, at_hops, IsAnnouncedOn, IsServed, IsFewest}
use Rattle.ipx_laws.specs.Wires.{most_beats_gone}
use Rattle.ipx_laws.proofs.lists.SomeElement.{found_with}
use Rattle.ipx_laws.proofs.records.BestIsKept.{AreBest, IsSteady, HasPlace, records, known}
use Rattle.ipx_laws.proofs.records.KeysHaveRoom.{AreSingle, admits, replaces}
use Rattle.ipx_laws.proofs.records.RecordsGrowOld.{IsWithin, fine_at_last, after_offers}
use Rattle.ipx_laws.proofs.services.ExactWords.{one_name, Words}
use Rattle.ipx_laws.proofs.services.FewestHops.{Link, PassedOn, of_fewest}
use Rattle.ipx_laws.proofs.services.HostsApart.{HostsApart}
use Rattle.ipx_laws.proofs.services.ServedOrSoonEnded.{Fine, ServicesAged, ServiceOld}
use Rattle.ipx_laws.proofs.services.ServicesBecomeReal.{has_way}
use Rattle.ipx_laws.proofs.services.SpokenOfAServer.{EntrySaid, Who}
use Rattle.ipx_laws.proofs.ticks.RealOrSoonEnded.{Reaches}
use Rattle.ipx_laws.proofs.records.SameSource.{source_parts}
use Rattle.ipx_laws.proofs.tables.RoomForEachNetwork.{not_worse}

-- ---- ranks of services

abbrev as_way : ℕ → Way
as_way hops = record { hops = 0; ticks = hops }

no_worse : (a b : ℕ) → a ≤ b → is_gt (rank_order (a, 0) (b, 0)) ≡ false
no_worse a b less = grind arith

-- what is given of a router: a service with its hosts, and the fewest hops by which it has it
pub record Sought : Type 0 where
  pub net : Internet
  pub up : ℕ → List ℕ
  pub server : Server
  pub names : List (ℕ × List ℕ)
  pub most_services : ℕ
  pub r : ℕ
  pub apart : HostsApart net up server
  pub in_ports : (router : ℕ) → AllByRecursion (λ j. j < length (ports_of net router)) (up router)
  pub hops : ℕ
  pub reached : hops < unreachable
  pub unlike : (router less : ℕ) → hops ≡ suc less → IsFewest net up server router less → NodesDiffer net
  pub fewest : IsFewest net up server r hops

abbrev pub sought_of : (net : Internet) (up : ℕ → List ℕ) (server : Server) → List (ℕ × List ℕ) → ℕ → (r : ℕ) → HostsApart net up server
    → ((router : ℕ) → AllByRecursion (λ j. j < length (ports_of net router)) (up router)) → (hops : ℕ) → hops < unreachable
    → ((router less : ℕ) → hops ≡ suc less → IsFewest net up server router less → NodesDiffer net) → IsFewest net up server r hops → Sought
sought_of net up server names most_services r apart in_ports hops reached unlike fewest = record {
  net = net;
  up = up;
  server = server;
  names = names;
  most_services = most_services;
  r = r;
  apart = apart;
  in_ports = in_ports;
  hops = hops;
  reached = reached;
  unlike = unlike;
  fewest = fewest;
}

module _ (sought : Sought) where
  open sought use {net, up, server, names, most_services, r, apart, in_ports, hops, reached, unlike, fewest}

  abbrev pub here : ℕ → Place
  here port = record { router = r; port = port }

  abbrev pub Listed : ℕ × List ℕ → Type 0
  Listed = IsListedName names

  abbrev pub key : ℕ × List ℕ
  key = (server.kind, server.name)

  abbrev pub shares : List ℕ
  shares = map (λ p. p.service_share) (ports_of net r)

  abbrev pub Real : ServiceOffer → Type 0
  Real o = IsServed net up server r o

  -- what routers say that have it with fewer hops
  abbrev pub Says : ℕ → Service → Type 0
  Says = Words net up server most_services hops reached

  -- who says so many hops, as a host would
  abbrev pub host_of : ℕ × Node → Announcer
  host_of source = record { network = network_of net (here source.0); node = source.1; hops = hops }

  -- such a host announces it so
  pub record OfHost (source : ℕ × Node) : Type 0 where
    pub which : ℕ
    pub listed : slice_get server.announcers which ≡ Some (host_of source)

  -- a neighbour has it with one hop less
  pub record OfNeighbour (source : ℕ × Node) : Type 0 where
    pub from : Place
    pub less : ℕ
    pub more : hops ≡ suc less
    pub link : Link net up server r source.0 from
    pub node : source.1 ≡ (port_of net from).node
    pub nearer : IsFewest net up server from.router less

  -- such a host, or such a neighbour
  abbrev pub SaidBy : ℕ × Node → Type 0
  SaidBy source = OfHost source ⊎ OfNeighbour source

  -- it is said so by one of them
  pub record Good (o : ServiceOffer) : Type 0 where
    pub who : SaidBy (o.port, o.node)
    pub on : is_up (up r) o.port ≡ true
    pub said : o.service ≡ at_hops server hops

  -- and it is that one's
  abbrev pub GoodOf : ℕ × Node → ServiceOffer → Type 0
  GoodOf source o = Good o × ◌≡◌ {A = ℕ × Node} (o.port, o.node) source

  -- ---- nobody is nearer

  no_nearer : {s : ServiceOffer} → IsServed net up server r s → hops ≤ s.service.hops
  no_nearer served = fewest.1 _ (has_way net up server served).1

  good_hops : (g : ServiceOffer) → Good g → g.service.hops ≡ hops
  good_hops g good = ap (λ (s : Service). s.hops) good.said

  -- what is as near is said by such a one
  as_near : (o : ServiceOffer) → Real o → o.service.hops ≡ hops → Good o
  as_near o real same = by (of_fewest net up server (subst (λ (n : ℕ). IsFewest net up server r n) (sym same) fewest) real)
    where
      said : o.service ≡ at_hops server hops
      said = (has_way net up server real).0 ∙ ap (at_hops server) same

      by : ((is_up (up r) o.port ≡ true) × IsAnnouncedOn server (network_of net (here o.port)) o.node o.service) ⊎ PassedOn net up server r o → Good o
      by (inl (on, is)) = record {
        who = inl (record {
          which = is.which;
          listed = subst (λ (n : ℕ). slice_get server.announcers is.which ≡ Some (record { network = network_of net (here o.port); node = o.node; hops = n })) same is.listed;
        });
        on = on;
        said = said;
      }
      by (inr p) = record {
        who = inr (record { from = p.from; less = p.hops; more = sym same ∙ p.more; link = p.link; node = p.node; nearer = p.fewest });
        on = p.link.here;
        said = said;
      }

  pub best : AreBest service_reading service_order service_total most_services shares key (λ k. one_name k key) Real GoodOf
  best = record {
    named = λ s g good. ap (λ (s : Service). (s.kind, s.name)) good.0.said;
    up = λ s g good. elim (cases_Bool (nat_le unreachable g.service.hops)) [
      | inr near ↦ near
      | inl down ↦
          let far = leb-true unreachable g.service.hops down in
          let is = good_hops g good.0 in
          absurd (omega (arith, far, is, reached))
    ];
    first = λ s g o good real named.
        let less = no_nearer real in
        let is = good_hops g good.0 in
        no_worse g.service.hops o.service.hops (omega (arith, less, is));
    equal = λ s g o good real named as_good.
        let less = no_nearer real in
        let is = good_hops g good.0 in
        let few = (not_worse (as_way o.service.hops) (as_way g.service.hops) as_good).ticks in
        ((o.port, o.node), (as_near o real (omega (arith, few, is, less)), refl));
    alike = λ s g o one two.
        let make : Service → ℕ × Node → ServiceOffer = λ t source. record { service = t; port = source.0; node = source.1 } in
        ap (λ t. make t (g.port, g.node)) (one.0.said ∙ sym two.0.said) ∙ ap (make o.service) (one.1 ∙ sym two.1);
  }

  -- ---- what may be heard of it

  of_key : (kind : ℕ) (name : List ℕ) → ◌≡◌ {A = ℕ × List ℕ} (kind, name) key → (kind ≡ server.kind) × (name ≡ server.name)
  of_key kind name same = (ap (λ (k : ℕ × List ℕ). k.0) same, ap (λ (k : ℕ × List ℕ). k.1) same)

  there : (place : Place) → is_up (up place.router) place.port ≡ true → IsPlace net place
  there place on = holds_of (λ j. j < length (ports_of net place.router)) place.port (up place.router) (in_ports place.router) on

  module _ (delay slack begun : ℕ) (long : slack + most_beats_gone delay ≤ delay + begun) (number : ℕ) (on : is_up (up r) number ≡ true) (node : Node) (e : SapEntry)
      (said : EntrySaid net up server Listed delay slack Says begun (here number) node e) (name : List ℕ) (is : e.name ≡ Some name) where
    abbrev o : ServiceOffer
    o = service_offer number node e name

    -- who says it where a good one was said
    module _ (of : IsOf server o.service) (g : ServiceOffer) (source : (g.port ≡ number) × (g.node ≡ node)) where
      network : network_of net (here g.port) ≡ network_of net (here number)
      network = ap (λ (k : ℕ). network_of net (here k)) source.0

      same_source : ◌≡◌ {A = ℕ × Node} (g.port, g.node) (number, node)
      same_source = ap₂ (λ (p : ℕ) (n : Node). (p, n)) source.0 source.1

      of_host : OfHost (g.port, g.node) → IsAnnouncedOn server (network_of net (here number)) node (service_of e name) → Good o
      of_host host is_said = grind arith

      of_neighbour : OfNeighbour (g.port, g.node) → (from : Place) → Reaches net up from (here number) → node ≡ (port_of net from).node
          → Says from.router (service_of e name) → Good o
      of_neighbour n from reaches from_node says = record {
        who = inr (subst OfNeighbour same_source n);
        on = on;
        said = says (record { hops = n.less; near = omega (arith, more); fewest = nearer }) of ∙ ap (at_hops server) (sym more);
      }
        where
          more : hops ≡ suc n.less
          more = n.more

          same_router : n.from.router ≡ from.router
          same_router = elim (cases_eq n.from.router from.router) [
            | inl same ↦ same
            | inr off ↦
                absurd (unlike n.from.router n.less n.more n.nearer n.from from (there n.from n.link.there) (there from reaches.on) off
                (sym n.link.network ∙ network ∙ reaches.network) (sym n.node ∙ source.1 ∙ from_node))
          ]

          nearer : IsFewest net up server from.router n.less
          nearer = subst (λ (k : ℕ). IsFewest net up server k n.less) same_router n.nearer

      pub by_who : SaidBy (g.port, g.node) → Who net up server Listed delay slack Says (here number) node (service_of e name) → Good o
      by_who (inl host) (inl announces) = of_host host announces
      by_who (inl host) (inr (from, reaches, from_node, says)) = grind arith
      by_who (inr n) (inl announces) = grind arith
      by_who (inr n) (inr (from, reaches, from_node, says)) = of_neighbour n from reaches from_node says

    pub honest : IsOf server o.service → (g : ServiceOffer) → Good g → one_source (g.port, g.node) (number, node) ≡ true → Good o
    honest of g good same = by_who of g (source_parts (g.port, g.node) (o.port, o.node) same) good.who (said.who name is of)

    pub steady : ◌≡◌ {A = ℕ × List ℕ} (e.kind, name) key
        → IsSteady service_reading service_order service_total most_services shares key (λ k. one_name k key) Real GoodOf o
    steady same =
        let of = of_key e.kind name same in
        record {
          real = λ near. by (leb-false unreachable e.hops near) (said.fine on (leb-false unreachable e.hops near) name is) of;
          honest = λ s g good same. (honest of g good.0 same, sym (same_source of g (source_parts (g.port, g.node) (o.port, o.node) same)) ∙ good.1);
        }
      where
        by : e.hops < unreachable → Fine delay slack net up server Listed most_services r o ⊎ IsWithin delay slack e.hops (delay + begun) → IsOf server o.service → Real o
        by near (inl fine) of = fine.1 of
        by near (inr soon) of =
            let most = mul-le-mul_left {m = e.hops} {n = unreachable - 1} (delay + lifetime) (omega (arith, near)) in
            absurd (omega (arith, most, soon, long))

  -- ---- what is known is real, and there is room

  module _ (delay slack had : ℕ) (long : slack + most_beats_gone delay ≤ had) where
    abbrev pub Such : List (Fact ServiceOffer) → Type 0
    Such = ServicesAged delay slack net up server Listed most_services r had

    abbrev pub Facts : List (Fact ServiceOffer) → List (Held ServiceOffer)
    Facts = records service_reading service_order service_total most_services shares key (λ k. one_name k key) Real GoodOf

    abbrev F : ServiceOffer → Type 0
    F = Fine delay slack net up server Listed most_services r

    all_fine : (facts : List (Fact ServiceOffer)) → Such facts → AllByRecursion (λ h. F h.offer) (Facts facts)
    all_fine = fine_at_last service_reading service_order service_total most_services shares (λ s. s.service.hops) (λ s. refl) delay slack F had long

    pub real_known : (facts : List (Fact ServiceOffer)) → Such facts → (h : Held ServiceOffer)
        → known service_reading service_order service_total most_services shares key (λ k. one_name k key) Real GoodOf facts ≡ Some h → Real h.offer
    real_known facts aged h some =
        let found = found_with (λ x. F x.offer) (λ x. is_eq (service_order (x.offer.service.kind, x.offer.service.name) key)) (Facts facts) h (all_fine facts aged) some in
        found.0.1 (of_key h.offer.service.kind h.offer.service.name (one_name (h.offer.service.kind, h.offer.service.name) key found.1))

    pub goes_on : (facts : List (Fact ServiceOffer)) (o : ServiceOffer) → Such facts → ServiceOld delay slack net up server Listed most_services r had had (omega arith) o
        → Such (facts ++ Offered o ∷ [])
    goes_on facts o aged old = search (rules, after_offers, service_total)

    module _ (room : HasRoomFor net most_services names) (inside : r < length net) (listed : Listed key) where
      single : (facts : List (Fact ServiceOffer)) → AreSingle service_reading service_order service_total one_name (Facts facts)
      single facts k =
          (kept (rules_of service_reading service_order most_services shares) (rules_total service_reading service_order service_total most_services shares) facts).distinct
          (record { service = record { kind = k.0; name = k.1; address = server.address; hops = 0 }; port = 0; node = broadcast })

      each_share : AllByRecursion (λ s. length names ≤ s) shares
      each_share = grind (arith, all_mapped, all_at)

      pub place : (facts : List (Fact ServiceOffer)) (s : ℕ × Node) (o : ServiceOffer) → Such facts → GoodOf s o → Real o
          → HasPlace service_reading service_order service_total most_services shares key (λ k. one_name k key) Real GoodOf (Facts facts) o
      place facts s o aged good real =
          let same : ◌≡◌ {A = ℕ × List ℕ} (o.service.kind, o.service.name) key = ap (λ (s : Service). (s.kind, s.name)) good.0.said in
          let all = all_then (λ h. F h.offer) (λ h. Listed (h.offer.service.kind, h.offer.service.name)) (λ h fine. fine.0) (Facts facts) (all_fine facts aged) in
          record {
            admits = λ none.
                admits service_reading service_order service_total one_name most_services shares names room.table each_share (Facts facts) (single facts) all o
                (subst Listed (sym same) listed)
                (subst (λ (k : ℕ × List ℕ). find (λ h. is_eq (service_order (h.offer.service.kind, h.offer.service.name) k)) (Facts facts) ≡ None) (sym same) none);
            replaces = λ h some.
                replaces service_reading service_order service_total one_name most_services shares names room.table each_share (Facts facts) (single facts) all o h
                (subst (λ (k : ℕ × List ℕ). find (λ h. is_eq (service_order (h.offer.service.kind, h.offer.service.name) k)) (Facts facts) ≡ Some h) (sym same) some);
          }
