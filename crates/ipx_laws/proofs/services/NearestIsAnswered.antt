-- A query for the nearest server of a type, where a router has one: it answers with a server of that type that is no farther.
use Rattle.std.proofs.Common.{◌≡◌, ◌≢◌, refl, sym, ap, ◌∙◌, subst, ℕ, suc, ◌<◌, ◌≤◌, ◌==◌, ◌||◌, true, false, List, [], ◌∷◌, length, Some, inl, inr, arith, if◌then◌else◌}
use Rattle.std.specs.List.{AllByRecursion}
use Rattle.std.proofs.lemmas.Bool.{cases_Bool, eq-eqb, or_right}
use Rattle.ipx_wire.specs.Piece.{IsBytes}
use Rattle.ipx_wire.specs.declared.address.Address.{Address}
use Rattle.ipx_wire.specs.declared.sap.Sap.TheVariants.{Query}
use Rattle.ipx_wire.specs.declared.service.Service.{Service}
use Rattle.ipx_router.specs.Facts.{heard_after, services_held, offers}
use Rattle.ipx_router.specs.Heard.{HeardSap}
use Rattle.ipx_router.specs.History.{Packet, running, ports_up}
use Rattle.ipx_router.specs.Numbers.{every_service, unreachable}
use Rattle.ipx_router.specs.Port.{port_at, reply_to}
use Rattle.ipx_router.specs.Sends.{is_nearer, nearest_of, of_kind, sap_sends}
use Rattle.ipx_router.specs.Told.{farther, is_service_told, told_services}
use Rattle.ipx_router.specs.declared.service_offer.ServiceOffer.{ServiceOffer}
use Rattle.ipx_router.proofs.port_values.PortOfEachNumber.{ports_up-within}
use Rattle.ipx_router.proofs.tables.HeldWasOffered.{heard_up}
use Rattle.ipx_internet.specs.Internet.{Internet, IsInternet, ports_of, network_of}
use Rattle.ipx_internet.specs.Queue.{history_of, sends_at}
use Rattle.ipx_internet.specs.Run.{Run, AreHistories}
use Rattle.ipx_internet.proofs.lists.EachElement.{all_then, all_passed, holds_of}
use Rattle.ipx_internet.proofs.packets.SentOnOrReply.{Layouts, said_so}
use Rattle.ipx_internet.proofs.places.OneReceiverOfANode.{ports_at}
use Rattle.ipx_laws.specs.Nearest.{LeadsElsewhere, IsAnswered}
use Rattle.ipx_laws.specs.Servers.{Server, at_hops, known_of, IsServed, announced, passed_on}
use Rattle.ipx_laws.proofs.lists.SomeElement.{AnyIs, any_then, any_and_all, any-filter, the_one}
use Rattle.ipx_laws.proofs.services.ServiceIsTold.{told_there}
use Rattle.ipx_laws.proofs.services.ServicesBecomeReal.{has_way}
use Rattle.ipx_laws.proofs.services.FewestHops.{held_off}
use Rattle.ipx_laws.proofs.services.SpokenOfAServer.{IsFine}

-- ---- the nearest of some services

nearer_is : (a b : Service) → is_nearer a b ≡ true → a.hops ≤ b.hops
nearer_is a b e = grind arith

not_nearer_is : (a b : Service) → is_nearer a b ≡ false → b.hops ≤ a.hops
not_nearer_is a b e = grind arith

-- one of them, and none is nearer
record Nearest (P : Service → Type 0) (services : List Service) : Type 0 where
  pub best : Service
  pub is : nearest_of services ≡ best ∷ []
  pub such : P best
  pub least : AllByRecursion (λ s. best.hops ≤ s.hops) services

nearest : (P : Service → Type 0) (first : Service) (services : List Service) → AllByRecursion P (first ∷ services) → Nearest P (first ∷ services)
nearest P first [] all = record { best = first; is = refl; such = all.0; least = (omega arith, tt) }
nearest P first (second ∷ services) all = by (nearest P second services all.1)
  where
    by : Nearest P (second ∷ services) → Nearest P (first ∷ second ∷ services)
    by n = elim (cases_Bool (is_nearer n.best first)) [
      | inl nearer ↦ record { best = n.best; is = chosen nearer; such = n.such; least = (nearer_is n.best first nearer, n.least) }
      | inr not ↦
          let no_more = not_nearer_is n.best first not in
          record {
            best = first;
            is = kept not;
            such = all.0;
            least = (omega arith, all_then (λ s. n.best.hops ≤ s.hops) (λ s. first.hops ≤ s.hops) (λ s more. omega (arith, no_more, more)) (second ∷ services) n.least);
          }
    ]
      where
        chosen : is_nearer n.best first ≡ true → nearest_of (first ∷ second ∷ services) ≡ n.best ∷ []
        chosen nearer =
            subst (λ (ss : List Service). elim ss [
              | [] ↦ first ∷ []
              | ◌∷◌ best rest ↦ if is_nearer best first then best ∷ [] else first ∷ []
            ] ≡ n.best ∷ []) (sym n.is) (rw nearer refl)

        kept : is_nearer n.best first ≡ false → nearest_of (first ∷ second ∷ services) ≡ first ∷ []
        kept not =
            subst (λ (ss : List Service). elim ss [
              | [] ↦ first ∷ []
              | ◌∷◌ best rest ↦ if is_nearer best first then best ∷ [] else first ∷ []
            ] ≡ first ∷ []) (sym n.is) (rw not refl)

-- where there is one, there is a nearest, and it is no farther than that one
nearest_to : (P : Service → Type 0) (s : Service) (services : List Service) → AllByRecursion P services → AnyIs (λ t. t ≡ s) services
    → (best : Service) × (nearest_of services ≡ best ∷ []) × P best × (best.hops ≤ s.hops)
nearest_to P s [] all any = absurd any
nearest_to P s (first ∷ services) all any =
    let n = nearest P first services all in
    let one = the_one (λ t. (t ≡ s) × (n.best.hops ≤ t.hops)) (first ∷ services)
    (any_and_all (λ t. t ≡ s) (λ t. n.best.hops ≤ t.hops) (first ∷ services) any n.least) in
    (n.best, n.is, n.such, subst (λ (x : Service). n.best.hops ≤ x.hops) one.1.0 one.1.1)

-- ---- what is told on a port

module _ (server : Server) (hops : ℕ) (near : suc hops < unreachable) (kind : server.kind ≢ every_service) (known : List ServiceOffer) (number : ℕ)
    (held : AnyIs (λ s. (s.service ≡ at_hops server hops) × ((s.port == number) ≡ false)) known) where
  abbrev told_here : List Service
  told_here = of_kind server.kind (told_services known number)

  of_its_kind : (s : Service) → ((server.kind == every_service) || (s.kind == server.kind)) ≡ true → s.kind ≡ server.kind
  of_its_kind s e = grind arith

  is_told : (s : ServiceOffer) → s.service ≡ at_hops server hops → (s.port == number) ≡ false → is_service_told number s ≡ true
  is_told s same off = grind arith

  there : AnyIs (λ t. t ≡ farther (at_hops server hops)) told_here
  there =
      any-filter (λ t. t ≡ farther (at_hops server hops)) (λ s. (server.kind == every_service) || (s.kind == server.kind))
      (λ s same. or_right (server.kind == every_service) (s.kind == server.kind) (eq-eqb s.kind server.kind (ap (λ (x : Service). x.kind) same)))
      (told_services known number)
      (told_there known number (at_hops server hops)
      (any_then (λ s. (s.service ≡ at_hops server hops) × ((s.port == number) ≡ false))
      (λ o. (o.service ≡ at_hops server hops) × (is_service_told number o ≡ true)) (λ s both. (both.0, is_told s both.0 both.1)) known held))

  pub answer : (best : Service) × (nearest_of told_here ≡ best ∷ []) × (best.kind ≡ server.kind) × (best.hops ≤ suc hops)
  answer =
      let all = all_then (λ s. Unit {0} × (((server.kind == every_service) || (s.kind == server.kind)) ≡ true)) (λ s. s.kind ≡ server.kind)
      (λ s both. of_its_kind s both.1) told_here
      (all_passed (λ s. Unit {0}) (λ s. (server.kind == every_service) || (s.kind == server.kind)) (told_services known number) (each (told_services known number))) in
      let (best, is, such, no_more) = nearest_to (λ s. s.kind ≡ server.kind) (farther (at_hops server hops)) told_here all there in
      (best, is, such, omega (arith, no_more))
    where
      each : (ss : List Service) → AllByRecursion (λ s. Unit {0}) ss
      each [] = tt
      each (s ∷ ss) = (tt, each ss)

-- ---- the record isn't of that port

module _ (net : Internet) (up : ℕ → List ℕ) (server : Server) where
  not_there : (port hops : ℕ) {router : ℕ} {s : ServiceOffer} → LeadsElsewhere net up server (record { router = router; port = port }) hops → IsServed net up server router s
      → s.service.hops ≡ hops → s.port ≡ port → ⊥
  not_there port hops {router} {s} elsewhere (announced on is) same here = grind arith
  not_there port hops {router} {s} elsewhere (passed_on from other off on there network node told near served) same here =
      let more = elsewhere.neighbours from other.service.hops off there (ap (λ (k : ℕ). network_of net (record { router = router; port = k })) (sym here) ∙ network)
      (has_way net up server served).1 in
      let one = ap (λ (x : Service). x.hops) told in
      omega (arith, more, same, one)

-- ---- the answer to a query that comes at some moment

module _ (net : Internet) (laws : Layouts) (is : IsInternet net) (most_routes most_services : ℕ) (up : ℕ → List ℕ) (server : Server) (Listed : ℕ × List ℕ → Type 0)
    (router : ℕ) (within : router < length net) where
  abbrev services : Run → List ServiceOffer
  services run = offers (services_held (ports_of net router) most_services (history_of run.histories router))

  -- histories are such, and what the router has is as it may know it
  pub record Sound (run : Run) : Type 0 where
    pub are : AreHistories net run.histories
    pub fine : AllByRecursion (IsFine net up server Listed router) (services run)

  module _ (hops number : ℕ) (near : suc hops < unreachable) (kind : server.kind ≢ every_service) (elsewhere : LeadsElsewhere net up server (record { router = router; port = number }) hops)
      (bytes : List ℕ) (are_bytes : IsBytes bytes) (source : Address) where
    abbrev pub Answers : Run → Type 0
    Answers run =
        IsAnswered (ports_of net router) number source server.kind (suc hops) (sends_at net most_routes most_services run.histories router (Packet number bytes))

    pub answered_now : (run : Run) → Sound run → known_of server (services run) ≡ Some (at_hops server hops)
        → heard_after (ports_of net router) (history_of run.histories router) number bytes ≡ Some (HeardSap source (Query true server.kind)) → Answers run
    answered_now run now is_known heard =
        let ports = ports_of net router in
        let past = history_of run.histories router in
        let up_here = heard_up ports (ports_up ports past) number (running past) bytes (HeardSap source (Query true server.kind)) heard in
        let inside = holds_of (λ j. j < length ports) number (ports_up ports past) (ports_up-within ports past) up_here in
        let held = held_off net up server Listed router number hops
        (λ s served same here. not_there net up server number hops elsewhere served same here) (services run) now.fine is_known in
        let it = answer server hops near kind (services run) number held in
        record {
          service = it.0;
          of_kind = it.2;
          near = it.3;
          alone =
              said_so laws ports (ports_at net is router) most_routes most_services past (now.are.on_ports router) (now.are.of_bytes router) number bytes inside are_bytes
              (HeardSap source (Query true server.kind)) heard
              ∙ ap (λ (ss : List Service). sap_sends ports number (reply_to (port_at ports number) source) true ss) it.1;
        }
