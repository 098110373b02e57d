-- Once a router has had the seconds after which what is gone is gone, what it has of a service that hosts announce is as it may know it: at its
-- address, on a way of as many hops.
use Rattle.std.proofs.Common.{◌≡◌, refl, sym, ap, ◌∙◌, subst, ℕ, suc, ◌+◌, ◌<◌, ◌≤◌, List, map, Option, Some, None, IfSome, arith}
use Rattle.std.specs.List.{AllByRecursion}
use Rattle.ipx_wire.specs.declared.sap.Sap.TheVariants.{Query, Response as SapResponse}
use Rattle.ipx_wire.specs.declared.service.Service.{Service}
use Rattle.ipx_router.specs.Facts.{service_facts, services_held, offers}
use Rattle.ipx_router.specs.Heard.{Heard, HeardRip, HeardSap}
use Rattle.ipx_router.specs.History.{History, Start, Stop, Second, Packet, PortDown, PortUp}
use Rattle.ipx_router.specs.Numbers.{unreachable}
use Rattle.ipx_router.specs.Port.{Port}
use Rattle.ipx_router.specs.Services.{service_reading, service_order}
use Rattle.ipx_router.specs.Told.{farther}
use Rattle.ipx_router.specs.declared.service_offer.ServiceOffer.{ServiceOffer}
use Rattle.ipx_router.proofs.bounds.PacketsOfEachEvent.{service_total}
use Rattle.ipx_router.proofs.lists.EachElement.{all_both}
use Rattle.ipx_internet.specs.Internet.{Internet, ports_of}
use Rattle.ipx_internet.specs.Run.{Step, Happens, Settles}
use Rattle.ipx_internet.proofs.lists.EachElement.{all_of, all_then}
use Rattle.ipx_laws.specs.Meanwhile.{message_of, SaysOnly}
use Rattle.ipx_laws.specs.Servers.{Server, IsOf, at_hops, NamesOnly, IsServed, IsAway, announced, passed_on, beside, beyond}
use Rattle.ipx_laws.specs.Wires.{most_beats_gone}
use Rattle.ipx_laws.proofs.records.RecordsGrowOld.{at_last, old_held, IsOldHeld}
use Rattle.ipx_laws.proofs.services.ServedOrSoonEnded.{Endures}
use Rattle.ipx_laws.proofs.services.SpokenOfAServer.{IsFine}

-- ---- what a router may know is on a way

module _ (net : Internet) (up : ℕ → List ℕ) (server : Server) where
  abbrev pub HasWay : ℕ → Service → Type 0
  HasWay router s = (s ≡ at_hops server s.hops) × IsAway net up server router s.hops

  pub has_way : {router : ℕ} {s : ServiceOffer} → IsServed net up server router s → HasWay router s.service
  has_way {router} {s} (announced on is) = (is.addressed, beside s.port is.which _ on is.listed refl)
  has_way {router} {s} (passed_on from other apart on there network node same near served) =
      let way = has_way served in
      let hops : ℕ = other.service.hops in
      let more : s.service.hops ≡ suc hops = ap (λ (x : Service). x.hops) same ∙ omega arith in
      let told : s.service ≡ farther (at_hops server hops) = same ∙ ap farther way.0 in (
        told ∙ ap (at_hops server) (sym (ap (λ (x : Service). x.hops) told)),
        subst (λ (n : ℕ). IsAway net up server router n) (sym more) (beyond s.port from apart on there network way.1),
      )

-- ---- after that many seconds

module _ (delay slack : ℕ) (net : Internet) (up : ℕ → List ℕ) (server : Server) (Listed : ℕ × List ℕ → Type 0) (most_services router had : ℕ) (past : History)
    (endures : Endures delay slack net up server Listed most_services router had past) (long : slack + most_beats_gone delay ≤ had) where
  abbrev ports : List Port
  ports = ports_of net router

  abbrev pub Known : List ServiceOffer
  Known = offers (services_held ports most_services past)

  pub all_real : AllByRecursion (λ s. IsOf server s.service → IsServed net up server router s) Known
  all_real =
      all_then (IsFine net up server Listed router) (λ s. IsOf server s.service → IsServed net up server router s) (λ s fine. fine.1) Known
      (at_last service_reading service_order service_total most_services (map (λ p. p.service_share) ports) (λ s. s.service.hops) (λ s. refl) delay slack
      (IsFine net up server Listed router) had (service_facts ports past) long endures.services)

  -- at that address, reached, on such a way
  abbrev pub IsOnWay : ServiceOffer → Type 0
  IsOnWay s = (s.service ≡ at_hops server s.service.hops) × (s.service.hops < unreachable) × IsAway net up server router s.service.hops

  all_near : AllByRecursion (λ s. s.service.hops < unreachable) Known
  all_near =
      let Fine : ServiceOffer → Type 0 = IsFine net up server Listed router in
      all_then (IsOldHeld service_reading service_order service_total most_services (map (λ p. p.service_share) ports) (λ s. s.service.hops) (λ s. refl) delay slack Fine had)
      (λ s. s.service.hops < unreachable) (λ s old. old.1) Known
      (old_held service_reading service_order service_total most_services (map (λ p. p.service_share) ports) (λ s. s.service.hops) (λ s. refl) delay slack Fine had
      (service_facts ports past) endures.services)

  pub all_away : AllByRecursion (λ s. IsOf server s.service → IsOnWay s) Known
  all_away =
      all_then (λ s. (IsOf server s.service → IsServed net up server router s) × (s.service.hops < unreachable)) (λ s. IsOf server s.service → IsOnWay s)
      (λ s both of. let way = has_way net up server (both.0 of) in (way.0, both.1, way.1)) Known
      (all_both (λ s. IsOf server s.service → IsServed net up server router s) (λ s. s.service.hops < unreachable) Known all_real all_near)

  -- where there is no such way, it isn't known
  pub none_known : ((hops : ℕ) → IsAway net up server router hops → hops < unreachable → ⊥) → AllByRecursion (λ s. IsOf server s.service → ⊥) Known
  none_known no_way = grind (arith, all_then, all_away)

-- any names
abbrev pub AnyName : ℕ × List ℕ → Type 0
AnyName name = Unit {0}

message_any : (m : Heard) → NamesOnly AnyName m
message_any (HeardRip source rip) = tt
message_any (HeardSap source (Query nearest kind)) = tt
message_any (HeardSap source (SapResponse nearest entries)) = all_of (λ e. (name : List ℕ) → e.name ≡ Some name → Unit {0}) (λ e name is. tt) entries

may_be : (o : Option Heard) → IfSome o (NamesOnly AnyName)
may_be None = tt
may_be (Some m) = message_any m

pub name_any : (step : Step) → SaysOnly (NamesOnly AnyName) step
name_any (Happens router (Packet number bytes)) = may_be (message_of bytes)
name_any (Happens router Second) = tt
name_any (Happens router Start) = tt
name_any (Happens router Stop) = tt
name_any (Happens router (PortDown number)) = tt
name_any (Happens router (PortUp number)) = tt
name_any Settles = tt
