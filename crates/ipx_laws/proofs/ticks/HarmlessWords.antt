-- What hosts say that does no harm: nothing of a network or of a service that is gone, or of services no more than was announced.
use Rattle.std.proofs.Common.{◌≡◌, ◌≢◌, ap, ◌∙◌, subst, ℕ, true, List, Option, Some, slice_get, inl, inr, arith}
use Rattle.std.specs.List.{AllByRecursion}
use Rattle.std.proofs.lemmas.Bool.{both_ways}
use Rattle.ipx_wire.specs.Crossed.{is_among}
use Rattle.ipx_wire.specs.WriteServices.{entry_of}
use Rattle.ipx_wire.specs.declared.address.Address.{Address}
use Rattle.ipx_wire.specs.declared.network.Network.{Network}
use Rattle.ipx_wire.specs.declared.rip.Operation.{Operation}
use Rattle.ipx_wire.specs.declared.rip.Operation.TheVariants.{Request, Response}
use Rattle.ipx_wire.specs.declared.rip.RipEntry.{RipEntry}
use Rattle.ipx_wire.specs.declared.sap.Sap.TheVariants.{Query, Response as SapResponse}
use Rattle.ipx_wire.specs.declared.sap_entries.SapEntry.{SapEntry}
use Rattle.ipx_wire.specs.declared.service.Service.{Service}
use Rattle.ipx_router.specs.Heard.{Heard, HeardRip, HeardSap}
use Rattle.ipx_router.specs.History.{History}
use Rattle.ipx_router.specs.Port.{port_at, is_up}
use Rattle.ipx_internet.specs.Internet.{Internet, ports_of}
use Rattle.ipx_internet.proofs.lists.EachElement.{all_of, all_then, all_listed}
use Rattle.ipx_laws.specs.Announces.{service_of, entries_said, AsksApart}
use Rattle.ipx_laws.specs.Gone.{IsGone}
use Rattle.ipx_laws.specs.Meanwhile.{AreWithout, IsWithoutRoute, AsksElsewhere, IsWithoutService}
use Rattle.ipx_laws.specs.Ups.{ups, networks_up}
use Rattle.ipx_laws.proofs.ticks.FineOrSoonEnded.{RouteSaid, EntrySaid, RipSaid, Said}
use Rattle.ipx_laws.proofs.ticks.RoutesBecomeReal.{among_ups}

-- every network is one that may be there, before and after every step
abbrev pub EveryNetwork : Network → Type 0
EveryNetwork n = Unit {0}

-- and every service
abbrev pub EveryService : Service → Type 0
EveryService s = Unit {0}

-- ---- what is gone

module _ (delay slack : ℕ) (network : Network) where
  -- every network but that one
  abbrev pub OtherNetwork : Network → Type 0
  OtherNetwork n = n ≢ network

  no_route_said : (begun : ℕ) (source : Address) (operation : Operation) (entries : List RipEntry) → AreWithout network operation entries
      → RipSaid delay slack OtherNetwork EveryService begun source operation entries
  no_route_said begun source Response entries without =
      all_then _ (RouteSaid delay slack OtherNetwork EveryService begun) (λ e other near. inl (other near)) entries without
  no_route_said begun source Request entries without = inr (λ e near name same. inl (e.hops, omega arith, tt))

  pub routeless : (begun : ℕ) (m : Heard) → IsWithoutRoute network m → Said delay slack OtherNetwork EveryService begun m
  routeless begun (HeardRip source rip) without = no_route_said begun source rip.operation rip.entries without
  routeless begun (HeardSap source (Query nearest kind)) without = inl without
  routeless begun (HeardSap source (SapResponse nearest entries)) without =
      all_of (EntrySaid delay slack OtherNetwork EveryService begun) (λ e near name same. inl (e.hops, omega arith, tt)) entries

-- no port that is up is on a network that is gone
pub gone_stays : (net : Internet) (network : Network) (now : List History) → IsGone net now network → (at number : ℕ) → is_up (ups net now at) number ≡ true
    → (port_at (ports_of net at) number).network ≢ network
gone_stays net network now gone at number on same =
    both_ways (is_among network (networks_up net now at)) (gone at)
    (subst (λ (n : Network). is_among n (networks_up net now at) ≡ true) same (among_ups (ports_of net at) (ups net now at) number on))

module _ (delay slack : ℕ) (key : ℕ × List ℕ) where
  -- every service but those of that type and name
  abbrev pub OtherService : Service → Type 0
  OtherService s = (s.kind, s.name) ≢ key

  asks_elsewhere : (begun : ℕ) (source : Address) (operation : Operation) (entries : List RipEntry) → AsksElsewhere source operation
      → RipSaid delay slack EveryNetwork OtherService begun source operation entries
  asks_elsewhere begun source Response entries elsewhere = all_of (RouteSaid delay slack EveryNetwork OtherService begun) (λ e near. inl tt) entries
  asks_elsewhere begun source Request entries elsewhere = inl elsewhere

  pub serviceless : (begun : ℕ) (m : Heard) → IsWithoutService key m → Said delay slack EveryNetwork OtherService begun m
  serviceless begun (HeardRip source rip) without = asks_elsewhere begun source rip.operation rip.entries without
  serviceless begun (HeardSap source (Query nearest kind)) without = inr (λ e near. inl tt)
  serviceless begun (HeardSap source (SapResponse nearest entries)) without =
      all_then _ (EntrySaid delay slack EveryNetwork OtherService begun) (λ e other near name same. inl (e.hops, omega arith, other near name same)) entries without

-- ---- what was announced

module _ (delay slack : ℕ) (Served : Service → Type 0) where
  -- what is heard says only such services
  abbrev pub SaysServed : Heard → Type 0
  SaysServed (HeardRip source rip) = AsksElsewhere source rip.operation
  SaysServed (HeardSap source (Query nearest kind)) = Unit {0}
  SaysServed (HeardSap source (SapResponse nearest entries)) = AllByRecursion (λ e. (name : List ℕ) → e.name ≡ Some name → Served (service_of e name)) entries

  -- that does no harm
  asks : (begun : ℕ) (source : Address) (operation : Operation) (entries : List RipEntry) → AsksElsewhere source operation
      → RipSaid delay slack EveryNetwork Served begun source operation entries
  asks begun source Response entries elsewhere = all_of (RouteSaid delay slack EveryNetwork Served begun) (λ e near. inl tt) entries
  asks begun source Request entries elsewhere = inl elsewhere

  pub harmless : (begun : ℕ) (m : Heard) → SaysServed m → Said delay slack EveryNetwork Served begun m
  harmless begun (HeardRip source rip) says = asks begun source rip.operation rip.entries says
  harmless begun (HeardSap source (Query nearest kind)) says = inr (λ e near. inl tt)
  harmless begun (HeardSap source (SapResponse nearest entries)) says =
      all_then (λ e. (name : List ℕ) → e.name ≡ Some name → Served (service_of e name)) (EntrySaid delay slack EveryNetwork Served begun)
      (λ e said near name same. inl (e.hops, omega arith, said name same)) entries says

  -- where each entry of a message from outside says such, it says only such
  pub message_served : (m : Heard) → AsksApart m → ((k : ℕ) (s : Service) → slice_get (entries_said m) k ≡ Some (entry_of s) → Served s) → SaysServed m
  message_served (HeardRip source rip) apart each = apart
  message_served (HeardSap source (Query nearest kind)) apart each = tt
  message_served (HeardSap source (SapResponse nearest entries)) apart each =
      all_listed (λ e. (name : List ℕ) → e.name ≡ Some name → Served (service_of e name)) entries
      (λ k e at name same. each k (service_of e name) (at ∙ named e name same))
    where
      named : (e : SapEntry) (name : List ℕ) → e.name ≡ Some name
          → Some e ≡ Some (record { kind = e.kind; name = Some name; address = e.address; hops = e.hops })
      named e name same =
          let make : Option (List ℕ) → Option SapEntry = λ n. Some (record { kind = e.kind; name = n; address = e.address; hops = e.hops }) in
          ap make same
