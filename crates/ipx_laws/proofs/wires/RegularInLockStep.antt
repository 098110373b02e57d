-- In lock step hosts that announce a service are heard in time over wires, and so are routers of it: in any minute each router hears of the service
-- from the hosts on its networks, and from each router beside it that advertises it all the time of that minute. And a minute is quick.
use Rattle.std.proofs.Common.{◌≡◌, ◌≢◌, refl, sym, ap, ◌∙◌, subst, ℕ, zero, suc, ◌+◌, ◌<◌, ◌≤◌, Bool, true, false, List, [], ◌∷◌, ◌++◌, length, map, flat_map, Some, slice_get, inl, inr, arith}
use Rattle.std.specs.List.{AllByRecursion}
use Rattle.ipx_wire.specs.WriteServices.{entry_of}
use Rattle.ipx_wire.specs.declared.sap.Sap.TheVariants.{Response}
use Rattle.ipx_wire.specs.declared.sap_entries.SapEntry.{SapEntry}
use Rattle.ipx_wire.specs.declared.service.Service.{Service}
use Rattle.ipx_router.specs.Facts.{services_held, offers}
use Rattle.ipx_router.specs.Heard.{HeardSap, heard}
use Rattle.ipx_router.specs.History.{History, Second, running, ports_up}
use Rattle.ipx_router.specs.Numbers.{period}
use Rattle.ipx_router.specs.Port.{is_up, own_services}
use Rattle.ipx_router.specs.Sends.{is_periodic}
use Rattle.ipx_router.specs.Told.{told_services}
use Rattle.ipx_router.proofs.histories.OneEventMore.{ports_stay}
use Rattle.ipx_router.proofs.lists.EachElement.{all_before, all_behind}
use Rattle.ipx_internet.specs.BusyTick.{IsBusyTick}
use Rattle.ipx_internet.specs.Internet.{Internet, Place, IsInternet, NodesDiffer, ports_of, port_of, network_of}
use Rattle.ipx_internet.specs.Queue.{Delivery, deliveries_of, history_of, sends_at}
use Rattle.ipx_internet.specs.Run.{Step, AreHistories, Run, run_of}
use Rattle.ipx_internet.specs.Ticks.{seconds_of}
use Rattle.ipx_internet.proofs.packets.SentOnOrReply.{Layouts}
use Rattle.ipx_internet.proofs.places.OneReceiverOfANode.{port_is}
use Rattle.ipx_laws.specs.Announces.{service_of}
use Rattle.ipx_laws.specs.InTime.{seconds_in, AreQuick}
use Rattle.ipx_laws.specs.Meanwhile.{SaysOnly, EachTick}
use Rattle.ipx_laws.specs.Regular.{Announces, IsHeard, AreInTime, IsListedName, AreRegular}
use Rattle.ipx_laws.specs.Servers.{Server, IsOf, SaysNoFalse, NamesOnly}
use Rattle.ipx_laws.specs.WireRegular.{IsHostHeard, IsRouterHeard, AreHostsInTime, AreRoutersInTime, AreRegularBeats}
use Rattle.ipx_laws.specs.Wires.{Flight, Wires, WireStep, Lands, as_step, beaten, wires_of}
use Rattle.ipx_laws.proofs.lists.SomeElement.{AnyIs, number_any}
use Rattle.ipx_laws.proofs.packets.PagesAreHeard.{heard_services}
use Rattle.ipx_laws.proofs.services.ServiceIsTold.{AnyService, NamesTo, waits_for, second_says}
use Rattle.ipx_laws.proofs.ticks.SaidInAMinute.{Stay, is_place, runs_there}
use Rattle.ipx_laws.proofs.wires.HeardInLockStep.{heard_in_time}
use Rattle.ipx_laws.proofs.wires.LockStep.{as_beat, as_beats, beats_say, same_steps, heard_outside}
use Rattle.ipx_laws.proofs.wires.PartsInLockStep.{part_so, Goes}

-- ---- routers

-- one that is such stands there at a number, and as an entry
any_at : {X : Type 0} (P : X → Type 0) (xs : List X) (which : ℕ) (x : X) → slice_get xs which ≡ Some x → P x → AnyIs P xs
any_at P [] which x found is = grind arith
any_at P (y ∷ ys) zero x found is = inl (grind arith)
any_at P (y ∷ ys) (suc which) x found is = inr (any_at P ys which x found is)

named_entry : (server : Server) (page : List Service) → AnyIs (IsOf server) page
    → (which : ℕ) × (e : SapEntry) × (slice_get (map entry_of page) which ≡ Some e) × (name : List ℕ) × (e.name ≡ Some name) × IsOf server (service_of e name)
named_entry server [] any = absurd any
named_entry server (s ∷ page) (inl is) = (0, entry_of s, refl, s.name, refl, is)
named_entry server (s ∷ page) (inr any) = let (which, e, found, name, named, of) = named_entry server page any in (suc which, e, found, name, named, of)

module _ (net : Internet) (laws : Layouts) (is : IsInternet net) (differ : NodesDiffer net) (most_routes most_services : ℕ) (up : ℕ → List ℕ) (server : Server)
    (from to : Place) (on_from : is_up (up from.router) from.port ≡ true) (on_to : is_up (up to.router) to.port ≡ true) (other : from.router ≢ to.router)
    (one_network : network_of net from ≡ network_of net to) where
  abbrev Remain : List History → Type 0
  Remain = Stay net laws is most_routes most_services up

  abbrev Word : Delivery → Type 0
  Word = NamesTo net from to (IsOf server)

  -- the router advertises it
  abbrev Has : History → Type 0
  Has history =
      (which : ℕ) × (s : Service) × (slice_get (told_services (offers (services_held (ports_of net from.router) most_services history)) from.port) which ≡ Some s) × IsOf server s

  says : (histories : List History) → AreHistories net histories → Remain histories → running (history_of histories from.router) ≡ true
      → is_periodic (history_of histories from.router) ≡ true → Has (history_of histories from.router ++ Second ∷ [])
      → AnyIs Word (flat_map (deliveries_of net from.router) (sends_at net most_routes most_services histories from.router Second))
  says histories are stay runs periodic (which, s, found, of) =
      let ports = ports_of net from.router in
      let past = history_of histories from.router in
      let now = past ++ Second ∷ [] in
      let on : is_up (ports_up ports now) from.port ≡ true = subst (λ (us : List ℕ). is_up us from.port ≡ true)
      (sym (ports_stay ports past Second refl refl (λ j. refl) (λ j. refl) ∙ stay from.router)) on_from in
      waits_for net from to (IsOf server) (λ e. other (sym e)) (is_place net laws is most_routes most_services up histories stay to on_to) (sym one_network)
      (sends_at net most_routes most_services histories from.router Second)
      (second_says net laws is most_routes most_services histories are from (is_place net laws is most_routes most_services up histories stay from on_from) (IsOf server)
      runs periodic (number_any from.port (ports_up ports now) on)
      (any_at (IsOf server) (told_services (offers (services_held ports most_services now)) from.port) which s found of))

  abbrev IsHeardThere : Wires → WireStep → Type 0
  IsHeardThere = IsRouterHeard net most_routes most_services 0 server to (port_of net from).node

  hears : (w : Wires) → Remain w.histories → (which : ℕ) (f : Flight) → slice_get w.flights which ≡ Some f → w.beats ≤ f.sent + 0 → Word f.delivery
      → IsHeardThere w (Lands which)
  hears w stay which f flies soon word =
      let there = ports_of net to.router in
      let history = history_of w.histories to.router in
      let at_from = is_place net laws is most_routes most_services up w.histories stay from on_from in
      let at_to = is_place net laws is most_routes most_services up w.histories stay to on_to in
      let m = HeardSap (own_services (port_of net from)) (Response false (map entry_of word.page.page)) in
      let said = heard_services there (ports_up there history) to.port (subst (λ (us : List ℕ). is_up us to.port ≡ true) (sym (stay to.router)) on_to) (port_of net from)
      one_network (differ from to at_from at_to other one_network) (port_is net is from at_from).node AnyService f.delivery.bytes word.page in
      let (at_it, e, found, name, named, of) = named_entry server word.page.page word.has in (
        f,
        flies,
        word.to,
        soon,
        m,
        subst (λ (b : Bool). heard there (ports_up there history) b to.port f.delivery.bytes ≡ Some m)
            (sym (runs_there net laws is most_routes most_services up w.histories stay to on_to)) said,
        (refl, at_it, e, found, name, named, of),
      )

-- ---- in time

module _ (net : Internet) (laws : Layouts) (is : IsInternet net) (most_routes most_services : ℕ) (up : ℕ → List ℕ) (server : Server) (run : Run) (w : Wires)
    (ticks : List (List Step)) (goes : Goes net laws is most_routes most_services up run w ticks) where
  abbrev beats : List (List WireStep)
  beats = as_beats net most_routes most_services run w ticks

  pub routers_in_time : NodesDiffer net → AreRoutersInTime net most_routes most_services 0 server period up w beats
  routers_in_time differ from to before within later on_from on_to other one_network parts wide along =
      heard_in_time net laws is most_routes most_services up from on_from
      (Has net laws is differ most_routes most_services up server from to on_from on_to other one_network)
      (Word net laws is differ most_routes most_services up server from to on_from on_to other one_network)
      (says net laws is differ most_routes most_services up server from to on_from on_to other one_network)
      (IsHeardThere net laws is differ most_routes most_services up server from to on_from on_to other one_network)
      (hears net laws is differ most_routes most_services up server from to on_from on_to other one_network) run w ticks goes before within later parts wide along

  hosts_in_time : AreInTime net most_routes most_services server up run ticks → AreHostsInTime net most_routes most_services 0 server period up w beats
  hosts_in_time in_time which host to listed on on_network before within later parts wide =
      part_so net most_routes most_services (IsHeard net most_routes most_services server to host) (IsHostHeard net most_routes most_services 0 server to host)
      (heard_outside net most_routes most_services to (Announces server host)) run w ticks goes.busy goes.follows before within later parts
      (λ front inside behind whole long. in_time which host to listed on on_network front inside behind whole (long ∙ wide))

  pub regular : (names : List (ℕ × List ℕ)) → AreRegular net most_routes most_services server names up run ticks
      → AreRegularBeats net most_routes most_services 0 server period names up w beats
  regular names (say, named, in_time) = (
    beats_say net most_routes most_services (SaysNoFalse net server) run w ticks say,
    beats_say net most_routes most_services (SaysOnly (NamesOnly (IsListedName names))) run w ticks named,
    hosts_in_time in_time,
  )

-- ---- a minute is quick

abbrev OneSecond : ℕ → List WireStep → Type 0
OneSecond router steps = seconds_of router (map as_step steps) ≡ 1

counted : (router : ℕ) (beats : List (List WireStep)) → AllByRecursion (OneSecond router) beats → seconds_in router beats ≡ length beats
counted router [] one = refl
counted router (steps ∷ beats) one =
    let first = one.0 in
    let rest = counted router beats one.1 in
    omega (arith, first, rest)

module _ (net : Internet) (most_routes most_services : ℕ) where
  one_each : (router : ℕ) → router < length net → (run : Run) (w : Wires) (ticks : List (List Step))
      → EachTick net most_routes most_services (IsBusyTick net most_routes most_services) run ticks
      → AllByRecursion (OneSecond router) (as_beats net most_routes most_services run w ticks)
  one_each router inside run w [] busy = tt
  one_each router inside run w (steps ∷ ticks) busy = (
    ap (seconds_of router) (same_steps net most_routes most_services run w steps) ∙ busy.0.each router inside,
    one_each router inside (run_of net most_routes most_services run steps)
        (beaten (wires_of net most_routes most_services 0 w (as_beat net most_routes most_services run w steps))) ticks busy.1,
  )

  pub quick : (run : Run) (w : Wires) (ticks : List (List Step)) → EachTick net most_routes most_services (IsBusyTick net most_routes most_services) run ticks
      → AreQuick net period (as_beats net most_routes most_services run w ticks)
  quick run w ticks busy router before within later inside parts few =
      let all = subst (λ (bs : List (List WireStep)). AllByRecursion (OneSecond router) bs) parts (one_each router inside run w ticks busy) in
      let count = counted router within (all_behind (OneSecond router) before within (all_before (OneSecond router) (before ++ within) later all)) in
      omega (arith, count, few)
