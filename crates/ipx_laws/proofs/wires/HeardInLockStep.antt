-- In lock step, what a router has all the time of a minute lands in that minute where it is heard. So routers are heard in time: each hears in any
-- minute of the networks that a router beside it advertises all the time of that minute.
use Rattle.std.proofs.Common.{◌≡◌, ◌≢◌, refl, sym, ap, ap₂, ◌∙◌, subst, ℕ, ◌+◌, ◌-◌, ◌≤◌, ◌==◌, Bool, true, if◌then◌else◌, List, [], ◌∷◌, ◌++◌, length, map, flat_map, Some, slice_get, arith}
use Rattle.std.proofs.lemmas.Bool.{eq-eqb, eqb-true}
use Rattle.ipx_wire.specs.Crossed.{is_among}
use Rattle.ipx_wire.specs.Rip.{IsEntry}
use Rattle.ipx_wire.specs.declared.network.Network.{Network}
use Rattle.ipx_wire.specs.declared.rip.Operation.TheVariants.{Response}
use Rattle.ipx_wire.specs.declared.rip.RipEntry.{RipEntry}
use Rattle.ipx_router.specs.Facts.{routes_held, offers}
use Rattle.ipx_router.specs.Heard.{HeardRip, heard}
use Rattle.ipx_router.specs.History.{History, Second, IsOfBytes, running, ports_up}
use Rattle.ipx_router.specs.News.{news}
use Rattle.ipx_router.specs.Numbers.{period}
use Rattle.ipx_router.specs.Port.{Port, is_up, own_address}
use Rattle.ipx_router.specs.Sends.{Holding, holding, is_periodic, second_on}
use Rattle.ipx_router.specs.Told.{told}
use Rattle.ipx_router.proofs.changes.ChangesFitFields.{news_fit}
use Rattle.ipx_router.proofs.lists.EachElement.{all_both}
use Rattle.ipx_router.proofs.histories.OneEventMore.{ports_stay}
use Rattle.ipx_router.proofs.port_values.PortOfEachNumber.{ports_up-within}
use Rattle.ipx_router.proofs.tables.HeldFitsFields.{held_routes_fit}
use Rattle.ipx_router.proofs.telling.ToldFitsFields.{told_fits}
use Rattle.ipx_internet.specs.BusyTick.{IsBusyTick}
use Rattle.ipx_internet.specs.Internet.{Internet, Place, IsInternet, NodesDiffer, ports_of, port_of, network_of}
use Rattle.ipx_internet.specs.Queue.{Delivery, Queued, deliveries_of, history_of, sends_at}
use Rattle.ipx_internet.specs.Run.{Step, Happens, Settles, AreHistories, Run, forgotten, stepped, run_of}
use Rattle.ipx_internet.specs.Ticks.{ticked}
use Rattle.ipx_internet.proofs.lists.EachElement.{all_of, all-append}
use Rattle.ipx_internet.proofs.packets.SentOnOrReply.{Layouts}
use Rattle.ipx_internet.proofs.places.OneReceiverOfANode.{ports_at, port_is}
use Rattle.ipx_laws.specs.InTime.{IsHeardFrom, Advertises, AreHeardInTime}
use Rattle.ipx_laws.specs.Meanwhile.{EachTick}
use Rattle.ipx_laws.specs.Wires.{Flight, Wires, WireStep, Lands, beaten, wired, wires_of, beats_of, Along, EachBeat, InBeats}
use Rattle.ipx_laws.proofs.lists.SomeElement.{AnyIs, any_then, any_passes, passes_any, any-map, any_mapped, number_any}
use Rattle.ipx_laws.proofs.losses.WordsThatWait.{no_way, IsWordFor, word_waits}
use Rattle.ipx_laws.proofs.packets.PagesAreHeard.{heard_page}
use Rattle.ipx_laws.proofs.tables.SaysItsLeastWay.{Tells, second_tells}
use Rattle.ipx_laws.proofs.ticks.SaidInAMinute.{Stay, is_place, runs_there, HasAlong, HandsOut, said_once}
use Rattle.ipx_laws.proofs.wires.LockStep.{as_wire, as_beat, as_beats, as_many, Follows, first_waits, same_histories, step_follows, tick_follows, ticks_so}
use Rattle.ipx_laws.proofs.wires.PartsInLockStep.{Goes, middle_of, middle_goes}

-- what a router has, that its neighbours hear as it lands
module _ (net : Internet) (laws : Layouts) (is : IsInternet net) (most_routes most_services : ℕ) (up : ℕ → List ℕ) (from : Place)
    (on : is_up (up from.router) from.port ≡ true) (Has : History → Type 0) (Word : Delivery → Type 0)
    (says : (histories : List History) → AreHistories net histories → Stay net laws is most_routes most_services up histories
    → running (history_of histories from.router) ≡ true → is_periodic (history_of histories from.router) ≡ true → Has (history_of histories from.router ++ Second ∷ [])
    → AnyIs Word (flat_map (deliveries_of net from.router) (sends_at net most_routes most_services histories from.router Second)))
    (IsHeard : Wires → WireStep → Type 0)
    (hears : (w : Wires) → Stay net laws is most_routes most_services up w.histories → (which : ℕ) (f : Flight) → slice_get w.flights which ≡ Some f
    → w.beats ≤ f.sent + 0 → Word f.delivery → IsHeard w (Lands which)) where
  abbrev HandsIt : Run → Step → Type 0
  HandsIt = HandsOut net laws is most_routes most_services up from on Has Word says

  abbrev HasIt : Run → List Step → Type 0
  HasIt = HasAlong net laws is most_routes most_services up from on Has Word says

  abbrev Busy : Run → List (List Step) → Type 0
  Busy = EachTick net most_routes most_services (IsBusyTick net most_routes most_services)

  abbrev Advertised : Wires → Type 0
  Advertised w = Has (history_of w.histories from.router)

  -- ---- what is handed out lands

  lands_so : (run : Run) (w : Wires) (step : Step) → Follows net most_routes most_services run w → HandsIt run step
      → IsHeard w (as_wire net most_routes most_services run w step)
  lands_so run w (Happens k event) follows none = absurd none
  lands_so run w Settles follows (d, rest, first, word, kept) =
      let queue : follows.queue ≡ d ∷ rest = sym (ap (λ (q : Queued). q.queue) follows.same) ∙ first in
      let waits = first_waits net most_routes most_services w d rest follows.landed
      (subst (λ (ds : List Delivery). w.flights ≡ follows.landed ++ map (λ q. record { delivery = q; sent = w.beats }) ds) queue follows.flights) in
      let f : Flight = record { delivery = d; sent = w.beats } in
      let stay = subst (Stay net laws is most_routes most_services up) (sym (same_histories net most_routes most_services run w follows)) kept.stay in
      hears w stay (length w.flights - length (forgotten run).queue) f
      (subst (λ (ds : List Delivery). slice_get w.flights (length w.flights - length ds) ≡ Some f) (sym first) waits) (omega arith) word

  -- ---- what is advertised is had

  steps_has : (run : Run) (w : Wires) (steps : List Step) → Follows net most_routes most_services run w
      → Along net most_routes most_services 0 Advertised w (as_beat net most_routes most_services run w steps) → HasIt run steps
  steps_has run w [] follows along = subst (λ (hs : List History). Has (history_of hs from.router)) (same_histories net most_routes most_services run w follows) along
  steps_has run w (step ∷ steps) follows along = (
    subst (λ (hs : List History). Has (history_of hs from.router)) (same_histories net most_routes most_services run w follows) along.0,
    steps_has (stepped net most_routes most_services run step) (wired net most_routes most_services 0 w (as_wire net most_routes most_services run w step)) steps
        (step_follows net most_routes most_services run w step follows) along.1,
  )

  ticks_has : (run : Run) (w : Wires) (ticks : List (List Step)) → Busy run ticks → Follows net most_routes most_services run w
      → EachBeat net most_routes most_services 0 (Along net most_routes most_services 0 Advertised) w (as_beats net most_routes most_services run w ticks)
      → EachTick net most_routes most_services HasIt run ticks
  ticks_has run w [] busy follows along = tt
  ticks_has run w (steps ∷ ticks) busy follows along = (
    steps_has run w steps follows along.0,
    ticks_has (run_of net most_routes most_services run steps) (beaten (wires_of net most_routes most_services 0 w (as_beat net most_routes most_services run w steps))) ticks
        busy.1 (tick_follows net most_routes most_services run w steps busy.0 follows) along.1,
  )

  -- ---- in any minute

  pub heard_in_time : (run : Run) (w : Wires) (ticks : List (List Step)) → Goes net laws is most_routes most_services up run w ticks
      → (before within later : List (List WireStep)) → as_beats net most_routes most_services run w ticks ≡ before ++ within ++ later → length within ≡ period
      → EachBeat net most_routes most_services 0 (Along net most_routes most_services 0 Advertised) (beats_of net most_routes most_services 0 w before) within
      → InBeats net most_routes most_services 0 IsHeard (beats_of net most_routes most_services 0 w before) within
  heard_in_time run w ticks goes before within later parts wide along =
      let now = beats_of net most_routes most_services 0 w before in
      let middle = middle_of net most_routes most_services run w ticks before within later parts in
      let next = ticked net most_routes most_services run middle.front in
      let inside = middle_goes net laws is most_routes most_services up run w ticks before within middle goes in
      let many = ap length middle.same ∙ wide in
      let as_long = as_many net most_routes most_services next now middle.inside in
      subst (λ (beats : List (List WireStep)). InBeats net most_routes most_services 0 IsHeard now beats) middle.same
      (ticks_so net most_routes most_services HandsIt IsHeard lands_so next now middle.inside inside.busy inside.follows
      (said_once net laws is most_routes most_services up from on Has Word says next middle.inside inside.kept (omega (arith, many, as_long)) inside.busy inside.leave
      (ticks_has next now middle.inside inside.busy inside.follows
      (subst (λ (beats : List (List WireStep)). EachBeat net most_routes most_services 0 (Along net most_routes most_services 0 Advertised) now beats)
      (sym middle.same) along))))

-- ---- networks

-- networks that are the same by number
same_network : (a b : Network) → a.0 ≡ b.0 → a ≡ b
same_network a b e = ap (λ (n : ℕ). record { 0 = n }) e

module _ (net : Internet) (laws : Layouts) (is : IsInternet net) (differ : NodesDiffer net) (most_routes most_services : ℕ) (up : ℕ → List ℕ) (from to : Place)
    (network : Network) (on_from : is_up (up from.router) from.port ≡ true) (on_to : is_up (up to.router) to.port ≡ true) (other : from.router ≢ to.router)
    (one_network : network_of net from ≡ network_of net to) where
  abbrev AnyEntry : RipEntry → Type 0
  AnyEntry e = Unit {0}

  abbrev Word : Delivery → Type 0
  Word = IsWordFor net network AnyEntry from to

  abbrev IsIt : RipEntry → Type 0
  IsIt e = e.network ≡ network

  abbrev ports : List Port
  ports = ports_of net from.router

  abbrev advertised : History → List RipEntry
  advertised history = told ports (ports_up ports history) (offers (routes_held ports most_routes history)) from.port

  -- the router advertises it
  abbrev Has : History → Type 0
  Has history = is_among network (map (λ e. e.network) (advertised history)) ≡ true

  some_entry : (entries : List RipEntry) → is_among network (map (λ e. e.network) entries) ≡ true → AnyIs IsIt entries
  some_entry entries among =
      any_then (λ e. (e.network.0 == network.0) ≡ true) IsIt (λ e same. same_network e.network network (eqb-true e.network.0 network.0 same)) entries
      (any_mapped (λ n. (n.0 == network.0) ≡ true) (λ e. e.network) entries (any_passes (λ n. n.0 == network.0) (map (λ e. e.network) entries) among))

  is_some : (entries : List RipEntry) → AnyIs IsIt entries → is_among network (map (λ e. e.network) entries) ≡ true
  is_some entries any =
      passes_any (λ n. n.0 == network.0) (map (λ e. e.network) entries)
      (any-map IsIt (λ n. (n.0 == network.0) ≡ true) (λ e. e.network) (λ e same. eq-eqb e.network.0 network.0 (ap (λ (n : Network). n.0) same)) entries any)

  abbrev Remain : List History → Type 0
  Remain = Stay net laws is most_routes most_services up

  -- ---- it says so in a periodic broadcast

  says : (histories : List History) → AreHistories net histories → Remain histories → running (history_of histories from.router) ≡ true
      → is_periodic (history_of histories from.router) ≡ true → Has (history_of histories from.router ++ Second ∷ [])
      → AnyIs Word (flat_map (deliveries_of net from.router) (sends_at net most_routes most_services histories from.router Second))
  says histories are stay runs periodic has =
      let past = history_of histories from.router in
      let now = past ++ Second ∷ [] in
      let at_from = is_place net laws is most_routes most_services up histories stay from on_from in
      let of_bytes = are.of_bytes from.router in
      let still_bytes = all-append IsOfBytes past (Second ∷ []) of_bytes (tt, tt) in
      let fit = held_routes_fit laws.readings ports most_routes now still_bytes in
      let bef : Holding = holding ports most_routes most_services past in
      let aft : Holding = holding ports most_routes most_services now in
      let on_now : is_up aft.up from.port ≡ true = subst (λ (us : List ℕ). is_up us from.port ≡ true)
      (sym (ports_stay ports past Second refl refl (λ j. refl) (λ j. refl) ∙ stay from.router)) on_from in
      let changes = news ports bef.routes aft.routes from.port in
      let all = told ports aft.up aft.routes from.port in
      let same : sends_at net most_routes most_services histories from.router Second ≡ flat_map (second_on ports bef aft true) aft.up =
      ap₂ (λ (r p : Bool). if r then flat_map (second_on ports bef aft p) aft.up else []) runs periodic in
      word_waits net network AnyEntry from to (λ e. other (sym e)) (is_place net laws is most_routes most_services up histories stay to on_to) (sym one_network)
      (sends_at net most_routes most_services histories from.router Second)
      (subst (λ ss. AnyIs (Tells ports network no_way AnyEntry from.port) ss) (sym same)
      (second_tells ports network no_way laws.readings laws.again from.port (port_is net is from at_from) AnyEntry bef aft
      (number_any from.port aft.up on_now)
      (all_both IsEntry AnyEntry changes (news_fit ports bef.routes aft.routes from.port (held_routes_fit laws.readings ports most_routes past of_bytes) fit)
      (all_of AnyEntry (λ e. tt) changes))
      (all_both IsEntry AnyEntry all (told_fits ports (ports_at net is from.router) aft.up aft.routes from.port (ports_up-within ports now) fit)
      (all_of AnyEntry (λ e. tt) all))
      (some_entry (advertised now) has)))

  -- ---- and it is heard

  abbrev IsHeard : Wires → WireStep → Type 0
  IsHeard = IsHeardFrom net most_routes most_services 0 to (port_of net from).node network

  hears : (w : Wires) → Remain w.histories → (which : ℕ) (f : Flight) → slice_get w.flights which ≡ Some f → w.beats ≤ f.sent + 0 → Word f.delivery → IsHeard w (Lands which)
  hears w stay which f flies soon word =
      let there = ports_of net to.router in
      let history = history_of w.histories to.router in
      let at_from = is_place net laws is most_routes most_services up w.histories stay from on_from in
      let at_to = is_place net laws is most_routes most_services up w.histories stay to on_to in
      let m = HeardRip (own_address (port_of net from)) (record { operation = Response; entries = word.page.page }) in
      let said = heard_page there (ports_up there history) to.port (subst (λ (us : List ℕ). is_up us to.port ≡ true) (sym (stay to.router)) on_to) (port_of net from)
      one_network (differ from to at_from at_to other one_network) (port_is net is from at_from).node AnyEntry f.delivery.bytes word.page in (
        f,
        flies,
        word.at,
        soon,
        m,
        subst (λ (b : Bool). heard there (ports_up there history) b to.port f.delivery.bytes ≡ Some m)
            (sym (runs_there net laws is most_routes most_services up w.histories stay to on_to)) said,
        (refl, refl, is_some word.page.page word.has),
      )

  pub network_heard : (run : Run) (w : Wires) (ticks : List (List Step)) → Goes net laws is most_routes most_services up run w ticks
      → (before within later : List (List WireStep)) → as_beats net most_routes most_services run w ticks ≡ before ++ within ++ later → length within ≡ period
      → EachBeat net most_routes most_services 0 (Along net most_routes most_services 0 (Advertises net most_routes most_services 0 from network))
      (beats_of net most_routes most_services 0 w before) within
      → InBeats net most_routes most_services 0 IsHeard (beats_of net most_routes most_services 0 w before) within
  network_heard = heard_in_time net laws is most_routes most_services up from on_from Has Word says IsHeard hears

pub in_time : (net : Internet) (laws : Layouts) (is : IsInternet net) (most_routes most_services : ℕ) (up : ℕ → List ℕ) → NodesDiffer net → (run : Run) (w : Wires)
    (ticks : List (List Step)) → Goes net laws is most_routes most_services up run w ticks
    → AreHeardInTime net most_routes most_services 0 period up w (as_beats net most_routes most_services run w ticks)
in_time net laws is most_routes most_services up differ run w ticks goes from to network before within later on_from on_to other one_network =
    network_heard net laws is differ most_routes most_services up from to network on_from on_to other one_network run w ticks goes before within later
