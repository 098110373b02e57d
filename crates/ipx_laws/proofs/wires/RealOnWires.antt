-- Over wires each route to a network off a list becomes that of a real way, where ports stay as they are, hosts tell of no route but to the
-- networks of the list, and outsiders say what is true.
use Rattle.std.proofs.Common.{◌≡◌, refl, sym, subst, ◌⊎◌, ℕ, ◌+◌, ◌<◌, ◌≤◌, true, List, [], length, map, Option, None, Some, IfSome, inl, inr, arith}
use Rattle.std.specs.List.{AllByRecursion}
use Rattle.ipx_wire.specs.declared.network.Network.{Network}
use Rattle.ipx_wire.specs.declared.rip.RipEntry.{RipEntry}
use Rattle.ipx_router.specs.Facts.{route_facts, routes_held, offers}
use Rattle.ipx_router.specs.Heard.{Heard}
use Rattle.ipx_router.specs.History.{History, Start, Stop, Second, Packet, PortDown, PortUp}
use Rattle.ipx_router.specs.Port.{is_up}
use Rattle.ipx_router.specs.Routes.{route_reading, network_order}
use Rattle.ipx_router.proofs.bounds.PacketsOfEachEvent.{network_total}
use Rattle.ipx_router.proofs.tables.HeldCameByPortsUp.{held_routes_up}
use Rattle.ipx_internet.specs.Internet.{Internet, Place, IsInternet, ports_of}
use Rattle.ipx_internet.specs.Queue.{Delivery, history_of}
use Rattle.ipx_internet.specs.Rounds.{IsDelivery}
use Rattle.ipx_internet.specs.Run.{Step, Happens, Settles, AreHistories}
use Rattle.ipx_internet.proofs.lists.EachElement.{all_of, all_then}
use Rattle.ipx_internet.proofs.packets.SentOnOrReply.{Layouts}
use Rattle.ipx_laws.specs.Apart.{TellsOnlyOf, IsRealApart}
use Rattle.ipx_laws.specs.Meanwhile.{message_of, SaysOnly, LeavesPorts, TellsNoRoute}
use Rattle.ipx_laws.specs.Real.{IsReal}
use Rattle.ipx_laws.specs.Outsiders.{AreStopped, IsTrueOf, SaysTruly}
use Rattle.ipx_laws.specs.Ups.{ups}
use Rattle.ipx_laws.specs.Wires.{Flight, Wires, WireStep, as_step, flying, beats_of, AreBeats, EachWireStep, most_beats_gone, most_beats_flying}
use Rattle.ipx_laws.proofs.packets.RoutesOrSilence.{none_of_foreign}
use Rattle.ipx_laws.proofs.records.RecordsGrowOld.{at_last}
use Rattle.ipx_laws.proofs.ticks.RealOrSoonEnded.{at_begin}
use Rattle.ipx_laws.proofs.wires.BeatAfterBeat.{beats_go, starts, each_all}
use Rattle.ipx_laws.proofs.wires.SpokenOnWires.{AnyHistory, AnyEntry, Lasts, Flies, Arises, Good, Extras, Goes, keeps, such_beats, any_flies}

-- nothing more is asked of what is said
pub nothing_more : (delay slack : ℕ) (net : Internet) (laws : Layouts) (is : IsInternet net) (most_routes most_services : ℕ) (up : ℕ → List ℕ) (foreign : List Network)
    (ours : ℕ) (Strange : Place → RipEntry → Type 0) (truth : (from : Place) (e : RipEntry) → Strange from e → IsTrueOf net up from e)
    → Extras delay slack net laws is most_routes most_services up foreign ours Strange truth AnyHistory AnyEntry
nothing_more delay slack net laws is most_routes most_services up foreign ours Strange truth = record {
  advertised = λ beats had router history enough lasts fit j. all_of (λ e. Unit {0}) (λ e. tt) _;
  changed = λ beats had later router old new enough enough_then lasts then_lasts fit fit_then j. all_of (λ e. Unit {0}) (λ e. tt) _;
}

module _ (delay slack : ℕ) (net : Internet) (laws : Layouts) (is : IsInternet net) (most_routes most_services : ℕ) (up : ℕ → List ℕ) (foreign : List Network)
    (ours : ℕ) (Strange : Place → RipEntry → Type 0) (truth : (from : Place) (e : RipEntry) → Strange from e → IsTrueOf net up from e)
    (histories : List History) (are : AreHistories net histories) (stay : (router : ℕ) → router < ours → ups net histories router ≡ up router)
    (stopped : AreStopped net ours histories) (deliveries : List Delivery)
    (fly : AllByRecursion (IsDelivery net) deliveries) (over : (deliveries ≡ []) ⊎ (most_beats_flying delay ≤ slack)) (beats : List (List WireStep))
    (all : AreBeats net beats) (leave : EachWireStep LeavesPorts beats) (say : EachWireStep (SaysTruly net up ours foreign Strange) beats) where
  abbrev pub Flying : Flight → Type 0
  Flying = Flies delay slack net laws is most_routes most_services up foreign ours Strange truth AnyHistory AnyEntry

  abbrev pub Goes_on : ℕ → (ℕ → ℕ) → Wires → Type 0
  Goes_on = Goes delay slack net laws is most_routes most_services up foreign ours Strange truth AnyHistory AnyEntry

  abbrev last : Wires
  last = beats_of net most_routes most_services delay (flying histories deliveries) beats

  pub begins : Goes_on 0 (λ router. 0) (flying histories deliveries)
  begins =
      starts net laws is most_routes most_services delay (Lasts delay slack net laws is most_routes most_services up foreign ours Strange truth AnyHistory AnyEntry) Flying (Arises delay slack net laws is most_routes most_services up foreign ours Strange truth AnyHistory AnyEntry) (Good delay slack net laws is most_routes most_services up foreign ours Strange truth AnyHistory AnyEntry)
      (keeps delay slack net laws is most_routes most_services up foreign ours Strange truth AnyHistory AnyEntry
      (nothing_more delay slack net laws is most_routes most_services up foreign ours Strange truth)) histories deliveries are
      (λ router inside. (
        (λ mine. at_begin delay slack net up foreign most_routes router (history_of histories router) (stay router mine)),
        stopped router inside,
      )) (by over)
    where
      by : (deliveries ≡ []) ⊎ (most_beats_flying delay ≤ slack) → AllByRecursion (λ d. Flying (record { delivery = d; sent = 0 })) deliveries
      by (inl none) = subst (λ (ds : List Delivery). AllByRecursion (λ d. Flying (record { delivery = d; sent = 0 })) ds) (sym none) tt
      by (inr room) = all_then (IsDelivery net) (λ d. Flying (record { delivery = d; sent = 0 })) (any_flies delay slack net laws is most_routes most_services up foreign ours Strange truth AnyHistory AnyEntry room) deliveries fly

  pub ends : Goes_on (length beats + 0) (λ router. 0) last
  ends =
      beats_go net laws is most_routes most_services delay (Lasts delay slack net laws is most_routes most_services up foreign ours Strange truth AnyHistory AnyEntry) Flying (Arises delay slack net laws is most_routes most_services up foreign ours Strange truth AnyHistory AnyEntry) (Good delay slack net laws is most_routes most_services up foreign ours Strange truth AnyHistory AnyEntry)
      (keeps delay slack net laws is most_routes most_services up foreign ours Strange truth AnyHistory AnyEntry
      (nothing_more delay slack net laws is most_routes most_services up foreign ours Strange truth)) 0 beats (flying histories deliveries) all
      (such_beats delay slack net laws is most_routes most_services up foreign ours Strange truth AnyHistory AnyEntry (flying histories deliveries) beats
      (each_all net most_routes most_services delay (λ now. (router : ℕ) → router < length net → router < ours → Unit {0}) (λ now router inside mine. tt) (flying histories deliveries) beats) leave say)
      begins

  module _ (router : ℕ) (within : router < length net) (mine : router < ours) where
    abbrev there : History
    there = history_of last.histories router

    -- what is held came by ports that were up all the time
    pub held_on : AllByRecursion (λ r. is_up (up router) r.port ≡ true) (offers (routes_held (ports_of net router) most_routes there))
    held_on =
        subst (λ (us : List ℕ). AllByRecursion (λ r. is_up us r.port ≡ true) (offers (routes_held (ports_of net router) most_routes there)))
        ((ends.routers router 0 within (omega arith) (omega arith)).0 mine).ups (held_routes_up (ports_of net router) most_routes there)

    pub held_real : slack + most_beats_gone delay ≤ length beats → AllByRecursion (IsRealApart net up foreign router) (offers (routes_held (ports_of net router) most_routes there))
    held_real long =
        at_last route_reading network_order network_total most_routes (map (λ p. p.route_share) (ports_of net router)) (λ r. r.hops) (λ r. refl) delay slack
        (IsRealApart net up foreign router) (length beats) (route_facts (ports_of net router) there) long
        ((ends.routers router (length beats) within (omega arith) (omega arith)).0 mine).routes

-- ---- where there are no outsiders

-- what tells of no route but to networks of the list says nothing else
truly_apart : (net : Internet) (up : ℕ → List ℕ) (ours : ℕ) (foreign : List Network) (Strange : Place → RipEntry → Type 0) (step : Step)
    → SaysOnly (TellsOnlyOf foreign) step → SaysTruly net up ours foreign Strange step
truly_apart net up ours foreign Strange (Happens router (Packet number bytes)) says =
    λ m e. inl (subst (λ (o : Option Heard). IfSome o (TellsOnlyOf foreign)) e says)
truly_apart net up ours foreign Strange (Happens router Second) says = tt
truly_apart net up ours foreign Strange (Happens router Start) says = tt
truly_apart net up ours foreign Strange (Happens router Stop) says = tt
truly_apart net up ours foreign Strange (Happens router (PortDown number)) says = tt
truly_apart net up ours foreign Strange (Happens router (PortUp number)) says = tt
truly_apart net up ours foreign Strange Settles says = tt

pub truly_beside : (net : Internet) (up : ℕ → List ℕ) (ours : ℕ) (foreign : List Network) (Strange : Place → RipEntry → Type 0) (beats : List (List WireStep))
    → EachWireStep (SaysOnly (TellsOnlyOf foreign)) beats → EachWireStep (SaysTruly net up ours foreign Strange) beats
truly_beside net up ours foreign Strange beats says =
    all_then (AllByRecursion (λ step. SaysOnly (TellsOnlyOf foreign) (as_step step))) (AllByRecursion (λ step. SaysTruly net up ours foreign Strange (as_step step)))
    (λ steps all. all_then (λ step. SaysOnly (TellsOnlyOf foreign) (as_step step)) (λ step. SaysTruly net up ours foreign Strange (as_step step))
    (λ step one. truly_apart net up ours foreign Strange (as_step step) one) steps all) beats says

-- all routers of an internet are ours
pub none_strange : (net : Internet) (histories : List History) → AreStopped net (length net) histories
none_strange net histories router inside strange = absurd (omega (arith, inside, strange))

module _ (delay slack : ℕ) (net : Internet) (laws : Layouts) (is : IsInternet net) (most_routes most_services : ℕ) (up : ℕ → List ℕ) (foreign : List Network)
    (histories : List History) (are : AreHistories net histories) (stay : (router : ℕ) → ups net histories router ≡ up router) (deliveries : List Delivery)
    (fly : AllByRecursion (IsDelivery net) deliveries) (over : (deliveries ≡ []) ⊎ (most_beats_flying delay ≤ slack)) (beats : List (List WireStep))
    (all : AreBeats net beats) (leave : EachWireStep LeavesPorts beats) (say : EachWireStep (SaysOnly (TellsOnlyOf foreign)) beats) (router : ℕ)
    (within : router < length net) where
  abbrev last_of : History
  last_of = history_of (beats_of net most_routes most_services delay (flying histories deliveries) beats).histories router

  pub all_on : AllByRecursion (λ r. is_up (up router) r.port ≡ true) (offers (routes_held (ports_of net router) most_routes last_of))
  all_on =
      held_on delay slack net laws is most_routes most_services up foreign (length net) (IsTrueOf net up) (λ from e says. says) histories are
      (λ other mine. stay other) (none_strange net histories) deliveries fly over beats all leave
      (truly_beside net up (length net) foreign (IsTrueOf net up) beats say) router within within

  pub all_real : slack + most_beats_gone delay ≤ length beats → AllByRecursion (IsRealApart net up foreign router) (offers (routes_held (ports_of net router) most_routes last_of))
  all_real long =
      held_real delay slack net laws is most_routes most_services up foreign (length net) (IsTrueOf net up) (λ from e says. says) histories are
      (λ other mine. stay other) (none_strange net histories) deliveries fly over beats all leave
      (truly_beside net up (length net) foreign (IsTrueOf net up) beats say) router within within long

-- ---- where hosts tell of no route

-- what tells of no route tells of none to the networks of an empty list
none_apart : (step : Step) → SaysOnly TellsNoRoute step → SaysOnly (TellsOnlyOf []) step
none_apart (Happens router (Packet number bytes)) says = some (message_of bytes) says
  where
    some : (o : Option Heard) → IfSome o TellsNoRoute → IfSome o (TellsOnlyOf [])
    some None says = tt
    some (Some m) says = none_of_foreign [] m says
none_apart (Happens router Second) says = tt
none_apart (Happens router Start) says = tt
none_apart (Happens router Stop) says = tt
none_apart (Happens router (PortDown number)) says = tt
none_apart (Happens router (PortUp number)) says = tt
none_apart Settles says = tt

pub none_beside : (beats : List (List WireStep)) → EachWireStep (SaysOnly TellsNoRoute) beats → EachWireStep (SaysOnly (TellsOnlyOf [])) beats
none_beside beats says =
    all_then (AllByRecursion (λ step. SaysOnly TellsNoRoute (as_step step))) (AllByRecursion (λ step. SaysOnly (TellsOnlyOf []) (as_step step)))
    (λ steps all. all_then (λ step. SaysOnly TellsNoRoute (as_step step)) (λ step. SaysOnly (TellsOnlyOf []) (as_step step)) (λ step one. none_apart (as_step step) one)
    steps all) beats says

module _ (delay slack : ℕ) (net : Internet) (laws : Layouts) (is : IsInternet net) (most_routes most_services : ℕ) (up : ℕ → List ℕ) (histories : List History)
    (are : AreHistories net histories) (stay : (router : ℕ) → ups net histories router ≡ up router) (deliveries : List Delivery)
    (fly : AllByRecursion (IsDelivery net) deliveries) (over : (deliveries ≡ []) ⊎ (most_beats_flying delay ≤ slack)) (beats : List (List WireStep))
    (all : AreBeats net beats) (leave : EachWireStep LeavesPorts beats) (say : EachWireStep (SaysOnly TellsNoRoute) beats) (router : ℕ)
    (within : router < length net) (long : slack + most_beats_gone delay ≤ length beats) where
  pub every_real : AllByRecursion (IsReal net up router)
      (offers (routes_held (ports_of net router) most_routes (history_of (beats_of net most_routes most_services delay (flying histories deliveries) beats).histories router)))
  every_real =
      all_then (IsRealApart net up [] router) (IsReal net up router) (λ r real. real refl) _
      (all_real delay slack net laws is most_routes most_services up [] histories are stay deliveries fly over beats all leave (none_beside beats say) router within long)
