-- Routers that are heard in time over wires, and how soon tables are right then.
use Rattle.std.specs.Prelude.{◌≡◌, ◌≢◌, ℕ, suc, ◌+◌, ◌*◌, ◌<◌, ◌≤◌, true, List, [], ◌∷◌, ◌++◌, length, map, Option, None, Some, slice_get}
use Rattle.ipx_table.specs.Alive.{lifetime}
use Rattle.ipx_wire.specs.Crossed.{is_among}
use Rattle.ipx_wire.specs.declared.network.Network.{Network}
use Rattle.ipx_wire.specs.declared.node.Node.{Node}
use Rattle.ipx_wire.specs.declared.rip.Operation.TheVariants.{Response}
use Rattle.ipx_router.specs.Facts.{heard_after}
use Rattle.ipx_router.specs.Heard.{Heard, HeardRip, HeardSap}
use Rattle.ipx_router.specs.History.{History}
use Rattle.ipx_router.specs.Port.{is_up}
use Rattle.ipx_router.specs.Told.{told}
use Rattle.ipx_internet.specs.Internet.{Internet, Place, ports_of, port_of, network_of}
use Rattle.ipx_internet.specs.Queue.{history_of}
use Rattle.ipx_internet.specs.Run.{Step, begun}
use Rattle.ipx_internet.specs.Ticks.{seconds_of, ticked}
use Rattle.ipx_laws.specs.Least.{Way}
use Rattle.ipx_laws.specs.Tables.{routes_of}
use Rattle.ipx_laws.specs.Ups.{ups}
use Rattle.ipx_laws.specs.Wires.{Flight, Wires, WireStep, Occurs, Lands, as_step, still, beats_of, Along, EachBeat, InBeats, most_beats_gone}

-- a response of routing information from that node, an entry of which names that network
abbrev pub Names : Node → Network → Heard → Type 0
Names node network (HeardRip source rip) =
    (source.node ≡ node) × (rip.operation ≡ Response) × (is_among network (map (λ e. e.network) rip.entries) ≡ true)
Names node network (HeardSap source sap) = ⊥

-- in a step a flight lands on a port, not too late, and what is heard of it there is such
abbrev pub IsHeardLanding : Internet → (delay : ℕ) → Place → (Heard → Type 0) → Wires → WireStep → Type 0
IsHeardLanding net delay to Says w (Occurs router event) = ⊥
IsHeardLanding net delay to Says w (Lands which) =
    (f : Flight) × (slice_get w.flights which ≡ Some f) × (f.delivery.to ≡ to) × (w.beats ≤ f.sent + delay)
    × (m : Heard) × (heard_after (ports_of net to.router) (history_of w.histories to.router) to.port f.delivery.bytes ≡ Some m) × Says m

module _ (net : Internet) (most_routes most_services delay : ℕ) where
  -- such a response is heard there
  abbrev pub IsHeardFrom : Place → Node → Network → Wires → WireStep → Type 0
  IsHeardFrom to node network = IsHeardLanding net delay to (Names node network)

  -- what a router advertises on a port names that network
  abbrev pub Advertises : Place → Network → Wires → Type 0
  Advertises from network w =
      is_among network (map (λ e. e.network)
      (told (ports_of net from.router) (ups net w.histories from.router) (routes_of net most_routes w.histories from.router) from.port)) ≡ true

  -- what a router advertises all the time, for that many beats in a row, each router beside it hears in them, by ports that are up
  abbrev pub AreHeardInTime : ℕ → (ℕ → List ℕ) → Wires → List (List WireStep) → Type 0
  AreHeardInTime window up w beats =
      (from to : Place) (network : Network) (before within after : List (List WireStep))
      → is_up (up from.router) from.port ≡ true → is_up (up to.router) to.port ≡ true → from.router ≢ to.router → network_of net from ≡ network_of net to
      → beats ≡ before ++ within ++ after → length within ≡ window
      → EachBeat net most_routes most_services delay (Along net most_routes most_services delay (Advertises from network))
      (beats_of net most_routes most_services delay w before) within
      → InBeats net most_routes most_services delay (IsHeardFrom to (port_of net from).node network) (beats_of net most_routes most_services delay w before) within

-- the seconds that a router has in beats
abbrev pub seconds_in : ℕ → List (List WireStep) → ℕ
seconds_in router [] = 0
seconds_in router (steps ∷ beats) = seconds_of router (map as_step steps) + seconds_in router beats

-- by every clock, a window and a beat more, and fewer beats in a row, are shorter than an offer lives
abbrev pub AreQuick : Internet → (window : ℕ) → List (List WireStep) → Type 0
AreQuick net window beats =
    (router : ℕ) (before within after : List (List WireStep)) → router < length net → beats ≡ before ++ within ++ after → length within ≤ suc window
    → seconds_in router within < lifetime

-- the beats after which a router is right about a network: those after which every route is of a real way, and for each hop of the least way what
-- still flies and a window in which its neighbours are heard
abbrev pub beats_right : (delay window : ℕ) → Option Way → ℕ
beats_right delay window None = most_beats_gone delay
beats_right delay window (Some way) = most_beats_gone delay + way.hops * (window + delay)

-- beats have the same steps as ticks from where nothing waits, and in the end the same has happened to each router
pub record IsInLockStep (net : Internet) (most_routes most_services : ℕ) (histories : List History) (ticks : List (List Step)) (beats : List (List WireStep))
    : Type 0 where
  pub steps : map (map as_step) beats ≡ ticks
  pub same : (beats_of net most_routes most_services 0 (still histories) beats).histories ≡ (ticked net most_routes most_services (begun histories) ticks).histories
