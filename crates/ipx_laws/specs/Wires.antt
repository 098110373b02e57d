-- Wires of real networks: what is sent is lost, arrives late, twice, or in another order, and clocks drift.
use Rattle.std.specs.Prelude.{ℕ, suc, ◌+◌, ◌-◌, ◌*◌, ◌<◌, ◌≤◌, ◌⊎◌, nat_le, if◌then◌else◌, List, [], ◌∷◌, ◌++◌, length, map, Some, None, slice_get}
use Rattle.std.specs.List.{AllByRecursion, flat_map}
use Rattle.ipx_wire.specs.declared.network.Network.{Network}
use Rattle.ipx_table.specs.Alive.{lifetime}
use Rattle.ipx_router.specs.History.{Event, History, Packet}
use Rattle.ipx_router.specs.Numbers.{most_routers, unreachable}
use Rattle.ipx_internet.specs.Internet.{Internet}
use Rattle.ipx_internet.specs.Queue.{Delivery, deliveries_of, with_event, sends_at}
use Rattle.ipx_internet.specs.Run.{Step, Happens, Settles, IsStep}
use Rattle.ipx_internet.specs.Ticks.{seconds_of}
use Rattle.ipx_laws.specs.Gone.{IsGone}

-- ---- wires

-- bytes that were sent to a port, and how many beats had ended then
pub record Flight : Type 0 where
  pub delivery : Delivery
  pub sent : ℕ

-- what happened to each router, how many beats have ended, and all that was ever sent; of that nothing is taken away
pub record Wires : Type 0 where
  pub histories : List History
  pub beats : ℕ
  pub flights : List Flight

-- an event that comes from outside; or one of all flights lands. One that never lands is lost, one that lands again is doubled, and they land
-- in any order
pub data WireStep : Type 0 where
  Occurs : (router : ℕ) (event : Event) → WireStep
  Lands : (which : ℕ) → WireStep

-- as a step of a run, of which it is asked what is asked of those
abbrev pub as_step : WireStep → Step
as_step (Occurs router event) = Happens router event
as_step (Lands which) = Settles

-- histories where nothing flies, and where any deliveries do
abbrev pub flying : List History → List Delivery → Wires
flying histories deliveries = record { histories = histories; beats = 0; flights = map (λ d. record { delivery = d; sent = 0 }) deliveries }

abbrev pub still : List History → Wires
still histories = flying histories []

-- one beat more has ended
abbrev pub beaten : Wires → Wires
beaten w = record w { beats = suc w.beats }

-- what flies takes at most that many beats: with 0 it lands in the beat in which it was sent
module _ (net : Internet) (most_routes most_services delay : ℕ) where
  -- an event happens: what is sent for it flies from now on
  abbrev pub occurs : Wires → ℕ → Event → Wires
  occurs w router event = record {
    histories = with_event w.histories router event;
    beats = w.beats;
    flights = w.flights ++ map (λ d. record { delivery = d; sent = w.beats })
        (flat_map (deliveries_of net router) (sends_at net most_routes most_services w.histories router event));
  }

  -- what comes too late is as if it didn't come
  abbrev pub lands : Wires → Flight → Wires
  lands w f =
      if nat_le w.beats (f.sent + delay) then occurs w f.delivery.to.router (Packet f.delivery.to.port f.delivery.bytes) else w

  -- one step, and one step after the other
  abbrev pub wired : Wires → WireStep → Wires
  wired w (Occurs router event) = occurs w router event
  wired w (Lands which) = elim (slice_get w.flights which) [ Some f ↦ lands w f | None ↦ w ]

  abbrev pub wires_of : Wires → List WireStep → Wires
  wires_of w [] = w
  wires_of w (step ∷ steps) = wires_of (wired w step) steps

  -- one beat after the other
  abbrev pub beats_of : Wires → List (List WireStep) → Wires
  beats_of w [] = w
  beats_of w (steps ∷ beats) = beats_of (beaten (wires_of w steps)) beats

  -- it is so before the first step and after each
  abbrev pub Along : (Wires → Type 0) → Wires → List WireStep → Type 0
  Along Is w [] = Is w
  Along Is w (step ∷ steps) = Is w × Along Is (wired w step) steps

  -- each beat is such, from where it begins
  abbrev pub EachBeat : (Wires → List WireStep → Type 0) → Wires → List (List WireStep) → Type 0
  EachBeat Is w [] = Unit
  EachBeat Is w (steps ∷ beats) = Is w steps × EachBeat Is (beaten (wires_of w steps)) beats

  -- something is so of one of some steps, or what comes after them is so
  abbrev pub InSteps : (Wires → WireStep → Type 0) → (Wires → Type 0) → Wires → List WireStep → Type 0
  InSteps Is Later w [] = Later w
  InSteps Is Later w (step ∷ steps) = Is w step ⊎ InSteps Is Later (wired w step) steps

  -- of one of the steps of some beats
  abbrev pub InBeats : (Wires → WireStep → Type 0) → Wires → List (List WireStep) → Type 0
  InBeats Is w [] = ⊥
  InBeats Is w (steps ∷ beats) = InSteps Is (λ next. InBeats Is (beaten next) beats) w steps

  -- in each of them no router has a port up on that network, before the first step and after each
  abbrev pub KeepGone : Network → Wires → List (List WireStep) → Type 0
  KeepGone network w beats = EachBeat (Along (λ now. IsGone net now.histories network)) w beats

-- ---- beats

-- a beat is a second of the slowest clock: each router has a second in it, or more. Anything else happens too
pub record IsBeat (net : Internet) (steps : List WireStep) : Type 0 where
  pub happens : AllByRecursion (λ step. IsStep net (as_step step)) steps
  pub each : (router : ℕ) → router < length net → 1 ≤ seconds_of router (map as_step steps)

abbrev pub AreBeats : Internet → List (List WireStep) → Type 0
AreBeats net beats = AllByRecursion (IsBeat net) beats

-- each step of each beat is such
abbrev pub EachWireStep : (Step → Type 0) → List (List WireStep) → Type 0
EachWireStep Is beats = AllByRecursion (AllByRecursion (λ step. Is (as_step step))) beats

-- the beats after which what is gone is gone everywhere: the lifetime of an offer for each number of hops that is reachable, and between two
-- routers what flies takes that many beats
abbrev pub most_beats_gone : ℕ → ℕ
most_beats_gone delay = unreachable * lifetime + (unreachable - 1) * delay

-- and those after which nothing is left of what flew at first: it lands in a router, goes through sixteen more, and is answered
abbrev pub most_beats_flying : ℕ → ℕ
most_beats_flying delay = suc ((most_routers + 2) * delay)
