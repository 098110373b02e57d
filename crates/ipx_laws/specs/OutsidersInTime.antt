-- Outsiders that are heard again and again, in ticks and over wires, and how soon tables are right then.
use Rattle.std.specs.Prelude.{◌≡◌, ℕ, ◌+◌, ◌*◌, List, ◌++◌, length, Option, Some, None}
use Rattle.ipx_wire.specs.declared.network.Network.{Network}
use Rattle.ipx_router.specs.Numbers.{period}
use Rattle.ipx_internet.specs.Internet.{Internet, Place, port_of}
use Rattle.ipx_internet.specs.Run.{Step, Run}
use Rattle.ipx_internet.specs.Ticks.{ticked}
use Rattle.ipx_laws.specs.Gone.{most_ticks_gone}
use Rattle.ipx_laws.specs.HeardInTicks.{IsHeardOutside, InTicks}
use Rattle.ipx_laws.specs.InTime.{Names}
use Rattle.ipx_laws.specs.Least.{Way}
use Rattle.ipx_laws.specs.Outsiders.{LeadsByOutsider}
use Rattle.ipx_laws.specs.Wires.{Wires, WireStep, as_step, beats_of, InBeats}

module _ (net : Internet) where
  module _ (most_routes most_services : ℕ) where
    -- ---- in ticks

    -- each outsider by which a router's least way leads is heard there in the ticks of any period
    abbrev pub AreOutsidersHeard : (ℕ → List ℕ) → (ours : ℕ) → Network → Run → List (List Step) → Type 0
    AreOutsidersHeard up ours network run ticks =
        (to from : Place) (before within after : List (List Step)) → LeadsByOutsider net up ours network to from
        → ticks ≡ before ++ within ++ after → length within ≡ period
        → InTicks net most_routes most_services (λ now step. IsHeardOutside net to (Names (port_of net from).node network) now.histories step)
        (ticked net most_routes most_services run before) within

    -- ---- over wires

    -- so it is in that many beats in a row
    abbrev pub AreOutsidersInTime : (delay window : ℕ) → (ℕ → List ℕ) → (ours : ℕ) → Network → Wires → List (List WireStep) → Type 0
    AreOutsidersInTime delay window up ours network w beats =
        (to from : Place) (before within after : List (List WireStep)) → LeadsByOutsider net up ours network to from
        → beats ≡ before ++ within ++ after → length within ≡ window
        → InBeats net most_routes most_services delay (λ now step. IsHeardOutside net to (Names (port_of net from).node network) now.histories (as_step step))
        (beats_of net most_routes most_services delay w before) within

-- the ticks after which a router is right about a network: those after which every route is of a real way, and a period for each hop of its least way
abbrev pub ticks_right_with : Option Way → ℕ
ticks_right_with None = most_ticks_gone
ticks_right_with (Some way) = most_ticks_gone + way.hops * period
