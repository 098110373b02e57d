-- Services that hosts announce, where what is sent goes over wires.
use Rattle.std.specs.Prelude.{◌≡◌, ℕ, ◌≤◌, List, ◌∷◌, ◌++◌, Some, slice_get}
use Rattle.ipx_wire.specs.WriteServices.{entry_of}
use Rattle.ipx_wire.specs.declared.service.Service.{Service}
use Rattle.ipx_router.specs.Heard.{Heard}
use Rattle.ipx_router.specs.History.{Packet}
use Rattle.ipx_internet.specs.Internet.{Internet, ports_of}
use Rattle.ipx_internet.specs.Queue.{history_of}
use Rattle.ipx_laws.specs.Announces.{entries_said, IsAccepted}
use Rattle.ipx_laws.specs.Meanwhile.{message_of}
use Rattle.ipx_laws.specs.Wires.{Wires, WireStep, Occurs, wires_of, beats_of}

module _ (net : Internet) (most_routes most_services delay : ℕ) (w : Wires) (beats : List (List WireStep)) where
  -- the wires before a step of a beat: after the beats before it, and the steps of its own that came earlier
  abbrev pub wires_before : List (List WireStep) → List WireStep → Wires
  wires_before before earlier = wires_of net most_routes most_services delay (beats_of net most_routes most_services delay w before) earlier

  -- a packet from outside that comes in one of these beats, from those wires on, says just that service, with its address and its hops; and
  -- the router to which it comes hears it or sends it on
  pub record WasSaid (s : Service) : Type 0 where
    pub before : List (List WireStep)
    pub beat : List WireStep
    pub after : List (List WireStep)
    pub of_beats : beats ≡ before ++ beat ∷ after
    pub earlier : List WireStep
    pub router : ℕ
    pub number : ℕ
    pub bytes : List ℕ
    pub later : List WireStep
    pub of_beat : beat ≡ earlier ++ Occurs router (Packet number bytes) ∷ later
    pub accepted : IsAccepted (ports_of net router) most_routes most_services (history_of (wires_before before earlier).histories router) number bytes
    pub message : Heard
    pub heard : message_of bytes ≡ Some message
    pub which_entry : ℕ
    pub says : slice_get (entries_said message) which_entry ≡ Some (entry_of s)

  -- it was said so, or nearer
  pub record WasAnnounced (s : Service) : Type 0 where
    pub hops : ℕ
    pub no_more : hops ≤ s.hops
    pub said : WasSaid (record s { hops = hops })
