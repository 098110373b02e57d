-- Services that hosts announce: what the packets that come from outside say of them.
use Rattle.std.specs.Prelude.{◌≡◌, ◌≢◌, ◌⊎◌, ℕ, ◌≤◌, List, [], ◌∷◌, ◌++◌, Some, slice_get}
use Rattle.ipx_wire.specs.WriteServices.{entry_of}
use Rattle.ipx_wire.specs.declared.sap.Sap.TheVariants.{Query, Response}
use Rattle.ipx_wire.specs.declared.sap_entries.SapEntry.{SapEntry}
use Rattle.ipx_wire.specs.declared.service.Service.{Service}
use Rattle.ipx_router.specs.Facts.{heard_after}
use Rattle.ipx_router.specs.Heard.{Heard, HeardRip, HeardSap}
use Rattle.ipx_router.specs.History.{History, Packet}
use Rattle.ipx_router.specs.Port.{Port}
use Rattle.ipx_router.specs.Sends.{sends}
use Rattle.ipx_internet.specs.Internet.{Internet, ports_of}
use Rattle.ipx_internet.specs.Queue.{history_of}
use Rattle.ipx_internet.specs.Run.{Step, Happens, Run, run_of}
use Rattle.ipx_internet.specs.Ticks.{ticked}
use Rattle.ipx_laws.specs.Meanwhile.{message_of, AsksElsewhere}

-- an entry of that name, as a service
abbrev pub service_of : SapEntry → List ℕ → Service
service_of e name = record { kind = e.kind; name = name; address = e.address; hops = e.hops }

-- the entries of a response; a query, and what is for the process of RIP, have none
abbrev pub entries_said : Heard → List SapEntry
entries_said (HeardRip source rip) = []
entries_said (HeardSap source (Query nearest kind)) = []
entries_said (HeardSap source (Response nearest entries)) = entries

-- a router accepts a packet that comes: it hears it, or sends it on
abbrev pub IsAccepted : List Port → ℕ → ℕ → History → ℕ → List ℕ → Type 0
IsAccepted ports most_routes most_services history number bytes =
    ((m : Heard) × (heard_after ports history number bytes ≡ Some m)) ⊎ (sends ports most_routes most_services history (Packet number bytes) ≢ [])

module _ (net : Internet) (most_routes most_services : ℕ) (run : Run) (ticks : List (List Step)) where
  -- the run before a step of a tick: the ticks before it, and the steps of its own that came earlier
  abbrev pub run_before : List (List Step) → List Step → Run
  run_before before earlier = run_of net most_routes most_services (ticked net most_routes most_services run before) earlier

  -- a packet from outside that comes in one of these ticks, from that run on, says just that service, with its address and its hops; and the
  -- router to which it comes hears it or sends it on
  pub record IsSaid (s : Service) : Type 0 where
    pub before : List (List Step)
    pub tick : List Step
    pub after : List (List Step)
    pub of_ticks : ticks ≡ before ++ tick ∷ after
    pub earlier : List Step
    pub router : ℕ
    pub number : ℕ
    pub bytes : List ℕ
    pub later : List Step
    pub of_tick : tick ≡ earlier ++ Happens router (Packet number bytes) ∷ later
    pub accepted : IsAccepted (ports_of net router) most_routes most_services (history_of (run_before before earlier).histories router) number bytes
    pub message : Heard
    pub heard : message_of bytes ≡ Some message
    pub which_entry : ℕ
    pub says : slice_get (entries_said message) which_entry ≡ Some (entry_of s)

  -- it is said so, or nearer
  pub record IsAnnounced (s : Service) : Type 0 where
    pub hops : ℕ
    pub no_more : hops ≤ s.hops
    pub said : IsSaid (record s { hops = hops })

-- a request for routes isn't answered to the socket of SAP, where its answer would be heard as services
abbrev pub AsksApart : Heard → Type 0
AsksApart (HeardRip source rip) = AsksElsewhere source rip.operation
AsksApart (HeardSap source sap) = Unit
