-- What a run writes of the events of its router.
use Rattle.std.specs.Prelude.{ℕ, List, [], ◌∷◌, ◌++◌, Option, None, Some}
use Rattle.std.specs.List.{flat_map}
use Rattle.ipx_router.specs.History.{Event, History}
use Rattle.ipx_router.specs.Outcomes.{outcome}
use Rattle.ipx_router.specs.Port.{Port}
use Rattle.ipx_router.specs.Relays.{Sent}
use Rattle.ipx_router.specs.Sends.{sends}
use Rattle.ipx_router.specs.declared.outcome.Outcome.{Outcome}
use Rattle.ipx_router.specs.declared.outcome.Outcome.TheVariants.{Dropped}
use Rattle.ipx_router.specs.declared.why.Why.{Why}
use Rattle.ipx_cmd.specs.Output.{out_text, drop_text}
use Rattle.ipx_router.specs.WhyWord.{why_word}

-- the most routes and the most services in the tables of the program's router
abbrev pub most_routes : ℕ
most_routes = 256

abbrev pub most_services : ℕ
most_services = 128

-- a line for a packet that was sent
unfoldable pub sent_text : Sent → List ℕ
sent_text sent = out_text sent.port sent.link.0 sent.bytes

-- why an event was dropped, if it was
abbrev pub reason : Outcome → Option Why
reason (Dropped why) = Some why
reason becomes = None

-- a line that says why an event was dropped, or one for each packet sent
abbrev pub event_lines : Option Why → List Sent → List ℕ
event_lines (Some why) sent = drop_text (why_word why)
event_lines None sent = flat_map sent_text sent

module _ (ports : List Port) where
  -- the text of an event after a history
  unfoldable pub event_text : History → Event → List ℕ
  event_text history event =
      event_lines (reason (outcome ports most_routes history event)) (sends ports most_routes most_services history event)

  -- the text of events, one after the other
  abbrev pub events_text : History → List Event → List ℕ
  events_text history [] = []
  events_text history (event ∷ events) = event_text history event ++ events_text (history ++ event ∷ []) events
