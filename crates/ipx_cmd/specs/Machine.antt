-- What the lines of a script for one router do, over the ports that were named and the history of the router.
use Rattle.std.specs.Prelude.{ℕ, nat_lt, Bool, true, if◌then◌else◌, List, [], ◌∷◌, ◌++◌, length, replicate, Option, None, Some, Result, Ok, Err}
use Rattle.std.specs.Option.{is_some}
use Rattle.ipx_router.specs.History.{Event, History, Start, Stop, Second, Packet, PortDown, PortUp}
use Rattle.ipx_router.specs.Port.{Port}
use Rattle.ipx_cmd.specs.CommandMeaning.{CommandMeaning, NextPort, Starts, Stops, SecondsPass, PacketComes, PortGoesDown, PortComesUp, ShowsRoutes, ShowsServices}
use Rattle.ipx_cmd.specs.EventText.{events_text}
use Rattle.ipx_cmd.specs.Line.{◌>>=◌}
use Rattle.ipx_cmd.specs.Making.{named_port, named_router}
use Rattle.ipx_cmd.specs.Script.{line_meaning}
use Rattle.ipx_cmd.specs.TableText.{routes_text, services_text}
use Rattle.ipx_cmd.specs.declared.lines.command.Stage.{Stage}
use Rattle.ipx_cmd.specs.declared.lines.fault.LineFault.{LineFault}
use Rattle.ipx_cmd.specs.declared.lines.fault.LineFault.TheVariants.{Port as PortWord}

-- what stands between two lines: the ports that were named, and all that happened to their router since it was made, if it was
pub record Standing : Type 0 where
  pub ports : List Port
  pub past : Option History

-- before the first line
abbrev pub nothing_yet : Standing
nothing_yet = record { ports = []; past = None }

-- how far the script has come
abbrev pub stage_of : Standing → Stage
stage_of standing = record { made = is_some standing.past; ports = length standing.ports }

-- what a line leads to: what stands then and the text of the line, or what is wrong with it
abbrev pub Led : Type 0
Led = Result (Standing × List ℕ) LineFault

-- ---- the router of the ports

-- all that happened to the router; where it isn't made yet it is made now, and nothing happened to it
abbrev pub past_of : Standing → Result History LineFault
past_of standing =
    elim standing.past [
      | Some history ↦ Ok history
      | None ↦ do
        _ ← named_router standing.ports
        Ok []
    ]

-- the next port
abbrev pub name_port : Standing → Port → Led
name_port standing values = do
  port ← named_port values
  Ok (record { ports = standing.ports ++ port ∷ []; past = standing.past }, [])

-- ---- what a command asks of the router

-- the events that happen, in order
abbrev pub events_of : CommandMeaning → List Event
events_of Starts = Start ∷ []
events_of Stops = Stop ∷ []
events_of (SecondsPass seconds) = replicate seconds Second
events_of (PacketComes port bytes) = Packet port bytes ∷ []
events_of (PortGoesDown port) = PortDown port ∷ []
events_of (PortComesUp port) = PortUp port ∷ []
events_of (NextPort values) = []
events_of ShowsRoutes = []
events_of ShowsServices = []

-- its text after a history: the lines of a table, or what is written of the events
abbrev pub command_text : List Port → History → CommandMeaning → List ℕ
command_text ports history ShowsRoutes = routes_text ports history
command_text ports history ShowsServices = services_text ports history
command_text ports history command = events_text ports history (events_of command)

-- every port that it names is one of the router's
abbrev pub has_ports : ℕ → CommandMeaning → Bool
has_ports count (PacketComes port bytes) = nat_lt port count
has_ports count (PortGoesDown port) = nat_lt port count
has_ports count (PortComesUp port) = nat_lt port count
has_ports count command = true

-- what it does to the router after a history
abbrev pub obeyed : List Port → History → CommandMeaning → Standing × List ℕ
obeyed ports history command =
    (record { ports = ports; past = Some (history ++ events_of command) }, command_text ports history command)

-- the same, if the router has the ports
abbrev pub obeys : List Port → History → CommandMeaning → Led
obeys ports history command = if has_ports (length ports) command then Ok (obeyed ports history command) else Err PortWord

-- ---- lines

-- what is done that a line asks for; a line that is skipped does nothing
abbrev pub does : Standing → Option CommandMeaning → Led
does standing None = Ok (standing, [])
does standing (Some (NextPort values)) = name_port standing values
does standing (Some command) = do
  history ← past_of standing
  obeys standing.ports history command

-- what a line does, without its end
unfoldable pub acts : Standing → List ℕ → Led
acts standing line = do
  meaning ← line_meaning (stage_of standing) line
  does standing meaning
