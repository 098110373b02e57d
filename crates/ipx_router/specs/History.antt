-- What has happened to a router: whether it runs, since when, and which of its ports are up.
use Rattle.std.specs.Prelude.{ℕ, ◌<◌, length, ◌==◌, ◌&&◌, ◌||◌, Bool, true, false, not, if◌then◌else◌, List, [], ◌∷◌}
use Rattle.std.specs.List.{filter, list_any}
use Rattle.ipx_wire.specs.Piece.{IsBytes}
use Rattle.ipx_router.specs.Port.{Port, numbers}

-- what happens to a router
pub data Event : Type 0 where
  Start : Event
  Stop : Event
  Second : Event
  Packet : (port : ℕ) (bytes : List ℕ) → Event
  PortDown : (port : ℕ) → Event
  PortUp : (port : ℕ) → Event

-- the port that the event names, if it names one, is one of the router's
abbrev pub IsOnPort : List Port → Event → Type 0
IsOnPort ports (Packet number bytes) = number < length ports
IsOnPort ports (PortDown number) = number < length ports
IsOnPort ports (PortUp number) = number < length ports
IsOnPort ports event = Unit

-- what comes on a port are bytes
abbrev pub IsOfBytes : Event → Type 0
IsOfBytes (Packet number bytes) = IsBytes bytes
IsOfBytes event = Unit

-- all events so far, the oldest first
abbrev pub History : Type 0
History = List Event

-- ---- which event it is

abbrev pub is_start : Event → Bool
is_start Start = true
is_start event = false

abbrev pub is_stop : Event → Bool
is_stop Stop = true
is_stop event = false

abbrev pub is_second : Event → Bool
is_second Second = true
is_second event = false

-- it takes that port down
abbrev pub takes_down : ℕ → Event → Bool
takes_down port (PortDown number) = number == port
takes_down port event = false

-- it brings that port up
abbrev pub brings_up : ℕ → Event → Bool
brings_up port (PortUp number) = number == port
brings_up port event = false

-- ---- running

-- the events after the last stop; all of them, if there was no stop
abbrev pub since_stop : History → List Event
since_stop [] = []
since_stop (event ∷ events) = if list_any is_stop (event ∷ events) then since_stop events else event ∷ events

-- the events after the first start
abbrev pub behind_start : List Event → List Event
behind_start [] = []
behind_start (event ∷ events) = if is_start event then events else behind_start events

-- the last start or stop is a start
abbrev pub running : History → Bool
running history = list_any is_start (since_stop history)

-- the events since the start that found the router stopped; none, while it is stopped
abbrev pub present_run : History → List Event
present_run history = behind_start (since_stop history)

-- how many seconds the router has been running
abbrev pub seconds_run : History → ℕ
seconds_run history = length (filter is_second (present_run history))

-- ---- ports that are up

-- some event takes the port down, and none after it brings it up
abbrev pub ends_down : ℕ → List Event → Bool
ends_down port [] = false
ends_down port (event ∷ events) = (takes_down port event && not (list_any (brings_up port) events)) || ends_down port events

-- the port went down since the router was started, and hasn't come up again
abbrev pub is_down : History → ℕ → Bool
is_down history port = ends_down port (present_run history)

-- the numbers of the ports that are up, in order: all that aren't down, while the router runs; none, while it is stopped
abbrev pub ports_up : List Port → History → List ℕ
ports_up ports history = filter (λ port. running history && not (is_down history port)) (numbers (length ports))
