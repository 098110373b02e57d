-- Who is a client: a place that proved that it hears, or is trusted, and for which there was room.
use Rattle.std.specs.Prelude.{ℕ, ◌-◌, Bool, ◌&&◌, not, nat_lt, if◌then◌else◌, List, [], ◌∷◌, ◌++◌, length}
use Rattle.std.specs.List.{filter}
use Rattle.ipx_wire.specs.declared.node.Node.{Node}
use Rattle.ipx_tunnel.specs.declared.said.Said.{Said}
use Rattle.ipx_tunnel.specs.declared.said.Said.TheVariants.{Nothing, Registers, Answers, Speaks}
use Rattle.ipx_tunnel.specs.declared.setting.Setting.{Setting}
use Rattle.ipx_tunnel.specs.Numbers.{answer_lasts, trust_lasts}
use Rattle.ipx_tunnel.specs.Places.{same_node, nobody, is_among, of_address}
use Rattle.ipx_tunnel.specs.Events.{Event, Datagram, Second, Send, History}
use Rattle.ipx_tunnel.specs.Says.{said}

-- for how many seconds it counts what was said: an answer to the cookie, and from a trusted place whatever it says
abbrev pub lasts_by : Bool → Said → ℕ
lasts_by is_trusted Nothing = 0
lasts_by is_trusted Registers = if is_trusted then trust_lasts else 0
lasts_by is_trusted Answers = if is_trusted then trust_lasts else answer_lasts
lasts_by is_trusted (Speaks header) = if is_trusted then trust_lasts else 0

module _ (setting : Setting) where
  -- for how many seconds an event counts for a place
  abbrev pub lasts : Node → Event → ℕ
  lasts place (Datagram from bytes) = if same_node place from.place then lasts_by from.is_trusted (said setting.network from bytes) else 0
  lasts place Second = 0
  lasts place (Send to bytes) = 0

  -- how many seconds longer a place counts as there: as long as the latest event that counts for it lasts
  abbrev pub seconds_left : Node → History → ℕ
  seconds_left place [] = 0
  seconds_left place (Datagram from bytes ∷ earlier) =
      if nat_lt 0 (lasts place (Datagram from bytes)) then lasts place (Datagram from bytes) else seconds_left place earlier
  seconds_left place (Second ∷ earlier) = seconds_left place earlier - 1
  seconds_left place (Send to bytes ∷ earlier) = seconds_left place earlier

  abbrev pub is_there : Node → History → Bool
  is_there place history = nat_lt 0 (seconds_left place history)

  -- the cookie by which a place is pinged: the one that it had at that event
  abbrev pub cookie : Node → History → Node
  cookie place [] = nobody
  cookie place (Datagram from bytes ∷ earlier) =
      if nat_lt 0 (lasts place (Datagram from bytes)) then from.cookies.current else cookie place earlier
  cookie place (Second ∷ earlier) = cookie place earlier
  cookie place (Send to bytes ∷ earlier) = cookie place earlier

  -- there is room for one client more, at this place
  abbrev pub is_open : Node → List Node → Bool
  is_open place clients =
      not (is_among place clients) && nat_lt (length clients) setting.capacity && nat_lt (of_address place clients) setting.share

  -- who comes in with an event
  abbrev pub newcomers : List Node → Event → List Node
  newcomers clients (Datagram from bytes) =
      if nat_lt 0 (lasts from.place (Datagram from bytes)) && is_open from.place clients then from.place ∷ [] else []
  newcomers clients Second = []
  newcomers clients (Send to bytes) = []

  -- the clients: those that there were, as long as they are there, and who comes in
  abbrev pub clients : History → List Node
  clients [] = []
  clients (event ∷ earlier) = filter (λ place. is_there place (event ∷ earlier)) (clients earlier) ++ newcomers (clients earlier) event
