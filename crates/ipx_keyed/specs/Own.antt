-- The datagrams of the tunnel's own: answers and pings.
use Rattle.std.specs.Prelude.{Bool, ◌==◌, ◌&&◌, ◌||◌, ◌%◌, not, if◌then◌else◌, List, [], ◌∷◌, ◌++◌, map}
use Rattle.std.specs.List.{filter}
use Rattle.ipx_wire.specs.declared.node.Node.{Node}
use Rattle.ipx_tunnel.specs.declared.own.Own.{Own}
use Rattle.ipx_tunnel.specs.Numbers.{ping_every}
use Rattle.ipx_tunnel.specs.Places.{is_among}
use Rattle.ipx_tunnel.specs.Own.{at_node, ping_to, is_ping}
use Rattle.ipx_keyed.specs.declared.client.Client.{Client}
use Rattle.ipx_keyed.specs.declared.said.Said.{Said}
use Rattle.ipx_keyed.specs.declared.said.Said.TheVariants.{Nothing, Registers, Answers, Speaks}
use Rattle.ipx_keyed.specs.declared.sender.Sender.{Sender}
use Rattle.ipx_keyed.specs.declared.setting.Setting.{Setting}
use Rattle.ipx_keyed.specs.Numbers.{answered_at, pinged_at}
use Rattle.ipx_keyed.specs.Events.{Datagram, Second, Send, History}
use Rattle.ipx_keyed.specs.Says.{said}
use Rattle.ipx_keyed.specs.Members.{places_of, is_client_as, is_open, is_welcome}
use Rattle.ipx_keyed.specs.Tables.{clients, waiting}

-- ---- what they are

-- the answer to a registration or to a ping: it tells the client its node, and the tunnel's. A ping is ipx_tunnel's
abbrev pub answer_to : Setting → Node → Node → Own
answer_to setting place node = record { place = place; destination = at_node setting.network node; source = at_node setting.network setting.node }

-- ---- after a datagram

-- who registers and is welcome is answered. A client's ping is answered. A stranger who speaks is pinged where there is room; but nobody who
-- is remembered, whose pings come in time
abbrev pub own_for : Setting → List Client → List Client → Sender → Said → List Own
own_for setting clients waiting from Nothing = []
own_for setting clients waiting from Registers = if is_welcome setting from clients then answer_to setting from.place from.node ∷ [] else []
own_for setting clients waiting from (Answers node) = []
own_for setting clients waiting from (Speaks header) =
    if is_client_as from.place header.source.node clients
    then (if is_ping setting.network header then answer_to setting from.place header.source.node ∷ [] else [])
    else if is_open setting from.place header.source.node clients && not (is_among from.place (places_of waiting))
    then ping_to setting.network from.place from.cookies.current ∷ [] else []

-- ---- after a second

-- a client is pinged that was silent for a multiple of five seconds, unless its place is remembered
abbrev pub pings_now : List Client → Client → Bool
pings_now waiting c = (c.seconds_left % ping_every == 0) && not (is_among c.place (places_of waiting))

abbrev pub pings_of : Setting → List Client → List Client → List Own
pings_of setting clients waiting = map (λ c. ping_to setting.network c.place c.cookie) (filter (pings_now waiting) clients)

-- who is remembered is answered again after a second, and pinged after seven and after nine
abbrev pub is_due : Client → Bool
is_due c = (c.seconds_left == answered_at) || (c.seconds_left == pinged_at) || (c.seconds_left == 0)

abbrev pub due_to : Setting → Client → Own
due_to setting c = if c.seconds_left == answered_at then answer_to setting c.place c.node else ping_to setting.network c.place c.cookie

abbrev pub due_of : Setting → List Client → List Own
due_of setting waiting = map (due_to setting) (filter is_due waiting)

-- ---- events

module _ (setting : Setting) where
  -- the datagrams of the tunnel's own after the latest event
  abbrev pub own : History → List Own
  own [] = []
  own (Datagram from bytes ∷ earlier) = let now = Datagram from bytes ∷ earlier in own_for setting (clients setting now) (waiting setting now) from (said setting.network from bytes)
  own (Second ∷ earlier) = let now = Second ∷ earlier in pings_of setting (clients setting now) (waiting setting now) ++ due_of setting (waiting setting now)
  own (Send to bytes ∷ earlier) = []
