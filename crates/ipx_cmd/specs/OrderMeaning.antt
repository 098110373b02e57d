-- All that a line of a script for an internet may ask for.
use Rattle.std.specs.Prelude.{ℕ, List}
use Rattle.ipx_router.specs.Port.{Port as PortValues}
use Rattle.ipx_cmd.specs.declared.lines.command.NamedPort.{NamedPort}
use Rattle.ipx_cmd.specs.declared.lines.order.Order.{Order}
use Rattle.ipx_cmd.specs.declared.lines.order.Order.TheVariants.{Router, Port, Start, Stop, Second, Packet, PortDown, PortUp, Settle, Trace, Routes, Services}
use Rattle.ipx_cmd.specs.CommandMeaning.{values_of}

-- what an order asks for: the next router, the next port of the latest one, an event of a router, a number of seconds of all of them,
-- that what waits is delivered, what becomes of a packet, or what is in one of a router's tables
pub data OrderMeaning : Type 0 where
  NextRouter : OrderMeaning
  NextPort : (values : PortValues) → OrderMeaning
  Starts : (router : ℕ) → OrderMeaning
  Stops : (router : ℕ) → OrderMeaning
  SecondsPass : (seconds : ℕ) → OrderMeaning
  PacketComes : (router port : ℕ) (bytes : List ℕ) → OrderMeaning
  PortGoesDown : (router port : ℕ) → OrderMeaning
  PortComesUp : (router port : ℕ) → OrderMeaning
  Settles : (limit : ℕ) → OrderMeaning
  Traces : (router port limit : ℕ) (bytes : List ℕ) → OrderMeaning
  ShowsRoutes : (router : ℕ) → OrderMeaning
  ShowsServices : (router : ℕ) → OrderMeaning

-- the next port, as a line names it
abbrev pub next_port : NamedPort → OrderMeaning
next_port named = NextPort (values_of named)

-- what an order says; the bytes of a packet lie in a buffer
abbrev pub order_says : List ℕ → Order → OrderMeaning
order_says buffer Router = NextRouter
order_says buffer (Port named) = next_port named
order_says buffer (Start router) = Starts router
order_says buffer (Stop router) = Stops router
order_says buffer (Second count) = SecondsPass count
order_says buffer (Packet router port) = PacketComes router port buffer
order_says buffer (PortDown router port) = PortGoesDown router port
order_says buffer (PortUp router port) = PortComesUp router port
order_says buffer (Settle limit) = Settles limit
order_says buffer (Trace router port limit) = Traces router port limit buffer
order_says buffer (Routes router) = ShowsRoutes router
order_says buffer (Services router) = ShowsServices router
