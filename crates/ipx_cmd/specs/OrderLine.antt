-- What the lines of a script for an internet mean.
use Rattle.std.specs.Prelude.{ℕ, ◌==◌, ◌||◌, Bool, false, nat_le, if◌then◌else◌, List, [], ◌∷◌, codes, Option, Some, None, Result, Ok, Err}
use Rattle.std.specs.Str.{bytes_eq}
use Rattle.ipx_cmd.specs.declared.lines.order.OrderStage.{OrderStage}
use Rattle.ipx_cmd.specs.declared.lines.fault.LineFault.{LineFault}
use Rattle.ipx_cmd.specs.declared.lines.fault.LineFault.TheVariants.{Command, Words, Late, Many, Number, Hex, Router, Routers}
use Rattle.ipx_cmd.specs.Line.{◌>>=◌, or_fault, line_words, no_more}
use Rattle.ipx_cmd.specs.OrderMeaning.{OrderMeaning, NextRouter, NextPort, Starts, Stops, SecondsPass, PacketComes, PortGoesDown, PortComesUp, Settles, Traces, ShowsRoutes, ShowsServices}
use Rattle.ipx_cmd.specs.Script.{most_ports, most_number, count_meaning, number_meaning, port_of}
use Rattle.ipx_cmd.specs.Words.{only_one, only_two, only_three, only_four, port_words, number_of, bytes_of}

-- the most routers of an internet of the program; the most that a line can let be delivered or traced
abbrev pub most_routers : ℕ
most_routers = 32

abbrev pub most_limit : ℕ
most_limit = 1000000

-- ---- the routers and their ports

-- a router may be named before the making, and 32 times at most
abbrev pub router_allowed : OrderStage → Result (Unit {0}) LineFault
router_allowed stage = if stage.made then Err Late else if nat_le most_routers stage.routers then Err Routers else Ok tt

-- a port may be named before the making and behind a router, and eight times at most of each
abbrev pub port_allowed : OrderStage → Result (Unit {0}) LineFault
port_allowed stage =
    if stage.made then Err Late else if stage.routers == 0 then Err Router else if nat_le most_ports stage.ports then Err Many else Ok tt

-- `router`
abbrev pub router_meaning : OrderStage → List (List ℕ) → Result OrderMeaning LineFault
router_meaning stage arguments = do
  _ ← no_more arguments
  _ ← router_allowed stage
  Ok NextRouter

-- `port NET NODE COST LONGEST`, or with ROUTES SERVICES behind it, by the words after the first
abbrev pub port_meaning : OrderStage → List (List ℕ) → Result OrderMeaning LineFault
port_meaning stage arguments = do
  named ← or_fault Words (port_words arguments)
  _ ← port_allowed stage
  values ← port_of named.0 named.1 named.2 named.3 named.4
  Ok (NextPort values)

-- ---- what happens, and what is asked

-- `start ROUTER`, `stop ROUTER`, `routes ROUTER` or `services ROUTER`
abbrev pub of_router : (ℕ → OrderMeaning) → List (List ℕ) → Result OrderMeaning LineFault
of_router order arguments = do
  router ← number_meaning arguments
  Ok (order router)

-- the router and the port that two words name
abbrev pub place_of : List ℕ → List ℕ → Result (ℕ × ℕ) LineFault
place_of router_word port_word = do
  router ← or_fault Number (number_of most_number router_word)
  port ← or_fault Number (number_of most_number port_word)
  Ok (router, port)

-- the two numbers behind `down` and `up`
abbrev pub place_meaning : List (List ℕ) → Result (ℕ × ℕ) LineFault
place_meaning arguments = do
  two ← or_fault Words (only_two arguments)
  place_of two.0 two.1

-- `down ROUTER PORT` or `up ROUTER PORT`
abbrev pub of_port : (ℕ → ℕ → OrderMeaning) → List (List ℕ) → Result OrderMeaning LineFault
of_port order arguments = do
  place ← place_meaning arguments
  Ok (order place.0 place.1)

-- `second N`: so long a time passes
abbrev pub second_meaning : List (List ℕ) → Result OrderMeaning LineFault
second_meaning arguments = do
  count ← count_meaning arguments
  Ok (SecondsPass count)

-- the limit behind `settle`
abbrev pub limit_meaning : List (List ℕ) → Result ℕ LineFault
limit_meaning arguments = do
  word ← or_fault Words (only_one arguments)
  or_fault Number (number_of most_limit word)

-- `settle LIMIT`
abbrev pub settle_meaning : List (List ℕ) → Result OrderMeaning LineFault
settle_meaning arguments = do
  limit ← limit_meaning arguments
  Ok (Settles limit)

-- the packet that three words name
abbrev pub packet_of : List ℕ → List ℕ → List ℕ → Result OrderMeaning LineFault
packet_of router_word port_word bytes_word = do
  place ← place_of router_word port_word
  bytes ← or_fault Hex (bytes_of bytes_word)
  Ok (PacketComes place.0 place.1 bytes)

-- `in ROUTER PORT HEX`
abbrev pub in_meaning : List (List ℕ) → Result OrderMeaning LineFault
in_meaning arguments = do
  three ← or_fault Words (only_three arguments)
  packet_of three.0 three.1 three.2

-- the packet that four words name, and how many receptions are listed at most
abbrev pub traced_of : List ℕ → List ℕ → List ℕ → List ℕ → Result OrderMeaning LineFault
traced_of router_word port_word limit_word bytes_word = do
  place ← place_of router_word port_word
  limit ← or_fault Number (number_of most_limit limit_word)
  bytes ← or_fault Hex (bytes_of bytes_word)
  Ok (Traces place.0 place.1 limit bytes)

-- `trace ROUTER PORT LIMIT HEX`
abbrev pub trace_meaning : List (List ℕ) → Result OrderMeaning LineFault
trace_meaning arguments = do
  four ← or_fault Words (only_four arguments)
  traced_of four.0 four.1 four.2 four.3

-- ---- a line

-- a command of one router, by its number alone
abbrev pub router_command : List ℕ → List (List ℕ) → Result OrderMeaning LineFault
router_command name arguments =
    if bytes_eq name (codes "start") then of_router Starts arguments
    else if bytes_eq name (codes "stop") then of_router Stops arguments
    else if bytes_eq name (codes "routes") then of_router ShowsRoutes arguments
    else if bytes_eq name (codes "services") then of_router ShowsServices arguments
    else Err Command

-- a command of a port, or of all routers, or one of those
abbrev pub later_command : List ℕ → List (List ℕ) → Result OrderMeaning LineFault
later_command name arguments =
    if bytes_eq name (codes "second") then second_meaning arguments
    else if bytes_eq name (codes "settle") then settle_meaning arguments
    else if bytes_eq name (codes "down") then of_port PortGoesDown arguments
    else if bytes_eq name (codes "up") then of_port PortComesUp arguments
    else router_command name arguments

-- a command by its first word
abbrev pub command_meaning : OrderStage → List ℕ → List (List ℕ) → Result OrderMeaning LineFault
command_meaning stage name arguments =
    if bytes_eq name (codes "router") then router_meaning stage arguments
    else if bytes_eq name (codes "port") then port_meaning stage arguments
    else if bytes_eq name (codes "in") then in_meaning arguments
    else if bytes_eq name (codes "trace") then trace_meaning arguments
    else later_command name arguments

-- a line by its words: without any it is skipped
abbrev pub words_meaning : OrderStage → List (List ℕ) → Result (Option OrderMeaning) LineFault
words_meaning stage [] = Ok None
words_meaning stage (name ∷ arguments) = do
  order ← command_meaning stage name arguments
  Ok (Some order)

-- what a line says, without its end: nothing, an order, or what is wrong with it
abbrev pub order_meaning : OrderStage → List ℕ → Result (Option OrderMeaning) LineFault
order_meaning stage line = do
  found ← line_words line
  words_meaning stage found

-- a line that brings bytes, which take memory
abbrev pub brings_bytes : List (List ℕ) → Bool
brings_bytes [] = false
brings_bytes (name ∷ arguments) = bytes_eq name (codes "in") || bytes_eq name (codes "trace")
