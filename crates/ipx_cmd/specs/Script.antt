-- What the lines of a script for one router mean.
use Rattle.std.specs.Prelude.{ℕ, Bool, false, nat_le, if◌then◌else◌, List, [], ◌∷◌, codes, Option, Some, None, Result, Ok, Err}
use Rattle.std.specs.Str.{bytes_eq}
use Rattle.ipx_cmd.specs.declared.lines.command.Stage.{Stage}
use Rattle.ipx_cmd.specs.declared.lines.fault.LineFault.{LineFault}
use Rattle.ipx_cmd.specs.declared.lines.fault.LineFault.TheVariants.{Command, Words, Late, Many, Network, Node, Number, Hex}
use Rattle.ipx_cmd.specs.CommandMeaning.{CommandMeaning, NextPort, Starts, Stops, SecondsPass, PacketComes, PortGoesDown, PortComesUp, ShowsRoutes, ShowsServices}
use Rattle.ipx_cmd.specs.Line.{◌>>=◌, or_fault, line_words, no_more}
use Rattle.ipx_wire.specs.Digits.{network_of, node_of}
use Rattle.ipx_cmd.specs.Words.{only_one, only_two, port_words, number_of, number_between, bytes_of}
use Rattle.ipx_router.specs.Numbers.{whole_share}
use Rattle.ipx_router.specs.Port.{Port}

-- the most ports of a router of the program
abbrev pub most_ports : ℕ
most_ports = 8

-- the largest cost, longest packet or share; the largest number of a port; the most seconds of a line
abbrev pub most_value : ℕ
most_value = 65535

abbrev pub most_number : ℕ
most_number = 255

abbrev pub most_seconds : ℕ
most_seconds = 86400

-- a port may be named before the making, and eight times at most
abbrev pub port_allowed : Stage → Result (Unit {0}) LineFault
port_allowed stage = if stage.made then Err Late else if nat_le most_ports stage.ports then Err Many else Ok tt

-- the shares that two more words name; without them nothing is limited
abbrev pub shares_of : Option (List ℕ × List ℕ) → Result (ℕ × ℕ) LineFault
shares_of None = Ok (whole_share, whole_share)
shares_of (Some named) = do
  routes ← or_fault Number (number_of most_value named.0)
  services ← or_fault Number (number_of most_value named.1)
  Ok (routes, services)

-- the values of a port that four words name, with the shares behind them
abbrev pub port_of : List ℕ → List ℕ → List ℕ → List ℕ → Option (List ℕ × List ℕ) → Result Port LineFault
port_of network_word node_word cost_word longest_word share_words = do
  network ← or_fault Network (network_of network_word)
  node ← or_fault Node (node_of node_word)
  cost ← or_fault Number (number_of most_value cost_word)
  longest ← or_fault Number (number_of most_value longest_word)
  shares ← shares_of share_words
  Ok (record {
    network = record { 0 = network };
    node = record { 0 = node };
    cost = cost;
    longest = longest;
    route_share = shares.0;
    service_share = shares.1;
  })

-- `port NET NODE COST LONGEST`, or with ROUTES SERVICES behind it, by the words after the first
abbrev pub port_meaning : Stage → List (List ℕ) → Result CommandMeaning LineFault
port_meaning stage arguments = do
  named ← or_fault Words (port_words arguments)
  _ ← port_allowed stage
  values ← port_of named.0 named.1 named.2 named.3 named.4
  Ok (NextPort values)

-- the count behind `second`
abbrev pub count_meaning : List (List ℕ) → Result ℕ LineFault
count_meaning arguments = do
  word ← or_fault Words (only_one arguments)
  or_fault Number (number_between 1 most_seconds word)

-- `second N`: so long a time passes
abbrev pub second_meaning : List (List ℕ) → Result CommandMeaning LineFault
second_meaning arguments = do
  count ← count_meaning arguments
  Ok (SecondsPass count)

-- the one number behind `down` and `up`
abbrev pub number_meaning : List (List ℕ) → Result ℕ LineFault
number_meaning arguments = do
  word ← or_fault Words (only_one arguments)
  or_fault Number (number_of most_number word)

-- `down PORT` or `up PORT`
abbrev pub of_port : (ℕ → CommandMeaning) → List (List ℕ) → Result CommandMeaning LineFault
of_port command arguments = do
  port ← number_meaning arguments
  Ok (command port)

-- the packet that two words name
abbrev pub packet_of : List ℕ → List ℕ → Result CommandMeaning LineFault
packet_of port_word bytes_word = do
  port ← or_fault Number (number_of most_number port_word)
  bytes ← or_fault Hex (bytes_of bytes_word)
  Ok (PacketComes port bytes)

-- `in PORT HEX`
abbrev pub in_meaning : List (List ℕ) → Result CommandMeaning LineFault
in_meaning arguments = do
  two ← or_fault Words (only_two arguments)
  packet_of two.0 two.1

-- a command of one word
abbrev pub alone : CommandMeaning → List (List ℕ) → Result CommandMeaning LineFault
alone command arguments = do
  _ ← no_more arguments
  Ok command

-- a command of a port that goes down or comes up, or of what is shown
abbrev pub later_meaning : List ℕ → List (List ℕ) → Result CommandMeaning LineFault
later_meaning name arguments =
    if bytes_eq name (codes "down") then of_port PortGoesDown arguments
    else if bytes_eq name (codes "up") then of_port PortComesUp arguments
    else if bytes_eq name (codes "routes") then alone ShowsRoutes arguments
    else if bytes_eq name (codes "services") then alone ShowsServices arguments
    else Err Command

-- a command by its first word
abbrev pub command_meaning : Stage → List ℕ → List (List ℕ) → Result CommandMeaning LineFault
command_meaning stage name arguments =
    if bytes_eq name (codes "port") then port_meaning stage arguments
    else if bytes_eq name (codes "start") then alone Starts arguments
    else if bytes_eq name (codes "stop") then alone Stops arguments
    else if bytes_eq name (codes "second") then second_meaning arguments
    else if bytes_eq name (codes "in") then in_meaning arguments
    else later_meaning name arguments

-- a line by its words: without any it is skipped
abbrev pub words_meaning : Stage → List (List ℕ) → Result (Option CommandMeaning) LineFault
words_meaning stage [] = Ok None
words_meaning stage (name ∷ arguments) = do
  command ← command_meaning stage name arguments
  Ok (Some command)

-- what a line says, without its end: nothing, a command, or what is wrong with it
abbrev pub line_meaning : Stage → List ℕ → Result (Option CommandMeaning) LineFault
line_meaning stage line = do
  found ← line_words line
  words_meaning stage found

-- a line that brings bytes, which take memory
abbrev pub brings_bytes : List (List ℕ) → Bool
brings_bytes [] = false
brings_bytes (name ∷ arguments) = bytes_eq name (codes "in")
