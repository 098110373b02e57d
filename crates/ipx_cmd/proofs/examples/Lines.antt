use Rattle.std.proofs.Common.{◌≡◌, ℕ, true, false, [], ◌∷◌, ◌++◌, codes, refl, Some, None, Ok, Err}
use Rattle.hex.proofs.OnLiterals.{hex_on_literals}
use Rattle.ipx_cmd.specs.declared.lines.command.Stage.{Stage}
use Rattle.ipx_cmd.specs.declared.lines.fault.LineFault.TheVariants.{Text, Command, Words, Late, Many, Network, Node, Number, Hex}
use Rattle.ipx_cmd.specs.CommandMeaning.{NextPort, Starts, PacketComes, ShowsRoutes}
use Rattle.ipx_cmd.specs.Script.{line_meaning}

-- before the making, after so many ports
abbrev before : ℕ → Stage
before ports = record { made = false; ports = ports }

-- after the making
abbrev after : Stage
after = record { made = true; ports = 2 }

-- digits of either case, and the largest numbers
pub a_port : line_meaning (before 0) (codes "port 0000000a 0000000000B1 1 65535") ≡ Ok (Some (NextPort (record {
  network = record { 0 = 10 };
  node = record { 0 = 0 ∷ 0 ∷ 0 ∷ 0 ∷ 0 ∷ 177 ∷ [] };
  cost = 1;
  longest = 65535;
  route_share = 65535;
  service_share = 65535;
})))
unfolding hex_on_literals
a_port = refl

-- blanks before, between and after words
pub start_among_blanks : line_meaning (before 2) ((9 ∷ 32 ∷ []) ++ codes "start" ++ (32 ∷ 9 ∷ [])) ≡ Ok (Some Starts)
start_among_blanks = refl

-- `-` is no bytes
pub no_bytes : line_meaning after (codes "in 255 -") ≡ Ok (Some (PacketComes 255 []))
no_bytes = refl

-- two digits a byte
pub two_bytes : line_meaning after (codes "in 0000001 aAfF") ≡ Ok (Some (PacketComes 1 (170 ∷ 255 ∷ [])))
unfolding hex_on_literals
two_bytes = refl

-- the routes are asked for
pub routes : line_meaning after (codes "routes") ≡ Ok (Some ShowsRoutes)
routes = refl

-- a comment is skipped, whatever bytes it has
pub a_comment : line_meaning (before 0) (codes "# port" ++ (195 ∷ [])) ≡ Ok None
a_comment = refl

-- a line of blanks is skipped
pub blanks : line_meaning (before 0) (32 ∷ 9 ∷ []) ≡ Ok None
blanks = refl

-- a `#` that isn't the first byte begins no comment
pub late_comment : line_meaning after (codes " # start") ≡ Err Command
late_comment = refl

-- a carriage return within a line is no text
pub no_text : line_meaning after (codes "start" ++ (13 ∷ [])) ≡ Err Text
no_text = refl

-- a command has its own number of words
pub more_words : line_meaning after (codes "start 0") ≡ Err Words
more_words = refl

-- the number of words is judged before the time
pub few_words : line_meaning after (codes "port 00000010") ≡ Err Words
few_words = refl

-- a port after the making, whatever its words
pub port_after_making : line_meaning after (codes "port w x y z") ≡ Err Late
port_after_making = refl

-- a ninth port, whatever its words
pub ninth_port : line_meaning (before 8) (codes "port w x y z") ≡ Err Many
ninth_port = refl

-- words are judged from left to right
pub seven_digits : line_meaning (before 7) (codes "port 0000010 x y z") ≡ Err Network
seven_digits = refl

pub wrong_node : line_meaning (before 7) (codes "port 00000010 00000000000g y z") ≡ Err Node
unfolding hex_on_literals
wrong_node = refl

-- eight digits are too many, even of a small number
pub eight_digits : line_meaning (before 0) (codes "port 00000010 000000000001 00000001 576") ≡ Err Number
unfolding hex_on_literals
eight_digits = refl

-- a number beyond its range
pub port_256 : line_meaning after (codes "in 256 -") ≡ Err Number
port_256 = refl

-- a digit that isn't hexadecimal, though nothing is made yet
pub wrong_digit : line_meaning (before 0) (codes "in 0 zz") ≡ Err Hex
unfolding hex_on_literals
wrong_digit = refl

-- half a byte
pub odd_digits : line_meaning after (codes "in 0 abc") ≡ Err Hex
unfolding hex_on_literals
odd_digits = refl
