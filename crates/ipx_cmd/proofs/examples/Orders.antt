-- What worked lines of an internet's script mean.
use Rattle.std.proofs.Common.{◌≡◌, ℕ, true, false, [], ◌∷◌, ◌++◌, codes, refl, Some, None, Ok, Err}
use Rattle.hex.proofs.OnLiterals.{hex_on_literals}
use Rattle.ipx_cmd.specs.declared.lines.order.OrderStage.{OrderStage}
use Rattle.ipx_cmd.specs.declared.lines.fault.LineFault.TheVariants.{Text, Command, Words, Late, Many, Network, Number, Hex, Router, Routers}
use Rattle.ipx_cmd.specs.OrderLine.{order_meaning}
use Rattle.ipx_cmd.specs.OrderMeaning.{NextRouter, NextPort, Starts, Stops, SecondsPass, PacketComes, PortGoesDown, PortComesUp, Settles, Traces, ShowsRoutes, ShowsServices}

-- before the making, after so many routers, the latest with so many ports
abbrev before : ℕ → ℕ → OrderStage
before routers ports = record { made = false; routers = routers; ports = ports }

-- after the making
abbrev after : OrderStage
after = record { made = true; routers = 2; ports = 2 }

-- ---- what a line may ask for

pub first_router : order_meaning (before 0 0) (codes "router") ≡ Ok (Some NextRouter)
first_router = refl

-- a router may be named though the one before it has no port
pub last_router : order_meaning (before 31 0) (codes "router") ≡ Ok (Some NextRouter)
last_router = refl

-- a port with shares
pub a_port : order_meaning (before 1 7) (codes "port 0000000a 0000000000B1 1 65535 30 0") ≡ Ok (Some (NextPort (record {
  network = record { 0 = 10 };
  node = record { 0 = 0 ∷ 0 ∷ 0 ∷ 0 ∷ 0 ∷ 177 ∷ [] };
  cost = 1;
  longest = 65535;
  route_share = 30;
  service_share = 0;
})))
unfolding hex_on_literals
a_port = refl

pub a_start : order_meaning after (codes "start 255") ≡ Ok (Some (Starts 255))
a_start = refl

pub a_stop : order_meaning after (codes "stop 0") ≡ Ok (Some (Stops 0))
a_stop = refl

pub a_day : order_meaning after (codes "second 86400") ≡ Ok (Some (SecondsPass 86400))
a_day = refl

-- `-` is no bytes
pub no_bytes : order_meaning after (codes "in 1 0 -") ≡ Ok (Some (PacketComes 1 0 []))
no_bytes = refl

-- the router stands before the port, and that before the limit
pub two_bytes : order_meaning after (codes "trace 1 2 0000003 aAfF") ≡ Ok (Some (Traces 1 2 3 (170 ∷ 255 ∷ [])))
unfolding hex_on_literals
two_bytes = refl

-- a limit of 0, and the largest
pub no_limit : order_meaning after (codes "trace 0 0 0 -") ≡ Ok (Some (Traces 0 0 0 []))
no_limit = refl

pub largest_limit : order_meaning after (codes "settle 1000000") ≡ Ok (Some (Settles 1000000))
largest_limit = refl

pub goes_down : order_meaning after (codes "down 1 2") ≡ Ok (Some (PortGoesDown 1 2))
goes_down = refl

pub comes_up : order_meaning after (codes "up 1 2") ≡ Ok (Some (PortComesUp 1 2))
comes_up = refl

pub routes : order_meaning after (codes "routes 1") ≡ Ok (Some (ShowsRoutes 1))
routes = refl

pub services : order_meaning after (codes "services 1") ≡ Ok (Some (ShowsServices 1))
services = refl

-- a comment is skipped, whatever bytes it has; so is a line of blanks
pub a_comment : order_meaning (before 0 0) (codes "# router" ++ (195 ∷ [])) ≡ Ok None
a_comment = refl

pub blanks : order_meaning (before 0 0) (32 ∷ 9 ∷ []) ≡ Ok None
blanks = refl

-- ---- what is wrong with a line

pub no_text : order_meaning after (codes "start 0" ++ (13 ∷ [])) ≡ Err Text
no_text = refl

-- a command is one of the script's, and no part of one
pub no_command : order_meaning (before 0 0) (codes "route") ≡ Err Command
no_command = refl

-- a command has its own number of words, which is judged before the time
pub more_words : order_meaning after (codes "router 0") ≡ Err Words
more_words = refl

pub few_words : order_meaning after (codes "trace 0 0 9") ≡ Err Words
few_words = refl

pub alone : order_meaning after (codes "start") ≡ Err Words
alone = refl

-- a router or a port after the making, whatever the words
pub router_after_making : order_meaning after (codes "router") ≡ Err Late
router_after_making = refl

pub port_after_making : order_meaning after (codes "port w x y z") ≡ Err Late
port_after_making = refl

-- even where there is no router: an internet without routers was made
pub port_of_nothing : order_meaning (record { made = true; routers = 0; ports = 0 }) (codes "port w x y z") ≡ Err Late
port_of_nothing = refl

-- a 33rd router
pub too_many_routers : order_meaning (before 32 1) (codes "router") ≡ Err Routers
too_many_routers = refl

-- a port before any router
pub port_before_router : order_meaning (before 0 0) (codes "port w x y z") ≡ Err Router
port_before_router = refl

-- a ninth port of one router
pub ninth_port : order_meaning (before 32 8) (codes "port w x y z") ≡ Err Many
ninth_port = refl

-- words are judged from left to right
pub seven_digits : order_meaning (before 1 7) (codes "port 0000010 x y z") ≡ Err Network
seven_digits = refl

-- numbers beyond their ranges
pub router_256 : order_meaning after (codes "start 256") ≡ Err Number
router_256 = refl

pub port_256 : order_meaning after (codes "in 0 256 zz") ≡ Err Number
port_256 = refl

pub long_limit : order_meaning after (codes "settle 1000001") ≡ Err Number
long_limit = refl

pub no_second : order_meaning after (codes "second 0") ≡ Err Number
no_second = refl

pub wrong_limit : order_meaning after (codes "trace 0 0 1000001 zz") ≡ Err Number
wrong_limit = refl

-- a digit that isn't hexadecimal, though nothing is made yet
pub wrong_digit : order_meaning (before 0 0) (codes "in 0 0 zz") ≡ Err Hex
unfolding hex_on_literals
wrong_digit = refl

-- half a byte
pub odd_digits : order_meaning after (codes "trace 0 0 9 abc") ≡ Err Hex
unfolding hex_on_literals
odd_digits = refl
