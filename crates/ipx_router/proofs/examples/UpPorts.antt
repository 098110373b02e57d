-- Which ports are up: of a running router all but those that went down and haven't come up since the start.
use Rattle.std.proofs.Common.{◌≡◌, [], ◌∷◌, refl}
use Rattle.ipx_router.specs.History.{Start, Stop, PortDown, PortUp, ports_up}
use Rattle.ipx_router.proofs.examples.Words.{two_ports}

-- none of a router that was never started
pub none_before_the_first_start : ports_up two_ports [] ≡ []
none_before_the_first_start = refl

-- a start brings all up
pub all_after_a_start : ports_up two_ports (Start ∷ []) ≡ 0 ∷ 1 ∷ []
all_after_a_start = refl

-- a port goes down
pub one_goes_down : ports_up two_ports (Start ∷ PortDown 1 ∷ []) ≡ 0 ∷ []
one_goes_down = refl

-- and the other too
pub both_go_down : ports_up two_ports (Start ∷ PortDown 1 ∷ PortDown 0 ∷ []) ≡ []
both_go_down = refl

-- what comes up stands in its place by number
pub in_order_of_numbers : ports_up two_ports (Start ∷ PortDown 0 ∷ PortDown 1 ∷ PortUp 1 ∷ PortUp 0 ∷ []) ≡ 0 ∷ 1 ∷ []
in_order_of_numbers = refl

-- what went down twice comes up at once
pub down_twice_up_once : ports_up two_ports (Start ∷ PortDown 1 ∷ PortDown 1 ∷ PortUp 1 ∷ []) ≡ 0 ∷ 1 ∷ []
down_twice_up_once = refl

-- the last of several counts
pub the_last_counts : ports_up two_ports (Start ∷ PortDown 1 ∷ PortUp 1 ∷ PortDown 1 ∷ []) ≡ 0 ∷ []
the_last_counts = refl

-- a start of a running router changes nothing
pub a_start_while_it_runs : ports_up two_ports (Start ∷ PortDown 1 ∷ Start ∷ []) ≡ 0 ∷ []
a_start_while_it_runs = refl

-- of a stopped router none is up
pub none_after_a_stop : ports_up two_ports (Start ∷ PortDown 1 ∷ Stop ∷ []) ≡ []
none_after_a_stop = refl

-- started again, it has all ports up
pub all_after_another_start : ports_up two_ports (Start ∷ PortDown 1 ∷ Stop ∷ Start ∷ []) ≡ 0 ∷ 1 ∷ []
all_after_another_start = refl

-- what comes while it is stopped doesn't count
pub down_while_stopped : ports_up two_ports (PortDown 0 ∷ Start ∷ Stop ∷ PortDown 1 ∷ Start ∷ []) ≡ 0 ∷ 1 ∷ []
down_while_stopped = refl

-- nor does a port come up then
pub up_while_stopped : ports_up two_ports (Start ∷ Stop ∷ PortUp 0 ∷ []) ≡ []
up_while_stopped = refl
