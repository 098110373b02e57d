-- What carries links.
use Rattle.std.specs.Prelude.{ℕ, Bool, true, false, ◌==◌, ◌&&◌, not}
use Rattle.ipx_plan.specs.declared.carrier.Carrier.{Carrier}
use Rattle.ipx_plan.specs.declared.carrier.Carrier.TheVariants.{Tunnel, Card, Shared, Own}

-- two carriers are the same
abbrev pub same_carrier : Carrier → Carrier → Bool
same_carrier (Tunnel port address) (Tunnel other elsewhere) = (port == other) && (address == elsewhere)
same_carrier (Card card) (Card other) = card == other
same_carrier (Shared number) (Shared other) = number == other
same_carrier (Own number) (Own other) = number == other
same_carrier a b = false

abbrev pub is_tunnel : Carrier → Bool
is_tunnel (Tunnel port address) = true
is_tunnel (Card card) = false
is_tunnel (Shared number) = false
is_tunnel (Own number) = false

abbrev pub is_card : Carrier → Bool
is_card (Tunnel port address) = false
is_card (Card card) = true
is_card (Shared number) = false
is_card (Own number) = false

-- the UDP port of a tunnel; 0 where it takes whichever is free, and of all else
abbrev pub tunnel_port : Carrier → ℕ
tunnel_port (Tunnel port address) = port
tunnel_port (Card card) = 0
tunnel_port (Shared number) = 0
tunnel_port (Own number) = 0

-- all links that it carries share one cable. (a port that is taken because it is free is nobody else's)
abbrev pub is_shared : Carrier → Bool
is_shared (Tunnel port address) = not (port == 0)
is_shared (Card card) = false
is_shared (Shared number) = true
is_shared (Own number) = false
