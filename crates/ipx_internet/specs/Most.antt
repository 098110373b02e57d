-- How large a tree can get: by the ports of a router, the ports on a network, and how often a packet may still be sent on.
use Rattle.std.specs.Prelude.{ℕ, zero, suc, ◌+◌, ◌-◌, ◌*◌, ◌==◌, max, List, [], ◌∷◌, length, map}
use Rattle.std.specs.List.{filter}
use Rattle.ipx_wire.specs.declared.network.Network.{Network}
use Rattle.ipx_internet.specs.Internet.{Internet, Place, network_of, places}

-- the greatest of some numbers; 0 of none
abbrev pub greatest : List ℕ → ℕ
greatest [] = 0
greatest (n ∷ ns) = max n (greatest ns)

-- the greatest number of ports that a router has
abbrev pub most_ports : Internet → ℕ
most_ports net = greatest (map (λ ports. length ports) net)

-- the ports on a network
abbrev pub on_network : Internet → Network → List Place
on_network net network = filter (λ place. (network_of net place).0 == network.0) (places net)

-- the greatest number of ports that a network has
abbrev pub most_on_network : Internet → ℕ
most_on_network net = greatest (map (λ place. length (on_network net (network_of net place))) (places net))

-- the most receptions that one leads to, itself counted, if it and each further one is sent on to that many at most, and
-- so often at most
abbrev pub most_of : ℕ → ℕ → ℕ
most_of degree zero = 1
most_of degree (suc n) = 1 + degree * most_of degree n

-- on each other port of the router, to each other port of the network
abbrev pub most : Internet → ℕ → ℕ
most net n = most_of ((most_ports net - 1) * (most_on_network net - 1)) n
