-- What a reception may still lead to: its weight, and that of several, which bound a list that isn't finished.
use Rattle.std.specs.Prelude.{ℕ, ◌+◌, ◌-◌, ◌≤◌, ◌&&◌, nat_lt, if◌then◌else◌, Bool, List, [], ◌∷◌, drop, Ok, Err}
use Rattle.std.specs.List.{AllByRecursion}
use Rattle.ipx_wire.specs.Numbers.{crossed_places}
use Rattle.ipx_wire.specs.Packet.{Parts, packet_of}
use Rattle.ipx_wire.specs.Piece.{IsBytes}
use Rattle.ipx_wire.specs.declared.header.Header.{Header}
use Rattle.ipx_router.specs.Numbers.{most_routers}
use Rattle.ipx_router.specs.Port.{Port}
use Rattle.ipx_router.specs.Why.{is_propagated, is_far}
use Rattle.ipx_internet.specs.Internet.{Internet, port_of, IsPlace}
use Rattle.ipx_internet.specs.Most.{most, most_on_network}
use Rattle.ipx_internet.specs.Tree.{Copy}

-- a packet is for another network than the port's, and may still be sent on
abbrev pub goes_on : Port → Header → Bool
goes_on port h = is_far port h && nat_lt h.control most_routers

module _ (net : Internet) where
  -- by its transport control, and whether it is propagated or goes on: the weight of a propagated packet is how many receptions there
  -- may be where it is sent on as often as it still may be; of one for another network, how many routers may still send it on, and
  -- all ports of one network; of any other 1, itself
  abbrev pub weight_by : ℕ → Bool → Bool → ℕ
  weight_by control all on =
      if all then most net (crossed_places - control)
      else if on then (most_routers - control) + most_on_network net
      else 1

  -- the weight of a packet that comes to a port
  abbrev pub packet_weight : Port → Parts → ℕ
  packet_weight port p = weight_by p.header.control (is_propagated p.header) (goes_on port p.header)

  -- the weight of a reception; of bytes that are no packet 1
  abbrev pub weight : Copy → ℕ
  weight c = elim (packet_of c.bytes) [ Ok p ↦ packet_weight (port_of net c.to) p | Err fault ↦ 1 ]

  -- the weight of several
  abbrev pub weights : List Copy → ℕ
  weights [] = 0
  weights (c ∷ copies) = weight c + weights copies

  -- bytes that come to a port that there is
  pub record CanCome (c : Copy) : Type 0 where
    pub bytes : IsBytes c.bytes
    pub there : IsPlace net c.to

  -- a list of receptions of which that many, from the first on, were sent on: these, and the weights of those that wait, are no more than the
  -- weight of the root
  pub record IsBounded (root : Copy) (sent : ℕ) (copies : List Copy) : Type 0 where
    pub each : AllByRecursion CanCome copies
    pub light : sent + weights (drop sent copies) ≤ weight root
