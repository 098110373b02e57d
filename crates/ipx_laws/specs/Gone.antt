-- A network that is gone, and how long it takes until no table has it any more.
use Rattle.std.specs.Prelude.{◌≡◌, ℕ, ◌*◌, false, List}
use Rattle.ipx_wire.specs.Crossed.{is_among}
use Rattle.ipx_wire.specs.declared.network.Network.{Network}
use Rattle.ipx_table.specs.Alive.{lifetime}
use Rattle.ipx_router.specs.History.{History}
use Rattle.ipx_router.specs.Numbers.{unreachable}
use Rattle.ipx_internet.specs.Internet.{Internet}
use Rattle.ipx_laws.specs.Ups.{networks_up}

-- no router has a port up on that network; a stopped router has none up
abbrev pub IsGone : Internet → List History → Network → Type 0
IsGone net histories network = (router : ℕ) → is_among network (networks_up net histories router) ≡ false

-- the ticks after which what is gone is gone everywhere: the lifetime of an offer for each number of hops that is reachable
abbrev pub most_ticks_gone : ℕ
most_ticks_gone = unreachable * lifetime
