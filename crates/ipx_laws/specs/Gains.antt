-- Gains: routers start, and ports come up.
use Rattle.std.specs.Prelude.{ℕ, ◌<◌, length}
use Rattle.ipx_router.specs.History.{Event, Start, PortUp}
use Rattle.ipx_internet.specs.Internet.{Internet, ports_of}
use Rattle.ipx_internet.specs.Run.{Step, Happens, Settles}

module _ (net : Internet) where
  -- a router starts, or a port of it comes up
  abbrev pub IsGain : ℕ → Event → Type 0
  IsGain router Start = Unit
  IsGain router (PortUp number) = number < length (ports_of net router)
  IsGain router event = ⊥

  -- such an event of a router that there is, or a delivery
  abbrev pub IsOfGains : Step → Type 0
  IsOfGains (Happens router event) = (router < length net) × IsGain router event
  IsOfGains Settles = Unit
