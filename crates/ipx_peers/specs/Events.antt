-- What happens.
use Rattle.std.specs.Prelude.{ℕ, List}
use Rattle.ipx_peers.specs.declared.opened.Opened.{Opened}

pub data Event : Type 0 where
  -- it begins, or begins again, with that session
  Begins : (session : List ℕ) → Event
  -- a datagram came, and its seal was right
  Hears : Opened → Event
  -- a number is taken for a datagram to be sent
  Sends : Event
  -- a second passes
  Second : Event

-- the latest first
abbrev pub History : Type 0
History = List Event
