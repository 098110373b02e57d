-- The numbers of this tunnel that mean something (own). Those that it shares with `ipx_tunnel` stand there: for how many seconds counts what
-- is said, and after how many a client is pinged.
use Rattle.std.specs.Prelude.{ℕ}

-- for how many seconds somebody who registered is remembered
abbrev pub waits : ℕ
waits = 9

-- how many of them are left when he is answered again, which is a second after he registered
abbrev pub answered_at : ℕ
answered_at = 8

-- and how many when he is pinged for the first time, which is at the seventh second: DOSBox waits five seconds for its answer, and takes
-- whatever comes in them for it. He is pinged a second time when none is left
abbrev pub pinged_at : ℕ
pinged_at = 2
