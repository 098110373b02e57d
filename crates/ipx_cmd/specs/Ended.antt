-- How a run ends, as its exit status tells it.
use Rattle.std.specs.Prelude.{ℕ, Result, Ok, Err}
use Rattle.ipx_cmd.specs.declared.ended.Ended.{Ended}
use Rattle.ipx_cmd.specs.declared.ended.Ended.TheVariants.{Done, BadInput}
use Rattle.ipx_cmd.specs.declared.ended.RunFault.{RunFault}
use Rattle.ipx_cmd.specs.declared.ended.RunFault.TheVariants.{Read, Write, Memory}

-- the exit status: 0 where all is done, 2 for bad input, 1 where a device failed, 3 where memory ran out
abbrev pub status_of : Result Ended RunFault → ℕ
status_of (Ok Done) = 0
status_of (Ok BadInput) = 2
status_of (Err Read) = 1
status_of (Err Write) = 1
status_of (Err Memory) = 3
