-- Bytes behind those of a script, for one router or for an internet.
use Rattle.std.proofs.Common.{ℕ, List, arith}
use Rattle.ipx_cmd.specs.Continues.{InternetContinues, ScriptContinues}
use Rattle.ipx_cmd.proofs.cuts.BytesBehindAScript.{continues_front, continues_text, continues_end}

pub script_continues : (bytes more : List ℕ) → ScriptContinues bytes more
script_continues bytes more = grind (arith, continues_front, continues_text, continues_end)

pub internet_continues : (bytes more : List ℕ) → InternetContinues bytes more
internet_continues bytes more = grind (arith, continues_front, continues_text, continues_end)
