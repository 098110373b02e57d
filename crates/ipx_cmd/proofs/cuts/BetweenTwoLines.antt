-- A piece of a script between two of its lines.
use Rattle.std.proofs.Common.{◌≡◌, ℕ, ◌+◌, ◌≤◌, false, List, ◌++◌, length}
use Rattle.ipx_wire.specs.Ends.{Output}
use Rattle.ipx_cmd.specs.inside.Leads.{IsPending}
use Rattle.ipx_cmd.specs.Playing.{Step}
use Rattle.ipx_cmd.specs.inside.Stretch.{Went}

pub record Midpiece {M S : Type 0} (acts : Step S) (stands : M → S → Type 0) (start now : M) (number later : ℕ) (pending left piece rest : List ℕ) (from to : Output) (old new : List ℕ) : Type 0 where
  pub taken : List ℕ
  pub split : piece ≡ taken ++ rest
  pub went : (state : S) → stands start state → Went acts (stands now) state number (pending ++ taken) from to old new later left
  pub line : IsPending left
  pub bound : later + length rest ≤ number + length piece
  pub fine : to.failed ≡ false
