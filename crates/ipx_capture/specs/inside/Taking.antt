-- What taking a record asks and leaves.
use Rattle.std.specs.Prelude.{◌≡◌, ℕ, ◌<◌, List, ◌++◌, Option, None, Result, Ok, Err, OnOk}
use Rattle.std.specs.Io.KnownBytes.{Consumes}
use Rattle.ipx_wire.specs.Ends.{Input}
use Rattle.ipx_wire.specs.declared.failed.Failed.{Failed}
use Rattle.ipx_capture.specs.Asks.{Fetched, MeetsEnd, TellsNothing}
use Rattle.ipx_capture.specs.inside.Numbered.{numbered}
use Rattle.ipx_capture.specs.Place.{Gives}
use Rattle.ipx_capture.specs.Reads.{Gained}
use Rattle.ipx_capture.specs.Records.{size_of_first}
use Rattle.ipx_capture.specs.Window.{Held, Grows}
use Rattle.ipx_capture.specs.declared.capture_fault.CaptureFault.{CaptureFault}
use Rattle.ipx_capture.specs.declared.capture_fault.CaptureFault.TheVariants.{CutRecord, Memory}
use Rattle.ipx_capture.specs.declared.order.Order.{Order}

-- a record was taken from the bytes ahead and those read meanwhile, or the end or a fault was met; whatever its number is
pub record Took (asked : ℕ → List ℕ → Result ℕ Failed → ℕ → Type 0) (order : Order) (old new : Held) (before after : Input) (answer : Result (Option ℕ) CaptureFault) : Type 0 where
  pub more : List ℕ
  pub read : Consumes before.left after.left more
  pub gives : (n : ℕ) → Gives order n (old.ahead ++ more) new.ahead after (numbered n new.taken answer)
  pub gained : OnOk answer (Gained before after more)
  pub fetched : Fetched asked (TellsNothing order) old.ahead more before.state after.state
  pub ended : answer ≡ Ok None → MeetsEnd fetched.asks
  pub cut : answer ≡ Err CutRecord → MeetsEnd fetched.asks
  pub room : Grows (size_of_first order (old.ahead ++ more)) old.memory new.memory
  pub refused : answer ≡ Err Memory → old.memory < size_of_first order (old.ahead ++ more)
