-- What a capture makes of the bytes that its calls to the source gave, whatever the source is.
use Rattle.std.specs.Prelude.{◌≡◌, ℕ, List, [], ◌∷◌, ◌++◌, Option, Some, None, Result, Ok, Err}
use Rattle.ipx_wire.specs.Ends.{Input}
use Rattle.ipx_wire.specs.declared.failed.Failed.{Failed}
use Rattle.ipx_capture.specs.Asks.{Ask, Fetched, MeetsEnd, Lacks, TellsNothing}
use Rattle.ipx_capture.specs.Header.{header_size}
use Rattle.ipx_capture.specs.Place.{Place, Begun, Unopened, Takes}
use Rattle.ipx_capture.specs.Records.{Record}
use Rattle.ipx_capture.specs.declared.capture_fault.CaptureFault.{CaptureFault}
use Rattle.ipx_capture.specs.declared.capture_fault.CaptureFault.TheVariants.{CutHeader, CutRecord}
use Rattle.ipx_capture.specs.declared.order.Order.{Order}

module _ (asked : ℕ → List ℕ → Result ℕ Failed → ℕ → Type 0) where
  -- the header is just what the calls gave, each of which was made while it wasn't whole
  pub record BegunBy (before after : Input) (order : Order) : Type 0 where
    pub begun : Begun before after order
    pub fetched : Fetched asked (Lacks header_size) [] begun.header before.state after.state

  -- or the fault is that of what they gave; the file ends inside its header where the last of them met its end
  pub record UnopenedBy (before after : Input) (fault : CaptureFault) : Type 0 where
    pub unopened : Unopened before after fault
    pub fetched : Fetched asked (Lacks header_size) [] unopened.bytes before.state after.state
    pub ended : fault ≡ CutHeader → MeetsEnd fetched.asks

  -- what is told is what stands at the front of the bytes ahead and of those that the calls gave, each of which was made while the bytes
  -- before it told nothing; the file is at its end, or ends inside a record, where the last of them met its end
  pub record TakesBy (old new : Place) (answer : Result (Option Record) CaptureFault) : Type 0 where
    pub takes : Takes old new answer
    pub fetched : Fetched asked (TellsNothing old.order) old.ahead takes.more old.input.state new.input.state
    pub ended : answer ≡ Ok None → MeetsEnd fetched.asks
    pub cut : answer ≡ Err CutRecord → MeetsEnd fetched.asks

  -- calls of `next` told these records, one by one, and these are all their calls to the source
  abbrev pub CallsBy : List Ask → Place → List Record → Place → Type 0
  CallsBy asks from [] to = (asks ≡ []) × (to ≡ from)
  CallsBy asks from (r ∷ rs) to =
      (next : Place) × (later : List Ask) × (t : TakesBy from next (Ok (Some r))) × (asks ≡ t.fetched.asks ++ later) × CallsBy later next rs to
