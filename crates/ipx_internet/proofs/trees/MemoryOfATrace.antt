-- The memory of a trace never becomes less, nor the room of the outbox that serves it.
use Rattle.std.proofs.Common.{◌≡◌, ℕ, ◌+◌, List, length, arith, length-append}
use Rattle.ipx_router.proofs.sending.OneAfterAnother.{total-append}
use Rattle.ipx_router.specs.Outbox.{Contents, HasRoom, KeepsRoom, Appends, total}
use Rattle.ipx_router.specs.Relays.{Sent}
use Rattle.ipx_internet.specs.TraceRoom.{Memory, IsNoLess, HoldsNoLess}

-- ---- the lists

pub no_less : (m : Memory) → IsNoLess m m
no_less m = record { receptions = omega arith; outcomes = omega arith; bytes = omega arith }

pub then_no_less : (a b c : Memory) → IsNoLess a b → IsNoLess b c → IsNoLess a c
then_no_less a b c first then = grind arith

-- ---- the outbox

pub holds : (o : Contents) → HoldsNoLess o o
holds o = record { packets = omega arith; bytes = omega arith }

pub then_holds : (a b c : Contents) → HoldsNoLess a b → HoldsNoLess b c → HoldsNoLess a c
then_holds a b c first then = grind arith

module _ (old new : Contents) where
  -- room was made, and what was sent stays
  pub holds_reserved : KeepsRoom old new → new.sent ≡ old.sent → HoldsNoLess old new
  holds_reserved keeps same = grind arith

  -- packets went into the room
  pub holds_appended : (packets : List Sent) → Appends old new packets → HoldsNoLess old new
  holds_appended packets is = grind (arith, length-append, total-append)

  -- all were taken out
  pub holds_cleared : ((packets bytes : ℕ) → HasRoom old packets bytes → HasRoom new (packets + length old.sent) (bytes + total old.sent)) → HoldsNoLess old new
  holds_cleared frees = grind arith
