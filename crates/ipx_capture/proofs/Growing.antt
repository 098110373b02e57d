-- How far the buffer of a capture grows.
use Rattle.std.proofs.Common.{◌≡◌, ℕ, ◌+◌, ◌≤◌, List, length, refl, arith}
use Rattle.std.proofs.lemmas.Bool.{le-leb}
use Rattle.ipx_capture.specs.Records.{kept_count, size_of_first}
use Rattle.ipx_capture.specs.Window.{Grows}
use Rattle.ipx_capture.specs.declared.order.Order.{Order}

-- a record that is read takes no more than the largest buffer
pub size_most : (order : Order) (b : List ℕ) → size_of_first order b ≤ 262160
size_most order b = grind arith

-- how much it takes, where its header is there
pub size_whole : (order : Order) (b : List ℕ) → 16 ≤ length b → kept_count order b ≤ 262144 → size_of_first order b ≡ 16 + kept_count order b
size_whole order b enough short = rw (le-leb 16 (length b) enough, le-leb (kept_count order b) 262144 short) refl

-- a buffer that grew for the header alone
pub grows_header : (order : Order) (b : List ℕ) (old new : ℕ) → Grows 16 old new → Grows (size_of_first order b) old new
grows_header order b old new g = record { kept = g.kept; needed = omega (arith, g.needed) }

-- and then for the record
pub grows_record : (need size old mid new : ℕ) → Grows 16 old mid → Grows need mid new → size ≡ need → 16 ≤ need → Grows size old new
grows_record need size old mid new g h is enough = record { kept = omega (arith, g.kept, h.kept); needed = omega (arith, g.needed, h.needed, is) }
