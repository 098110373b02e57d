-- Numbers in the byte order of the machine that wrote a capture.
use Rattle.std.specs.Prelude.{ℕ, List}
use Rattle.std.specs.Int.{from_be_bytes, from_le_bytes, w16, w32}
use Rattle.ipx_capture.specs.declared.order.Order.{Order}
use Rattle.ipx_capture.specs.declared.order.Order.TheVariants.{Big, Little}

-- the number in two bytes
abbrev pub u16_in : Order → List ℕ → ℕ
u16_in Big bytes = from_be_bytes w16 bytes
u16_in Little bytes = from_le_bytes w16 bytes

-- the number in four bytes
abbrev pub u32_in : Order → List ℕ → ℕ
u32_in Big bytes = from_be_bytes w32 bytes
u32_in Little bytes = from_le_bytes w32 bytes
