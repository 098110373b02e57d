-- The words of why a packet of type 20 names no networks crossed.
use Rattle.std.specs.Prelude.{ℕ, List, codes}
use Rattle.ipx_wire.specs.declared.crossed.CrossedFault.{CrossedFault}
use Rattle.ipx_wire.specs.declared.crossed.CrossedFault.TheVariants.{Short, Full}

-- the name of the fault
abbrev pub crossed_word : CrossedFault → List ℕ
crossed_word Short = codes "Short"
crossed_word Full = codes "Full"
