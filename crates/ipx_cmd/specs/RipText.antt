-- The lines of routing information.
use Rattle.std.specs.Prelude.{ℕ, List, ◌++◌, codes, decimal, Result, Ok, Err}
use Rattle.std.specs.Int.{to_be_bytes, w32}
use Rattle.std.specs.List.{flat_map}
use Rattle.hex.specs.Hex.{encode_upper}
use Rattle.ipx_wire.specs.Rip.{RipParts, operation_word}
use Rattle.ipx_wire.specs.declared.rip.RipEntry.{RipEntry}
use Rattle.ipx_wire.specs.declared.rip.RipFault.{RipFault}
use Rattle.ipx_router.specs.WhyWord.{rip_word}

-- an entry: `net NET hops H ticks T`
unfoldable pub route_entry_text : RipEntry → List ℕ
route_entry_text e =
    codes "net " ++ encode_upper (to_be_bytes w32 e.network.0) ++ codes " hops " ++ decimal e.hops ++ codes " ticks " ++ decimal e.ticks ++ codes "\n"

-- the operation and a line per entry, or why there are none
unfoldable pub rip_text : Result RipParts RipFault → List ℕ
rip_text (Ok r) = codes "rip " ++ operation_word r.operation ++ codes "\n" ++ flat_map route_entry_text r.entries
rip_text (Err fault) = codes "rip bad " ++ rip_word fault ++ codes "\n"
