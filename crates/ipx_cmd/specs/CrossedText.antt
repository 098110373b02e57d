-- The line of the networks that a packet of type 20 has crossed.
use Rattle.std.specs.Prelude.{ℕ, List, ◌++◌, codes, Result, Ok, Err}
use Rattle.std.specs.Int.{to_be_bytes, w32}
use Rattle.std.specs.List.{flat_map}
use Rattle.hex.specs.Hex.{encode_upper}
use Rattle.ipx_wire.specs.declared.network.Network.{Network}
use Rattle.ipx_wire.specs.declared.crossed.CrossedFault.{CrossedFault}
use Rattle.ipx_cmd.specs.CrossedWord.{crossed_word}

-- a network, after a space
unfoldable pub network_after : Network → List ℕ
network_after network = codes " " ++ encode_upper (to_be_bytes w32 network.0)

-- the networks, or why there are none
unfoldable pub crossed_text : Result (List Network) CrossedFault → List ℕ
crossed_text (Ok networks) = codes "crossed" ++ flat_map network_after networks ++ codes "\n"
crossed_text (Err fault) = codes "crossed bad " ++ crossed_word fault ++ codes "\n"
