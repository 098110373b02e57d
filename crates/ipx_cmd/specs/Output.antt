-- The lines that a run writes, each with its line feed.
use Rattle.std.specs.Prelude.{ℕ, ◌==◌, if◌then◌else◌, List, ◌++◌, length, codes, decimal}
use Rattle.std.specs.Int.{to_be_bytes, w32}
use Rattle.hex.specs.Hex.{encode_upper}
use Rattle.ipx_cmd.specs.declared.lines.fault.LineFault.{LineFault}
use Rattle.ipx_cmd.specs.Fault.{fault_word}
use Rattle.ipx_router.specs.declared.route_offer.RouteOffer.{RouteOffer}
use Rattle.ipx_router.specs.declared.service_offer.ServiceOffer.{ServiceOffer}
use Rattle.ipx_cmd.specs.ServiceWords.{service_words}

-- bytes as a word: two upper-case digits a byte, or `-` for none
abbrev pub hex_word : List ℕ → List ℕ
hex_word bytes = if length bytes == 0 then codes "-" else encode_upper bytes

-- a network as a word
abbrev pub network_word : ℕ → List ℕ
network_word network = encode_upper (to_be_bytes w32 network)

-- a packet that was sent: `out PORT NODE HEX`
abbrev pub out_text : ℕ → List ℕ → List ℕ → List ℕ
out_text port node bytes =
    codes "out " ++ decimal port ++ codes " " ++ encode_upper node ++ codes " " ++ hex_word bytes ++ codes "\n"

-- an event that was dropped, and the word that says why
abbrev pub drop_text : List ℕ → List ℕ
drop_text why = codes "drop " ++ why ++ codes "\n"

-- a route as words: `route NET HOPS TICKS`
unfoldable pub route_words : RouteOffer → List ℕ
route_words route = codes "route " ++ network_word route.network.0 ++ codes " " ++ decimal route.hops ++ codes " " ++ decimal route.ticks

-- a route that is held: `route NET HOPS TICKS PORT NODE AGE`
abbrev pub route_text : RouteOffer → ℕ → List ℕ
route_text route age =
    route_words route ++ codes " " ++ decimal route.port ++ codes " " ++ encode_upper route.node.0 ++ codes " " ++ decimal age ++ codes "\n"

-- a service that is held: `service TYPE NAME NET NODE SOCKET HOPS PORT AGE`
unfoldable pub service_text : ServiceOffer → ℕ → List ℕ
service_text offer age = service_words offer.service ++ codes " " ++ decimal offer.port ++ codes " " ++ decimal age ++ codes "\n"

-- the line of a script that ended the run, and what is wrong with it
abbrev pub fault_text : ℕ → LineFault → List ℕ
fault_text number fault = codes "line " ++ decimal number ++ codes ": " ++ fault_word fault ++ codes "\n"
