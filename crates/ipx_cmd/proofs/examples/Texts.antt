use Rattle.std.proofs.Common.{◌≡◌, [], ◌∷◌, codes, refl}
use Rattle.std.specs.Fmt.{digits}
use Rattle.hex.specs.Hex.{encode_with}
use Rattle.ipx_cmd.specs.declared.lines.fault.LineFault.TheVariants.{Hex}
use Rattle.ipx_cmd.specs.Output.{out_text, drop_text, route_text, route_words, fault_text}

-- two bytes to every node
pub a_packet : out_text 0 (255 ∷ 255 ∷ 255 ∷ 255 ∷ 255 ∷ 255 ∷ []) (0 ∷ 171 ∷ []) ≡ codes "out 0 FFFFFFFFFFFF 00AB\n"
unfolding encode_with digits
a_packet = refl

-- no bytes
pub no_bytes : out_text 10 (0 ∷ 0 ∷ 0 ∷ 0 ∷ 0 ∷ 1 ∷ []) [] ≡ codes "out 10 000000000001 -\n"
unfolding encode_with digits
no_bytes = refl

-- why an event was dropped
pub a_drop : drop_text (codes "NoRoute") ≡ codes "drop NoRoute\n"
a_drop = refl

-- a route of the largest values
pub a_route : route_text (record { network = record { 0 = 48 }; hops = 15; ticks = 65535; port = 1; node = record { 0 = 0 ∷ 0 ∷ 0 ∷ 0 ∷ 0 ∷ 187 ∷ [] } }) 179 ≡ codes "route 00000030 15 65535 1 0000000000BB 179\n"
unfolding encode_with digits route_words
a_route = refl

-- what is wrong with the third line
pub a_fault : fault_text 3 Hex ≡ codes "line 3: hex\n"
unfolding digits
a_fault = refl
