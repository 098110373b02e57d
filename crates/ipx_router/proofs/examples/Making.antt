-- What makes a port: the ports of these examples can be made, and none with a node that isn't bytes.
use Rattle.std.proofs.Common.{◌≡◌, ℕ, ◌<◌, [], ◌∷◌, arith, lit<}
use Rattle.std.specs.List.{AllByRecursion}
use Rattle.ipx_router.specs.Port.{Port, IsPort}
use Rattle.ipx_router.proofs.examples.Words.{port_on, two_ports}

-- a port whose network and node are numbers of one byte
low_port : (network node : ℕ) → 0 < network → network < 256 → node < 256 → IsPort (port_on network node)
low_port network node some low below = grind arith

-- the ports of the examples
pub can_be_made : AllByRecursion IsPort two_ports
can_be_made = (low_port 0x10 1 (lit< tt) (lit< tt) (lit< tt), (low_port 0x20 2 (lit< tt) (lit< tt) (lit< tt), tt))

-- 256 is no byte
pub no_byte : (p : Port) → p.node.0 ≡ 0 ∷ 0 ∷ 0 ∷ 0 ∷ 0 ∷ 256 ∷ [] → IsPort p → ⊥
no_byte p e is =
    let bytes = is.bytes 5 in
    let last : 256 < 256 = rw e at bytes in
    omega (arith, last)
