-- What the lines of worked scripts do, byte by byte of their text.
use Rattle.std.proofs.Common.{◌≡◌, ℕ, [], ◌∷◌, ◌++◌, codes, refl, None, Some, Ok, Err}
use Rattle.hex.proofs.OnLiterals.{hex_on_literals}
use Rattle.hex.specs.Hex.{encode_with}
use Rattle.std.specs.Fmt.{digits}
use Rattle.ipx_wire.specs.Address.{address_bytes}
use Rattle.ipx_wire.specs.Header.{header_bytes}
use Rattle.ipx_wire.specs.Rip.{entry_bytes}
use Rattle.ipx_router.specs.History.{Start, Second}
use Rattle.ipx_router.specs.Port.{Port}
use Rattle.ipx_cmd.specs.EventText.{event_text, sent_text}
use Rattle.ipx_cmd.specs.Machine.{Standing, acts, nothing_yet}
use Rattle.ipx_cmd.specs.declared.lines.fault.LineFault.TheVariants.{Longest, None as NoPorts, Port as NoSuchPort, Hex, Late}

-- ports on the networks 10h and 20h
abbrev port_on : ℕ → ℕ → Port
port_on network node = record {
  network = record { 0 = network };
  node = record { 0 = 0 ∷ 0 ∷ 0 ∷ 0 ∷ 0 ∷ node ∷ [] };
  cost = 1;
  longest = 576;
  route_share = 65535;
  service_share = 65535;
}

abbrev two_ports : Standing
two_ports = record { ports = port_on 0x10 1 ∷ port_on 0x20 2 ∷ []; past = None }

abbrev started : Standing
started = record { ports = port_on 0x10 1 ∷ port_on 0x20 2 ∷ []; past = Some (Start ∷ []) }

-- a port is kept, and nothing is said
pub a_port : acts nothing_yet (codes "port 00000010 000000000001 1 576") ≡ Ok (record { ports = port_on 0x10 1 ∷ []; past = None }, [])
unfolding acts hex_on_literals
a_port = refl

-- a port's first fault, once its words are read
pub short_packets : acts nothing_yet (codes "port 00000000 000000000001 0 575") ≡ Err Longest
unfolding acts hex_on_literals
short_packets = refl

-- no ports make no router, but the words of a line are judged before
pub no_ports : acts nothing_yet (codes "in 0 -") ≡ Err NoPorts
unfolding acts hex_on_literals
no_ports = refl

pub words_first : acts nothing_yet (codes "in 0 zz") ≡ Err Hex
unfolding acts hex_on_literals
words_first = refl

-- a port that the router lacks
pub no_such_port : acts two_ports (codes "in 2 -") ≡ Err NoSuchPort
unfolding acts hex_on_literals
no_such_port = refl

-- no port is named once the router is made
pub late_port : acts started (codes "port 00000030 000000000001 1 576") ≡ Err Late
unfolding acts hex_on_literals
late_port = refl

-- a stopped router drops each second, one after the other
pub stopped_seconds : acts two_ports (codes "second 2")
    ≡ Ok (record { ports = two_ports.ports; past = Some (Second ∷ Second ∷ []) }, codes "drop NotRunning\ndrop NotRunning\n")
unfolding acts event_text hex_on_literals
stopped_seconds = refl

-- a start, on each port
pub start : acts two_ports (codes "start") ≡ Ok (
  started,
  codes "out 0 FFFFFFFFFFFF FFFF0028000100000010FFFFFFFFFFFF045300000010000000000001045300020000002000010002\n"
      ++ codes "out 0 FFFFFFFFFFFF FFFF0028000100000010FFFFFFFFFFFF04530000001000000000000104530001FFFFFFFFFFFFFFFF\n"
      ++ codes "out 0 FFFFFFFFFFFF FFFF0022000400000010FFFFFFFFFFFF04520000001000000000000104520001FFFF\n"
      ++ codes "out 1 FFFFFFFFFFFF FFFF0028000100000020FFFFFFFFFFFF045300000020000000000002045300020000001000010002\n"
      ++ codes "out 1 FFFFFFFFFFFF FFFF0028000100000020FFFFFFFFFFFF04530000002000000000000204530001FFFFFFFFFFFFFFFF\n"
      ++ codes "out 1 FFFFFFFFFFFF FFFF0022000400000020FFFFFFFFFFFF04520000002000000000000204520001FFFF\n",
)
unfolding acts event_text sent_text hex_on_literals encode_with digits header_bytes address_bytes entry_bytes
start = refl
