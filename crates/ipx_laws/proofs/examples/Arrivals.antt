-- Two routers on one segment, as of `Segments`: packets that arrive, and one that a router leaves to the network on which it came. And in an
-- internet whose least way leads round, how long a packet may be: a narrow port off the way counts for nothing.
use Rattle.std.proofs.Common.{◌≡◌, refl, ap, lit<, ℕ, ◌+◌, ◌<◌, ◌≤◌, List, [], ◌∷◌, Option, None, Some, arith}
use Rattle.ipx_wire.specs.Address.{address_bytes, address_at}
use Rattle.ipx_wire.specs.Crossed.{network_bytes, network_at}
use Rattle.ipx_wire.specs.Items.{items}
use Rattle.ipx_wire.specs.Header.{header_bytes, header_at}
use Rattle.ipx_wire.specs.Packet.{packet_of}
use Rattle.ipx_wire.specs.Rip.{rip_of}
use Rattle.ipx_wire.specs.Sap.{sap_of}
use Rattle.ipx_wire.specs.declared.address.Address.{Address}
use Rattle.ipx_wire.specs.declared.network.Network.{Network}
use Rattle.ipx_router.specs.Port.{Port}
use Rattle.ipx_internet.specs.Internet.{Internet}
use Rattle.ipx_internet.specs.Tree.{Router, Copy, root, forwards}
use Rattle.ipx_internet.proofs.examples.Words.{network, node, port_on, route, running, plain_parts, plain, at, copy}
use Rattle.ipx_laws.specs.Arriving.{IsShort, IsSentOn, Arrives, EndsOn}
use Rattle.ipx_laws.specs.Least.{Way}
use Rattle.ipx_laws.proofs.examples.Leasts.{all, costly}

abbrev segment : List Router
segment =
    running (port_on 0x10 1 ∷ port_on 0x20 2 ∷ []) (route 0x30 1 3 ∷ []) ∷ running (port_on 0x20 3 ∷ port_on 0x30 4 ∷ []) (route 0x10 0 2 ∷ []) ∷ []

-- a node on a network, and a packet of a host on 10h for it, as the first router receives it
abbrev to : ℕ → Address
to n = record { network = network n; node = node 0xCC; socket = record { 0 = 0x4003 } }

abbrev received : ℕ → Copy
received n = root (at 0 0) (plain 0 n (node 0xCC))

-- it came through as many routers as its transport control says, and is sent on with one more, otherwise unchanged
goes_on : (control n : ℕ) → control < 16 → n < 256 → IsSentOn control (plain control n (node 0xCC)) (plain (control + 1) n (node 0xCC))
unfolding header_bytes address_bytes
goes_on control n few small = (
  plain_parts control n (node 0xCC),
  record {
    header = record {
      checksum = lit< tt;
      length = lit< tt;
      control = omega (arith, few);
      kind = lit< tt;
      destination = record { network = omega (arith, small); node = refl; socket = lit< tt };
      source = record { network = lit< tt; node = refl; socket = lit< tt };
    };
    padding = [];
    layout = refl;
    counted = refl;
  },
  refl,
  few,
  refl,
)

-- the router has a port on 20h: the packet leaves there
pub at_once : Arrives segment (to 0x20) 0 0 0 (received 0x20)
unfolding header_bytes address_bytes network_bytes packet_of header_at address_at items network_at rip_of sap_of
at_once = (record { port = 1; link = node 0xCC; bytes = plain 1 0x20 (node 0xCC) }, goes_on 0 0x20 (lit< tt) (lit< tt), refl, refl, refl, refl)

-- to 30h it goes by the second router
pub by_one_more : Arrives segment (to 0x30) 0 1 0 (received 0x30)
unfolding header_bytes address_bytes network_bytes packet_of header_at address_at items network_at rip_of sap_of
by_one_more = (
  copy 0 (at 1 0) (plain 1 0x30 (node 0xCC)),
  goes_on 0 0x30 (lit< tt) (lit< tt),
  refl,
  (record { port = 1; link = node 0xCC; bytes = plain 2 0x30 (node 0xCC) }, goes_on 1 0x30 (lit< tt) (lit< tt), refl, refl, refl, refl),
)

-- and these two receptions are its whole tree; the second router has a port on 30h
pub whole : EndsOn segment (network 0x30) 1 (received 0x30)
unfolding header_bytes address_bytes network_bytes packet_of header_at address_at items network_at rip_of sap_of
whole = record {
  before = received 0x30 ∷ [];
  last = copy 0 (at 1 0) (plain 1 0x30 (node 0xCC));
  tree = record { depth = 2; all = refl; whole = refl };
  count = refl;
  there = refl;
}

-- one for 10h, where it is, isn't sent on
pub near : forwards segment (received 0x10) ≡ []
unfolding header_bytes address_bytes network_bytes packet_of header_at address_at items network_at rip_of sap_of
near = refl

-- ---- how long it may be: 0 - 13h - 2 - 32h - 1 - 50h is the least way of router 0, beside a dear and narrow link 0 - 12h - 1

abbrev narrow : ℕ → ℕ → Port
narrow n k = record (port_on n k) { longest = 100 }

abbrev beside : Internet
beside = (narrow 0x12 1 ∷ port_on 0x13 2 ∷ []) ∷ (costly 0x12 3 9 ∷ port_on 0x32 4 ∷ port_on 0x50 5 ∷ []) ∷ (port_on 0x13 6 ∷ port_on 0x32 7 ∷ []) ∷ []

hops_of : Option Way → ℕ
hops_of o = elim o [ None ↦ 0 | Some way ↦ way.hops ]

number_of : Network → ℕ
number_of n = n.0

-- each port on the way allows 576 bytes
pub fits : IsShort beside (all beside) 576 (network 0x50) 2 0
unfolding hops_of number_of
fits =
    (λ e. let other : 1 ≡ 2 = ap hops_of e in absurd (omega (arith, other)), (λ e. (here, rest), tt))
  where
    here : (network 0x12 ≡ network 0x13 → 576 ≤ 100) × ((network 0x13 ≡ network 0x13 → 576 ≤ 576) × Unit {0})
    here = (λ e. let other : 0x12 ≡ 0x13 = ap number_of e in absurd (omega (arith, other)), (λ e. omega arith, tt))

    last : IsShort beside (all beside) 576 (network 0x50) 0 1
    last = (
      λ e. let other : 0x12 ≡ 0x50 = ap number_of e in absurd (omega (arith, other)),
      (λ e. let other : 0x32 ≡ 0x50 = ap number_of e in absurd (omega (arith, other)), (λ e. omega arith, tt)),
    )

    rest : IsShort beside (all beside) 576 (network 0x50) 1 2
    rest = (
      λ e. let other : 3 ≡ 1 = ap hops_of e in absurd (omega (arith, other)),
      (λ e. ((λ e. omega arith, (λ e. omega arith, tt)), last), tt),
    )

-- and none of them more
pub too_long : IsShort beside (all beside) 577 (network 0x50) 2 0 → ⊥
too_long short = grind arith
