-- Packets behind link headers.
use Rattle.std.proofs.Common.{◌≡◌, ℕ, List, [], ◌∷◌, ◌++◌, refl, drop, Some, None}
use Rattle.ipx_capture.specs.Frame.{EthernetII, Raw, Llc}
use Rattle.ipx_capture.proofs.examples.Words.{request, addresses, typed, zeros}
use Rattle.ipx_recording.specs.Carried.{Framed, Ppp, Udp, carried_in, behind, by_type, by_inner, by_protocol, by_ppp, by_ip, by_datagram}

-- in a frame of Ethernet, without a tag, with one, and with two
pub untagged : carried_in 1 typed ≡ Some (Framed EthernetII, request)
unfolding carried_in behind by_type by_inner by_protocol
untagged = refl

pub tagged : carried_in 1 (addresses ++ (0x81 ∷ 0 ∷ 0 ∷ 7 ∷ []) ++ (0x81 ∷ 0x37 ∷ []) ++ request) ≡ Some (Framed EthernetII, request)
unfolding carried_in behind by_type by_inner by_protocol
tagged = refl

pub twice : carried_in 1 (addresses ++ (0x88 ∷ 0xA8 ∷ 0 ∷ 1 ∷ []) ++ (0x81 ∷ 0 ∷ 0 ∷ 7 ∷ []) ++ (0 ∷ 40 ∷ []) ++ request) ≡ Some (Framed Raw, request)
unfolding carried_in behind by_type by_inner by_protocol
twice = refl

pub thrice : carried_in 1 (addresses ++ (0x81 ∷ 0 ∷ 0 ∷ 1 ∷ []) ++ (0x81 ∷ 0 ∷ 0 ∷ 2 ∷ []) ++ (0x81 ∷ 0 ∷ 0 ∷ 3 ∷ []) ++ (0x81 ∷ 0x37 ∷ []) ++ request) ≡ None
unfolding carried_in behind by_type by_inner by_protocol
thrice = refl

-- behind the two headers of Linux
pub cooked : carried_in 113 (zeros ++ zeros ++ zeros ++ (0 ∷ 0 ∷ 0x81 ∷ 0x37 ∷ []) ++ request) ≡ Some (Framed EthernetII, request)
unfolding carried_in behind by_type by_inner by_protocol
cooked = refl

pub cooked_again : carried_in 276 (0 ∷ 4 ∷ 0 ∷ 0 ∷ [] ++ zeros ++ zeros ++ zeros ++ zeros ++ (0xE0 ∷ 0xE0 ∷ 3 ∷ []) ++ request) ≡ Some (Framed Llc, request)
unfolding carried_in behind by_type by_inner by_protocol
cooked_again = refl

-- over PPP
pub ppp : carried_in 9 (0xFF ∷ 3 ∷ 0 ∷ 0x2B ∷ [] ++ request) ≡ Some (Ppp, request)
unfolding carried_in by_ppp
ppp = refl

pub bare_ppp : carried_in 9 (0 ∷ 0x2B ∷ [] ++ request) ≡ Some (Ppp, request)
unfolding carried_in by_ppp
bare_ppp = refl

-- in a datagram of 48 bytes, from a port to another
abbrev pub datagram : ℕ → ℕ → ℕ → ℕ → List ℕ
datagram from_high from_low to_high to_low = from_high ∷ from_low ∷ to_high ∷ to_low ∷ 0 ∷ 48 ∷ 0 ∷ 0 ∷ [] ++ request

-- a packet of IP of 68 bytes, of that protocol
abbrev pub ip : ℕ → List ℕ
ip protocol = 0x45 ∷ 0 ∷ 0 ∷ 68 ∷ 0 ∷ 1 ∷ 0 ∷ 0 ∷ 64 ∷ protocol ∷ 0 ∷ 0 ∷ [] ++ zeros ++ zeros

-- to port 213, to 2130, and to another: the packet is as long as the datagram says
pub registered : carried_in 101 (ip 17 ++ datagram 0x0F 0xA3 0 213) ≡ Some (Udp, request)
unfolding carried_in by_ip by_datagram
registered = refl

pub of_the_gateway : carried_in 101 (ip 17 ++ datagram 0x0F 0xA3 0x08 0x52) ≡ Some (Udp, request)
unfolding carried_in by_ip by_datagram
of_the_gateway = refl

pub of_another : carried_in 101 (ip 17 ++ datagram 0x0F 0xA3 0x0F 0xA4) ≡ Some (Udp, request)
unfolding carried_in by_ip by_datagram
of_another = refl

-- with other bytes in front it is another's
pub without_front : carried_in 101 (ip 17 ++ (0x0F ∷ 0xA3 ∷ 0x0F ∷ 0xA4 ∷ 0 ∷ 48 ∷ 0 ∷ 0 ∷ []) ++ (0 ∷ 0 ∷ []) ++ drop 2 request) ≡ None
unfolding carried_in by_ip by_datagram
without_front = refl

-- another protocol
pub tcp : carried_in 101 (ip 6 ++ datagram 0x0F 0xA3 0 213) ≡ None
unfolding carried_in by_ip by_datagram
tcp = refl
