-- Who comes in: who answers his ping, and for whom there is room.
use Rattle.std.proofs.Common.{◌≡◌, false, [], ◌∷◌, refl}
use Rattle.ipx_wire.specs.Address.{address_at, address_bytes}
use Rattle.ipx_wire.specs.Header.{header_at, header_bytes}
use Rattle.ipx_wire.specs.Packet.{packet_of}
use Rattle.ipx_tunnel.specs.Events.{Datagram}
use Rattle.ipx_tunnel.specs.Clients.{clients}
use Rattle.ipx_tunnel.specs.Own.{own, answer_to, ping_to}
use Rattle.ipx_tunnel.proofs.examples.Players.{setting, at, cookie_of, from_in, from, trusted, address, packet, registers, answers_to, answers, says, three}

-- who registers is answered and pinged, but is no client yet
pub registers_first : own setting (registers (from 1 1) ∷ []) ≡ answer_to setting (at 1 1) ∷ ping_to setting.network (at 1 1) (cookie_of 1 1 2) ∷ []
unfolding packet_of header_at address_at header_bytes address_bytes
registers_first = refl

-- and
pub no_client_yet : clients setting (registers (from 1 1) ∷ []) ≡ []
unfolding packet_of header_at address_at header_bytes address_bytes
no_client_yet = refl

-- who answers the ping is one
pub comes_in : clients setting (answers (from 1 1) ∷ registers (from 1 1) ∷ []) ≡ at 1 1 ∷ []
unfolding packet_of header_at address_at header_bytes address_bytes
comes_in = refl

-- so is who answers a minute later, by the cookie before
pub comes_in_late : clients setting (answers_to (cookie_of 1 1 1) (from_in false 1 1 1) ∷ []) ≡ at 1 1 ∷ []
unfolding packet_of header_at address_at header_bytes address_bytes
comes_in_late = refl

-- two minutes later it is too old
pub too_old : clients setting (answers_to (cookie_of 1 1 1) (from_in false 1 1 2) ∷ []) ≡ []
unfolding packet_of header_at address_at header_bytes address_bytes
too_old = refl

-- the cookie of another place is none
pub cookie_of_another : clients setting (answers_to (cookie_of 2 1 2) (from 1 1) ∷ []) ≡ []
unfolding packet_of header_at address_at header_bytes address_bytes
cookie_of_another = refl

-- an answer that names another source is none
pub answer_of_another : clients setting (Datagram (from 1 1) (packet (address 0x10 (at 2 1) 2) (address 0x10 (cookie_of 1 1 2) 2)) ∷ []) ≡ []
unfolding packet_of header_at address_at header_bytes address_bytes
answer_of_another = refl

-- three have come, and there is no room for a fourth
pub full : clients setting (answers (from 3 1) ∷ three) ≡ at 1 1 ∷ at 1 2 ∷ at 2 1 ∷ []
unfolding packet_of header_at address_at header_bytes address_bytes
full = refl

-- his registration isn't answered
pub full_is_silent : own setting (registers (from 3 1) ∷ three) ≡ []
unfolding packet_of header_at address_at header_bytes address_bytes
full_is_silent = refl

-- one who is there may register again
pub registers_again : own setting (registers (from 2 1) ∷ three) ≡ answer_to setting (at 2 1) ∷ ping_to setting.network (at 2 1) (cookie_of 2 1 2) ∷ []
unfolding packet_of header_at address_at header_bytes address_bytes
registers_again = refl

-- of one address come two, and no third
pub at_its_share : clients setting (answers (from 1 3) ∷ answers (from 1 2) ∷ answers (from 1 1) ∷ []) ≡ at 1 1 ∷ at 1 2 ∷ []
unfolding packet_of header_at address_at header_bytes address_bytes
at_its_share = refl

-- who is trusted comes in by registering, or by speaking
pub trusted_comes : clients setting (says (trusted 2 2) ∷ registers (trusted 1 1) ∷ []) ≡ at 1 1 ∷ at 2 2 ∷ []
unfolding packet_of header_at address_at header_bytes address_bytes
trusted_comes = refl

-- a packet that is cut off says nothing
pub cut_off : clients setting (Datagram (trusted 1 1) (0xff ∷ 0xff ∷ 0 ∷ 30 ∷ []) ∷ []) ≡ []
unfolding packet_of header_at address_at header_bytes address_bytes
cut_off = refl
