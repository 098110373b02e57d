-- What somebody gets who registered: an answer at once and after a second, pings at the seventh second and at the ninth.
use Rattle.std.proofs.Common.{◌≡◌, [], ◌∷◌, refl}
use Rattle.ipx_wire.specs.Address.{address_at, address_bytes}
use Rattle.ipx_wire.specs.Header.{header_at, header_bytes}
use Rattle.ipx_wire.specs.Packet.{packet_of}
use Rattle.ipx_tunnel.specs.Own.{ping_to}
use Rattle.ipx_keyed.specs.Tables.{clients, waiting}
use Rattle.ipx_keyed.specs.Own.{own, answer_to}
use Rattle.ipx_keyed.proofs.examples.Players.{setting, at, node_of, cookie_of, from, registers, answers, says, later, with}

-- after a second the answer again
pub answer_again : own setting (later 1 (registers (from 1 1) ∷ [])) ≡ answer_to setting (at 1 1) (node_of 1 1) ∷ []
unfolding packet_of header_at address_at header_bytes address_bytes
answer_again = refl

-- while DOSBox may still wait nothing
pub nothing_at_6 : own setting (later 6 (registers (from 1 1) ∷ [])) ≡ []
unfolding packet_of header_at address_at header_bytes address_bytes
nothing_at_6 = refl

-- at the seventh second a ping
pub ping_at_7 : own setting (later 7 (registers (from 1 1) ∷ [])) ≡ ping_to setting.network (at 1 1) (cookie_of 1 1 2) ∷ []
unfolding packet_of header_at address_at header_bytes address_bytes
ping_at_7 = refl

-- at the eighth nothing
pub nothing_at_8 : own setting (later 8 (registers (from 1 1) ∷ [])) ≡ []
unfolding packet_of header_at address_at header_bytes address_bytes
nothing_at_8 = refl

-- at the ninth a ping
pub ping_at_9 : own setting (later 9 (registers (from 1 1) ∷ [])) ≡ ping_to setting.network (at 1 1) (cookie_of 1 1 2) ∷ []
unfolding packet_of header_at address_at header_bytes address_bytes
ping_at_9 = refl

-- at the tenth he is forgotten
pub forgotten_at_10 : waiting setting (later 10 (registers (from 1 1) ∷ [])) ≡ []
unfolding packet_of header_at address_at header_bytes address_bytes
forgotten_at_10 = refl

-- somebody who never speaks comes in by his answer
pub listener_comes : clients setting (answers (from 1 1) ∷ later 7 (registers (from 1 1) ∷ [])) ≡ with 1 1 30 ∷ []
unfolding packet_of header_at address_at header_bytes address_bytes
listener_comes = refl

-- another registration doesn't put off his pings
pub same_pings : own setting (later 4 (registers (from 1 1) ∷ later 3 (registers (from 1 1) ∷ []))) ≡ ping_to setting.network (at 1 1) (cookie_of 1 1 2) ∷ []
unfolding packet_of header_at address_at header_bytes address_bytes
same_pings = refl

-- who came in at once is pinged in the same seconds, and not after five
pub client_meanwhile : own setting (later 5 (says (from 1 1) ∷ registers (from 1 1) ∷ [])) ≡ []
unfolding packet_of header_at address_at header_bytes address_bytes
client_meanwhile = refl

-- of one address two are remembered, and no third
pub at_its_share : waiting setting (registers (from 1 3) ∷ registers (from 1 2) ∷ registers (from 1 1) ∷ []) ≡ with 1 1 9 ∷ with 1 2 9 ∷ []
unfolding packet_of header_at address_at header_bytes address_bytes
at_its_share = refl

-- three in all: who came first stays
pub first_is_first : waiting setting (registers (from 3 1) ∷ registers (from 2 2) ∷ registers (from 2 1) ∷ registers (from 1 1) ∷ []) ≡ with 1 1 9 ∷ with 2 1 9 ∷ with 2 2 9 ∷ []
unfolding packet_of header_at address_at header_bytes address_bytes
first_is_first = refl

-- the fourth is answered all the same
pub fourth_is_answered : own setting (registers (from 3 1) ∷ registers (from 2 2) ∷ registers (from 2 1) ∷ registers (from 1 1) ∷ []) ≡ answer_to setting (at 3 1) (node_of 3 1) ∷ []
unfolding packet_of header_at address_at header_bytes address_bytes
fourth_is_answered = refl
