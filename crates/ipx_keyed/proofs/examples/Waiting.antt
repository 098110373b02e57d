-- How long a client stays, and when it is pinged.
use Rattle.std.proofs.Common.{◌≡◌, [], ◌∷◌, refl}
use Rattle.ipx_wire.specs.Address.{address_at, address_bytes}
use Rattle.ipx_wire.specs.Header.{header_at, header_bytes}
use Rattle.ipx_wire.specs.Packet.{packet_of}
use Rattle.ipx_tunnel.specs.Own.{ping_to}
use Rattle.ipx_keyed.specs.Tables.{clients}
use Rattle.ipx_keyed.specs.Own.{own}
use Rattle.ipx_keyed.specs.Stands.{leaving}
use Rattle.ipx_keyed.proofs.examples.Players.{setting, at, cookie_of, from, trusted, answers, says, later, with}

-- after 4 seconds of silence nothing is sent
pub silent_4 : own setting (later 4 (answers (from 1 1) ∷ [])) ≡ []
unfolding packet_of header_at address_at header_bytes address_bytes
silent_4 = refl

-- after 5 a ping, by the cookie that was answered last
pub silent_5 : own setting (later 5 (answers (from 1 1) ∷ [])) ≡ ping_to setting.network (at 1 1) (cookie_of 1 1 2) ∷ []
unfolding packet_of header_at address_at header_bytes address_bytes
silent_5 = refl

-- 29 seconds after its answer a client is still there
pub there_29 : clients setting (later 29 (answers (from 1 1) ∷ [])) ≡ with 1 1 1 ∷ []
unfolding packet_of header_at address_at header_bytes address_bytes
there_29 = refl

-- after 30 it isn't
pub gone_30 : clients setting (later 30 (answers (from 1 1) ∷ [])) ≡ []
unfolding packet_of header_at address_at header_bytes address_bytes
gone_30 = refl

-- with this second it leaves
pub leaves_30 : leaving (clients setting (later 29 (answers (from 1 1) ∷ []))) ≡ with 1 1 0 ∷ []
unfolding packet_of header_at address_at header_bytes address_bytes
leaves_30 = refl

-- what it says meanwhile doesn't count
pub speaking_is_no_answer : clients setting (later 10 (says (from 1 1) ∷ later 20 (answers (from 1 1) ∷ []))) ≡ []
unfolding packet_of header_at address_at header_bytes address_bytes
speaking_is_no_answer = refl

-- an answer does
pub answers_again : clients setting (later 10 (answers (from 1 1) ∷ later 20 (answers (from 1 1) ∷ []))) ≡ with 1 1 20 ∷ []
unfolding packet_of header_at address_at header_bytes address_bytes
answers_again = refl

-- who is trusted stays 179 seconds after a word, which counts
pub trusted_there : clients setting (later 179 (says (trusted 1 1) ∷ [])) ≡ with 1 1 1 ∷ []
unfolding packet_of header_at address_at header_bytes address_bytes
trusted_there = refl

-- after 180 he is gone
pub trusted_gone : clients setting (later 180 (says (trusted 1 1) ∷ [])) ≡ []
unfolding packet_of header_at address_at header_bytes address_bytes
trusted_gone = refl
