-- Who comes in: who speaks by the node that he was given, or answers his ping, and for whom there is room.
use Rattle.std.proofs.Common.{◌≡◌, [], ◌∷◌, refl}
use Rattle.ipx_wire.specs.Address.{address_at, address_bytes}
use Rattle.ipx_wire.specs.Header.{header_at, header_bytes}
use Rattle.ipx_wire.specs.Packet.{packet_of}
use Rattle.ipx_tunnel.specs.Own.{ping_to}
use Rattle.ipx_tunnel.specs.Places.{broadcast}
use Rattle.ipx_keyed.specs.Events.{Datagram}
use Rattle.ipx_keyed.specs.Tables.{clients, waiting}
use Rattle.ipx_keyed.specs.Own.{own, answer_to}
use Rattle.ipx_keyed.specs.Receivers.{receivers}
use Rattle.ipx_keyed.proofs.examples.Players.{setting, at, node_of, cookie_of, from, trusted, crowded, registers, answers_as, answers, says_as, says, later, three, with}

-- who registers is told his node, and gets no ping yet
pub registers_first : own setting (registers (from 1 1) ∷ []) ≡ answer_to setting (at 1 1) (node_of 1 1) ∷ []
unfolding packet_of header_at address_at header_bytes address_bytes
registers_first = refl

-- he is no client yet
pub no_client_yet : clients setting (registers (from 1 1) ∷ []) ≡ []
unfolding packet_of header_at address_at header_bytes address_bytes
no_client_yet = refl

-- but is remembered
pub is_remembered : waiting setting (registers (from 1 1) ∷ []) ≡ with 1 1 9 ∷ []
unfolding packet_of header_at address_at header_bytes address_bytes
is_remembered = refl

-- his first word makes him a client
pub comes_in : clients setting (says (from 3 1) ∷ registers (from 3 1) ∷ []) ≡ with 3 1 30 ∷ []
unfolding packet_of header_at address_at header_bytes address_bytes
comes_in = refl

-- and is carried already
pub first_word : receivers setting (says (from 2 2) ∷ registers (from 2 2) ∷ answers (from 1 1) ∷ []) ≡ at 1 1 ∷ []
unfolding packet_of header_at address_at header_bytes address_bytes
first_word = refl

-- also after nine seconds
pub word_after_nine : clients setting (says (from 1 1) ∷ later 9 (registers (from 1 1) ∷ [])) ≡ with 1 1 30 ∷ []
unfolding packet_of header_at address_at header_bytes address_bytes
word_after_nine = refl

-- after ten he is a stranger
pub word_after_ten : clients setting (says (from 1 1) ∷ later 10 (registers (from 1 1) ∷ [])) ≡ []
unfolding packet_of header_at address_at header_bytes address_bytes
word_after_ten = refl

-- who is pinged
pub pinged_after_ten : own setting (says (from 1 1) ∷ later 10 (registers (from 1 1) ∷ [])) ≡ ping_to setting.network (at 1 1) (cookie_of 1 1 2) ∷ []
unfolding packet_of header_at address_at header_bytes address_bytes
pinged_after_ten = refl

-- a word by the node from somebody who never registered doesn't let in
pub node_overheard : clients setting (says (from 1 1) ∷ []) ≡ []
unfolding packet_of header_at address_at header_bytes address_bytes
node_overheard = refl

-- nor does one by the node from before
pub former_proves_nothing : clients setting (says_as (at 1 1) broadcast (from 1 1) ∷ registers (from 1 1) ∷ []) ≡ []
unfolding packet_of header_at address_at header_bytes address_bytes
former_proves_nothing = refl

-- which isn't answered by a ping either, while he is remembered
pub former_is_not_pinged : own setting (says_as (at 1 1) broadcast (from 1 1) ∷ registers (from 1 1) ∷ []) ≡ []
unfolding packet_of header_at address_at header_bytes address_bytes
former_is_not_pinged = refl

-- but is, if he isn't
pub former_is_pinged : own setting (says_as (at 1 1) broadcast (from 1 1) ∷ []) ≡ ping_to setting.network (at 1 1) (cookie_of 1 1 2) ∷ []
unfolding packet_of header_at address_at header_bytes address_bytes
former_is_pinged = refl

-- and he comes in by his answer, under that node
pub former_answers : receivers setting (says (from 2 1) ∷ answers (from 2 1) ∷ answers_as (at 1 1) (from 1 1) ∷ []) ≡ at 1 1 ∷ []
unfolding packet_of header_at address_at header_bytes address_bytes
former_answers = refl

-- the node of another place lets nobody in
pub node_of_another : clients setting (says_as (node_of 2 1) broadcast (from 1 1) ∷ registers (from 1 1) ∷ []) ≡ []
unfolding packet_of header_at address_at header_bytes address_bytes
node_of_another = refl

-- three have come, and there is no room for a fourth
pub full : clients setting (says (from 3 1) ∷ registers (from 3 1) ∷ three) ≡ with 1 1 30 ∷ with 1 2 30 ∷ with 2 1 30 ∷ []
unfolding packet_of header_at address_at header_bytes address_bytes
full = refl

-- his registration isn't answered
pub full_is_silent : own setting (registers (from 3 1) ∷ three) ≡ []
unfolding packet_of header_at address_at header_bytes address_bytes
full_is_silent = refl

-- nor is he remembered
pub full_forgets : waiting setting (registers (from 3 1) ∷ three) ≡ []
unfolding packet_of header_at address_at header_bytes address_bytes
full_forgets = refl

-- one who is there may register again
pub registers_again : own setting (registers (from 2 1) ∷ three) ≡ answer_to setting (at 2 1) (node_of 2 1) ∷ []
unfolding packet_of header_at address_at header_bytes address_bytes
registers_again = refl

-- unless he is there under another node
pub other_node_refused : own setting (registers (from 1 1) ∷ answers_as (at 1 1) (from 1 1) ∷ []) ≡ []
unfolding packet_of header_at address_at header_bytes address_bytes
other_node_refused = refl

-- whoever may not register says nothing
pub too_many_strangers : own setting (registers (crowded 1 1) ∷ []) ≡ []
unfolding packet_of header_at address_at header_bytes address_bytes
too_many_strangers = refl

-- a registration lets nobody in, not even who is trusted
pub trusted_registers : clients setting (registers (trusted 1 1) ∷ []) ≡ []
unfolding packet_of header_at address_at header_bytes address_bytes
trusted_registers = refl

-- his first word does, by either node
pub trusted_speaks : receivers setting (says (from 2 1) ∷ answers (from 2 1) ∷ says_as (at 1 1) broadcast (trusted 1 1) ∷ []) ≡ at 1 1 ∷ []
unfolding packet_of header_at address_at header_bytes address_bytes
trusted_speaks = refl

-- a packet that is cut off says nothing
pub cut_off : clients setting (Datagram (trusted 1 1) (0xff ∷ 0xff ∷ 0 ∷ 30 ∷ []) ∷ []) ≡ []
unfolding packet_of header_at address_at header_bytes address_bytes
cut_off = refl
