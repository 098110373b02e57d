-- What is sent on, over the bytes that came.
use Rattle.std.proofs.Common.{◌≡◌, ℕ, ◌+◌, ◌*◌, ◌≤◌, ◌<◌, List, [], ◌∷◌, ◌++◌, length, take, drop, replicate, refl, sym, ap, ◌∙◌, arith, append_assoc, length-append, take-add, take-take}
use Rattle.std.proofs.lemmas.List.{take_at, drop_at, drop-drop}
use Rattle.std.specs.Int.{to_be_bytes, w16}
use Rattle.ipx_wire.specs.Address.{IsAddress, address_bytes}
use Rattle.ipx_wire.specs.Crossed.{network_bytes}
use Rattle.ipx_wire.specs.Forward.{forwarded, propagated}
use Rattle.ipx_wire.specs.Header.{header_bytes}
use Rattle.ipx_wire.specs.Packet.{Parts, IsPacket}
use Rattle.ipx_wire.specs.Piece.{piece}
use Rattle.ipx_wire.specs.Write.{packet_bytes}
use Rattle.ipx_wire.specs.declared.address.Address.{Address}
use Rattle.ipx_wire.specs.declared.network.Network.{Network}
use Rattle.ipx_wire.proofs.Headers.{length-header_bytes, length-address_bytes}
use Rattle.ipx_wire.proofs.Pieces.{front_of_front}

-- a packet's bytes are the front of those that it was read from, as many as its length says
pub packet_front : (bytes : List ℕ) (p : Parts) → IsPacket bytes p → packet_bytes p ≡ take p.header.length bytes
packet_front bytes p is =
    let size = length-header_bytes p.header is.header.destination.node is.header.source.node in
    let counted = is.counted in
    let whole : length (packet_bytes p) ≡ p.header.length = omega (arith, length-append (header_bytes p.header) p.payload, size, counted) in
    sym (ap (take p.header.length) is.layout ∙ take_at (packet_bytes p) is.padding p.header.length whole)

-- one byte of a packet's own bytes is another
pub forwarded_whole : (p : Parts) → packet_bytes (forwarded p) ≡ take 4 (packet_bytes p) ++ (p.header.control + 1) ∷ drop 5 (packet_bytes p)
unfolding header_bytes
forwarded_whole p = refl

-- a forwarded packet is what came, but for its fifth byte
pub forwarded_bytes : (bytes : List ℕ) (p : Parts) → IsPacket bytes p → p.header.control < 255
    → packet_bytes (forwarded p) ≡ take 4 bytes ++ (p.header.control + 1) ∷ drop 5 (take p.header.length bytes)
forwarded_bytes bytes p is below =
    let n = p.header.length in
    let counted = is.counted in
    forwarded_whole p
    ∙ ap (λ (x : List ℕ). take 4 x ++ (p.header.control + 1) ∷ drop 5 x) (packet_front bytes p is)
    ∙ ap (λ (x : List ℕ). x ++ (p.header.control + 1) ∷ drop 5 (take n bytes)) (take-take 4 n bytes (omega arith))

-- a change within data is one within what stands before them and the data
spread : (q payload new : List ℕ) (m i j : ℕ) → length q ≡ m
    → q ++ (take i payload ++ new ++ drop j payload) ≡ take (m + i) (q ++ payload) ++ new ++ drop (m + j) (q ++ payload)
spread q payload new m i j size = grind (arith, take-add, take_at, drop_at, drop-drop, append_assoc)

-- what stands between the network of the destination and the data
abbrev between : Address → Address → List ℕ
between to from = to.node.0 ++ to_be_bytes w16 to.socket.0 ++ address_bytes from

length-between : (to from : Address) → IsAddress to → IsAddress from → length (between to from) ≡ 20
length-between to from to_is from_is = grind (arith, length-append, length-address_bytes)

-- what a propagated packet is, over the bytes of the packet that came
abbrev pub changed : ℕ → Network → Network → List ℕ → List ℕ
changed control arrived outgoing whole =
    replicate 2 0xff ++ piece whole 2 2 ++ (control + 1) ∷ piece whole 5 1 ++ network_bytes outgoing
    ++ piece whole 10 (20 + 4 * control) ++ network_bytes arrived ++ drop (34 + 4 * control) whole

-- the same, where the transport control was written by itself
pub changed_whole : (control : ℕ) (arrived outgoing : Network) (whole : List ℕ)
    → replicate 2 0xff ++ piece whole 2 2 ++ ((control + 1) ∷ []) ++ piece whole 5 1 ++ network_bytes outgoing
    ++ piece whole 10 (20 + 4 * control) ++ network_bytes arrived ++ drop (34 + 4 * control) whole ≡ changed control arrived outgoing whole
changed_whole control arrived outgoing whole =
    ap (λ (x : List ℕ). x ++ network_bytes outgoing ++ piece whole 10 (20 + 4 * control) ++ network_bytes arrived ++ drop (34 + 4 * control) whole)
    (append_assoc (replicate 2 0xff ++ piece whole 2 2) ((control + 1) ∷ []) (piece whole 5 1))

-- the changed places of a packet's own bytes
pub propagated_whole : (p : Parts) (arrived outgoing : Network) → IsAddress p.header.destination → IsAddress p.header.source
    → packet_bytes (propagated arrived outgoing p) ≡ changed p.header.control arrived outgoing (packet_bytes p)
unfolding header_bytes address_bytes network_bytes
propagated_whole p arrived outgoing to from =
    let control = p.header.control in
    let q = between p.header.destination p.header.source in
    let front = replicate 2 0xff ++ piece (packet_bytes p) 2 2 ++ (control + 1) ∷ piece (packet_bytes p) 5 1 ++ network_bytes outgoing in
    let later : 20 + (4 * control + 4) ≡ 24 + 4 * control = omega arith in
    let last : 10 + (24 + 4 * control) ≡ 34 + 4 * control = omega arith in
    ap (λ (x : List ℕ). front ++ x)
    (spread q p.payload (network_bytes arrived) 20 (4 * control) (4 * control + 4) (length-between p.header.destination p.header.source to from)
    ∙ ap (λ (k : ℕ). take (20 + 4 * control) (q ++ p.payload) ++ network_bytes arrived ++ drop k (q ++ p.payload)) later
    ∙ ap (λ (x : List ℕ). take (20 + 4 * control) (q ++ p.payload) ++ network_bytes arrived ++ x)
    (drop-drop (24 + 4 * control) 10 (packet_bytes p) ∙ ap (λ (k : ℕ). drop k (packet_bytes p)) last))

-- a propagated packet is what came, but for checksum, transport control, the network of its destination and one network of its data
pub propagated_bytes : (bytes : List ℕ) (p : Parts) (arrived outgoing : Network) → IsPacket bytes p → p.header.control < 8 → 32 ≤ length p.payload
    → packet_bytes (propagated arrived outgoing p)
    ≡ replicate 2 0xff ++ piece bytes 2 2 ++ (p.header.control + 1) ∷ piece bytes 5 1 ++ network_bytes outgoing
    ++ piece bytes 10 (20 + 4 * p.header.control) ++ network_bytes arrived ++ drop (34 + 4 * p.header.control) (take p.header.length bytes)
propagated_bytes bytes p arrived outgoing is free eight =
    let n = p.header.length in
    let control = p.header.control in
    let counted = is.counted in
    propagated_whole p arrived outgoing is.header.destination is.header.source
    ∙ ap (changed control arrived outgoing) (packet_front bytes p is)
    ∙ ap (λ (x : List ℕ). replicate 2 0xff ++ x ++ (control + 1) ∷ piece (take n bytes) 5 1 ++ network_bytes outgoing
    ++ piece (take n bytes) 10 (20 + 4 * control) ++ network_bytes arrived ++ drop (34 + 4 * control) (take n bytes))
    (front_of_front 2 2 n bytes (omega arith))
    ∙ ap (λ (x : List ℕ). replicate 2 0xff ++ piece bytes 2 2 ++ (control + 1) ∷ x ++ network_bytes outgoing
    ++ piece (take n bytes) 10 (20 + 4 * control) ++ network_bytes arrived ++ drop (34 + 4 * control) (take n bytes))
    (front_of_front 5 1 n bytes (omega arith))
    ∙ ap (λ (x : List ℕ). replicate 2 0xff ++ piece bytes 2 2 ++ (control + 1) ∷ piece bytes 5 1 ++ network_bytes outgoing
    ++ x ++ network_bytes arrived ++ drop (34 + 4 * control) (take n bytes))
    (front_of_front 10 (20 + 4 * control) n bytes (omega arith))
