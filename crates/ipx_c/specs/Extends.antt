-- Broadcasts that are copied to another network, as C asks for them.
use Rattle.std.specs.Prelude.{ℕ, Bool, true, false, if◌then◌else◌, List, map}
use Rattle.ipx_wire.specs.declared.network.Network.{Network}
use Rattle.ipx_wire.specs.declared.socket.Socket.{Socket}
use Rattle.ipx_tunnel.specs.Extend.{is_extended, extended}

abbrev pub network_of : ℕ → Network
network_of number = record { 0 = number }

abbrev pub socket_of : ℕ → Socket
socket_of number = record { 0 = number }

-- yes or no, as a byte
abbrev pub flag : Bool → ℕ
flag true = 1
flag false = 0

-- bytes that came on a network, which names these sockets, are copied to others
abbrev pub is_copied : ℕ → List ℕ → List ℕ → Bool
is_copied network sockets bytes = is_extended (network_of network) (map socket_of sockets) bytes

-- what C has of them then: the copy for another network, or what they were
abbrev pub copy_after : ℕ → List ℕ → ℕ → List ℕ → List ℕ
copy_after network sockets to bytes = if is_copied network sockets bytes then extended (network_of to) bytes else bytes
