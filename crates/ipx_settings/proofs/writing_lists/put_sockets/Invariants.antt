use Rattle.std.proofs.Common.{◌≡◌, ◌+◌, ◌*◌, ◌≤◌, ◌∷◌, ◌++◌, length, take, flat_map}
use Rattle.ipx_settings.specs.WritingLines.{socket_word}
use Rattle.ipx_settings.proofs.writing_lists.put_sockets.Given as goal

abbrev pub invariant-loop-socket : goal.invariant-loop-socket
invariant-loop-socket l =
    (take l.end l.room ≡ take l.initial.end l.initial.room ++ flat_map (λ socket. 32 ∷ socket_word socket) (take l.socket-index l.sockets))
    × (l.end ≤ l.initial.end + 5 * l.socket-index) × (length l.room ≡ length l.initial.room)
