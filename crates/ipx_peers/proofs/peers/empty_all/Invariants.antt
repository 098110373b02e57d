use Rattle.ipx_peers.specs.Memory.{no_peer}
use Rattle.ipx_peers.proofs.Lists.{MapsInPlace}
use Rattle.ipx_peers.proofs.peers.empty_all.Given as goal

abbrev pub invariant-loop-place : goal.invariant-loop-place
invariant-loop-place l = MapsInPlace (λ _. no_peer) l.initial.places l.places l.place-index
