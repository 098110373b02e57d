use Rattle.std.proofs.Common.{◌≡◌, ◌-◌}
use Rattle.ipx_configuration.specs.Extends.{sockets_from}
use Rattle.ipx_configuration.specs.Lines.{words_from}
use Rattle.ipx_configuration.proofs.sockets.add_sockets.Given as goal

abbrev pub invariant-loop-number : goal.invariant-loop-number
invariant-loop-number l =
    sockets_from l.fn.sockets 1 (words_from l.text 1 l.read) ≡ sockets_from l.it l.number (words_from l.text l.number l.read)

abbrev pub decreases-loop-number : goal.decreases-loop-number
decreases-loop-number l = l.read - l.number
