use Rattle.std.proofs.Common.{◌≡◌, length}
use Rattle.ipx_settings.specs.Cutting.{parts, dot}
use Rattle.ipx_settings.specs.Names.{are_labels}
use Rattle.ipx_settings.proofs.names.are_labels.Given as goal

abbrev pub invariant-loop-part : goal.invariant-loop-part
invariant-loop-part l = are_labels (parts dot l.fn.name) ≡ are_labels (parts dot l.rest)

abbrev pub decreases-loop-part : goal.decreases-loop-part
decreases-loop-part l = length l.rest
