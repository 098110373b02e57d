use Rattle.std.proofs.Common.{◌≡◌, length}
use Rattle.ipx_settings.specs.Cutting.{parts, colon}
use Rattle.ipx_settings.specs.Hosts.{no_groups, groups_from}
use Rattle.ipx_settings.proofs.hosts.read_groups.Given as goal

abbrev pub invariant-loop-part : goal.invariant-loop-part
invariant-loop-part l = groups_from no_groups (parts colon l.fn.text) ≡ groups_from l.found (parts colon l.rest)

abbrev pub decreases-loop-part : goal.decreases-loop-part
decreases-loop-part l = length l.rest
