use Rattle.std.proofs.Common.{◌≤◌, arith, ℕ, Bool, true, false, if◌then◌else◌, List, [], ◌∷◌, length, Some, None}
use Rattle.ipx_segment.specs.declared.setting.Setting.{Setting}
use Rattle.ipx_segment.specs.Events.{Changes, Heard, Comes, Leaves, Second, Sends, History}
use Rattle.ipx_segment.specs.Links.{links}
use Rattle.ipx_segment.specs.Stations.{stations}
use Rattle.ipx_segment.specs.Receivers.{links_for, takes, receivers}
use Rattle.ipx_segment.proofs.Ways.{few}
use Rattle.ipx_segment.proofs.Standing.{links_long}
use Rattle.ipx_segment.proofs.laws.bounded.Goals as goal

if_taken : (taken : Bool) (to : List ℕ) (n : ℕ) → length to ≤ n → length (if taken then to else []) ≤ n
if_taken true to n is = is
if_taken false to n is = omega arith

each : (setting : Setting) (history : History) → length (receivers setting history) ≤ setting.links
each setting [] = omega arith
each setting (Changes link to ∷ earlier) = omega arith
each setting (Heard came source destination ∷ earlier) =
    let after = Heard came source destination ∷ earlier in
    if_taken (takes setting after) (links_for setting (links setting after) (stations setting after) (Some came) destination) setting.links
    (few setting (links setting after) (stations setting after) (Some came) (links_long setting after) destination)
each setting (Comes link node ∷ earlier) = omega arith
each setting (Leaves link node ∷ earlier) = omega arith
each setting (Second ∷ earlier) = omega arith
each setting (Sends destination ∷ earlier) = few setting (links setting earlier) (stations setting earlier) None (links_long setting earlier) destination

pub returns : goal.returns
returns c = λ setting history. each setting history
