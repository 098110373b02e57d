use Rattle.std.proofs.Common.{◌≡◌, refl, Bool, true, false, ◌&&◌, if◌then◌else◌, ℕ, List, [], ◌∷◌, Some, None}
use Rattle.ipx_segment.specs.Events.{Heard}
use Rattle.ipx_segment.specs.Links.{links}
use Rattle.ipx_segment.specs.Stations.{stations}
use Rattle.ipx_segment.specs.Receivers.{is_meant, links_for, takes}
use Rattle.ipx_segment.specs.Laws.{copies}
use Rattle.ipx_segment.proofs.Ways.{meant}
use Rattle.ipx_segment.proofs.Standing.{links_long}
use Rattle.ipx_segment.proofs.laws.cable.Goals as goal

if_taken : (link : ℕ) (taken is_meant : Bool) (to : List ℕ) → copies link to ≡ (if is_meant then 1 else 0)
    → copies link (if taken then to else []) ≡ (if taken && is_meant then 1 else 0)
if_taken link true is_meant to is = is
if_taken link false is_meant to is = refl

pub returns-clause-heard : goal.returns-clause-heard
returns-clause-heard c = λ setting history came link source destination.
    let after = Heard came source destination ∷ history in
    if_taken link (takes setting after) (is_meant setting (links setting after) (stations setting after) (Some came) destination link)
    (links_for setting (links setting after) (stations setting after) (Some came) destination)
    (meant setting (links setting after) (stations setting after) (Some came) (links_long setting after) destination link)

pub returns-clause-sent : goal.returns-clause-sent
returns-clause-sent c = λ setting history link destination.
    meant setting (links setting history) (stations setting history) None (links_long setting history) destination link
