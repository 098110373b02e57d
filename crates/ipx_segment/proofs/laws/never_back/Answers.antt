use Rattle.std.proofs.Common.{◌≡◌, ◌∙◌, refl, Bool, true, false, ◌&&◌, ◌==◌, not, if◌then◌else◌, ℕ, List, [], ◌∷◌, Some}
use Rattle.std.proofs.lemmas.Bool.{eq-eqb}
use Rattle.ipx_segment.specs.Nodes.{same_node}
use Rattle.ipx_segment.specs.Events.{Heard}
use Rattle.ipx_segment.specs.Links.{is_up, link_at, links}
use Rattle.ipx_segment.specs.Stations.{stations}
use Rattle.ipx_segment.specs.Receivers.{sought, is_towards, links_for, takes}
use Rattle.ipx_segment.specs.Laws.{copies}
use Rattle.ipx_segment.proofs.Ways.{meant}
use Rattle.ipx_segment.proofs.Standing.{links_long}
use Rattle.ipx_segment.proofs.laws.never_back.Goals as goal

none_back : (own up back towards : Bool) → back ≡ true
    → ◌≡◌ {A = ℕ} (if not own && (up && not back && towards) then 1 else 0) 0
none_back true up back towards is = refl
none_back false true true towards is = refl
none_back false true false towards is = cc
none_back false false back towards is = refl

if_taken : (link : ℕ) (taken : Bool) (to : List ℕ) → copies link to ≡ 0 → copies link (if taken then to else []) ≡ 0
if_taken link true to is = is
if_taken link false to is = refl

pub returns : goal.returns
returns c = λ setting history came source destination.
    let after = Heard came source destination ∷ history in
    let ls = links setting after in
    let xs = stations setting after in
    if_taken came (takes setting after) (links_for setting ls xs (Some came) destination)
    (meant setting ls xs (Some came) (links_long setting after) destination came
    ∙ none_back (same_node destination setting.node) (is_up (link_at came ls)) (came == came) (is_towards (sought destination xs) came) (eq-eqb came came refl))
