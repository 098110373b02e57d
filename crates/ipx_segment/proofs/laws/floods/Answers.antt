use Rattle.std.proofs.Common.{◌≡◌, ◌∙◌, refl, ap, ap₂, Bool, true, false, ◌&&◌, ◌==◌, not, if◌then◌else◌, ℕ, [], ◌∷◌, filter, Option, None, Some}
use Rattle.std.proofs.lemmas.List.Elements.{filter_agree}
use Rattle.ipx_wire.specs.declared.node.Node.{Node}
use Rattle.ipx_segment.specs.declared.station.Station.{Station}
use Rattle.ipx_segment.specs.declared.setting.Setting.{Setting}
use Rattle.ipx_segment.specs.Nodes.{same_node}
use Rattle.ipx_segment.specs.Events.{Heard, History}
use Rattle.ipx_segment.specs.Links.{is_up, link_at, links}
use Rattle.ipx_segment.specs.Stations.{stations}
use Rattle.ipx_segment.specs.Receivers.{numbers, sought, gets, links_for}
use Rattle.ipx_segment.specs.Laws.{link_after}
use Rattle.ipx_segment.proofs.laws.floods.Goals as goal

any_way : (up back : Bool) → (up && not back && true) ≡ (up && not back)
any_way true true = refl
any_way true false = refl
any_way false back = refl

never_back : (up : Bool) → (up && not false && true) ≡ up
never_back true = refl
never_back false = refl

-- a packet for all, or for a node that isn't known
to_all : (setting : Setting) (h : History) (came : Option ℕ) (destination : Node) → same_node destination setting.node ≡ false → sought destination (stations setting h) ≡ None
    → links_for setting (links setting h) (stations setting h) came destination ≡ filter (gets (links setting h) None came) (numbers setting.links)
to_all setting h came destination other unknown =
    ap₂ (λ (b : Bool) (o : Option Station). if b then [] else filter (gets (links setting h) o came) (numbers setting.links)) other unknown

pub returns-clause-heard : goal.returns-clause-heard
returns-clause-heard c = λ setting history came source destination counted other unknown.
    let after = Heard came source destination ∷ history in
    ap (λ (b : Bool). if b then links_for setting (links setting after) (stations setting after) (Some came) destination else []) counted
    ∙ to_all setting after (Some came) destination other unknown
    ∙ filter_agree (gets (links setting history) None (Some came)) (λ (l : ℕ). is_up (link_after setting l history) && not (l == came))
    (λ l. any_way (is_up (link_at l (links setting history))) (l == came)) (numbers setting.links)

pub returns-clause-sent : goal.returns-clause-sent
returns-clause-sent c = λ setting history destination other unknown.
    to_all setting history None destination other unknown
    ∙ filter_agree (gets (links setting history) None None) (λ (l : ℕ). is_up (link_after setting l history))
    (λ l. never_back (is_up (link_at l (links setting history)))) (numbers setting.links)
