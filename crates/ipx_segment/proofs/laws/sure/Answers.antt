use Rattle.std.proofs.Common.{◌≡◌, ◌∙◌, refl, ap, ◌&&◌, Bool, true, if◌then◌else◌, ◌||◌, [], ◌∷◌, ℕ, Some}
use Rattle.std.proofs.lemmas.Bool.{eq-eqb}
use Rattle.ipx_wire.specs.declared.node.Node.{Node}
use Rattle.ipx_segment.specs.declared.setting.Setting.{Setting}
use Rattle.ipx_segment.specs.Nodes.{same_node, broadcast}
use Rattle.ipx_segment.specs.Events.{Heard, Comes, History}
use Rattle.ipx_segment.specs.Links.{links}
use Rattle.ipx_segment.specs.Stations.{is_at, station_of, stations, sure_at}
use Rattle.ipx_segment.specs.Receivers.{links_for}
use Rattle.ipx_segment.specs.Laws.{CameLast}
use Rattle.ipx_segment.proofs.Coming.{came_there, came_known, uncounted, sure_through}
use Rattle.ipx_segment.proofs.Own.{one_known}
use Rattle.ipx_segment.proofs.Standing.{own}
use Rattle.ipx_segment.proofs.laws.sure.Goals as goal

-- what is known of a node that came
still : (setting : Setting) (history : History) (node : Node) (link : ℕ) → CameLast setting node link history
    → station_of node (stations setting history) ≡ Some (sure_at link node)
still setting history node link came =
    let base = Comes link node ∷ came.earlier in
    let start = came_known setting node link came.earlier came.share came.sure came.ordinary came.room in
    let all = sure_through setting node link came.share came.later base came.others came.sure start in
    one_known node (stations setting history) (sure_at link node) (ap (own setting node) came.event ∙ all.1)

pub returns-clause-known : goal.returns-clause-known
returns-clause-known c = λ setting history node link came.
    ap (is_at link) (still setting history node link came) ∙ eq-eqb link link refl

pub returns-clause-room : goal.returns-clause-room
returns-clause-room c = λ setting history node link share sure ordinary room.
    ap (is_at link) (one_known node (stations setting (Comes link node ∷ history)) (sure_at link node) (came_there setting node link history share true sure ordinary room))
    ∙ eq-eqb link link refl

pub returns-clause-honest : goal.returns-clause-honest
returns-clause-honest c = λ setting history node link came place destination apart.
    uncounted setting node link (links setting history) (stations setting history) place (still setting history node link came) apart

pub returns-clause-nowhere : goal.returns-clause-nowhere
returns-clause-nowhere c = λ setting history came source destination uncounted_now.
    let after = Heard came source destination ∷ history in
    ap (λ (b : Bool). if b then links_for setting (links setting after) (stations setting after) (Some came) destination else []) uncounted_now

pub returns-clause-unheard : goal.returns-clause-unheard
returns-clause-unheard c = λ setting history came source destination uncounted_now.
    ap (λ (b : Bool). b && (same_node destination setting.node || same_node destination broadcast)) uncounted_now
