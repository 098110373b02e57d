use Rattle.std.proofs.Common.{◌∙◌, ap, Bool, ◌&&◌, ◌||◌}
use Rattle.ipx_tunnel.specs.Places.{same_node}
use Rattle.ipx_keyed.proofs.Counting.{capacity, share, once, once_named, none_own, none_all}
use Rattle.ipx_keyed.specs.Says.{node_in}
use Rattle.ipx_keyed.specs.Members.{is_remembered}
use Rattle.ipx_keyed.specs.Tables.{proves, waiting}
use Rattle.ipx_keyed.proofs.Entering.{comes_as}
use Rattle.ipx_keyed.proofs.laws.room.Goals as goal

pub returns-clause-capacity : goal.returns-clause-capacity
returns-clause-capacity c = λ setting history. capacity setting history

pub returns-clause-share : goal.returns-clause-share
returns-clause-share c = λ setting history place. share setting history place

pub returns-clause-place : goal.returns-clause-place
returns-clause-place c = λ setting history place. once setting history place

pub returns-clause-node : goal.returns-clause-node
returns-clause-node c = λ setting history node. once_named setting history node

pub returns-clause-others : goal.returns-clause-others
returns-clause-others c = λ setting history. (none_own setting history, none_all setting history)

pub returns-clause-answers : goal.returns-clause-answers
returns-clause-answers c = λ setting history from bytes node answers room.
    comes_as setting from bytes history node
    (ap (proves from (waiting setting history)) answers) (ap (node_in from) answers) room

pub returns-clause-trusted : goal.returns-clause-trusted
returns-clause-trusted c = λ setting history from bytes header speaks trusted room.
    comes_as setting from bytes history header.source.node
    (ap (proves from (waiting setting history)) speaks
    ∙ ap (λ (b : Bool). b || (same_node header.source.node from.node && is_remembered from.place from.node (waiting setting history))) trusted)
    (ap (node_in from) speaks) room
