use Rattle.ipx_settings.proofs.Spaces.{node_behind, three_put}
use Rattle.ipx_settings.proofs.writing_lines.put_network.Goals as goal

pub returns-in-Whole-clause-room : goal.returns-in-Whole-clause-room
returns-in-Whole-clause-room c =
    rw c.in-Whole.is
    (three_put _ _ _ _ _ _ _ _ c.put_maybe_linked-at.ensures.room c.put_text-at.ensures.room c.put_bytes.ensures.room (node_behind c.in-Whole.head c.in-Whole.link c.in-Whole.node))
