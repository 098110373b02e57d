use Rattle.ipx_settings.proofs.Spaces.{link_behind, three_put}
use Rattle.ipx_settings.proofs.writing_lines.put_linked.Goals as goal

pub returns-clause-room : goal.returns-clause-room
returns-clause-room c =
    three_put _ _ _ _ _ _ _ _ c.put_head-at.ensures.room c.put_text-at.ensures.room c.put_link.ensures.room (link_behind c.args.head c.args.link.now)
