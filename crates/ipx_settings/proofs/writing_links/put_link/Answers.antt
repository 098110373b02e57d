use Rattle.ipx_settings.proofs.Spaces.{frames_behind, three_put}
use Rattle.ipx_settings.proofs.writing_links.put_link.Goals as goal

pub returns-in-Framed-clause-room : goal.returns-in-Framed-clause-room
returns-in-Framed-clause-room c =
    rw c.in-Framed.is
    (three_put _ _ _ _ _ _ _ _ c.put_end-at.ensures.room c.put_text-at-in-Framed.ensures.room c.put_frames.ensures.room (frames_behind c.in-Framed.end c.in-Framed.frames))
