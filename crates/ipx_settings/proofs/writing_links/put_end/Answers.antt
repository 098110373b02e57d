use Rattle.ipx_settings.proofs.Spaces.{card_behind, three_put}
use Rattle.ipx_settings.proofs.writing_links.put_end.Goals as goal

pub returns-in-Group-clause-room : goal.returns-in-Group-clause-room
returns-in-Group-clause-room c =
    rw c.in-Group.is
    (three_put _ _ _ _ _ _ _ _ c.put_text-at-in-Group.ensures.room c.put_address-at-in-Group.ensures.room c.put_card.ensures.room (card_behind c.in-Group.group c.in-Group.card))
