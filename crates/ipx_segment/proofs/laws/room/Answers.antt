use Rattle.ipx_segment.proofs.Filling.{capacity, share}
use Rattle.ipx_segment.proofs.Shares.{own_share}
use Rattle.ipx_segment.proofs.Standing.{once}
use Rattle.ipx_segment.proofs.laws.room.Goals as goal

pub returns-clause-capacity : goal.returns-clause-capacity
returns-clause-capacity c = λ setting history. capacity setting history

pub returns-clause-share : goal.returns-clause-share
returns-clause-share c = λ setting history link. share setting link history

pub returns-clause-shares : goal.returns-clause-shares
returns-clause-shares c = λ setting history node link fit less. own_share setting history node link fit less

pub returns-clause-once : goal.returns-clause-once
returns-clause-once c = λ setting history node. once setting history node
