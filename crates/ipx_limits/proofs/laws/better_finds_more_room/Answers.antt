use Rattle.ipx_limits.proofs.NarrowLine.{more_room}
use Rattle.ipx_limits.proofs.laws.better_finds_more_room.Goals as goal

pub returns : goal.returns
returns c = λ line rank other first. more_room line rank other first
