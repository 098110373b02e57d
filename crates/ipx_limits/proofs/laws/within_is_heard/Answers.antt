use Rattle.ipx_limits.proofs.WithinParts.{within_heard, little_heard}
use Rattle.ipx_limits.proofs.laws.within_is_heard.Goals as goal

pub returns-clause-within : goal.returns-clause-within
returns-clause-within c = λ line speak speak_to new events to number bytes used run has wide own same is.
    within_heard line speak_to speak has wide new events to number bytes used run own same is

pub returns-clause-little : goal.returns-clause-little
returns-clause-little c = λ line speak speak_to new events to number bytes used run has wide own same is.
    little_heard line speak_to speak has wide new events to number bytes used run own same is
