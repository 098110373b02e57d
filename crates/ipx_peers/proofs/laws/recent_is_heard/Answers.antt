use Rattle.ipx_peers.proofs.Recent.{known_heard, new_heard}
use Rattle.ipx_peers.proofs.laws.recent_is_heard.Goals as goal

pub returns-clause-known : goal.returns-clause-known
returns-clause-known c = λ history opened some others counted echoes are unheard near. known_heard history opened some others counted echoes are unheard near

pub returns-clause-new : goal.returns-clause-new
returns-clause-new c = λ history opened counted echoes none room. new_heard history opened counted echoes none room
