use Rattle.ipx_cable.proofs.Places.{has_room}
use Rattle.ipx_cable.proofs.Staying.{known_now, stays_known}
use Rattle.ipx_cable.proofs.laws.heard_is_known.Goals as goal

pub returns-clause-now : goal.returns-clause-now
returns-clause-now c = λ hash history node kind index is_for_all counts no_other there. known_now hash history node kind index is_for_all counts no_other there

pub returns-clause-room : goal.returns-clause-room
returns-clause-room c = λ node stations free. has_room node stations free

pub returns-clause-later : goal.returns-clause-later
returns-clause-later c = λ hash later earlier node before is few. stays_known hash later earlier node before is few
