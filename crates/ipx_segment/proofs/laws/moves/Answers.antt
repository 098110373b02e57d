use Rattle.std.proofs.Common.{◌∷◌}
use Rattle.ipx_segment.specs.Events.{Heard}
use Rattle.ipx_segment.specs.Numbers.{station_lasts}
use Rattle.ipx_segment.proofs.Standing.{own}
use Rattle.ipx_segment.proofs.Staying.{at_heard, at_known, heard_in_room, heard_then, known_nowhere}
use Rattle.ipx_segment.proofs.laws.moves.Goals as goal

pub returns-clause-there : goal.returns-clause-there
returns-clause-there c = λ setting history node destination link share cable counted room.
    let after = Heard link node destination ∷ history in
    at_known setting node link station_lasts after
    (at_heard setting node link (own setting node after) (heard_in_room setting node link destination history share cable counted room))

pub returns-clause-nowhere_else : goal.returns-clause-nowhere_else
returns-clause-nowhere_else c = λ setting history node destination link share other cable counted apart.
    known_nowhere setting node link other (Heard link node destination ∷ history) apart (heard_then setting node link destination history share cable counted)
