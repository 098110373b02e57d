use Rattle.ipx_recording.proofs.Parts.{taken, refused, ended}
use Rattle.ipx_recording.proofs.laws.whatever_pieces.Goals as goal

pub returns-clause-taken : goal.returns-clause-taken
returns-clause-taken c = taken

pub returns-clause-refused : goal.returns-clause-refused
returns-clause-refused c = refused

pub returns-clause-ended : goal.returns-clause-ended
returns-clause-ended c = ended
