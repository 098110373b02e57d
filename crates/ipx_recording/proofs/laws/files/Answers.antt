use Rattle.ipx_recording.proofs.Excluding.{no_block}
use Rattle.ipx_recording.proofs.Files.{whole_just, refused_just}
use Rattle.ipx_recording.proofs.laws.files.Goals as goal

pub returns-clause-whole : goal.returns-clause-whole
returns-clause-whole c = whole_just

pub returns-clause-refused : goal.returns-clause-refused
returns-clause-refused c = refused_just

pub returns-clause-first : goal.returns-clause-first
returns-clause-first c = no_block
