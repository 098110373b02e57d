use Rattle.ipx_recording.proofs.Packets.{packet_read}
use Rattle.ipx_recording.proofs.Whole.{file_read, section_read, interface_read, other_read}
use Rattle.ipx_recording.proofs.laws.blocks.Goals as goal

pub returns-clause-file : goal.returns-clause-file
returns-clause-file c = file_read

pub returns-clause-section : goal.returns-clause-section
returns-clause-section c = λ order other interfaces n block rest. section_read order interfaces n rest other block

pub returns-clause-interface : goal.returns-clause-interface
returns-clause-interface c = λ order interfaces n i block rest. interface_read order interfaces n rest i block

pub returns-clause-packet : goal.returns-clause-packet
returns-clause-packet c = λ order interfaces n link wire bytes block rest. packet_read order interfaces n rest link wire bytes block

pub returns-clause-other : goal.returns-clause-other
returns-clause-other c = λ order interfaces n block rest. other_read order interfaces n rest block
