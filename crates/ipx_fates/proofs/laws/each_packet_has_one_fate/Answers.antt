use Rattle.ipx_fates.proofs.Ends.{frame_ends}
use Rattle.ipx_fates.proofs.EndsOfDatagrams.{datagram_ends}
use Rattle.ipx_fates.proofs.Somewhere.{some_frame, some_datagram}
use Rattle.ipx_fates.proofs.laws.each_packet_has_one_fate.Goals as goal

pub returns-clause-frame : goal.returns-clause-frame
returns-clause-frame c = λ told. frame_ends told

pub returns-clause-datagram : goal.returns-clause-datagram
returns-clause-datagram c = λ told. datagram_ends told

pub returns-clause-some_frame : goal.returns-clause-some_frame
returns-clause-some_frame c = λ told. some_frame told

pub returns-clause-some_datagram : goal.returns-clause-some_datagram
returns-clause-some_datagram c = λ told. some_datagram told
