use Rattle.ipx_fates.proofs.Happened.{heard_frame, heard_datagram, handed_frame, handed_datagram}
use Rattle.ipx_fates.proofs.laws.fates_say_what_happened.Goals as goal

pub returns-clause-heard_frame : goal.returns-clause-heard_frame
returns-clause-heard_frame c = λ told fate is good. heard_frame told fate is good

pub returns-clause-heard_datagram : goal.returns-clause-heard_datagram
returns-clause-heard_datagram c = λ told fate is good. heard_datagram told fate is good

pub returns-clause-handed_frame : goal.returns-clause-handed_frame
returns-clause-handed_frame c = λ told fate is good. handed_frame told fate is good

pub returns-clause-handed_datagram : goal.returns-clause-handed_datagram
returns-clause-handed_datagram c = λ told fate is good. handed_datagram told fate is good
