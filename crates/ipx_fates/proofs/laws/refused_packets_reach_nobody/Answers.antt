use Rattle.std.proofs.Common.{ap, not}
use Rattle.ipx_fates.proofs.Nowhere.{refused_frames, refused_words, unheard_datagrams, unheard_of_several, unheard_of_one}
use Rattle.ipx_fates.proofs.laws.refused_packets_reach_nobody.Goals as goal

pub returns-clause-frame : goal.returns-clause-frame
returns-clause-frame c = λ told why because. ap not (refused_frames told why because)

pub returns-clause-word : goal.returns-clause-word
returns-clause-word c = λ told why because. ap not (refused_words told why because)

pub returns-clause-router_datagram : goal.returns-clause-router_datagram
returns-clause-router_datagram c = λ told why because. ap not (unheard_datagrams told why because)

pub returns-clause-router_several : goal.returns-clause-router_several
returns-clause-router_several c = λ told why several because. ap not (unheard_of_several told why several because)

pub returns-clause-router_one : goal.returns-clause-router_one
returns-clause-router_one c = λ told why whole because. ap not (unheard_of_one told why whole because)
