use Rattle.ipx_keyed.proofs.Due.{again, pinged, between, quiet}
use Rattle.ipx_keyed.proofs.laws.in_time.Goals as goal

pub returns-clause-again : goal.returns-clause-again
returns-clause-again c = λ setting earlier from bytes since r is. again setting earlier from bytes r since is

pub returns-clause-pinged : goal.returns-clause-pinged
returns-clause-pinged c = λ setting earlier from bytes since r when. pinged setting earlier from bytes r since when

pub returns-clause-between : goal.returns-clause-between
returns-clause-between c = λ setting earlier from bytes since r one seven few. between setting earlier from bytes r since one seven few

pub returns-clause-quiet : goal.returns-clause-quiet
returns-clause-quiet c = λ setting earlier from bytes since r few. quiet setting earlier from bytes r since few
