use Rattle.ipx_limits.specs.Limits.{of_clients}
use Rattle.ipx_limits.specs.Metered.{any}
use Rattle.ipx_limits.proofs.Limited.{at_most_of, paged_runs}
use Rattle.ipx_limits.proofs.laws.pages_are_few.Goals as goal

pub returns : goal.returns
returns c = λ limits clients old new events run fits.
    at_most_of (of_clients clients limits.pages) old.paged new.paged any events (paged_runs limits clients old new events run) fits
