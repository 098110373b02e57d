use Rattle.ipx_edge.proofs.Filters.{first, unnamed, denied}
use Rattle.ipx_edge.proofs.laws.first_decides.Goals as goal

pub returns-clause-first : goal.returns-clause-first
returns-clause-first c = first

pub returns-clause-unnamed : goal.returns-clause-unnamed
returns-clause-unnamed c = unnamed

pub returns-clause-denied : goal.returns-clause-denied
returns-clause-denied c = denied
