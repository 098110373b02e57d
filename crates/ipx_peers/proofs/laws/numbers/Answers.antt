use Rattle.std.proofs.Common.{◌≡◌, refl, true, ◌∷◌}
use Rattle.std.specs.List.{list_any}
use Rattle.ipx_peers.specs.Events.{Begins}
use Rattle.ipx_peers.specs.Places.{same}
use Rattle.ipx_peers.specs.Laws.{sessions}
use Rattle.ipx_peers.proofs.Deciding.{same_itself}
use Rattle.ipx_peers.proofs.Once.{number_rises, never_back}
use Rattle.ipx_peers.proofs.laws.numbers.Goals as goal

pub returns-clause-higher : goal.returns-clause-higher
returns-clause-higher c = λ later earlier goes_on some. number_rises later earlier goes_on some

pub returns-clause-session : goal.returns-clause-session
returns-clause-session c =
    λ later earlier own new is.
    let begun : list_any (same own) (sessions (Begins own ∷ earlier)) ≡ true = rw (same_itself own) refl in
    never_back own later (Begins own ∷ earlier) new begun is
