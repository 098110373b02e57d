-- What an event of one router changes: the seconds that it had, and its history.
use Rattle.std.proofs.Common.{◌≡◌, ◌≢◌, ℕ, ◌+◌, ◌<◌, List, ◌∷◌, ◌++◌, length, [], arith, get_or-set_same, get_or-set_other}
use Rattle.std.proofs.lemmas.Bool.{cases_eq}
use Rattle.ipx_router.specs.History.{Event, History}
use Rattle.ipx_internet.specs.Queue.{history_of, with_event}
use Rattle.ipx_internet.specs.Run.{Step, Happens}
use Rattle.ipx_internet.specs.Ticks.{seconds_of}
use Rattle.ipx_laws.proofs.records.RecordsGrowOld.{passed}

pub passed_more : (event : Event) (had : ℕ) → passed event had ≡ passed event 0 + had
passed_more event had = grind arith

pub own_seconds : (router : ℕ) (event : Event) (rest : List Step) → seconds_of router (Happens router event ∷ rest) ≡ passed event 0 + seconds_of router rest
own_seconds router event rest = grind arith

-- the histories of all routers, where one had an event
pub each_so : (P : ℕ → History → Type 0) (histories : List History) (router : ℕ) (event : Event) → router < length histories → (other : ℕ)
    → (other ≡ router → P router (history_of histories router ++ event ∷ [])) → (other ≢ router → P other (history_of histories other))
    → P other (history_of (with_event histories router event) other)
each_so P histories router event listed other here elsewhere = grind (arith, cases_eq, get_or-set_same, get_or-set_other)
