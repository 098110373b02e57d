-- The ports that are up where outsiders are drawn in: ours as they are, and all of the outsiders'.
use Rattle.std.proofs.Common.{◌≡◌, refl, ℕ, ◌<◌, nat_lt, Bool, true, false, if◌then◌else◌, List, length}
use Rattle.std.specs.List.{AllByRecursion}
use Rattle.std.proofs.lemmas.Bool.{lt-ltb}
use Rattle.ipx_router.specs.History.{History}
use Rattle.ipx_router.specs.Port.{numbers}
use Rattle.ipx_router.proofs.port_values.PortOfEachNumber.{numbers_below}
use Rattle.ipx_internet.specs.Internet.{Internet, ports_of}
use Rattle.ipx_laws.specs.Outsiders.{ups_with}
use Rattle.ipx_laws.specs.Ups.{ups}
use Rattle.ipx_laws.proofs.tables.LeastWays.{ups_within}

module _ (net : Internet) (ours : ℕ) (histories : List History) where
  -- they are ports
  pub with_within : (router : ℕ) → AllByRecursion (λ j. j < length (ports_of net router)) (ups_with net ours histories router)
  with_within router = by (nat_lt router ours)
    where
      by : (c : Bool) → AllByRecursion (λ j. j < length (ports_of net router)) (if c then ups net histories router else numbers (length (ports_of net router)))
      by true = ups_within net histories router
      by false = numbers_below (length (ports_of net router))

  -- those of ours are as they are
  pub ours_up : (router : ℕ) → router < ours → ups net histories router ≡ ups_with net ours histories router
  ours_up router mine = let less = lt-ltb router ours mine in rw less refl
