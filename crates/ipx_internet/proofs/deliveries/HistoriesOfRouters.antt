-- Routers that each have a past have histories together.
use Rattle.std.proofs.Common.{◌≡◌, refl, ap, ◌∙◌, ℕ, zero, suc, List, [], ◌∷◌, length, map, Some, slice_get, arith}
use Rattle.std.specs.List.{AllByRecursion}
use Rattle.std.proofs.lemmas.List.{length-map}
use Rattle.ipx_router.specs.History.{History, IsOnPort, IsOfBytes}
use Rattle.ipx_router.specs.RouterOf.{HasPast}
use Rattle.ipx_router.specs.Stands.{State, StandsFor as RouterStandsFor}
use Rattle.ipx_internet.specs.Internet.{ports_of}
use Rattle.ipx_internet.specs.Moment.{Moment}
use Rattle.ipx_internet.specs.Passed.{HasHistories}
use Rattle.ipx_internet.specs.Queue.{history_of}
use Rattle.ipx_internet.proofs.lists.FoundInAList.{nothing}

module _ (most_routes most_services : ℕ) where
  abbrev Pasts : List State → Type 0
  Pasts routers = AllByRecursion (HasPast most_routes most_services) routers

  abbrev histories : (routers : List State) → Pasts routers → List History
  histories [] all = []
  histories (s ∷ routers) all = all.0.past ∷ histories routers all.1

  as_many : (routers : List State) (all : Pasts routers) → length (histories routers all) ≡ length (map (λ s. s.ports) routers)
  as_many [] all = refl
  as_many (s ∷ routers) all = ap suc (as_many routers all.1)

  on_ports : (routers : List State) (all : Pasts routers) (k : ℕ)
      → AllByRecursion (IsOnPort (ports_of (map (λ s. s.ports) routers) k)) (history_of (histories routers all) k)
  on_ports [] all k = tt
  on_ports (s ∷ routers) all zero = all.0.on_ports
  on_ports (s ∷ routers) all (suc k) = on_ports routers all.1 k

  of_bytes : (routers : List State) (all : Pasts routers) (k : ℕ) → AllByRecursion IsOfBytes (history_of (histories routers all) k)
  of_bytes [] all k = tt
  of_bytes (s ∷ routers) all zero = all.0.of_bytes
  of_bytes (s ∷ routers) all (suc k) = of_bytes routers all.1 k

  stand : (routers : List State) (all : Pasts routers) (k : ℕ) (s : State) → slice_get routers k ≡ Some s
      → RouterStandsFor most_routes most_services s (history_of (histories routers all) k)
  stand [] all k s there = nothing there
  stand (t ∷ routers) all zero s there = grind arith
  stand (t ∷ routers) all (suc k) s there = stand routers all.1 k s there

  pub have_histories : (m : Moment) → Pasts m.routers → HasHistories most_routes most_services m
  have_histories m all = record {
    histories = histories m.routers all;
    are = record { each = as_many m.routers all; on_ports = on_ports m.routers all; of_bytes = of_bytes m.routers all };
    stands = record {
      each = as_many m.routers all ∙ length-map m.routers (λ s. s.ports);
      routers = stand m.routers all;
      queue = refl;
    };
  }
