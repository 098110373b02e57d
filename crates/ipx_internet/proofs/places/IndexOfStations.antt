-- The stations of an internet: what one more changes, and that the index of an internet stays that of the internet.
use Rattle.std.proofs.Common.{◌≡◌, refl, sym, subst, arith, ℕ, ◌≤◌, ◌==◌, ◌∷◌, ◌++◌, [], if◌then◌else◌, ◌⊎◌, List, length, leb}
use Rattle.std.specs.List.{insert}
use Rattle.ipx_wire.specs.declared.network.Network.{Network}
use Rattle.ipx_internet.specs.inside.Stations.{stations_on, IsIndex}
use Rattle.ipx_internet.specs.declared.stations.Station.{Station}
use Rattle.ipx_internet.proofs.lists.SortedByNumber.{IsPoint, stays_sorted, put_is, still_few, still_full}

-- without stations the most on a network is none
pub index_none : (list : List Station) → list ≡ [] → IsIndex list 0
index_none list none = subst (λ (ss : List Station). IsIndex ss 0) (sym none) (record {
  sorted = λ i j d up less. absurd (omega (arith, less));
  few = λ network. omega arith;
  fullest = record { 0 = 0 };
  full = refl;
})

-- one more station, behind those on its network
module _ (list : List Station) (place : ℕ) (s : Station) (point : IsPoint (λ x. leb x.network.0 s.network.0) list place) (within : place ≤ length list) where
  abbrev number : Station → ℕ
  number x = x.network.0

  pub on_networks : (network : Network) → stations_on (insert list place s) network
      ≡ (if s.network.0 == network.0 then stations_on list network ++ s ∷ [] else stations_on list network)
  on_networks network = put_is number list place s point within network.0

  pub index_put : (old new : ℕ) → IsIndex list old → old ≤ new → length (stations_on (insert list place s) s.network) ≤ new
      → (new ≡ old) ⊎ (new ≡ length (stations_on (insert list place s) s.network)) → IsIndex (insert list place s) new
  index_put old new index more last either = let some = still_full number list place s point within old new index.fullest.0 index.full last either in record {
    sorted = stays_sorted number list place s point within index.sorted;
    few = λ network. still_few number list place s point within old new more (λ n. index.few (record { 0 = n })) last network.0;
    fullest = record { 0 = some.0 };
    full = some.1;
  }
