-- Ports of which no two are on one network.
use Rattle.std.proofs.Common.{◌≡◌, ◌≢◌, sym, ap, ◌∙◌, ℕ, zero, suc, ◌<◌, ◌==◌, Bool, true, false, true≢false, List, [], ◌∷◌, drop, length, inl, inr, arith}
use Rattle.std.specs.List.{AllByRecursion, list_any}
use Rattle.std.proofs.lemmas.Bool.{cases_Bool, eq-eqb, eqb-true}
use Rattle.ipx_wire.specs.declared.network.Network.{Network}
use Rattle.ipx_router.specs.Port.{Port, AreApart, port_at}

-- one of the ports is on that network
abbrev pub has_network : List Port → Network → Bool
has_network ports network = list_any (λ p. p.network.0 == network.0) ports

none_has : (ports : List Port) (network : Network) → has_network ports network ≡ false → AllByRecursion (λ q. q.network ≢ network) ports
none_has [] network none = tt
none_has (p ∷ ports) network none = elim (cases_Bool (p.network.0 == network.0)) [
  | inl same ↦ absurd (true≢false (rw same at none))
  | inr other ↦ (
    λ (e : p.network ≡ network). true≢false (sym (eq-eqb p.network.0 network.0 (ap (λ (n : Network). n.0) e)) ∙ other),
    none_has ports network (rw other at none),
  )
]

some_has : (ports : List Port) (network : Network) → has_network ports network ≡ true → AllByRecursion (λ q. q.network ≢ network) ports → ⊥
some_has [] network some all = true≢false (sym some)
some_has (p ∷ ports) network some all = elim (cases_Bool (p.network.0 == network.0)) [
  | inl same ↦ all.0 (ap (λ n. record { 0 = n }) (eqb-true p.network.0 network.0 same))
  | inr other ↦ some_has ports network (rw other at some) all.1
]

-- where no port is on the network of one before it, they are apart
pub apart_from : (ports : List Port) → ((k : ℕ) → k < length ports → has_network (drop (suc k) ports) (port_at ports k).network ≡ false) → AreApart ports
apart_from [] none = tt
apart_from (p ∷ ports) none = (none_has ports p.network (none zero (omega arith)), apart_from ports (λ k below. none (suc k) (omega (arith, below))))

-- and where one is, they aren't
pub not_apart : (ports : List Port) (k : ℕ) → k < length ports → has_network (drop (suc k) ports) (port_at ports k).network ≡ true → AreApart ports → ⊥
not_apart [] k below some apart = absurd (omega (arith, below))
not_apart (p ∷ ports) zero below some apart = some_has ports p.network some apart.0
not_apart (p ∷ ports) (suc k) below some apart = not_apart ports k (omega (arith, below)) some apart.1
