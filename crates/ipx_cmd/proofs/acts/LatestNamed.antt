-- The latest of the routers that were named.
use Rattle.std.proofs.Common.{◌≡◌, ℕ, suc, ◌-◌, List, [], ◌∷◌, ◌++◌, length, map, slice_get, Option, None, Some, is_some, refl, ap, ◌∙◌, arith}
use Rattle.std.proofs.lemmas.Bool.{true≢false}
use Rattle.std.proofs.lemmas.List.{map-append}
use Rattle.ipx_router.specs.Port.{Port}
use Rattle.ipx_internet.specs.Internet.{Internet}
use Rattle.ipx_cmd.specs.InternetMachine.{latest, with_port}

-- behind others
pub latest_is : (net : Internet) (ports : List Port) → latest (net ++ ports ∷ []) ≡ ports
latest_is [] ports = refl
latest_is (first ∷ []) ports = refl
latest_is (first ∷ other ∷ net) ports = latest_is (other ∷ net) ports

pub with_port_is : (net : Internet) (ports : List Port) (port : Port) → with_port (net ++ ports ∷ []) port ≡ net ++ (ports ++ port ∷ []) ∷ []
with_port_is [] ports port = refl
with_port_is (first ∷ []) ports port = refl
with_port_is (first ∷ other ∷ net) ports port = ap (λ (l : Internet). first ∷ l) (with_port_is (other ∷ net) ports port)

-- of routers that are seen in some way
pub latest_seen : {V : Type 0} (f : V → List Port) (front : List V) (last : V) → latest (map f (front ++ last ∷ [])) ≡ f last
latest_seen f front last = ap latest (map-append f front (last ∷ [])) ∙ latest_is (map f front) (f last)

-- the last one has one port more
pub with_port_seen : {V : Type 0} (f : V → List Port) (all front : List V) (last now : V) (port : Port) → all ≡ front ++ last ∷ [] → f now ≡ f last ++ port ∷ []
    → map f (front ++ now ∷ []) ≡ with_port (map f all) port
with_port_seen f all front last now port e more = grind (arith, map-append, with_port_is)

-- the last one, as it is found by its place
abbrev ports_got : {V : Type 0} (f : V → List Port) → Option V → List Port
ports_got f None = []
ports_got f (Some v) = f v

latest_got : {V : Type 0} (f : V → List Port) (first : V) (more : List V) → latest (map f (first ∷ more)) ≡ ports_got f (slice_get (first ∷ more) (length more))
latest_got f first [] = refl
latest_got f first (other ∷ more) = latest_got f other more

less_one : (n : ℕ) → suc n - 1 ≡ n
less_one n = omega (arith)

pub latest_at : {V : Type 0} (f : V → List Port) (all : List V) (last : V) → Some last ≡ slice_get all (length all - 1) → latest (map f all) ≡ f last
latest_at f [] last got = absurd (true≢false (ap is_some got))
latest_at f (first ∷ more) last got = grind (arith, latest_got, slice_get, less_one)
