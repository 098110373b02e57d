use Rattle.std.proofs.Common.{◌≡◌, sym, subst, ℕ, ◌+◌, ◌*◌, ◌≤◌, length, Option, Some}
use Rattle.ipx_laws.specs.InTime.{beats_right}
use Rattle.ipx_laws.specs.Least.{Way}
use Rattle.least_ways.proofs.cited.over_two_seconds.Goals as goal

pub returns-clause-gone : goal.returns-clause-gone
returns-clause-gone c net most_routes most_services = c.gone_on_wires.ensures.networks net most_routes most_services 2

pub returns-clause-announced : goal.returns-clause-announced
returns-clause-announced c net most_routes most_services = c.announced_on_wires.ensures.services net most_routes most_services 2

pub returns-clause-real : goal.returns-clause-real
returns-clause-real c net most_routes most_services = c.real_on_wires.ensures.apart net most_routes most_services 2

-- a router's least way says how many beats it takes
enough : (way : Option Way) (w : Way) (n : ℕ) → way ≡ Some w → 2910 + w.hops * 125 ≤ n → beats_right 2 123 way ≤ n
enough way w n is long = subst (λ (o : Option Way). beats_right 2 123 o ≤ n) (sym is) long

pub returns-clause-right : goal.returns-clause-right
returns-clause-right c net most_routes most_services histories beats router network way is are leaves says quick heard within least long =
    c.right_on_wires.ensures.tables net most_routes most_services 2 123 histories beats router network is are leaves says quick heard within
    (enough _ way (length beats) least long)
