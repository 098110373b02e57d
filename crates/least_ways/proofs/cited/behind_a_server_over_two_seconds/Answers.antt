use Rattle.std.proofs.Common.{◌≡◌, refl, sym, subst, ℕ, ◌+◌, ◌-◌, ◌*◌, ◌≤◌, [], length, Option, Some, arith}
use Rattle.ipx_laws.specs.InTime.{beats_right}
use Rattle.ipx_laws.specs.Least.{Way}
use Rattle.least_ways.proofs.cited.behind_a_server_over_two_seconds.Goals as goal

-- a router's least way says how many beats it takes
enough : (way : Option Way) (w : Way) (n : ℕ) → way ≡ Some w → 2910 + w.hops * 125 ≤ n → beats_right 2 123 way ≤ n
enough way w n is long = subst (λ (o : Option Way). beats_right 2 123 o ≤ n) (sym is) long

pub returns : goal.returns
returns c net most_routes most_services histories beats router network way is differ few cheap room are stopped beat leaves say quick routers outsiders mine
    least long =
    c.right_with_outsiders_on_wires.ensures.tables net most_routes most_services 2 123 (length net - 1) [] histories beats router network
    (is, differ, c.right_with_outsiders.ensures.few_routers net (length net - 1) histories network is few, cheap, room, are, stopped, refl)
    beat leaves say quick routers outsiders (omega (arith, mine)) mine (enough _ way (length beats) least long)
