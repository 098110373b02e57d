use Rattle.std.proofs.Common.{◌≡◌, refl, sym, subst, ℕ, ◌+◌, ◌-◌, ◌*◌, ◌≤◌, [], length, Option, Some, arith}
use Rattle.ipx_laws.specs.Least.{Way}
use Rattle.ipx_laws.specs.OutsidersInTime.{ticks_right_with}
use Rattle.least_ways.proofs.cited.behind_a_server.Goals as goal

-- a router's least way says how many ticks it takes
enough : (way : Option Way) (w : Way) (n : ℕ) → way ≡ Some w → 2880 + w.hops * 60 ≤ n → ticks_right_with way ≤ n
enough way w n is long = subst (λ (o : Option Way). ticks_right_with o ≤ n) (sym is) long

pub returns : goal.returns
returns c net most_routes most_services run first ticks router network way is differ few cheap room are stopped hosts say heard mine least long =
    c.right_with_outsiders.ensures.tables net most_routes most_services (length net - 1) [] run first ticks router network
    (is, differ, c.right_with_outsiders.ensures.few_routers net (length net - 1) run.histories network is few, cheap, room, are, stopped, refl)
    hosts say heard (omega (arith, mine)) mine (enough _ way (length ticks) least long)
