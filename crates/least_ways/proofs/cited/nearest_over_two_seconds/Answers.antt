use Rattle.std.proofs.Common.{◌≡◌, sym, subst, ℕ, suc, arith}
use Rattle.ipx_router.specs.History.{Packet}
use Rattle.ipx_internet.specs.Internet.{ports_of}
use Rattle.ipx_internet.specs.Queue.{sends_at}
use Rattle.ipx_laws.specs.Nearest.{Asks, IsAnswered}
use Rattle.ipx_laws.specs.Wires.{still, wires_of, beats_of}
use Rattle.least_ways.proofs.cited.nearest_over_two_seconds.Goals as goal

-- what answers a question of a type answers that of file servers, if that is the type
of_files : (Question Answer : ℕ → Type 0) (kind : ℕ) → kind ≡ 4 → (Question kind → Answer kind) → Question 4 → Answer 4
of_files Question Answer kind four law asks = subst Answer four (law (subst Question (sym four) asks))

pub returns : goal.returns
returns c net most_routes most_services server names histories beats steps more hops place source bytes is are leaves quick regular differ nearest heard long
    mine near fewest four elsewhere =
    let now = wires_of net most_routes most_services 2 (beats_of net most_routes most_services 2 (still histories) beats) steps in
    of_files (λ kind. Asks net now.histories place source kind bytes)
    (λ kind. IsAnswered (ports_of net place.router) place.port source kind (suc hops)
    (sends_at net most_routes most_services now.histories place.router (Packet place.port bytes)))
    server.kind four
    (c.nearest_on_wires.ensures.answered net most_routes most_services 2 123 server names 1 histories beats steps more hops place source bytes is are leaves
    quick regular differ nearest heard long mine (omega (arith, near)) fewest (λ every. omega (arith, four, every)) elsewhere)
