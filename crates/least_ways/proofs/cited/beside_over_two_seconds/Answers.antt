use Rattle.std.proofs.Common.{◌≡◌, subst, ℕ, Option, Some}
use Rattle.ipx_wire.specs.declared.service.Service.{Service}
use Rattle.ipx_laws.specs.Servers.{Server, at_hops}
use Rattle.least_ways.proofs.cited.beside_over_two_seconds.Goals as goal

-- what is known with a host's hops is known with one, if the host says one
with_one : (server : Server) (known : Option Service) (hops : ℕ) → hops ≡ 1 → known ≡ Some (at_hops server hops) → known ≡ Some (at_hops server 1)
with_one server known hops one has = subst (λ (n : ℕ). known ≡ Some (at_hops server n)) one has

pub returns : goal.returns
returns c net most_routes most_services server names histories beats place which host is are leaves quick regular long beside one =
    with_one server _ host.hops one
    (c.beside_on_wires.ensures.has net most_routes most_services 2 123 server names histories beats place which host is are leaves quick regular long beside)
