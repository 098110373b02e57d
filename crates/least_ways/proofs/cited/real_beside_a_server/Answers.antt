use Rattle.std.proofs.Common.{◌∷◌, []}
use Rattle.least_ways.proofs.cited.real_beside_a_server.Goals as goal

pub returns : goal.returns
returns c net most_routes most_services = c.real_apart.ensures.routes net most_routes most_services (record { 0 = 0x77 } ∷ [])
