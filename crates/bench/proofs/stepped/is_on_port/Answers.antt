use Rattle.bench.proofs.stepped.is_on_port.Goals as goal

pub has_port-requires : goal.has_port-requires
has_port-requires g c = first_of (assumption c.well_formed, search c.well_formed)
