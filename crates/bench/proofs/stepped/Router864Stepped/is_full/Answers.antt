use Rattle.bench.proofs.stepped.Router864Stepped.is_full.Goals as goal

pub routes-requires : goal.routes-requires
routes-requires g c = first_of (assumption c.well_formed, search c.well_formed)
