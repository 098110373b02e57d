use Rattle.bench.proofs.maps.fastest.Goals as goal

pub fill-requires : goal.fill-requires
fill-requires g c = first_of (assumption c.well_formed, search c.well_formed)

pub of_table-seen-requires : goal.of_table-seen-requires
of_table-seen-requires g c = first_of (assumption c.well_formed, search c.well_formed)
