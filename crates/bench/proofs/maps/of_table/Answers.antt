use Rattle.bench.proofs.maps.of_table.Goals as goal

pub look_up-one-requires : goal.look_up-one-requires
look_up-one-requires g c = first_of (assumption c.well_formed, search c.well_formed)

pub exchange-one-requires : goal.exchange-one-requires
exchange-one-requires g c = first_of (assumption c.well_formed, search c.well_formed)

pub second-one-requires : goal.second-one-requires
second-one-requires g c = first_of (assumption c.well_formed, search c.well_formed)
