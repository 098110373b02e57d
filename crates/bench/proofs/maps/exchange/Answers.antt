use Rattle.bench.proofs.maps.exchange.Goals as goal

pub offer-requires : goal.offer-requires
offer-requires g c = first_of (assumption c.well_formed, search c.well_formed)

pub offer-requires-2 : goal.offer-requires-2
offer-requires-2 g c = first_of (assumption c.well_formed, search c.well_formed)
