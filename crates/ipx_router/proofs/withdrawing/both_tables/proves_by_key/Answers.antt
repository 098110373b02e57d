use Rattle.ipx_router.proofs.withdrawing.both_tables.proves_by_key.Goals as goal

pub len-routes-requires : goal.len-routes-requires
len-routes-requires g c = search

pub len-services-requires : goal.len-services-requires
len-services-requires g c = search
