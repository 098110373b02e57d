use Rattle.ipx_router.proofs.withdrawing.both_tables.is_quiet.Goals as goal

pub expires-requires : goal.expires-requires
expires-requires g c = search

pub expires-requires-then-not-expires : goal.expires-requires-then-not-expires
expires-requires-then-not-expires g c = search
