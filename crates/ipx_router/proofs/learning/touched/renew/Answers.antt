use Rattle.std.proofs.Common.{arith}
use Rattle.ipx_router.proofs.learning.touched.renew.Goals as goal

pub deref-requires : goal.deref-requires
deref-requires g c = search

pub offset_bounds-deref-place : goal.offset_bounds-deref-place
offset_bounds-deref-place g c = grind arith

pub bounds-deref-place : goal.bounds-deref-place
bounds-deref-place g c = grind arith

pub deref_mut-requires : goal.deref_mut-requires
deref_mut-requires g c = search

pub bounds-deref_mut-place : goal.bounds-deref_mut-place
bounds-deref_mut-place g c = grind arith
