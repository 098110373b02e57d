use Rattle.std.proofs.Common.{rules, ◌∙◌, sym, ap, map}
use Rattle.arrayvec.proofs.ArrayVecLemmas.{filter-from_retain}
use Rattle.ipx_router.specs.Changes.{differs}
use Rattle.ipx_router.specs.inside.Touched.{change_of}
use Rattle.ipx_router.proofs.changes.TouchedGivesAllChanges.{filter-of_map, changes_alike, changes_touched}
use Rattle.ipx_router.proofs.learning.changed.keep_changes.Goals as goal

pub returns : goal.returns
returns g c = λ same agree before now touches.
    let key_of = g.O.Offer.reading.key in
    let order = g.O.Key.Ord.cmp in
    let eq = g.O.PartialEq.eq in
    let all = c.args.touched.now.items in
    let kept = filter-from_retain _ (λ one. differs key_of order eq (change_of one)) _ (λ x b f' y called. search rules) all _ c.retain.ensures.filtered in
    ap (map change_of) kept ∙ sym (filter-of_map (differs key_of order eq) change_of all)
    ∙ changes_touched key_of order eq g.met.O.Key.Ord.total before now g.met.O.Eq.laws.refl all touches
    ∙ changes_alike key_of order eq same agree before now
