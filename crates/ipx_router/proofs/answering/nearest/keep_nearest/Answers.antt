use Rattle.std.proofs.Common.{sym, ◌∙◌}
use Rattle.ipx_router.specs.Told.{farther}
use Rattle.ipx_router.proofs.telling.NearestInOnePass.{nearest_yet, nearest_still}
use Rattle.ipx_router.proofs.answering.nearest.keep_nearest.Goals as goal

pub returns-then-is_nearest_yet : goal.returns-then-is_nearest_yet
returns-then-is_nearest_yet c = rw c.farther.ensures
    (nearest_yet c.args.kind c.args.best.now (farther c.args.service.now) (sym c.is_of_kind.ensures ∙ c.if-not-is_of_kind.false) (sym c.is_nearest_yet.ensures ∙ c.if-is_nearest_yet.true))

pub returns-else-is_nearest_yet : goal.returns-else-is_nearest_yet
returns-else-is_nearest_yet c =
    nearest_still c.args.kind c.args.best.now (farther c.args.service.now) (sym c.is_of_kind.ensures ∙ c.if-not-is_of_kind.false) (sym c.is_nearest_yet.ensures ∙ c.if-is_nearest_yet.false)
