use Rattle.std.proofs.Common.{◌∙◌, sym, ap, length, arith}
use Rattle.ipx_c.specs.PlanValues.{origin_record, fate_record}
use Rattle.ipx_c.proofs.Planned.{no_fault, written, is_of_values, long_as}
use Rattle.ipx_c.proofs.planning.planned.Goals as goal

pub put_origins-requires : goal.put_origins-requires
put_origins-requires c =
    let links = long_as c.args.links.now c.deref-2.result.now (length c.new-plan.result.origins) (c.deref-2.ensures.0 ∙ c.links_of-after.ensures)
    (c.once.ensures.origins c.deref.result.now c.deref-2.result.now c.new-plan.result c.new-plan.ensures) in
    omega (arith, links, ap length c.origins.ensures, c.if-origins-links.false)

pub put_fates-requires : goal.put_fates-requires
put_fates-requires c =
    let old = long_as c.args.old.now c.deref.result.now (length c.new-plan.result.fates) (c.deref.ensures.0 ∙ c.links_of-before.ensures)
    (c.once.ensures.fates c.deref.result.now c.deref-2.result.now c.new-plan.result c.new-plan.ensures) in
    omega (arith, old, ap length c.fates.ensures, c.if-fates-old.false)

pub returns-clause-ok : goal.returns-clause-ok
returns-clause-ok c =
    let before = c.deref.ensures.0 ∙ c.links_of-before.ensures in
    let after = c.deref-2.ensures.0 ∙ c.links_of-after.ensures in
    let links = long_as c.args.links.now c.deref-2.result.now (length c.new-plan.result.origins) after
    (c.once.ensures.origins c.deref.result.now c.deref-2.result.now c.new-plan.result c.new-plan.ensures) in
    let old = long_as c.args.old.now c.deref.result.now (length c.new-plan.result.fates) before
    (c.once.ensures.fates c.deref.result.now c.deref-2.result.now c.new-plan.result c.new-plan.ensures) in (
      no_fault c.args.old.now c.args.links.now c.args.origins.now c.args.fates.now (omega (arith, c.if-old-gt-MOST_PLANNED.false))
          (omega (arith, c.if-links-gt-MOST_PLANNED.false)) c.if-origins-links.false c.if-fates-old.false
          (sym c.are_carriers.ensures ∙ c.if-not-are_carriers.false) (sym c.are_carriers-else-not-are_carriers.ensures ∙ c.if-not-are_carriers-2.false),
      record {
        plan = c.new-plan.result;
        is = is_of_values c.args.old.now c.args.links.now c.deref.result.now c.deref-2.result.now c.new-plan.result before after c.new-plan.ensures;
        origins_written = written origin_record c.origins.result.now c.new-plan.result.origins c.args.links.now c.put_origins.new.to c.args.origins.now c.put_origins.ensures c.origins.ensures links;
        fates_written = written fate_record c.fates.result.now c.new-plan.result.fates c.args.old.now c.put_fates.new.to c.args.fates.now c.put_fates.ensures c.fates.ensures old;
        router = c.keeps_router.ensures;
      },
    )
