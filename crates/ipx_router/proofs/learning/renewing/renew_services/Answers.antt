use Rattle.std.proofs.Common.{◌∙◌, subst, List, ℕ, ◌++◌, ◌∷◌, []}
use Rattle.ipx_table.specs.Facts.{Fact}
use Rattle.ipx_table.specs.Reading.{rules_of}
use Rattle.ipx_table.specs.Stands.{Stands}
use Rattle.ipx_wire.specs.SapEntries.{sap_entry_at}
use Rattle.ipx_router.specs.Facts.{services_offered}
use Rattle.ipx_router.specs.Services.{service_order, service_reading}
use Rattle.ipx_router.specs.declared.service_offer.ServiceOffer.{ServiceOffer}
use Rattle.ipx_router.proofs.changes.LearnedEntryByEntry.{services_offered-append, stands_more}
use Rattle.ipx_router.proofs.learning.renewing.renew_services.Goals as goal

pub loop-k-preserved : goal.loop-k-preserved
loop-k-preserved g c =
    let entry = sap_entry_at c.bytes_from.result.now in
    let step = subst (λ (shares : List ℕ). (facts : List (Fact ServiceOffer)) → Stands (rules_of service_reading service_order g.row.S shares) c.loop-k.table.records facts
    → Stands (rules_of service_reading service_order g.row.S shares) c.renews.new.table.records (facts ++ services_offered c.args.number c.args.node (entry ∷ [])))
    c.loop-k.invariant.shares (c.renews.ensures.stands c.if-not-renews.false) in
    record {
      shares = c.renews.ensures.shares ∙ c.loop-k.invariant.shares;
      stands = stands_more (rules_of service_reading service_order g.row.S c.args.table.now.shares) (services_offered c.args.number c.args.node)
          (services_offered-append c.args.number c.args.node) c.args.entries.now c.loop-k.k entry c.bytes_from.ensures.entry
          c.args.table.now.records c.loop-k.table.records c.renews.new.table.records c.loop-k.invariant.stands step;
      offers = c.renews.ensures.offers ∙ c.loop-k.invariant.offers;
    }
