use Rattle.std.proofs.Common.{◌≤◌, ◌∙◌, refl, sym, ap, subst, List, ℕ, ◌++◌, ◌∷◌, [], length, arith}
use Rattle.ipx_table.specs.Facts.{Fact}
use Rattle.ipx_table.specs.Reading.{rules_of}
use Rattle.ipx_table.specs.Stands.{Stands}
use Rattle.ipx_router.specs.Facts.{offers, services_offered}
use Rattle.ipx_router.specs.Services.{service_order, service_reading}
use Rattle.ipx_router.specs.inside.Touched.{Touches}
use Rattle.ipx_router.specs.declared.learning.touched.Touched.{Touched}
use Rattle.ipx_router.specs.declared.service_offer.ServiceOffer.{ServiceOffer}
use Rattle.ipx_router.proofs.changes.LearnedEntryByEntry.{all_taken, services_offered-append, stands_next}
use Rattle.ipx_router.proofs.changes.RenewedInPlace.{item_at, none_touched}
use Rattle.ipx_router.proofs.learning.offering.offer_services.Goals as goal

pub loop-k-init : goal.loop-k-init
loop-k-init g c =
    let here = offers c.args.table.now.records in
    let none = c.requires.none in
    record {
      shares = refl;
      stands = λ facts begun. begun;
      touches = subst (λ (ts : List (Touched ServiceOffer)). Touches (λ s. (s.service.kind, s.service.name)) service_order here here ts) (sym none)
          (none_touched (λ s. (s.service.kind, s.service.name)) service_order here here refl);
      few = omega (arith, ap length none);
    }

pub loop-k-preserved : goal.loop-k-preserved
loop-k-preserved g c =
    let (entry, at) = item_at c.args.entries.now c.loop-k.k (omega (arith, c.loop-k-test.true, c.len-k-end.ensures.value)) in
    let step = subst (λ (shares : List ℕ). (facts : List (Fact ServiceOffer)) → Stands (rules_of service_reading service_order g.row.S shares) c.loop-k.table.records facts
    → Stands (rules_of service_reading service_order g.row.S shares) c.take_entry.new.table.records (facts ++ services_offered c.args.number c.args.node (entry ∷ [])))
    c.loop-k.invariant.shares (c.take_entry.ensures.stands entry at) in
    record {
      shares = c.take_entry.ensures.shares ∙ c.loop-k.invariant.shares;
      stands = λ facts begun.
          stands_next (rules_of service_reading service_order g.row.S c.args.table.now.shares) (services_offered c.args.number c.args.node)
          (services_offered-append c.args.number c.args.node) c.args.entries.now c.loop-k.k entry at
          c.loop-k.table.records c.take_entry.new.table.records step facts (c.loop-k.invariant.stands facts begun);
      touches = c.take_entry.ensures.touches (offers c.args.table.now.records) c.loop-k.invariant.touches;
      few = omega (arith, c.take_entry.ensures.few, c.loop-k.invariant.few);
    }

pub returns-clause-stands : goal.returns-clause-stands
returns-clause-stands g c = λ facts begun.
    let end : length c.args.entries.now ≤ c.loop-k.k = omega (arith, c.loop-k-test.false, c.len-k-end.ensures.value) in
    subst (λ (fs : List (Fact ServiceOffer)). Stands (rules_of service_reading service_order g.row.S c.args.table.now.shares) c.loop-k.table.records fs)
    (ap (λ es. facts ++ services_offered c.args.number c.args.node es) (all_taken c.args.entries.now c.loop-k.k end))
    (c.loop-k.invariant.stands facts begun)
