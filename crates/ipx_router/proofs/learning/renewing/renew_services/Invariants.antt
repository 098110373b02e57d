use Rattle.std.proofs.Common.{◌≡◌, List, ◌++◌, take}
use Rattle.ipx_table.specs.Facts.{Fact}
use Rattle.ipx_table.specs.Reading.{rules_of}
use Rattle.ipx_table.specs.Stands.{Stands}
use Rattle.ipx_router.specs.Facts.{offers, services_offered}
use Rattle.ipx_router.specs.Services.{service_order, service_reading}
use Rattle.ipx_router.specs.declared.service_offer.ServiceOffer.{ServiceOffer}
use Rattle.ipx_router.proofs.learning.renewing.renew_services.Given as goal

-- the entries so far were renewed
abbrev pub invariant-loop-k : goal.invariant-loop-k
invariant-loop-k g l = record {
  shares : l.table.shares ≡ l.initial.table.shares;
  stands : (facts : List (Fact ServiceOffer)) → Stands (rules_of service_reading service_order g.row.S l.initial.table.shares) l.initial.table.records facts
      → Stands (rules_of service_reading service_order g.row.S l.initial.table.shares) l.table.records (facts ++ services_offered l.number l.node (take l.k l.entries));
  offers : offers l.table.records ≡ offers l.initial.table.records;
}
