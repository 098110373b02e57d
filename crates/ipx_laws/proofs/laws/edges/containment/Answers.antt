use Rattle.std.proofs.Common.{◌≡◌, ◌≢◌, refl, sym, ◌∙◌, ℕ, [], ◌∷◌, ◌++◌, Option, None, Some, get_or-set_other}
use Rattle.ipx_router.specs.History.{Event}
use Rattle.ipx_internet.specs.Internet.{Internet, ports_of}
use Rattle.ipx_internet.specs.Log.{Sending, reception_at}
use Rattle.ipx_internet.specs.Queue.{history_of}
use Rattle.ipx_internet.specs.Run.{Run, Happens, begun, stepped}
use Rattle.ipx_laws.specs.Edges.{lets_in, edge_run}
use Rattle.ipx_laws.proofs.edges.EdgesKeepRuns.{Well, no_some, runs_well}
use Rattle.ipx_laws.proofs.edges.SentOnChangesNoTable.{contained}
use Rattle.ipx_laws.proofs.laws.edges.containment.Goals as goal

pub returns-clause-heard : goal.returns-clause-heard
returns-clause-heard c net most_routes most_services histories steps place message is are all within hears =
    none (reception_at (edge_run net most_routes most_services (begun histories) steps).log place).origin refl
  where
    well : Well net (edge_run net most_routes most_services (begun histories) steps)
    well = runs_well net c.layouts.ensures c.routing.ensures c.edge.ensures is most_routes most_services histories steps are all

    none : (o : Option Sending) → (reception_at (edge_run net most_routes most_services (begun histories) steps).log place).origin ≡ o
        → (reception_at (edge_run net most_routes most_services (begun histories) steps).log place).origin ≡ None
    none None e = e
    none (Some s) e = no_some message (sym ((well.named place within).unheard s e) ∙ hears)

pub returns-clause-contained : goal.returns-clause-contained
returns-clause-contained c net most_routes most_services histories steps w waiting s is are all is_first from =
    contained net most_routes most_services c.layouts.ensures c.routing.ensures c.edge.ensures is (edge_run net most_routes most_services (begun histories) steps) w waiting s
    (runs_well net c.layouts.ensures c.routing.ensures c.edge.ensures is most_routes most_services histories steps are all) is_first from

-- what happens to one router leaves the histories of all others
abbrev after : (net : Internet) (most_routes most_services : ℕ) → Run → ℕ → Option Event → Run
after net most_routes most_services run router o = elim o [ Some new ↦ stepped net most_routes most_services run (Happens router new) | None ↦ run ]

stays : (net : Internet) (most_routes most_services : ℕ) (run : Run) (router other : ℕ) → other ≢ router → (o : Option Event)
    → history_of (after net most_routes most_services run router o).histories other ≡ history_of run.histories other
stays net most_routes most_services run router other off None = refl
stays net most_routes most_services run router other off (Some new) =
    get_or-set_other run.histories router other (history_of run.histories router ++ new ∷ []) [] off

pub returns-clause-elsewhere : goal.returns-clause-elsewhere
returns-clause-elsewhere c net most_routes most_services run router other event off =
    stays net most_routes most_services run router other off (lets_in net router event)

pub returns-clause-routes : goal.returns-clause-routes
returns-clause-routes c net most_routes most_services run steps router =
    c.shares_hold.ensures.routes (ports_of net router) most_routes (history_of (edge_run net most_routes most_services run steps).histories router)

pub returns-clause-services : goal.returns-clause-services
returns-clause-services c net most_routes most_services run steps router =
    c.shares_hold.ensures.services (ports_of net router) most_services (history_of (edge_run net most_routes most_services run steps).histories router)
