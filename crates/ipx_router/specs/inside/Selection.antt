-- Which routes and services of all that are advertised are sent, and how.
use Rattle.std.specs.Prelude.{ℕ, ◌==◌, ◌||◌, ◌&&◌, Bool, true, if◌then◌else◌, List, [], ◌∷◌, Option, None, Some}
use Rattle.std.specs.List.{list_any}
use Rattle.ipx_wire.specs.declared.rip.RipEntry.{RipEntry}
use Rattle.ipx_wire.specs.declared.service.Service.{Service}
use Rattle.ipx_router.specs.Numbers.{all_routes, every_service}
use Rattle.ipx_router.specs.Sends.{is_nearer}
use Rattle.ipx_router.specs.Told.{dead, dead_service, farther, is_service_told}
use Rattle.ipx_router.specs.declared.service_offer.ServiceOffer.{ServiceOffer}
use Rattle.ipx_router.specs.declared.advertising.selection.Selection.{Selection}
use Rattle.ipx_router.specs.declared.advertising.selection.Selection.TheVariants.{All, Dead, Asked}
use Rattle.ipx_router.specs.declared.advertising.selection.ServiceSelection.{ServiceSelection}
use Rattle.ipx_router.specs.declared.advertising.selection.ServiceSelection.TheVariants.{All as AllServices, Dead as DeadServices, OfKind}

-- an entry of a request asks for that entry: for all, or for its network
abbrev pub asks_for : RipEntry → RipEntry → Bool
asks_for w e = (w.network.0 == all_routes) || (w.network.0 == e.network.0)

-- the entries of a request ask for the entry
abbrev pub is_asked : List RipEntry → RipEntry → Bool
is_asked wanted e = list_any (λ w. asks_for w e) wanted

-- the entry as it is sent, if it is
abbrev pub selected_by : Selection → RipEntry → List RipEntry
selected_by All e = e ∷ []
selected_by Dead e = dead e ∷ []
selected_by (Asked rip) e = if is_asked rip.now.entries e then e ∷ [] else []

-- a query for the type asks for the service
abbrev pub is_of_kind : ℕ → Service → Bool
is_of_kind kind s = (kind == every_service) || (s.kind == kind)

-- the service as it is sent, if it is
abbrev pub service_selected_by : ServiceSelection → Service → List Service
service_selected_by AllServices s = s ∷ []
service_selected_by DeadServices s = dead_service s ∷ []
service_selected_by (OfKind kind) s = if is_of_kind kind s then s ∷ [] else []

-- of the service as it stands in the table: whether it is sent, and as what
abbrev pub is_service_selected : ServiceSelection → Service → Bool
is_service_selected AllServices s = true
is_service_selected DeadServices s = true
is_service_selected (OfKind kind) s = is_of_kind kind s

-- of a service of a table: whether it is sent on the port
abbrev pub is_service_sent : ℕ → ServiceSelection → ServiceOffer → Bool
is_service_sent number selection offer = is_service_told number offer && is_service_selected selection offer.service

abbrev pub service_sent : ServiceSelection → Service → Service
service_sent AllServices s = farther s
service_sent DeadServices s = dead_service s
service_sent (OfKind kind) s = farther s

-- a service is the first, or nearer than the best so far
abbrev pub is_nearest_yet : Option Service → Service → Bool
is_nearest_yet None s = true
is_nearest_yet (Some best) s = is_nearer s best
