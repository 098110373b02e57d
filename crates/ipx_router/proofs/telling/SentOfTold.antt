-- What is sent of all that is told: all, all as unreachable, or what was asked for.
use Rattle.std.proofs.Common.{arith}
use Rattle.std.proofs.Common.{◌≡◌, refl, sym, ap, ◌∙◌, ℕ, ◌+◌, Bool, true, false, List, [], ◌∷◌, map, take, get_or, slice_get, Some, if◌then◌else◌}
use Rattle.std.specs.List.{flat_map, list_any}
use Rattle.std.proofs.lemmas.List.Folds.{list_any_at, list_any_more}
use Rattle.std.proofs.lemmas.Option.{slice_get_within, get_or_from_slice_get}
use Rattle.ipx_wire.specs.declared.address.Address.{Address}
use Rattle.ipx_wire.specs.declared.rip.RipEntry.{RipEntry}
use Rattle.ipx_wire.specs.declared.service.Service.{Service}
use Rattle.ipx_router.specs.Numbers.{all_routes, services_a_page}
use Rattle.ipx_router.specs.Port.{Port, port_at, reply_to}
use Rattle.ipx_router.specs.Sends.{asked, nearest_of, of_kind, sap_sends}
use Rattle.ipx_router.specs.inside.Envelope.{services_in, services_reply}
use Rattle.ipx_router.specs.inside.Owed.{owed}
use Rattle.ipx_router.specs.inside.Selection.{selected_by, is_service_selected, service_selected_by, service_sent}
use Rattle.ipx_router.specs.Told.{dead, dead_service, farther}
use Rattle.ipx_router.specs.declared.advertising.envelope.Envelope.{Envelope}
use Rattle.ipx_router.specs.declared.advertising.selection.ServiceSelection.{ServiceSelection}
use Rattle.ipx_router.specs.declared.advertising.selection.Selection.TheVariants.{All, Dead, Asked}
use Rattle.ipx_router.specs.declared.advertising.selection.ServiceSelection.TheVariants.{All as AllServices, Dead as DeadServices, OfKind}
use Rattle.ipx_router.proofs.sending.PortByPort.{in_envelope}

-- ---- one more of those that are asked

module _ {X : Type 0} (p : X → Bool) (xs : List X) (k : ℕ) (x : X) (at : slice_get xs k ≡ Some x) where
  pub passes_there : p x ≡ true → list_any p xs ≡ true
  passes_there e = list_any_at p xs k x (slice_get_within xs k x at) (ap p (get_or_from_slice_get xs k x x at) ∙ e)

  pub none_passes_yet : list_any p (take k xs) ≡ false → p x ≡ false → list_any p (take (k + 1) xs) ≡ false
  none_passes_yet before e =
      let here : p (get_or xs k x) ≡ false = ap p (get_or_from_slice_get xs k x x at) ∙ e in
      list_any_more p xs k x (slice_get_within xs k x at) ∙ rw (before, here) refl

-- ---- routes

pub selected_all : (es : List RipEntry) → flat_map (selected_by All) es ≡ es
selected_all [] = refl
selected_all (e ∷ es) = ap (λ (l : List RipEntry). e ∷ l) (selected_all es)

pub selected_dead : (es : List RipEntry) → flat_map (selected_by Dead) es ≡ map dead es
selected_dead es = grind arith

pub selected_asked : (rip : _) (es : List RipEntry) → flat_map (selected_by (Asked rip)) es ≡ asked rip.now.entries es
selected_asked rip [] = refl
selected_asked rip (e ∷ es) = grind (arith, selected_asked rip es)

-- an entry that asks for all asks for each
asked_all : (wanted : List RipEntry) (k : ℕ) (w : RipEntry) → slice_get wanted k ≡ Some w → w.network.0 ≡ all_routes
    → (es : List RipEntry) → asked wanted es ≡ es
asked_all wanted k w at all [] = refl
asked_all wanted k w at all (e ∷ es) = grind (arith, asked_all wanted k w at all es, passes_there)

-- so all is selected
pub selected_for_all : (wanted : List RipEntry) (k : ℕ) (w : RipEntry) → slice_get wanted k ≡ Some w → w.network.0 ≡ all_routes
    → (es : List RipEntry) → flat_map (selected_by All) es ≡ asked wanted es
selected_for_all wanted k w at all es = selected_all es ∙ sym (asked_all wanted k w at all es)

-- ---- services

pub services_selected_all : (ss : List Service) → flat_map (service_selected_by AllServices) ss ≡ ss
services_selected_all [] = refl
services_selected_all (s ∷ ss) = ap (λ (l : List Service). s ∷ l) (services_selected_all ss)

pub services_selected_dead : (ss : List Service) → flat_map (service_selected_by DeadServices) ss ≡ map dead_service ss
services_selected_dead ss = grind arith

pub services_selected_of_kind : (kind : ℕ) (ss : List Service) → flat_map (service_selected_by (OfKind kind)) ss ≡ of_kind kind ss
services_selected_of_kind kind [] = refl
services_selected_of_kind kind (s ∷ ss) = grind (arith, services_selected_of_kind kind ss)

-- a service of the table, as it is sent
pub sent_of_offer : (selection : ServiceSelection) (s : Service) → true ≡ is_service_selected selection s
    → service_sent selection s ∷ [] ≡ service_selected_by selection (farther s)
sent_of_offer selection s is = grind arith

-- one that isn't
pub not_sent_of_offer : (selection : ServiceSelection) (s : Service) → false ≡ is_service_selected selection s
    → [] ≡ service_selected_by selection (farther s)
not_sent_of_offer selection s is = grind arith

-- ---- answers

-- in the same envelope, what is selected of all that is told is the answer to a query that isn't for the nearest
pub query_answered : (ports : List Port) (number : ℕ) (source : Address) (nearest : Bool) (kind : ℕ) (services : ℕ → List Service) {envelope : Envelope}
    → envelope ≡ services_reply ports number source → nearest ≡ false
    → owed services_a_page (services_in false envelope) [] (flat_map (service_selected_by (OfKind kind)) (services envelope.port))
    ≡ sap_sends ports number (reply_to (port_at ports number) source) nearest (if nearest then nearest_of (of_kind kind (services number)) else of_kind kind (services number))
query_answered ports number source nearest kind services is e = grind (arith, in_envelope, services_selected_of_kind)

-- and to one that is
pub nearest_answered : (ports : List Port) (number : ℕ) (source : Address) (nearest : Bool) (kind : ℕ) (services : ℕ → List Service) {envelope : Envelope}
    → envelope ≡ services_reply ports number source → nearest ≡ true
    → owed services_a_page (services_in true envelope) [] (nearest_of (of_kind kind (services envelope.port)))
    ≡ sap_sends ports number (reply_to (port_at ports number) source) nearest (if nearest then nearest_of (of_kind kind (services number)) else of_kind kind (services number))
nearest_answered ports number source nearest kind services is e = grind arith
