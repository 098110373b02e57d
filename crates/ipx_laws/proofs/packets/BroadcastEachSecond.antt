-- What a router broadcasts at a second: pages of what it advertises on each port, and of what ended.
use Rattle.std.proofs.Common.{◌≡◌, ℕ, ◌<◌, Bool, true, false, List, [], ◌∷◌, ◌++◌, length, inl, inr}
use Rattle.std.specs.List.{AllByRecursion}
use Rattle.std.proofs.lemmas.Bool.{cases_Bool}
use Rattle.ipx_wire.specs.Rip.{IsEntry}
use Rattle.ipx_wire.specs.declared.rip.RipEntry.{RipEntry}
use Rattle.ipx_wire.specs.declared.service.Service.{Service}
use Rattle.ipx_router.specs.History.{History, Second, IsOfBytes, running}
use Rattle.ipx_router.specs.News.{news, news_services}
use Rattle.ipx_router.specs.Port.{Port, IsPort, is_up}
use Rattle.ipx_router.specs.Sends.{Holding, holding, is_periodic, second_on, sends}
use Rattle.ipx_router.specs.Told.{network_before, name_before, by_network, by_name, told, told_services}
use Rattle.ipx_router.proofs.bytes.FieldsAreBytes.{IsTellable}
use Rattle.ipx_router.proofs.lists.EachElement.{all_both, all_sorted}
use Rattle.ipx_router.proofs.tables.HeldFitsFields.{held_routes_fit, held_services_fit}
use Rattle.ipx_router.proofs.changes.ChangesFitFields.{news_fit, news_services_fit}
use Rattle.ipx_router.proofs.sending.OwnPacketsAreValid.{Writable}
use Rattle.ipx_router.proofs.port_values.PortOfEachNumber.{ports_up-within}
use Rattle.ipx_router.proofs.telling.ToldFitsFields.{told_fits, told_services_fit}
use Rattle.ipx_internet.proofs.lists.EachElement.{all-append}
use Rattle.ipx_internet.proofs.packets.PagesReadAgain.{Tellable}
use Rattle.ipx_internet.proofs.packets.SentOnOrReply.{Layouts, IsCast, broadcast_cast, each_cast}

module _ (laws : Layouts) (ports : List Port) (are : AllByRecursion IsPort ports) (most_routes most_services : ℕ) (history : History)
    (of_bytes : AllByRecursion IsOfBytes history) (P : ℕ → RipEntry → Type 0) (Q : ℕ → Service → Type 0) where
  abbrev pub before : Holding
  before = holding ports most_routes most_services history

  abbrev pub after : Holding
  after = holding ports most_routes most_services (history ++ Second ∷ [])

  module _ (routes : (j : ℕ) → AllByRecursion (P j) (told ports after.up after.routes j))
      (changed : (j : ℕ) → AllByRecursion (P j) (news ports before.routes after.routes j))
      (services : (j : ℕ) → AllByRecursion (Q j) (told_services after.services j))
      (changed_services : (j : ℕ) → AllByRecursion (Q j) (news_services before.services after.services j)) where
    still : AllByRecursion IsOfBytes (history ++ Second ∷ [])
    still = all-append IsOfBytes history (Second ∷ []) of_bytes (tt, tt)

    ups : AllByRecursion (λ j. j < length ports) after.up
    ups = ports_up-within ports (history ++ Second ∷ [])

    ended : (j : ℕ) → AllByRecursion (Writable (P j)) (news ports before.routes after.routes j)
    ended j =
        all_both IsEntry (P j) (news ports before.routes after.routes j)
        (news_fit ports before.routes after.routes j (held_routes_fit laws.readings ports most_routes history of_bytes)
        (held_routes_fit laws.readings ports most_routes (history ++ Second ∷ []) still)) (changed j)

    lost : (j : ℕ) → AllByRecursion (Tellable (Q j)) (news_services before.services after.services j)
    lost j =
        all_both IsTellable (Q j) (news_services before.services after.services j)
        (news_services_fit before.services after.services j (held_services_fit laws.readings ports most_services history of_bytes)
        (held_services_fit laws.readings ports most_services (history ++ Second ∷ []) still)) (changed_services j)

    second_cast : (periodic : Bool) (j : ℕ) → is_up after.up j ≡ true → AllByRecursion (IsCast after.up P Q ports) (second_on ports before after periodic j)
    second_cast false j on =
        broadcast_cast laws ports are after.up ups P Q j on (news ports before.routes after.routes j) (news_services before.services after.services j) (ended j) (lost j)
    second_cast true j on =
        let rest = told ports after.up after.routes j in
        let named = told_services after.services j in
        let gone = news ports before.routes after.routes j in
        let gone_services = news_services before.services after.services j in
        broadcast_cast laws ports are after.up ups P Q j on (by_network (rest ++ gone)) (by_name (named ++ gone_services))
        (all_sorted (Writable (P j)) network_before (rest ++ gone) (all-append (Writable (P j)) rest gone
        (all_both IsEntry (P j) rest (told_fits ports are after.up after.routes j ups (held_routes_fit laws.readings ports most_routes (history ++ Second ∷ []) still)) (routes j))
        (ended j)))
        (all_sorted (Tellable (Q j)) name_before (named ++ gone_services) (all-append (Tellable (Q j)) named gone_services
        (all_both IsTellable (Q j) named (told_services_fit after.services j (held_services_fit laws.readings ports most_services (history ++ Second ∷ []) still)) (services j))
        (lost j)))

    pub all_cast : AllByRecursion (IsCast after.up P Q ports) (sends ports most_routes most_services history Second)
    all_cast = elim (cases_Bool (running history)) [
      | inl e ↦ rw e (each_cast laws ports are after.up ups P Q (second_on ports before after (is_periodic history)) (second_cast (is_periodic history)))
      | inr e ↦ rw e tt
    ]
