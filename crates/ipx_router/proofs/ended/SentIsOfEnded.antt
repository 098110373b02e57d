-- What is sent where a second passes, or where a port goes down, is told by what ended with it.
use Rattle.std.proofs.Common.{arith}
use Rattle.std.proofs.Common.{◌≡◌, refl, sym, ap, ◌∙◌, ℕ, Bool, true, false, List, [], ◌∷◌, ◌++◌, inl, inr, true≢false}
use Rattle.std.specs.List.{flat_map, list_any}
use Rattle.std.proofs.lemmas.Bool.{cases_Bool}
use Rattle.ipx_table.specs.Stands.{second_later, ended, is_last, without_port, ended_with_port}
use Rattle.ipx_table.specs.declared.held.Held.{Held}
use Rattle.ipx_wire.specs.declared.rip.RipEntry.{RipEntry}
use Rattle.ipx_wire.specs.declared.service.Service.{Service}
use Rattle.ipx_router.specs.inside.EndedSends.{ended_sends, periodic_sends, all_sends, down_sends, second_sends, port_down_sends}
use Rattle.ipx_router.specs.Facts.{offers}
use Rattle.ipx_router.specs.History.{Second, PortDown}
use Rattle.ipx_router.specs.Port.{Port, is_up}
use Rattle.ipx_router.specs.Relays.{Sent}
use Rattle.ipx_router.specs.Sends.{Holding, broadcasts, second_on, port_down_on, sends_of}
use Rattle.ipx_router.specs.Told.{by_network, by_name, told, told_services, dead, direct_entry}
use Rattle.ipx_router.specs.declared.route_offer.RouteOffer.{RouteOffer}
use Rattle.ipx_router.specs.declared.service_offer.ServiceOffer.{ServiceOffer}
use Rattle.ipx_router.proofs.ended.ChangedIsEnded.{RouteRecordsAscend, ServiceRecordsAscend, news-second, news-port, services-second, services-port}

-- the same on each port
same_each : (f g : ℕ → List Sent) → ((number : ℕ) → f number ≡ g number) → (up : List ℕ) → flat_map f up ≡ flat_map g up
same_each f g same up = grind arith

-- nothing on each port
pub none_each : (f : ℕ → List Sent) → ((number : ℕ) → f number ≡ []) → (up : List ℕ) → flat_map f up ≡ []
none_each f none [] = refl
none_each f none (number ∷ up) = ap (λ (sent : List Sent). sent ++ flat_map f up) (none number) ∙ none_each f none up

-- nothing ends where no record is in its last second
none_ended : {O : Type 0} (held : List (Held O)) → list_any is_last held ≡ false → ended held ≡ []
none_ended [] quiet = refl
none_ended (h ∷ held) quiet = elim (cases_Bool (is_last h)) [
  | inl last ↦ let no : true ≡ false = rw last at quiet in absurd (true≢false no)
  | inr other ↦ rw other (none_ended held (rw other at quiet))
]

-- equal entries and equal services make equal broadcasts
module _ (ports : List Port) (number : ℕ) (entries : List RipEntry → List RipEntry) (services : List Service → List Service)
    {es fs : List RipEntry} {ss ts : List Service} (same_entries : es ≡ fs) (same_services : ss ≡ ts) where
  same_broadcasts : broadcasts ports number (entries es) (services ss) ≡ broadcasts ports number (entries fs) (services ts)
  same_broadcasts = grind arith

module _ (ports : List Port) (up : List ℕ) (routes : List (Held RouteOffer)) (services : List (Held ServiceOffer))
    (routes_up : RouteRecordsAscend routes) (services_up : ServiceRecordsAscend services) where
  abbrev before : Holding
  before = record { up = up; routes = offers routes; services = offers services }

  abbrev later : Holding
  later = record { up = up; routes = offers (second_later routes); services = offers (second_later services) }

  pub second_sent : second_sends ports up routes services false ≡ flat_map (ended_sends ports (ended routes) (ended services)) up
  second_sent =
      same_each (second_on ports before later false) (ended_sends ports (ended routes) (ended services))
      (λ number. same_broadcasts ports number (λ es. es) (λ ss. ss) (news-second ports number routes routes_up) (services-second number services services_up)) up

  pub nothing_sent : (periodic : Bool) → periodic ≡ false → list_any is_last routes ≡ false → list_any is_last services ≡ false
      → second_sends ports up routes services periodic ≡ []
  nothing_sent periodic is no_route no_service =
      ap (second_sends ports up routes services) is
      ∙ second_sent
      ∙ ap (λ (es : List RouteOffer). flat_map (ended_sends ports es (ended services)) up) (none_ended routes no_route)
      ∙ ap (λ (ls : List ServiceOffer). flat_map (ended_sends ports [] ls) up) (none_ended services no_service)
      ∙ none_each (ended_sends ports [] []) (λ number. refl) up

  pub periodic_sent : second_sends ports up routes services true
      ≡ flat_map (periodic_sends ports (ended routes) (ended services) up (offers (second_later routes)) (offers (second_later services))) up
  periodic_sent =
      same_each (second_on ports before later true) (periodic_sends ports (ended routes) (ended services) up later.routes later.services)
      (λ number. same_broadcasts ports number
      (λ es. by_network (told ports up later.routes number ++ es)) (λ ss. by_name (told_services later.services number ++ ss))
      (news-second ports number routes routes_up) (services-second number services services_up)) up

  pub port_down_sent : (port : ℕ) → port_down_sends ports up routes services port
      ≡ flat_map (down_sends ports (ended_with_port (λ r. r.port) port routes) (ended_with_port (λ s. s.port) port services) port) up
  port_down_sent port =
      same_each
      (port_down_on ports before
      (record { up = up; routes = offers (without_port (λ r. r.port) port routes); services = offers (without_port (λ s. s.port) port services) }) port)
      (down_sends ports (ended_with_port (λ r. r.port) port routes) (ended_with_port (λ s. s.port) port services) port)
      (λ number. same_broadcasts ports number (λ es. by_network (dead (direct_entry ports port) ∷ es)) (λ ss. ss)
      (news-port ports number port routes routes_up) (services-port number port services services_up)) up

  -- ---- the events

  -- of a router that runs
  pub second_event : (runs periodic : Bool) (routes_then : List (Held RouteOffer)) (services_then : List (Held ServiceOffer)) → runs ≡ true
      → routes_then ≡ second_later routes → services_then ≡ second_later services
      → sends_of ports before (record { up = up; routes = offers routes_then; services = offers services_then }) runs periodic Second
      ≡ second_sends ports up routes services periodic
  second_event runs periodic routes_then services_then is_running routes_are services_are = grind arith

  -- ---- where what ended, and what is then held, are known by equations

  module _ {ended_now : List RouteOffer} {ended_services_now : List ServiceOffer} (ended_is : ended_now ≡ ended routes) (ended_services_is : ended_services_now ≡ ended services) where
    pub quiet_as : (periodic : Bool) → periodic ≡ false
        → second_sends ports up routes services periodic ≡ flat_map (ended_sends ports ended_now ended_services_now) up
    quiet_as periodic is = grind (arith, second_sent)

    pub periodic_as : {routes_now : List (Held RouteOffer)} {services_now : List (Held ServiceOffer)} (periodic : Bool) → periodic ≡ true
        → routes_now ≡ second_later routes → services_now ≡ second_later services
        → second_sends ports up routes services periodic ≡ flat_map (periodic_sends ports ended_now ended_services_now up (offers routes_now) (offers services_now)) up
    periodic_as {routes_now} {services_now} periodic is routes_are services_are = grind (arith, periodic_sent)

    pub second_as : {routes_now : List (Held RouteOffer)} {services_now : List (Held ServiceOffer)} (periodic : Bool)
        → routes_now ≡ second_later routes → services_now ≡ second_later services
        → second_sends ports up routes services periodic ≡ all_sends ports ended_now ended_services_now up (offers routes_now) (offers services_now) periodic
    second_as periodic routes_are services_are = grind (arith, periodic_as, quiet_as)

  pub port_down_as : (port : ℕ) {ended_now : List RouteOffer} {ended_services_now : List ServiceOffer}
      → ended_now ≡ ended_with_port (λ r. r.port) port routes → ended_services_now ≡ ended_with_port (λ s. s.port) port services
      → port_down_sends ports up routes services port ≡ flat_map (down_sends ports ended_now ended_services_now port) up
  port_down_as port {ended_now} {ended_services_now} ended_is ended_services_is =
      port_down_sent port
      ∙ ap (λ (es : List RouteOffer). flat_map (down_sends ports es (ended_with_port (λ s. s.port) port services) port) up) (sym ended_is)
      ∙ ap (λ (ls : List ServiceOffer). flat_map (down_sends ports ended_now ls port) up) (sym ended_services_is)

-- what a second sends, by other names of what ended and of whether it is periodic
pub all_as : (ports : List Port) (up : List ℕ) (routes : List RouteOffer) (services : List ServiceOffer) {ended_was ended_now : List RouteOffer}
    {ended_services_was ended_services_now : List ServiceOffer} {periodic is : Bool} → ended_was ≡ ended_now → ended_services_was ≡ ended_services_now → periodic ≡ is
    → all_sends ports ended_was ended_services_was up routes services periodic ≡ all_sends ports ended_now ended_services_now up routes services is
all_as ports up routes services {ended_was} {ended_now} {ended_services_was} {ended_services_now} {periodic} {is} ended_is ended_services_is periodic_is = grind arith

-- a port of a router that runs goes down, and was up
pub port_down_event : (ports : List Port) (up stays : List ℕ) (routes routes_then : List (Held RouteOffer)) (services services_then : List (Held ServiceOffer))
    (runs periodic : Bool) (port : ℕ) → runs ≡ true → is_up up port ≡ true
    → routes_then ≡ without_port (λ r. r.port) port routes → services_then ≡ without_port (λ s. s.port) port services
    → sends_of ports (record { up = up; routes = offers routes; services = offers services })
    (record { up = stays; routes = offers routes_then; services = offers services_then }) runs periodic (PortDown port)
    ≡ port_down_sends ports stays routes services port
port_down_event ports up stays routes routes_then services services_then runs periodic port is_running was_up routes_are services_are = grind arith
