-- One event of one of some routers: the others stay, and routers and what waits stand for that event more.
use Rattle.std.proofs.lemmas.Grind.{common_steps}
use Rattle.std.proofs.Common.{◌≡◌, ◌≢◌, true, refl, sym, ap, ◌∙◌, subst, ℕ, ◌<◌, List, [], ◌∷◌, ◌++◌, length, map, flat_map, slice_get, slice_set, get_or, Some, append_assoc, length-set, get_or-set_same, get_or-set_other, inl, inr, arith}
use Rattle.std.specs.List.{AllByRecursion}
use Rattle.std.specs.Option.{option_map}
use Rattle.std.proofs.Math.Seq.{map-set_same}
use Rattle.std.proofs.lemmas.Bool.{cases_eq}
use Rattle.std.proofs.lemmas.Option.{slice_get-map, slice_get_within, slice_get-get_or, get_or_from_slice_get}
use Rattle.ipx_wire.specs.Piece.{IsBytes}
use Rattle.ipx_router.specs.History.{Event, History, IsOnPort, IsOfBytes}
use Rattle.ipx_router.specs.Outcomes.{outcome}
use Rattle.ipx_router.specs.Port.{Port}
use Rattle.ipx_router.specs.Relays.{Sent}
use Rattle.ipx_router.specs.RouterOf.{HasPast}
use Rattle.ipx_router.specs.Sends.{sends}
use Rattle.ipx_router.specs.Stands.{State, StandsFor as RouterStandsFor}
use Rattle.ipx_router.specs.declared.outcome.Outcome.{Outcome}
use Rattle.ipx_internet.specs.Batches.{heard, reaching}
use Rattle.ipx_internet.specs.Delivery.{receives, delivered}
use Rattle.ipx_internet.specs.Internet.{Internet, Place, IsPlace, ports_of}
use Rattle.ipx_internet.specs.Moment.{StandsFor}
use Rattle.ipx_internet.specs.Queue.{Delivery, Queued, deliveries_of, history_of, queued}
use Rattle.ipx_internet.specs.Rounds.{IsDelivery}
use Rattle.ipx_internet.specs.inside.Simulated.{moment, net_among, AreRouters}
use Rattle.ipx_internet.specs.inside.Stations.{AreOf, place_of, hearers}
use Rattle.ipx_internet.specs.declared.stations.Station.{Station}
use Rattle.ipx_internet.proofs.lists.EachElement.{all_at, all-append, all-map, all-flat_map}
use Rattle.ipx_internet.proofs.places.EachPortOnce.{delivered_within}
use Rattle.ipx_internet.proofs.places.StationsThatHear.{heard_at}

-- ---- lists

module _ {X : Type 0} where
  pub all_got : (P : X → Type 0) (xs : List X) (k : ℕ) (x : X) → AllByRecursion P xs → slice_get xs k ≡ Some x → P x
  all_got P xs k x all got = subst P (get_or_from_slice_get xs k x x got) (all_at P xs k x all (slice_get_within xs k x got))

  all-set : (P : X → Type 0) (xs : List X) (k : ℕ) (x : X) → AllByRecursion P xs → P x → AllByRecursion P (slice_set xs k x)
  all-set P xs k x all one = grind (arith, common_steps)

  -- what is read at a place that was just written, and at another one
  written : (xs : List X) (k : ℕ) (x y : X) → k < length xs → slice_get (slice_set xs k x) k ≡ Some y → x ≡ y
  written xs k x y within got = sym (get_or-set_same xs k x y within) ∙ get_or_from_slice_get (slice_set xs k x) k y y got

  unwritten : (xs : List X) (k j : ℕ) (x y : X) → j ≢ k → slice_get (slice_set xs k x) j ≡ Some y → slice_get xs j ≡ Some y
  unwritten xs k j x y off got =
      let size = length-set xs k x in
      let less = slice_get_within (slice_set xs k x) j y got in
      slice_get-get_or xs j y (omega (arith, size, less))
      ∙ ap (λ z. Some z) (sym (get_or-set_other xs k j x y off) ∙ get_or_from_slice_get (slice_set xs k x) j y y got)

  -- what is read at a place of a list is there
  pub got_at : (xs : List X) (k : ℕ) (x : X) → k < length xs → x ≡ get_or xs k x → slice_get xs k ≡ Some x
  got_at xs k x within is = slice_get-get_or xs k x within ∙ ap (λ z. Some z) (sym is)

flat_map_same : {X Y : Type 0} (f g : X → List Y) → ((x : X) → f x ≡ g x) → (xs : List X) → flat_map f xs ≡ flat_map g xs
flat_map_same f g same xs = grind arith

-- ---- deliveries

-- those of one packet to stations are those to their places
at_places : (s : Sent) (ts : List Station) → map (reaching s) ts ≡ map (λ to. record { to = to; bytes = s.bytes }) (map place_of ts)
at_places s [] = refl
at_places s (t ∷ ts) = ap (λ (ds : List Delivery). reaching s t ∷ ds) (at_places s ts)

-- what the stations hear of a packet is what its ports receive
pub heard_is : (net : Internet) (list : List Station) → AreOf net list → (ports : List Port) (number : ℕ) → ports_of net number ≡ ports
    → (s : Sent) → heard list ports number s ≡ deliveries_of net number s
heard_is net list of ports number is s =
    ap (λ (ps : List Port). heard list ps number s) (sym is) ∙ at_places s (hearers list (ports_of net number) number s)
    ∙ ap (λ ps. map (λ to. record { to = to; bytes = s.bytes }) ps) (heard_at net list of (record { router = number; port = s.port }) s.link)

-- the ports that receive packets are there, and what they receive are bytes
pub are_coming : (net : Internet) (number : ℕ) (sents : List Sent) → AllByRecursion (λ s. IsBytes s.bytes) sents
    → AllByRecursion (IsDelivery net) (flat_map (deliveries_of net number) sents)
are_coming net number sents bytes =
    all-flat_map (λ s. IsBytes s.bytes) (IsDelivery net) (deliveries_of net number)
    (λ s are_bytes.
    let from : Place = record { router = number; port = s.port } in
    all-map (λ to. IsPlace net to × (receives net from s.link to ≡ true)) (IsDelivery net) (λ to. record { to = to; bytes = s.bytes })
    (λ to within. record { place = within.0; bytes = are_bytes })
    (delivered net from s.link) (delivered_within net from s.link))
    sents bytes

-- ---- one event

-- the ports of the router with a number
pub its_ports : (routers : List State) (number : ℕ) (s : State) → slice_get routers number ≡ Some s → ports_of (net_among routers) number ≡ s.ports
its_ports routers number s there =
    get_or_from_slice_get (net_among routers) number s.ports []
    (slice_get-map (λ (r : State). r.ports) routers number ∙ ap (λ o. option_map (λ (r : State). r.ports) o) there)

module _ (most_routes most_services : ℕ) (routers : List State) (number : ℕ) (s new : State) (there : slice_get routers number ≡ Some s)
    (same : new.ports ≡ s.ports) where
  abbrev after : List State
  after = slice_set routers number new

  abbrev net : Internet
  net = net_among routers

  pub same_net : net_among after ≡ net
  same_net = map-set_same (λ (r : State). r.ports) routers number new s (same ∙ ap (λ (r : State). r.ports) (sym (get_or_from_slice_get routers number s s there)))

  pub routers_after : (list : List Station) → AreRouters most_routes most_services routers list → HasPast most_routes most_services new
      → AreRouters most_routes most_services after list
  routers_after list are past = grind (arith, same_net, all-set)

  module _ (event : Event) (list : List Station) (of : AreOf net list) (old later : List Delivery)
      (sent : (h : History) → RouterStandsFor most_routes most_services s h
      → later ≡ old ++ flat_map (heard list s.ports number) (sends s.ports most_routes most_services h event)) where
    -- its deliveries, by the definition
    by_ports : (h : History) → RouterStandsFor most_routes most_services s h
        → later ≡ old ++ flat_map (deliveries_of net number) (sends (ports_of net number) most_routes most_services h event)
    by_ports h stands =
        sent h stands
        ∙ ap (λ ds. old ++ ds) (flat_map_same (heard list s.ports number) (deliveries_of net number)
        (heard_is net list of s.ports number (its_ports routers number s there))
        (sends s.ports most_routes most_services h event))
        ∙ ap (λ (ps : List Port). old ++ flat_map (deliveries_of net number) (sends ps most_routes most_services h event)) (sym (its_ports routers number s there))

    -- it is of bytes, if what routers send for events of bytes is
    pub coming_after : ((h : History) → AllByRecursion (IsOnPort (ports_of net number)) (h ++ event ∷ []) → AllByRecursion IsOfBytes (h ++ event ∷ [])
        → AllByRecursion (λ t. IsBytes t.bytes) (sends (ports_of net number) most_routes most_services h event))
        → IsOnPort (ports_of net number) event → IsOfBytes event
        → HasPast most_routes most_services s → AllByRecursion (IsDelivery net) old → AllByRecursion (IsDelivery net) later
    coming_after law on of_bytes past coming =
        let h = past.past in
        let ports = ports_of net number in
        let sent = sends ports most_routes most_services h event in
        let on_ports = subst (λ (ps : List Port). AllByRecursion (IsOnPort ps) h) (sym (its_ports routers number s there)) past.on_ports in
        let bytes = law h (all-append (IsOnPort ports) h (event ∷ []) on_ports (on, tt)) (all-append IsOfBytes h (event ∷ []) past.of_bytes (of_bytes, tt)) in
        subst (λ ds. AllByRecursion (IsDelivery net) ds) (sym (by_ports h past.stands))
        (all-append (IsDelivery net) old (flat_map (deliveries_of net number) sent) coming (are_coming net number sent bytes))

    pub stands_after : ((h : History) → RouterStandsFor most_routes most_services s h → RouterStandsFor most_routes most_services new (h ++ event ∷ []))
        → (before : List Delivery) (q : Queued) → StandsFor most_routes most_services (moment routers (before ++ old)) q
        → StandsFor most_routes most_services (moment after (before ++ later)) (queued net most_routes most_services q number event)
    stands_after step before q stands =
        let h = history_of q.histories number in
        let stood : RouterStandsFor most_routes most_services s h = stands.routers number s there in
        let within = slice_get_within routers number s there in
        let each = stands.each in
        let H : State → History → Type 0 = λ r g. RouterStandsFor most_routes most_services r g in
        record {
          each = length-set q.histories number (h ++ event ∷ []) ∙ each ∙ sym (length-set routers number new);
          routers = λ k r got. elim (cases_eq k number) [
            | inl e ↦
                let here : slice_get after number ≡ Some r = subst (λ (n : ℕ). slice_get after n ≡ Some r) e got in
                let now : history_of (slice_set q.histories number (h ++ event ∷ [])) k ≡ h ++ event ∷ [] =
                ap (λ (n : ℕ). history_of (slice_set q.histories number (h ++ event ∷ [])) n) e
                ∙ get_or-set_same q.histories number (h ++ event ∷ []) [] (omega (arith, within, each)) in
                subst (λ g. H r g) (sym now) (subst (λ t. H t (h ++ event ∷ [])) (written routers number new r within here) (step h stood))
            | inr off ↦
                subst (λ g. H r g) (sym (get_or-set_other q.histories number k (h ++ event ∷ []) [] off))
                (stands.routers k r (unwritten routers number k new r off got))
          ];
          queue =
              ap (λ ds. before ++ ds) (by_ports h stood)
              ∙ sym (append_assoc before old (flat_map (deliveries_of net number) (sends (ports_of net number) most_routes most_services h event)))
              ∙ ap (λ ds. ds ++ flat_map (deliveries_of net number) (sends (ports_of net number) most_routes most_services h event)) stands.queue;
        }

  pub outcome_after : (event : Event) (o : Outcome) → ((h : History) → RouterStandsFor most_routes most_services s h → o ≡ outcome s.ports most_routes h event)
      → (before : List Delivery) (q : Queued) → StandsFor most_routes most_services (moment routers before) q
      → o ≡ outcome (ports_of net number) most_routes (history_of q.histories number) event
  outcome_after event o is before q stands =
      is (history_of q.histories number) (stands.routers number s there)
      ∙ ap (λ (ps : List Port). outcome ps most_routes (history_of q.histories number) event) (sym (its_ports routers number s there))
