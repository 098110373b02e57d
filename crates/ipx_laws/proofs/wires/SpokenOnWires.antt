-- What flies where ports stay as they are and hosts tell of no route but to the networks of a list, and outsiders what is true: a router's own
-- pages, which say what was so when they were sent; what tells of no other route; and what flew at first, which is over soon. What outsiders say
-- flies nowhere.
use Rattle.std.proofs.Common.{◌≡◌, refl, sym, ◌∙◌, subst, ◌⊎◌, ℕ, suc, ◌+◌, ◌<◌, ◌≤◌, Bool, true, false, if◌then◌else◌, List, [], ◌∷◌, ◌++◌, length, flat_map, Option, None, Some, inl, inr, arith, get_or-set_same}
use Rattle.std.specs.List.{AllByRecursion}
use Rattle.std.proofs.lemmas.Bool.{cases_Bool, cases_lt, both_ways}
use Rattle.ipx_wire.specs.Crossed.{is_among}
use Rattle.ipx_wire.specs.declared.address.Address.{Address}
use Rattle.ipx_wire.specs.declared.node.Node.{Node}
use Rattle.ipx_wire.specs.declared.network.Network.{Network}
use Rattle.ipx_wire.specs.declared.rip.RipEntry.{RipEntry}
use Rattle.ipx_router.specs.Facts.{route_offer, routes_offered, routes_heard, heard_after, routes_held, offers}
use Rattle.ipx_router.specs.Heard.{Heard, HeardRip, HeardSap}
use Rattle.ipx_router.specs.History.{Event, History, Start, Stop, Second, Packet, PortDown, PortUp, running, ports_up}
use Rattle.ipx_router.specs.News.{news}
use Rattle.ipx_router.specs.Numbers.{unreachable}
use Rattle.ipx_router.specs.Port.{Port, port_at, is_up, takes_no_route}
use Rattle.ipx_router.specs.Relays.{Sent}
use Rattle.ipx_router.specs.Sends.{sends}
use Rattle.ipx_router.specs.Told.{told}
use Rattle.ipx_router.specs.Why.{first_of, when, is_stopped, malformed, packet_checks, why}
use Rattle.ipx_router.specs.declared.why.Why.{Why}
use Rattle.ipx_router.specs.declared.why.Why.TheVariants.{NotRunning, DownPort}
use Rattle.ipx_router.specs.declared.route_offer.RouteOffer.{RouteOffer}
use Rattle.ipx_router.proofs.histories.OneEventMore.{ports_stay}
use Rattle.ipx_router.proofs.lists.EachElement.{all_both}
use Rattle.ipx_router.proofs.tables.HeldWasOffered.{heard_up}
use Rattle.ipx_internet.specs.Internet.{Internet, IsInternet, Place, ports_of, port_of}
use Rattle.ipx_internet.specs.Queue.{Delivery, deliveries_of, history_of, sends_at}
use Rattle.ipx_internet.specs.Rounds.{IsDelivery}
use Rattle.ipx_internet.specs.Run.{Step, Happens, Settles}
use Rattle.ipx_internet.proofs.lists.EachElement.{all_then}
use Rattle.ipx_internet.proofs.lists.FoundInAList.{nothing, it_is}
use Rattle.ipx_internet.proofs.packets.ResponsesAskNothing.{IsAnswering, answering}
use Rattle.ipx_internet.proofs.packets.SentOnOrReply.{Layouts, IsReply, IsOnward, no_reply, unsaid}
use Rattle.ipx_internet.proofs.places.OneReceiverOfANode.{ports_at}
use Rattle.ipx_internet.proofs.records.KeptOrOffered.{OffersOf}
use Rattle.ipx_laws.specs.Apart.{TellsOnlyOf}
use Rattle.ipx_laws.specs.Meanwhile.{message_of, LeavesPorts}
use Rattle.ipx_laws.specs.Real.{IsTaken, IsReal, next, farther}
use Rattle.ipx_laws.specs.Servers.{IsForHere}
use Rattle.ipx_laws.specs.Outsiders.{IsTrueOf, own_network, real_route, IsOfOutsider, IsFromOutsider, SaysTruly}
use Rattle.ipx_laws.specs.Wires.{Flight, Wires, WireStep, Occurs, Lands, as_step, beaten, wired, wires_of, Along, EachBeat, EachWireStep, most_beats_flying}
use Rattle.ipx_laws.proofs.packets.RoutesOrSilence.{TellsApart, IsOwnPage, IsSpoken, changes_spoken}
use Rattle.ipx_laws.proofs.packets.SentOnSaysTheSame.{of_packet, heard_message, message_heard, sent_on_message}
use Rattle.ipx_laws.proofs.services.SpokenOfAServer.{here_stays}
use Rattle.ipx_laws.proofs.ticks.RealOrSoonEnded.{Reaches, Comes, RouteSaid, Endures, at_begin, second_endures, RouteOldBy, heard_endures, packet_endures, soon_endures, routes_said, changes_said}
use Rattle.ipx_laws.proofs.ticks.TickAfterTick.{all_come, second_spoken, packet_spoken}
use Rattle.ipx_laws.proofs.wires.BeatAfterBeat.{Happening, Leaves, Sends, Keeps, Going, AreSuch, StepsArise}
use Rattle.ipx_laws.proofs.wires.EarlyFlights.{IsEarly, early_soon, early_onward, early_first, IsSoon, soon_comes, soon_sent}

-- a page of entries of which something follows
own_page_then : (P Q : RipEntry → Type 0) → ((e : RipEntry) → P e → Q e) → (port : Port) (bytes : List ℕ) → IsOwnPage P port bytes → IsOwnPage Q port bytes
own_page_then P Q step port bytes is = record {
  to = is.to;
  home = is.home;
  page = record { page = is.page.page; some = is.page.some; each = all_then P Q step is.page.page is.page.each; read = is.page.read; says = is.page.says };
}

pub comes_then : (net : Internet) (up : ℕ → List ℕ) (foreign : List Network) (P Q : Place → RipEntry → Type 0) → ((from : Place) (e : RipEntry) → P from e → Q from e)
    → (to : Place) (bytes : List ℕ) → Comes net up foreign P to bytes → Comes net up foreign Q to bytes
comes_then net up foreign P Q step to bytes (inl (from, reaches, own)) =
    inl (from, reaches, own_page_then (P from) (Q from) (step from) (port_of net from) bytes own)
comes_then net up foreign P Q step to bytes (inr tells) = inr tells

-- any history, and any entry
abbrev pub AnyHistory : ℕ → History → Type 0
AnyHistory router history = Unit {0}

abbrev pub AnyEntry : ℕ → Place → RipEntry → Type 0
AnyEntry sent from e = Unit {0}

-- a router without a port that is up sends nothing
checked : (list : List (Option Why)) (reason : Why) → (found : Why) × (first_of (list ++ Some reason ∷ []) ≡ Some found)
checked [] reason = (reason, refl)
checked (Some other ∷ list) reason = (other, refl)
checked (None ∷ list) reason = checked list reason

dropped : (o : Option Why) (reason : Why) (rest : List Sent) → o ≡ Some reason → ◌≡◌ {A = List Sent} (elim o [ Some found ↦ [] | None ↦ rest ]) []
dropped o reason rest e = grind arith

module _ (ports : List Port) (most_routes most_services : ℕ) (history : History) (none : ports_up ports history ≡ []) where
  pub deaf_second : sends ports most_routes most_services history Second ≡ []
  deaf_second = rw (ports_stay ports history Second refl refl (λ port. refl) (λ port. refl) ∙ none) (either (running history))
    where
      either : (runs : Bool) → ◌≡◌ {A = List Sent} (if runs then [] else []) []
      either true = refl
      either false = refl

  pub deaf_packet : (number : ℕ) (bytes : List ℕ) → sends ports most_routes most_services history (Packet number bytes) ≡ []
  deaf_packet number bytes =
      let routes = offers (routes_held ports most_routes history) in
      let (reason, is) = checked (when (is_stopped (running history)) NotRunning ∷ malformed bytes ∷ packet_checks ports [] routes (port_at ports number) bytes) DownPort in
      dropped (why ports (ports_up ports history) routes (running history) number bytes) reason _
      (subst (λ (us : List ℕ). why ports us routes (running history) number bytes ≡ Some reason) (sym none) is)

-- what is taken of a true entry is a route of a real way
pub true_taken : (net : Internet) (up : ℕ → List ℕ) (router number : ℕ) (from : Place) → Reaches net up from (record { router = router; port = number })
    → is_up (up router) number ≡ true → (e : RipEntry) → takes_no_route (ports_of net router) e.network ≡ false → e.hops < unreachable → IsTrueOf net up from e
    → IsReal net up router (route_offer number (port_of net from).node e)
true_taken net up router number from reaches on e taken near true_one = by true_one
  where
    r : RouteOffer
    r = route_offer number (port_of net from).node e

    taken_so : IsTaken net up router r from e
    taken_so = record { other = reaches.other; here = on; there = reaches.on; network = reaches.network; wanted = taken; offer = refl }

    by : IsTrueOf net up from e → IsReal net up router r
    by (own_network beside up_there apart same) = next from beside up_there apart (subst (λ (x : RipEntry). IsTaken net up router r from x) same taken_so)
    by (real_route s apart real_there same) = farther from s apart (subst (λ (x : RipEntry). IsTaken net up router r from x) same taken_so) near real_there

-- what is so of the history of each router of ours at any moment, and so of each entry that the router sends then; outsiders say such entries
module _ (delay slack : ℕ) (net : Internet) (laws : Layouts) (is : IsInternet net) (most_routes most_services : ℕ) (up : ℕ → List ℕ) (foreign : List Network)
    (ours : ℕ) (Strange : Place → RipEntry → Type 0) (truth : (from : Place) (e : RipEntry) → Strange from e → IsTrueOf net up from e)
    (Fit : ℕ → History → Type 0) (Extra : ℕ → Place → RipEntry → Type 0) where
  abbrev pub Real : ℕ → Place → RipEntry → Type 0
  Real sent = RouteSaid delay slack net up foreign (suc sent)

  abbrev pub Told : ℕ → Place → RipEntry → Type 0
  Told sent from e = Real sent from e × Extra sent from e

  -- ---- what flies

  abbrev pub Speaks : Place → List ℕ → ℕ → Type 0
  Speaks to bytes sent = Comes net up foreign (Told sent) to bytes ⊎ IsSoon delay slack (port_of net to) bytes sent

  pub record Flies (f : Flight) : Type 0 where
    pub delivery : IsDelivery net f.delivery
    pub speaks : Speaks f.delivery.to f.delivery.bytes f.sent

  -- what a router has, and which ports are up
  abbrev pub Ours : ℕ → ℕ → History → Type 0
  Ours router had history = Endures delay slack net up foreign most_routes router had history

  -- so of one of ours; an outsider doesn't run
  abbrev pub Lasts : ℕ → ℕ → History → Type 0
  Lasts router had history = (router < ours → Ours router had history) × (ours ≤ router → ports_up (ports_of net router) history ≡ [])

  -- an outsider's response
  pub record IsAOutsiders (to : Place) (bytes : List ℕ) : Type 0 where
    pub home : IsForHere (port_of net to) bytes
    pub says : (m : Heard) → message_of bytes ≡ Some m → IsFromOutsider net up ours foreign Strange to m

  -- what comes from outside: seconds, and packets that tell of no other route, or are an outsider's
  abbrev pub FromOutside : ℕ → Event → Type 0
  FromOutside router (Packet number bytes) = TellsApart foreign bytes ⊎ IsAOutsiders (record { router = router; port = number }) bytes
  FromOutside router Second = Unit
  FromOutside router event = ⊥

  abbrev pub Arises : ℕ → List History → ℕ → Event → Type 0
  Arises beats histories router event = FromOutside router event

  abbrev pub Good : List History → Type 0
  Good histories = (router : ℕ) → router < length net → router < ours → Fit router (history_of histories router)

  abbrev pub routes_in : ℕ → History → List RouteOffer
  routes_in router history = offers (routes_held (ports_of net router) most_routes history)

  abbrev pub own_port : ℕ → ℕ → Place
  own_port router j = record { router = router; port = j }

  -- so of all that a router advertises then, and of its changes
  pub record Extras : Type 0 where
    pub advertised : (beats had router : ℕ) (history : History) → beats ≤ had → Ours router had history → Fit router history → (j : ℕ)
        → AllByRecursion (Extra beats (own_port router j)) (told (ports_of net router) (up router) (routes_in router history) j)
    pub changed : (beats had later router : ℕ) (old new : History) → beats ≤ had → beats ≤ later → Ours router had old → Ours router later new
        → Fit router old → Fit router new → (j : ℕ)
        → AllByRecursion (Extra beats (own_port router j)) (news (ports_of net router) (routes_in router old) (routes_in router new) j)

  abbrev At : List History → ℕ → Event → Type 0
  At = Happening net laws is most_routes most_services delay Lasts Flies Arises Good

  abbrev LeavesIt : ℕ → List History → ℕ → Event → Type 0
  LeavesIt = Leaves net laws is most_routes most_services delay Lasts Flies Arises Good

  abbrev SendsIt : ℕ → List History → ℕ → Event → Type 0
  SendsIt = Sends net laws is most_routes most_services delay Lasts Flies Arises Good

  -- the history with an event more is the one that is there then
  fit_now : (histories : List History) (router : ℕ) (event : Event) → At histories router event → router < ours
      → Fit router (history_of histories router ++ event ∷ [])
  fit_now histories router event place mine =
      let within = place.within in
      let each = place.are.each in
      let listed : router < length histories = omega (arith, within, each) in
      subst (λ (h : History). Fit router h) (get_or-set_same histories router (history_of histories router ++ event ∷ []) [] listed) (place.good_now router within mine)

  -- ---- what a router says itself

  module _ (beats : ℕ) (histories : List History) (router : ℕ) (event : Event) (place : At histories router event) where
    abbrev past : History
    past = history_of histories router

    abbrev sents : List Sent
    sents = sends_at net most_routes most_services histories router event

    abbrev Flying : Delivery → Type 0
    Flying d = Flies (record { delivery = d; sent = beats })

    -- nothing flies where nothing is sent
    none_fly : sents ≡ [] → AllByRecursion Flying (flat_map (deliveries_of net router) sents)
    none_fly none = subst (λ (ss : List Sent). AllByRecursion Flying (flat_map (deliveries_of net router) ss)) (sym none) tt

    spoken_flies : AllByRecursion (IsSpoken foreign (up router) (λ j. Told beats (own_port router j)) (ports_of net router)) sents
        → AllByRecursion Flying (flat_map (deliveries_of net router) sents)
    spoken_flies spoken =
        all_then (λ d. IsDelivery net d × Comes net up foreign (Told beats) d.to d.bytes) Flying (λ d both. record { delivery = both.0; speaks = inl both.1 })
        (flat_map (deliveries_of net router) sents)
        (all_come net laws is most_routes most_services up foreign (Told beats) histories place.are router event place.on place.of_bytes spoken)

    -- or sends for what flew at first
    others_fly : AllByRecursion (λ s. IsSoon delay slack (port_at (ports_of net router) s.port) s.bytes beats) sents
        → AllByRecursion Flying (flat_map (deliveries_of net router) sents)
    others_fly others =
        all_then (λ d. IsDelivery net d × IsSoon delay slack (port_of net d.to) d.bytes beats) Flying (λ d both. record { delivery = both.0; speaks = inr both.1 })
        (flat_map (deliveries_of net router) sents)
        (soon_comes delay slack net laws is most_routes most_services beats histories place.are router event place.on place.of_bytes others)

  module _ (extras : Extras) where
    all_told : (beats had router : ℕ) (history : History) → beats ≤ had → Ours router had history → Fit router history → (j : ℕ)
        → AllByRecursion (Told beats (own_port router j)) (told (ports_of net router) (up router) (routes_in router history) j)
    all_told beats had router history enough lasts fit j =
        all_both (Real beats (own_port router j)) (Extra beats (own_port router j)) (told (ports_of net router) (up router) (routes_in router history) j)
        (routes_said delay slack net up foreign most_routes router had (suc beats) (omega (arith, enough)) history lasts j)
        (extras.advertised beats had router history enough lasts fit j)

    all_news : (beats had later router : ℕ) (old new : History) → beats ≤ had → beats ≤ later → Ours router had old → Ours router later new → Fit router old
        → Fit router new → (j : ℕ) → AllByRecursion (Told beats (own_port router j)) (news (ports_of net router) (routes_in router old) (routes_in router new) j)
    all_news beats had later router old new enough enough_then lasts then_lasts fit fit_then j =
        all_both (Real beats (own_port router j)) (Extra beats (own_port router j)) (news (ports_of net router) (routes_in router old) (routes_in router new) j)
        (changes_said delay slack net up foreign most_routes router later (suc beats) (omega (arith, enough_then)) new then_lasts (routes_in router old) j)
        (extras.changed beats had later router old new enough enough_then lasts then_lasts fit fit_then j)

    -- ---- seconds

    second_sends : (beats : ℕ) (histories : List History) (router : ℕ) → At histories router Second → router < ours → SendsIt beats histories router Second
    second_sends beats histories router place mine (old, unused) (new, unused_too) =
        let now = history_of histories router ++ Second ∷ [] in
        let fit_then = fit_now histories router Second place mine in
        spoken_flies beats histories router Second place
        (second_spoken net laws is most_routes most_services up foreign (λ j. Told beats (own_port router j)) histories router place.are (new mine).ups
        (all_told beats (suc beats) router now (omega arith) (new mine) fit_then)
        (all_news beats beats (suc beats) router (history_of histories router) now (omega arith) (omega arith) (old mine) (new mine)
        (place.good router place.within mine) fit_then))

    -- ---- packets

    module _ (beats : ℕ) (histories : List History) (d : Delivery) (place : At histories d.to.router (Packet d.to.port d.bytes)) (delivery : IsDelivery net d)
        (mine : d.to.router < ours) where
      abbrev router : ℕ
      router = d.to.router

      abbrev ports : List Port
      ports = ports_of net router

      abbrev before : History
      before = history_of histories router

      abbrev now : History
      now = before ++ Packet d.to.port d.bytes ∷ []

      abbrev heard_now : Option Heard
      heard_now = heard_after ports before d.to.port d.bytes

      abbrev here : List Sent
      here = sends_at net most_routes most_services histories router (Packet d.to.port d.bytes)

      fit : Fit router before
      fit = place.good router place.within mine

      fit_then : Fit router now
      fit_then = fit_now histories router (Packet d.to.port d.bytes) place mine

      abbrev Says : ℕ → RipEntry → Type 0
      Says j = Told beats (own_port router j)

      -- what is told when it comes
      packet_sends : (R : Place → RipEntry → Type 0) → Comes net up foreign R d.to d.bytes → SendsIt beats histories router (Packet d.to.port d.bytes)
      packet_sends R comes (old, unused) (new, unused_too) =
          spoken_flies beats histories router (Packet d.to.port d.bytes) place
          (packet_spoken net laws is most_routes most_services up foreign Says R histories place.are d delivery comes (old mine).ups (new mine).ups
          (λ m e silent. all_told beats beats router before (omega arith) (old mine) fit d.to.port)
          (all_news beats beats beats router before now (omega arith) (omega arith) (old mine) (new mine) fit fit_then))

      -- what is sent for what flew at first, if what is sent on of it is early
      early_sends : delay + suc beats ≤ slack → ((s : Sent) → IsOnward (port_at ports d.to.port) d.bytes s.bytes → IsEarly delay slack s.bytes beats)
          → SendsIt beats histories router (Packet d.to.port d.bytes)
      early_sends soon early old new =
          others_fly beats histories router (Packet d.to.port d.bytes) place
          (soon_sent delay slack net laws is most_routes most_services beats histories place.are router d.to.port d.bytes delivery.place delivery.bytes soon early)

      -- for a response nothing is told but changes, if what is sent on of it is spoken too
      response_sends : ((s : Sent) → IsOnward (port_at ports d.to.port) d.bytes s.bytes → TellsApart foreign s.bytes)
          → ((m : Heard) → heard_now ≡ Some m → IsAnswering m) → SendsIt beats histories router (Packet d.to.port d.bytes)
      response_sends goes_on answers (old, unused) (new, unused_too) =
          spoken_flies beats histories router (Packet d.to.port d.bytes) place
          (subst (λ (us : List ℕ). AllByRecursion (IsSpoken foreign us Says ports) here) (new mine).ups (by heard_now refl))
        where
          after : List ℕ
          after = ports_up ports now

          by : (o : Option Heard) → heard_now ≡ o → AllByRecursion (IsSpoken foreign after Says ports) here
          by None e =
              all_then (λ s. IsOnward (port_at ports d.to.port) d.bytes s.bytes) (IsSpoken foreign after Says ports)
              (λ s onward. inr (goes_on s onward)) here
              (unsaid laws ports (ports_at net is router) most_routes most_services before (place.are.on_ports router) (place.are.of_bytes router) d.to.port d.bytes
              delivery.place delivery.bytes e)
          by (Some m) e =
              changes_spoken foreign laws ports (ports_at net is router) most_routes most_services before (place.are.on_ports router) (place.are.of_bytes router) d.to.port
              d.bytes delivery.place delivery.bytes Says
              (all_news beats beats beats router before now (omega arith) (omega arith) (old mine) (new mine) fit fit_then)
              (λ m e silent. subst (λ (us : List ℕ). AllByRecursion (Says d.to.port) (told ports us (offers (routes_held ports most_routes before)) d.to.port))
              (sym (old mine).ups) (all_told beats beats router before (omega arith) (old mine) fit d.to.port))
              m e (answers m e)

      over_sends : IsReply (port_of net d.to) d.bytes → SendsIt beats histories router (Packet d.to.port d.bytes)
      over_sends reply =
          response_sends (λ s onward. absurd (no_reply (port_at ports d.to.port) d.bytes s.bytes reply onward))
          (λ m e. answering reply.packet reply.answers m
          (message_heard reply.packet m (of_packet d.bytes reply.packet m reply.read (heard_message ports before d.to.port d.bytes m e))))

      outsider_sends : IsAOutsiders d.to d.bytes → SendsIt beats histories router (Packet d.to.port d.bytes)
      outsider_sends theirs =
          response_sends (λ s onward m e.
          absurd (here_stays (port_at ports d.to.port) d.bytes s.bytes m (sent_on_message (port_at ports d.to.port) d.bytes s.bytes onward m e) theirs.home onward))
          (λ m e. answers m (theirs.says m (heard_message ports before d.to.port d.bytes m e)))
        where
          answers : (m : Heard) → IsFromOutsider net up ours foreign Strange d.to m → IsAnswering m
          answers (HeardRip source rip) says = says.0
          answers (HeardSap source sap) says = absurd says

    -- ---- what an outsider offers

    module _ (router had number : ℕ) (bytes : List ℕ) (history : History) (old : Ours router had history)
        (theirs : IsAOutsiders (record { router = router; port = number }) bytes) where
      abbrev to : Place
      to = record { router = router; port = number }

      abbrev OldHere : RouteOffer → Type 0
      OldHere = RouteOldBy delay slack net up foreign most_routes router had

      -- an entry is of the list, or what is taken of it is a route of a real way
      entry_old : is_up (up router) number ≡ true → router < ours → (source : Address) (from : Place) → IsOfOutsider net up ours to source.node from → (e : RipEntry)
          → takes_no_route (ports_of net router) e.network ≡ false → (is_among e.network foreign ≡ true) ⊎ Strange from e
          → OldHere (route_offer number source.node e)
      entry_old on mine source from of_one e taken (inl listed) near = inl (λ off. absurd (both_ways (is_among e.network foreign) off listed))
      entry_old on mine source from of_one e taken (inr says) near =
          inl (λ off. subst (λ (n : Node). IsReal net up router (route_offer number n e)) (sym of_one.same_node)
          (true_taken net up router number from (record {
            other = λ same. let strange = of_one.outsider in omega (arith, strange, mine, same);
            network = of_one.network;
            on = of_one.there;
          }) on e taken near (truth from e says)))

      entries_old : is_up (up router) number ≡ true → router < ours → (source : Address) (from : Place) → IsOfOutsider net up ours to source.node from
          → (entries : List RipEntry) → AllByRecursion (λ e. (is_among e.network foreign ≡ true) ⊎ Strange from e) entries
          → AllByRecursion (OffersOf OldHere) (routes_offered (ports_of net router) number source.node entries)
      entries_old on mine source from of_one [] all = tt
      entries_old on mine source from of_one (e ∷ entries) all = elim (cases_Bool (takes_no_route (ports_of net router) e.network)) [
        | inl none ↦ rw none (entries_old on mine source from of_one entries all.1)
        | inr taken ↦ rw taken (entry_old on mine source from of_one e taken all.0, entries_old on mine source from of_one entries all.1)
      ]

      outsider_old : router < ours → (o : Option Heard) → heard_after (ports_of net router) history number bytes ≡ o
          → AllByRecursion (OffersOf OldHere) (routes_heard (ports_of net router) number o)
      outsider_old mine None e = tt
      outsider_old mine (Some m) e =
          by m (theirs.says m (heard_message ports history number bytes m e))
        where
          ports : List Port
          ports = ports_of net router

          on : is_up (up router) number ≡ true
          on = subst (λ (us : List ℕ). is_up us number ≡ true) old.ups (heard_up ports (ports_up ports history) number (running history) bytes m e)

          by : (m : Heard) → IsFromOutsider net up ours foreign Strange to m → AllByRecursion (OffersOf OldHere) (routes_heard ports number (Some m))
          by (HeardSap source sap) says = absurd says
          by (HeardRip source rip) (response, from, of_one, all) = rw response (entries_old on mine source from of_one rip.entries all)

      outsider_endures : router < ours → Ours router had (history ++ Packet number bytes ∷ [])
      outsider_endures mine = heard_endures delay slack net up foreign most_routes router had number bytes history old (outsider_old mine)

    -- ---- each event

    module _ (beats : ℕ) (histories : List History) (router : ℕ) where
      abbrev past_of : History
      past_of = history_of histories router

      outside_leaves : (event : Event) → At histories router event → FromOutside router event → LeavesIt beats histories router event
      outside_leaves Second place outside had few (old, stopped) = (
        λ mine. second_endures delay slack net up foreign most_routes router had past_of (old mine),
        λ strange. ports_stay (ports_of net router) past_of Second refl refl (λ port. refl) (λ port. refl) ∙ stopped strange,
      )
      outside_leaves (Packet number bytes) place (inl apart) had few (old, stopped) = (
        λ mine. packet_endures delay slack net up foreign most_routes router had (suc beats) number bytes (omega (arith, few)) (inr apart) past_of (old mine),
        λ strange. ports_stay (ports_of net router) past_of (Packet number bytes) refl refl (λ port. refl) (λ port. refl) ∙ stopped strange,
      )
      outside_leaves (Packet number bytes) place (inr theirs) had few (old, stopped) = (
        λ mine. outsider_endures router had number bytes past_of (old mine) theirs mine,
        λ strange. ports_stay (ports_of net router) past_of (Packet number bytes) refl refl (λ port. refl) (λ port. refl) ∙ stopped strange,
      )
      outside_leaves Start place outside had few old = absurd outside
      outside_leaves Stop place outside had few old = absurd outside
      outside_leaves (PortDown number) place outside had few old = absurd outside
      outside_leaves (PortUp number) place outside had few old = absurd outside

      outside_sends : (event : Event) → At histories router event → FromOutside router event → SendsIt beats histories router event
      outside_sends Second place outside old new = elim (cases_lt router ours) [
        | inl mine ↦ second_sends beats histories router place mine old new
        | inr strange ↦ none_fly beats histories router Second place (deaf_second (ports_of net router) most_routes most_services past_of (old.1 strange))
      ]
      outside_sends (Packet number bytes) place outside old new = elim (cases_lt router ours) [
        | inr strange ↦ none_fly beats histories router (Packet number bytes) place (deaf_packet (ports_of net router) most_routes most_services past_of (old.1 strange) number bytes)
        | inl mine ↦
            let d : Delivery = record { to = record { router = router; port = number }; bytes = bytes } in
            let delivery : IsDelivery net d = record { place = place.on; bytes = place.of_bytes } in
            elim outside [
              | inl apart ↦ packet_sends beats histories d place delivery mine (Told beats) (inr apart) old new
              | inr theirs ↦ outsider_sends beats histories d place delivery mine theirs old new
            ]
      ]
      outside_sends Start place outside old new = absurd outside
      outside_sends Stop place outside old new = absurd outside
      outside_sends (PortDown number) place outside old new = absurd outside
      outside_sends (PortUp number) place outside old new = absurd outside

    module _ (beats : ℕ) (histories : List History) (f : Flight)
        (place : At histories f.delivery.to.router (Packet f.delivery.to.port f.delivery.bytes)) (flies : Flies f) (timely : beats ≤ f.sent + delay) where
      abbrev past_there : History
      past_there = history_of histories f.delivery.to.router

      abbrev lands_then : History
      lands_then = past_there ++ Packet f.delivery.to.port f.delivery.bytes ∷ []

      lands_leaves : LeavesIt beats histories f.delivery.to.router (Packet f.delivery.to.port f.delivery.bytes)
      lands_leaves had few (old, stopped) = (
        λ mine. by mine flies.speaks,
        λ strange. ports_stay (ports_of net f.delivery.to.router) past_there (Packet f.delivery.to.port f.delivery.bytes) refl refl (λ port. refl) (λ port. refl) ∙ stopped strange,
      )
        where
          soon : f.delivery.to.router < ours → had ≤ slack → Ours f.delivery.to.router had lands_then
          soon mine all = soon_endures delay slack net up foreign most_routes f.delivery.to.router had f.delivery.to.port f.delivery.bytes past_there all (old mine)

          by : f.delivery.to.router < ours → Speaks f.delivery.to f.delivery.bytes f.sent → Ours f.delivery.to.router had lands_then
          by mine (inl comes) =
              packet_endures delay slack net up foreign most_routes f.delivery.to.router had (suc f.sent) f.delivery.to.port f.delivery.bytes (omega (arith, few, timely))
              (comes_then net up foreign (Told f.sent) (Real f.sent) (λ from e both. both.0) f.delivery.to f.delivery.bytes comes)
              past_there (old mine)
          by mine (inr (inl early)) = let all = early_soon delay slack f.delivery.bytes f.sent beats early timely in soon mine (omega (arith, all, few))
          by mine (inr (inr over)) = let all = over.soon in soon mine (omega (arith, all, few, timely))

      lands_sends : SendsIt beats histories f.delivery.to.router (Packet f.delivery.to.port f.delivery.bytes)
      lands_sends old new = elim (cases_lt f.delivery.to.router ours) [
        | inl mine ↦ by mine flies.speaks old new
        | inr strange ↦
            none_fly beats histories f.delivery.to.router (Packet f.delivery.to.port f.delivery.bytes) place
            (deaf_packet (ports_of net f.delivery.to.router) most_routes most_services past_there (old.1 strange) f.delivery.to.port f.delivery.bytes)
      ]
        where
          by : f.delivery.to.router < ours → Speaks f.delivery.to f.delivery.bytes f.sent
              → SendsIt beats histories f.delivery.to.router (Packet f.delivery.to.port f.delivery.bytes)
          by mine (inl comes) = packet_sends beats histories f.delivery place flies.delivery mine (Told f.sent) comes
          by mine (inr (inl early)) =
              early_sends beats histories f.delivery place flies.delivery mine (early_soon delay slack f.delivery.bytes f.sent beats early timely)
              (λ s onward. early_onward delay slack (port_of net f.delivery.to) f.delivery.bytes s.bytes f.sent beats early timely onward)
          by mine (inr (inr over)) = over_sends beats histories f.delivery place flies.delivery mine over.reply

    pub keeps : Keeps net laws is most_routes most_services delay Lasts Flies Arises Good
    keeps = record {
      weakens = λ router history old. ((λ mine. at_begin delay slack net up foreign most_routes router history (old.0 mine).ups), old.1);
      delivers = λ f flies. flies.delivery;
      occurs_leaves = λ beats histories router event place outside. outside_leaves beats histories router event place outside;
      occurs_sends = λ beats histories router event place outside. outside_sends beats histories router event place outside;
      lands_leaves = λ beats histories f place flies timely. lands_leaves beats histories f place flies timely;
      lands_sends = λ beats histories f place flies timely. lands_sends beats histories f place flies timely;
    }

  -- ---- what comes of it

  -- hosts tell of no other route, outsiders say what is true, and ports stay as they are
  abbrev OfStep : Step → Type 0
  OfStep (Happens there event) = FromOutside there event
  OfStep Settles = Unit

  abbrev pub Truly : Step → Type 0
  Truly = SaysTruly net up ours foreign Strange

  outside : (step : Step) → LeavesPorts step → Truly step → OfStep step
  outside (Happens there Second) leaves says = tt
  outside (Happens there (Packet number bytes)) leaves says = by (message_of bytes) refl
    where
      by : (o : Option Heard) → message_of bytes ≡ o → FromOutside there (Packet number bytes)
      by None e = inl (λ m is. nothing (sym e ∙ is))
      by (Some m) e = elim (says m e) [
        | inl apart ↦ inl (λ n is. it_is (TellsOnlyOf foreign) n m (sym e ∙ is) apart)
        | inr theirs ↦ inr (record {
          home = theirs.0;
          says = λ n is. it_is (IsFromOutsider net up ours foreign Strange (record { router = there; port = number })) n m (sym e ∙ is) theirs.1;
        })
      ]
  outside (Happens there Start) leaves says = absurd leaves
  outside (Happens there Stop) leaves says = absurd leaves
  outside (Happens there (PortDown number)) leaves says = absurd leaves
  outside (Happens there (PortUp number)) leaves says = absurd leaves
  outside Settles leaves says = tt

  abbrev pub Such : Wires → List WireStep → Type 0
  Such = AreSuch net laws is most_routes most_services delay Lasts Flies Arises Good

  pub steps_arise : (w : Wires) (steps : List WireStep) → AllByRecursion (λ step. LeavesPorts (as_step step)) steps
      → AllByRecursion (λ step. Truly (as_step step)) steps
      → StepsArise net laws is most_routes most_services delay Lasts Flies Arises Good w steps
  steps_arise w [] leave say = tt
  steps_arise w (Occurs router event ∷ steps) leave say =
      (outside (Happens router event) leave.0 say.0, steps_arise (wired net most_routes most_services delay w (Occurs router event)) steps leave.1 say.1)
  steps_arise w (Lands which ∷ steps) leave say = (tt, steps_arise (wired net most_routes most_services delay w (Lands which)) steps leave.1 say.1)

  abbrev pub AllGood : Wires → List WireStep → Type 0
  AllGood w steps = Along net most_routes most_services delay (λ now. Good now.histories) w steps

  pub such_beats : (w : Wires) (beats : List (List WireStep)) → EachBeat net most_routes most_services delay AllGood w beats → EachWireStep LeavesPorts beats
      → EachWireStep Truly beats → EachBeat net most_routes most_services delay Such w beats
  such_beats w [] good leave say = tt
  such_beats w (steps ∷ beats) good leave say = (
    record { arise = steps_arise w steps leave.0 say.0; good = good.0 },
    such_beats (beaten (wires_of net most_routes most_services delay w steps)) beats good.1 leave.1 say.1,
  )

  abbrev pub Goes : ℕ → (ℕ → ℕ) → Wires → Type 0
  Goes = Going net laws is most_routes most_services delay Lasts Flies Arises Good

  -- whatever flies at first is early
  pub any_flies : most_beats_flying delay ≤ slack → (d : Delivery) → IsDelivery net d → Flies (record { delivery = d; sent = 0 })
  any_flies room d delivery = record { delivery = delivery; speaks = inr (inl (early_first delay slack room d.bytes)) }
