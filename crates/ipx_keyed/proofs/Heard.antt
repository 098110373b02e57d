-- Each client was heard, and how it came in.
use Rattle.std.proofs.Common.{◌≡◌, ◌∙◌, refl, sym, ap, subst, arith, ℕ, ◌-◌, ◌≤◌, Bool, true, false, ◌&&◌, ◌||◌, if◌then◌else◌, ◌⊎◌, inl, inr, List, [], ◌∷◌, map, filter}
use Rattle.std.specs.List.{list_any, AllByRecursion}
use Rattle.std.proofs.lemmas.Bool.{cases_Bool, false≢true, ltb-true}
use Rattle.std.proofs.lemmas.List.Folds.{list_any-append}
use Rattle.ipx_wire.specs.declared.header.Header.{Header}
use Rattle.ipx_wire.specs.declared.node.Node.{Node}
use Rattle.ipx_tunnel.specs.Places.{same_node}
use Rattle.ipx_tunnel.proofs.Lists.{filter-map, each-append, each-weaker, each-filter}
use Rattle.ipx_tunnel.proofs.Nodes.{same_is}
use Rattle.ipx_tunnel.proofs.Sending.{left_of, right_of}
use Rattle.ipx_keyed.specs.declared.client.Client.{Client}
use Rattle.ipx_keyed.specs.declared.said.Said.{Said}
use Rattle.ipx_keyed.specs.declared.said.Said.TheVariants.{Nothing, Registers, Answers, Speaks}
use Rattle.ipx_keyed.specs.declared.sender.Sender.{Sender}
use Rattle.ipx_keyed.specs.declared.setting.Setting.{Setting}
use Rattle.ipx_keyed.specs.Events.{Event, Datagram, Second, Send, History}
use Rattle.ipx_keyed.specs.Says.{said, node_in}
use Rattle.ipx_keyed.specs.Members.{is_it, is_client_as, is_remembered, is_open, stays, later, fresh}
use Rattle.ipx_keyed.specs.Tables.{proves, prolongs, lasts, refreshed, clients, waiting}
use Rattle.ipx_keyed.specs.Laws.{seconds, Shows, renews, LastHeard, Given, is_client, ComesBy}
use Rattle.ipx_keyed.proofs.At.{each-map, kept_as}
use Rattle.ipx_keyed.proofs.Remembered.{each-passed, each-one, was_given}
use Rattle.ipx_keyed.proofs.Shown.{either, shows_prolonged, shows_proven}

module _ (setting : Setting) where
  -- ---- one client, one event more

  heard_now : (from : Sender) (bytes : List ℕ) (earlier : History) (node : Node) → Shows from (waiting setting earlier) node (said setting.network from bytes)
      → LastHeard setting (fresh from node (lasts from)) (Datagram from bytes ∷ earlier)
  heard_now from bytes earlier node shows = record {
    later = [];
    from = from;
    bytes = bytes;
    earlier = earlier;
    event = refl;
    sender = refl;
    shows = shows;
    silence = tt;
    cookie = refl;
    left = omega arith;
  }

  -- an event that doesn't keep it in, and is no second
  goes_by : (event : Event) (earlier : History) (c : Client) → ((l : History) → seconds (event ∷ l) ≡ seconds l) → renews setting c event ≡ false
      → LastHeard setting c earlier → LastHeard setting c (event ∷ earlier)
  goes_by event earlier c same none r = record {
    later = event ∷ r.later;
    from = r.from;
    bytes = r.bytes;
    earlier = r.earlier;
    event = ap (λ (h : History). event ∷ h) r.event;
    sender = r.sender;
    shows = r.shows;
    silence = (none, r.silence);
    cookie = r.cookie;
    left = omega (arith, r.left, same r.later);
  }

  -- what doesn't keep a client in, doesn't a second later
  same_silence : (c : Client) (events : History) → AllByRecursion (λ e. renews setting c e ≡ false) events → AllByRecursion (λ e. renews setting (later c) e ≡ false) events
  same_silence c [] all = tt
  same_silence c (Datagram from bytes ∷ events) all = (all.0, same_silence c events all.1)
  same_silence c (Second ∷ events) all = (refl, same_silence c events all.1)
  same_silence c (Send to bytes ∷ events) all = (refl, same_silence c events all.1)

  a_second_goes : (earlier : History) (c : Client) → stays (later c) ≡ true → LastHeard setting c earlier → LastHeard setting (later c) (Second ∷ earlier)
  a_second_goes earlier c stay r = record {
    later = Second ∷ r.later;
    from = r.from;
    bytes = r.bytes;
    earlier = r.earlier;
    event = ap (λ (h : History). Second ∷ h) r.event;
    sender = r.sender;
    shows = r.shows;
    silence = (refl, same_silence c r.later r.silence);
    cookie = r.cookie;
    left = omega (arith, r.left, ltb-true 0 (c.seconds_left - 1) stay);
  }

  heard_or_not : (from : Sender) (bytes : List ℕ) (earlier : History) (c : Client) → LastHeard setting c earlier
      → LastHeard setting (refreshed from (said setting.network from bytes) c) (Datagram from bytes ∷ earlier)
  heard_or_not from bytes earlier c r =
      let s = said setting.network from bytes in
      let now = Datagram from bytes ∷ earlier in
      let after = λ (b : Bool). if b then fresh from c.node (lasts from) else c in
      elim (cases_Bool (prolongs from s && is_it from.place (node_in from s) c)) [
        | inl renewed ↦
            let it = right_of (prolongs from s) (is_it from.place (node_in from s) c) renewed in
            let named = sym (same_is c.node (node_in from s) (right_of (same_node c.place from.place) _ it)) in
            subst (λ d. LastHeard setting d now) (sym (ap after renewed))
            (heard_now from bytes earlier c.node (shows_prolonged from (waiting setting earlier) c.node s (left_of (prolongs from s) _ renewed) named))
        | inr none ↦ subst (λ d. LastHeard setting d now) (sym (ap after none)) (goes_by (Datagram from bytes) earlier c (λ l. refl) none r)
      ]

  -- ---- each client

  pub each_heard : (history : History) → AllByRecursion (λ c. LastHeard setting c history) (clients setting history)
  each_heard [] = tt
  each_heard (Datagram from bytes ∷ earlier) =
      let now = Datagram from bytes ∷ earlier in
      let s = said setting.network from bytes in
      let node = node_in from s in
      let proven = proves from (waiting setting earlier) s in
      let room = is_open setting from.place node (clients setting earlier) in
      each-append (λ (c : Client). LastHeard setting c now) (map (refreshed from s) (clients setting earlier)) _
      (each-map (λ (c : Client). LastHeard setting c now) (refreshed from s) (clients setting earlier)
      (each-weaker (λ (c : Client). LastHeard setting c earlier) (λ (c : Client). LastHeard setting (refreshed from s c) now)
      (heard_or_not from bytes earlier) (clients setting earlier) (each_heard earlier)))
      (each-one (λ (c : Client). LastHeard setting c now) (fresh from node (lasts from)) (proven && room)
      (λ both. heard_now from bytes earlier node (shows_proven from (waiting setting earlier) s (left_of proven room both))))
  each_heard (Second ∷ earlier) =
      let P = λ (c : Client). LastHeard setting c (Second ∷ earlier) in
      subst (AllByRecursion P) (sym (filter-map stays later (clients setting earlier)))
      (each-map P later (filter (λ (c : Client). stays (later c)) (clients setting earlier))
      (each-passed (λ (c : Client). LastHeard setting c earlier) (λ (c : Client). P (later c)) (λ (c : Client). stays (later c))
      (a_second_goes earlier) (clients setting earlier) (each_heard earlier)))
  each_heard (Send to bytes ∷ earlier) =
      each-weaker (λ (c : Client). LastHeard setting c earlier) (λ (c : Client). LastHeard setting c (Send to bytes ∷ earlier))
      (λ c r. goes_by (Send to bytes) earlier c (λ l. refl) refl r) (clients setting earlier) (each_heard earlier)

  lasts_some : (from : Sender) → 1 ≤ lasts from
  lasts_some from = grind arith

  left_after : (from : Sender) (s : Said) (c : Client) → 1 ≤ c.seconds_left → 1 ≤ (refreshed from s c).seconds_left
  left_after from s c some = elim (cases_Bool (prolongs from s && is_it from.place (node_in from s) c)) [ inl is ↦ rw is (lasts_some from) | inr other ↦ rw other some ]

  pub each_left : (history : History) → AllByRecursion (λ c. 1 ≤ c.seconds_left) (clients setting history)
  each_left [] = tt
  each_left (Datagram from bytes ∷ earlier) =
      let s = said setting.network from bytes in
      let Q = λ (c : Client). 1 ≤ c.seconds_left in
      each-append Q (map (refreshed from s) (clients setting earlier)) _
      (each-map Q (refreshed from s) (clients setting earlier)
      (each-weaker Q (λ (c : Client). Q (refreshed from s c)) (left_after from s) (clients setting earlier) (each_left earlier)))
      (each-one Q (fresh from (node_in from s) (lasts from)) _ (λ both. lasts_some from))
  each_left (Second ∷ earlier) =
      each-weaker (λ (c : Client). stays c ≡ true) (λ (c : Client). 1 ≤ c.seconds_left) (λ c stay. ltb-true 0 c.seconds_left stay)
      (filter stays (map later (clients setting earlier))) (each-filter stays (map later (clients setting earlier)))
  each_left (Send to bytes ∷ earlier) = each_left earlier

  -- ---- who comes in

  record Newcomer (from : Sender) (s : Said) (before : History) (place node : Node) : Type 0 where
    proven : proves from (waiting setting before) s ≡ true
    place_is : from.place ≡ place
    node_is : node_in from s ≡ node

  new_one : (from : Sender) (s : Said) (before : History) (place node : Node) (proven room : Bool) → proves from (waiting setting before) s ≡ proven
      → list_any (is_it place node) (if proven && room then fresh from (node_in from s) (lasts from) ∷ [] else []) ≡ true → Newcomer from s before place node
  new_one from s before place node true true are is =
      let new = fresh from (node_in from s) (lasts from) in
      let it : is_it place node new ≡ true = elim (either (is_it place node new) false is) [ inl it ↦ it | inr never ↦ absurd (false≢true never) ] in
      record {
        proven = are;
        place_is = same_is from.place place (left_of (same_node from.place place) _ it);
        node_is = same_is (node_in from s) node (right_of (same_node from.place place) _ it);
      }
  new_one from s before place node true false are is = absurd (false≢true is)
  new_one from s before place node false room are is = absurd (false≢true is)

  newcomer : (from : Sender) (bytes : List ℕ) (history : History) (place node : Node) → is_client setting place node history ≡ false
      → is_client setting place node (Datagram from bytes ∷ history) ≡ true → Newcomer from (said setting.network from bytes) history place node
  newcomer from bytes history place node before after =
      let s = said setting.network from bytes in
      let list = clients setting history in
      let proven = proves from (waiting setting history) s in
      let room = is_open setting from.place (node_in from s) list in
      let new : List Client = if proven && room then fresh from (node_in from s) (lasts from) ∷ [] else [] in
      new_one from s history place node proven room refl
      (sym (ap (λ b. b || list_any (is_it place node) new) (kept_as place node from s list ∙ before))
      ∙ sym (list_any-append (is_it place node) (map (refreshed from s) list) new) ∙ after)

  comes_by : (from : Sender) (history : History) (node : Node) (s : Said) → proves from (waiting setting history) s ≡ true → node_in from s ≡ node
      → (s ≡ Answers node) ⊎ ((header : Header) × (s ≡ Speaks header) × (header.source.node ≡ node)
      × ((from.is_trusted ≡ true) ⊎ ((from.node ≡ node) × Given setting from.place node history)))
  comes_by from history node Nothing is named = absurd (false≢true is)
  comes_by from history node Registers is named = absurd (false≢true is)
  comes_by from history node (Answers other) is named = inl (ap (λ (n : Node). Answers n) named)
  comes_by from history node (Speaks header) is named =
      elim (either from.is_trusted _ is) [
        | inl trusted ↦ inr (header, refl, named, inl trusted)
        | inr word ↦
            let same = sym (same_is header.source.node from.node (left_of (same_node header.source.node from.node) _ word)) ∙ named in
            let kept = right_of (same_node header.source.node from.node) (is_remembered from.place from.node (waiting setting history)) word in
            inr (
              header,
              refl,
              named,
              inr (
                same,
                was_given setting history from.place node
                    (sym (ap (λ n. is_remembered from.place n (waiting setting history)) same) ∙ kept),
              ),
            )
      ]

  pub ends : (history : History) (from : Sender) (bytes : List ℕ) (place node : Node) → is_client setting place node history ≡ false
      → is_client setting place node (Datagram from bytes ∷ history) ≡ true → (from.place ≡ place) × ComesBy setting from bytes history node
  ends history from bytes place node before after =
      let new = newcomer from bytes history place node before after in
      (new.place_is, comes_by from history node (said setting.network from bytes) new.proven new.node_is)

  -- a second brings nobody
  later_as : (place node : Node) (list : List Client) → is_client_as place node list ≡ false → is_client_as place node (filter stays (map later list)) ≡ false
  later_as place node [] none = refl
  later_as place node (c ∷ list) none = grind (arith, later_as place node list)

  pub none_later : (history : History) (place node : Node) → is_client setting place node history ≡ false → is_client setting place node (Second ∷ history) ≡ false
  none_later history place node none = later_as place node (clients setting history) none
