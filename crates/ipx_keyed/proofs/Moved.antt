-- Everybody elsewhere: the same happens.
use Rattle.std.proofs.Common.{◌≡◌, ◌∙◌, refl, sym, ap, ap₂, ℕ, Bool, true, false, ◌==◌, ◌%◌, ◌&&◌, ◌||◌, not, nat_lt, if◌then◌else◌, List, [], ◌∷◌, ◌++◌, length, map, filter}
use Rattle.std.proofs.lemmas.List.{length-map, map-append}
use Rattle.std.proofs.lemmas.List.Elements.{filter_agree}
use Rattle.ipx_wire.specs.declared.node.Node.{Node}
use Rattle.ipx_tunnel.specs.declared.own.Own.{Own}
use Rattle.ipx_tunnel.specs.Numbers.{ping_every}
use Rattle.ipx_tunnel.specs.Own.{ping_to, is_ping}
use Rattle.ipx_tunnel.specs.Places.{same_node, same_address, broadcast, is_among, of_address, is_here}
use Rattle.ipx_tunnel.specs.Receivers.{is_for}
use Rattle.ipx_tunnel.proofs.Lists.{filter-map, map-map, map-agree}
use Rattle.ipx_keyed.specs.declared.client.Client.{Client}
use Rattle.ipx_keyed.specs.declared.said.Said.{Said}
use Rattle.ipx_keyed.specs.declared.said.Said.TheVariants.{Nothing, Registers, Answers, Speaks}
use Rattle.ipx_keyed.specs.declared.sender.Sender.{Sender}
use Rattle.ipx_keyed.specs.declared.setting.Setting.{Setting}
use Rattle.ipx_keyed.specs.Numbers.{answered_at, waits}
use Rattle.ipx_keyed.specs.Events.{Event, Datagram, Second, Send, History}
use Rattle.ipx_keyed.specs.Says.{said, node_in}
use Rattle.ipx_keyed.specs.Members.{places_of, nodes_of, is_it, is_client_as, is_open, is_welcome, is_kept, stays, later, fresh}
use Rattle.ipx_keyed.specs.Tables.{Tables, proves, prolongs, lasts, refreshed, registers, admitted, remembered, tables, clients, waiting}
use Rattle.ipx_keyed.specs.Own.{answer_to, own_for, pings_now, pings_of, is_due, due_to, due_of, own}
use Rattle.ipx_keyed.specs.Receivers.{for_whom, to_for, is_for_router, is_heard_of, receivers, is_heard, carried}
use Rattle.ipx_keyed.specs.Laws.{IsRenaming, elsewhere, sent_elsewhere}

abbrev pub moved : (Node → Node) → Client → Client
moved to c = record c { place = to c.place }

abbrev pub there : (Node → Node) → Sender → Sender
there to from = record from { place = to from.place }

one_moved : {X Y : Type 0} (f : X → Y) (x : X) (comes : Bool) → (if comes then f x ∷ [] else []) ≡ map f (if comes then x ∷ [] else [])
one_moved f x true = refl
one_moved f x false = refl

places_moved : (to : Node → Node) (list : List Client) → places_of (map (moved to) list) ≡ map to (places_of list)
places_moved to [] = refl
places_moved to (c ∷ list) = ap (λ (l : List Node). to c.place ∷ l) (places_moved to list)

nodes_moved : (to : Node → Node) (list : List Client) → nodes_of (map (moved to) list) ≡ nodes_of list
nodes_moved to [] = refl
nodes_moved to (c ∷ list) = ap (λ (l : List Node). c.node ∷ l) (nodes_moved to list)

later_moved : (to : Node → Node) (list : List Client) → map later (map (moved to) list) ≡ map (moved to) (map later list)
later_moved to [] = refl
later_moved to (c ∷ list) = ap (λ (l : List Client). moved to (later c) ∷ l) (later_moved to list)

stays_moved : (to : Node → Node) (list : List Client) → filter stays (map (moved to) list) ≡ map (moved to) (filter stays list)
stays_moved to list = filter-map stays (moved to) list

module _ (to : Node → Node) (r : IsRenaming to) where
  -- ---- who is in a list

  among_moved : (place : Node) (list : List Client) → is_among (to place) (places_of (map (moved to) list)) ≡ is_among place (places_of list)
  among_moved place [] = refl
  among_moved place (c ∷ list) = ap₂ (λ (a b : Bool). a || b) (r.places c.place place) (among_moved place list)

  as_moved : (place node : Node) (list : List Client) → is_client_as (to place) node (map (moved to) list) ≡ is_client_as place node list
  as_moved place node [] = refl
  as_moved place node (c ∷ list) = ap₂ (λ (a b : Bool). (a && same_node c.node node) || b) (r.places c.place place) (as_moved place node list)

  address_moved : (place : Node) (list : List Node) → of_address (to place) (map to list) ≡ of_address place list
  address_moved place list =
      ap length (filter-map (λ p. same_address p (to place)) to list
      ∙ ap (map to) (filter_agree (λ p. same_address (to p) (to place)) (λ p. same_address p place) (λ p. r.addresses p place) list))
      ∙ length-map (filter (λ p. same_address p place) list) to

  of_address_moved : (place : Node) (list : List Client) → of_address (to place) (places_of (map (moved to) list)) ≡ of_address place (places_of list)
  of_address_moved place list = ap (of_address (to place)) (places_moved to list) ∙ address_moved place (places_of list)

  -- ---- room

  open_moved : (setting : Setting) (place node : Node) (list : List Client) → is_open setting (to place) node (map (moved to) list) ≡ is_open setting place node list
  open_moved setting place node list =
      let taken = λ (nodes : List Node). same_node node setting.node || same_node node broadcast || is_among node nodes in
      ap₂ (λ (a : Bool) (nodes : List Node).
      not a && not (taken nodes) && nat_lt (length (map (moved to) list)) setting.capacity
      && nat_lt (of_address (to place) (places_of (map (moved to) list))) setting.share) (among_moved place list) (nodes_moved to list)
      ∙ ap₂ (λ (count many : ℕ). not (is_among place (places_of list)) && not (taken (nodes_of list)) && nat_lt count setting.capacity && nat_lt many setting.share)
      (length-map list (moved to)) (of_address_moved place list)

  welcome_moved : (setting : Setting) (from : Sender) (list : List Client) → is_welcome setting (there to from) (map (moved to) list) ≡ is_welcome setting from list
  welcome_moved setting from list = ap₂ (λ (a b : Bool). a || b) (as_moved from.place from.node list) (open_moved setting from.place from.node list)

  kept_moved : (setting : Setting) (place : Node) (list : List Client) → is_kept setting (to place) (map (moved to) list) ≡ is_kept setting place list
  kept_moved setting place list =
      ap (λ (a : Bool). not a && nat_lt (length (map (moved to) list)) setting.remembered
      && nat_lt (of_address (to place) (places_of (map (moved to) list))) setting.remembered_share) (among_moved place list)
      ∙ ap₂ (λ (count many : ℕ). not (is_among place (places_of list)) && nat_lt count setting.remembered && nat_lt many setting.remembered_share)
      (length-map list (moved to)) (of_address_moved place list)

  -- ---- the tables

  proves_moved : (from : Sender) (list : List Client) (s : Said) → proves (there to from) (map (moved to) list) s ≡ proves from list s
  proves_moved from list Nothing = refl
  proves_moved from list Registers = refl
  proves_moved from list (Answers node) = refl
  proves_moved from list (Speaks header) =
      ap (λ (b : Bool). from.is_trusted || (same_node header.source.node from.node && b)) (as_moved from.place from.node list)

  refreshed_by : (from : Sender) (c : Client) (seconds : ℕ) (renewed : Bool)
      → (if renewed then fresh (there to from) c.node seconds else moved to c) ≡ moved to (if renewed then fresh from c.node seconds else c)
  refreshed_by from c seconds true = refl
  refreshed_by from c seconds false = refl

  refreshed_moved : (from : Sender) (s : Said) (c : Client) → refreshed (there to from) s (moved to c) ≡ moved to (refreshed from s c)
  refreshed_moved from s c =
      ap (λ (b : Bool). if prolongs from s && (b && same_node c.node (node_in from s)) then fresh (there to from) c.node (lasts from) else moved to c) (r.places c.place from.place)
      ∙ refreshed_by from c (lasts from) (prolongs from s && is_it from.place (node_in from s) c)

  all_moved : (from : Sender) (s : Said) (list : List Client) → map (refreshed (there to from) s) (map (moved to) list) ≡ map (moved to) (map (refreshed from s) list)
  all_moved from s [] = refl
  all_moved from s (c ∷ list) = ap₂ (λ (d : Client) (l : List Client). d ∷ l) (refreshed_moved from s c) (all_moved from s list)

  abbrev pub moved_tables : Tables → Tables
  moved_tables t = record { clients = map (moved to) t.clients; waiting = map (moved to) t.waiting }

  admitted_moved : (setting : Setting) (from : Sender) (s : Said) (t : Tables)
      → admitted setting (there to from) s (moved_tables t) ≡ map (moved to) (admitted setting from s t)
  admitted_moved setting from s t =
      let new = fresh from (node_in from s) (lasts from) in
      let comes = proves from t.waiting s && is_open setting from.place (node_in from s) t.clients in
      ap₂ (λ (a b : List Client). a ++ b) (all_moved from s t.clients)
      (ap₂ (λ (a b : Bool). if a && b then moved to new ∷ [] else []) (proves_moved from t.waiting s) (open_moved setting from.place (node_in from s) t.clients)
      ∙ one_moved (moved to) new comes)
      ∙ sym (map-append (moved to) (map (refreshed from s) t.clients) (if comes then new ∷ [] else []))

  remembered_moved : (setting : Setting) (from : Sender) (s : Said) (list held : List Client)
      → remembered setting (there to from) s (map (moved to) list) (map (moved to) held) ≡ map (moved to) (remembered setting from s list held)
  remembered_moved setting from s list held =
      let new = fresh from from.node waits in
      let comes = registers s && is_welcome setting from list && is_kept setting from.place held in
      ap (λ (l : List Client). map (moved to) held ++ l)
      (ap₂ (λ (a b : Bool). if registers s && a && b then moved to new ∷ [] else []) (welcome_moved setting from list) (kept_moved setting from.place held)
      ∙ one_moved (moved to) new comes)
      ∙ sym (map-append (moved to) held (if comes then new ∷ [] else []))

  same_tables : (one two three four : List Client) → one ≡ two → three ≡ four
      → ◌≡◌ {A = Tables} (record { clients = one; waiting = three }) (record { clients = two; waiting = four })
  same_tables one two three four a b = ap₂ (λ (x y : List Client). let t : Tables = record { clients = x; waiting = y } in t) a b

  module _ (setting : Setting) where
    pub tables_moved : (history : History) → tables setting (map (elsewhere to) history) ≡ moved_tables (tables setting history)
    tables_moved [] = refl
    tables_moved (Datagram from bytes ∷ earlier) =
        let s = said setting.network from bytes in
        let t = tables setting earlier in
        ap (λ (u : Tables). let v : Tables = record {
          clients = admitted setting (there to from) s u;
          waiting = remembered setting (there to from) s (admitted setting (there to from) s u) u.waiting;
        } in v) (tables_moved earlier)
        ∙ same_tables _ _ _ _ (admitted_moved setting from s t)
        (ap (λ (l : List Client). remembered setting (there to from) s l (map (moved to) t.waiting)) (admitted_moved setting from s t)
        ∙ remembered_moved setting from s (admitted setting from s t) t.waiting)
    tables_moved (Second ∷ earlier) =
        let t = tables setting earlier in
        ap (λ (u : Tables). let v : Tables = record { clients = filter stays (map later u.clients); waiting = map later (filter stays u.waiting) } in v) (tables_moved earlier)
        ∙ same_tables _ _ _ _ (ap (filter stays) (later_moved to t.clients) ∙ stays_moved to (map later t.clients))
        (ap (map later) (stays_moved to t.waiting) ∙ later_moved to (filter stays t.waiting))
    tables_moved (Send node bytes ∷ earlier) = tables_moved earlier

    -- ---- who gets the packet

    whom_moved : (node sender : Node) (list : List Client) → for_whom node sender (map (moved to) list) ≡ map to (for_whom node sender list)
    whom_moved node sender list =
        ap places_of (filter-map (λ (c : Client). is_for node sender c.node) (moved to) list)
        ∙ places_moved to (filter (λ (c : Client). is_for node sender c.node) list)

    if_moved : (list : List Node) (b : Bool) → (if b then map to list else []) ≡ map to (if b then list else [])
    if_moved list true = refl
    if_moved list false = refl

    to_moved : (from : Sender) (list : List Client) (s : Said) → to_for setting (map (moved to) list) (there to from) s ≡ map to (to_for setting list from s)
    to_moved from list Nothing = refl
    to_moved from list Registers = refl
    to_moved from list (Answers node) = refl
    to_moved from list (Speaks header) =
        let node = header.destination.node in
        let here = is_here setting.network header.destination.network in
        ap₂ (λ (b : Bool) (l : List Node). if b && here then l else []) (as_moved from.place header.source.node list) (whom_moved node header.source.node list)
        ∙ if_moved (for_whom node header.source.node list) (is_client_as from.place header.source.node list && here)

    pub receivers_moved : (history : History) → receivers setting (map (elsewhere to) history) ≡ map to (receivers setting history)
    receivers_moved [] = refl
    receivers_moved (Datagram from bytes ∷ earlier) =
        let now = Datagram from bytes ∷ earlier in
        let s = said setting.network from bytes in
        ap (λ (t : Tables). to_for setting t.clients (there to from) s) (tables_moved now) ∙ to_moved from (clients setting now) s
    receivers_moved (Second ∷ earlier) = refl
    receivers_moved (Send node bytes ∷ earlier) =
        ap (λ (t : Tables). for_whom node setting.node t.clients) (tables_moved earlier) ∙ whom_moved node setting.node (clients setting earlier)

    heard_moved_of : (from : Sender) (list : List Client) (s : Said) → is_heard_of setting (map (moved to) list) (there to from) s ≡ is_heard_of setting list from s
    heard_moved_of from list Nothing = refl
    heard_moved_of from list Registers = refl
    heard_moved_of from list (Answers node) = refl
    heard_moved_of from list (Speaks header) = ap (λ (b : Bool). b && is_for_router setting header) (as_moved from.place header.source.node list)

    pub heard_moved : (history : History) → is_heard setting (map (elsewhere to) history) ≡ is_heard setting history
    heard_moved [] = refl
    heard_moved (Datagram from bytes ∷ earlier) =
        let now = Datagram from bytes ∷ earlier in
        let s = said setting.network from bytes in
        ap (λ (t : Tables). is_heard_of setting t.clients (there to from) s) (tables_moved now) ∙ heard_moved_of from (clients setting now) s
    heard_moved (Second ∷ earlier) = refl
    heard_moved (Send node bytes ∷ earlier) = refl

    -- ---- the tunnel's own

    by_two : (a b d : Bool) (x y : Own)
        → (if a then (if b then sent_elsewhere to x ∷ [] else []) else if d then sent_elsewhere to y ∷ [] else [])
        ≡ map (sent_elsewhere to) (if a then (if b then x ∷ [] else []) else if d then y ∷ [] else [])
    by_two true b d x y = one_moved (sent_elsewhere to) x b
    by_two false b d x y = one_moved (sent_elsewhere to) y d

    own_for_moved : (from : Sender) (list held : List Client) (s : Said)
        → own_for setting (map (moved to) list) (map (moved to) held) (there to from) s ≡ map (sent_elsewhere to) (own_for setting list held from s)
    own_for_moved from list held Nothing = refl
    own_for_moved from list held Registers =
        let answer = answer_to setting from.place from.node in
        ap (λ (b : Bool). if b then sent_elsewhere to answer ∷ [] else []) (welcome_moved setting from list)
        ∙ one_moved (sent_elsewhere to) answer (is_welcome setting from list)
    own_for_moved from list held (Answers node) = refl
    own_for_moved from list held (Speaks header) =
        let node = header.source.node in
        let answer = answer_to setting from.place node in
        let ping = ping_to setting.network from.place from.cookies.current in
        let pings = is_ping setting.network header in
        let free = not (is_among from.place (places_of held)) in
        ap₂ (λ (a d : Bool). if a then (if pings then sent_elsewhere to answer ∷ [] else []) else if d then sent_elsewhere to ping ∷ [] else [])
        (as_moved from.place node list)
        (ap₂ (λ (a b : Bool). a && not b) (open_moved setting from.place node list) (among_moved from.place held))
        ∙ by_two (is_client_as from.place node list) pings (is_open setting from.place node list && free) answer ping

    pings_moved : (list held : List Client) → pings_of setting (map (moved to) list) (map (moved to) held) ≡ map (sent_elsewhere to) (pings_of setting list held)
    pings_moved list held =
        let ping = λ (c : Client). ping_to setting.network c.place c.cookie in
        ap (map ping)
        (filter-map (pings_now (map (moved to) held)) (moved to) list
        ∙ ap (map (moved to))
        (filter_agree (λ (c : Client). pings_now (map (moved to) held) (moved to c)) (pings_now held)
        (λ c. ap (λ (b : Bool). (c.seconds_left % ping_every == 0) && not b) (among_moved c.place held)) list))
        ∙ map-map ping (moved to) (filter (pings_now held) list)
        ∙ sym (map-map (sent_elsewhere to) ping (filter (pings_now held) list))

    due_by : (c : Client) (answer : Bool)
        → (if answer then answer_to setting (to c.place) c.node else ping_to setting.network (to c.place) c.cookie)
        ≡ sent_elsewhere to (if answer then answer_to setting c.place c.node else ping_to setting.network c.place c.cookie)
    due_by c true = refl
    due_by c false = refl

    due_moved : (held : List Client) → due_of setting (map (moved to) held) ≡ map (sent_elsewhere to) (due_of setting held)
    due_moved held =
        ap (map (due_to setting)) (filter-map is_due (moved to) held)
        ∙ map-map (due_to setting) (moved to) (filter is_due held)
        ∙ map-agree (λ (c : Client). due_to setting (moved to c)) (λ (c : Client). sent_elsewhere to (due_to setting c)) (λ c. due_by c (c.seconds_left == answered_at)) (filter is_due held)
        ∙ sym (map-map (sent_elsewhere to) (due_to setting) (filter is_due held))

    pub own_moved : (history : History) → own setting (map (elsewhere to) history) ≡ map (sent_elsewhere to) (own setting history)
    own_moved [] = refl
    own_moved (Datagram from bytes ∷ earlier) =
        let now = Datagram from bytes ∷ earlier in
        let s = said setting.network from bytes in
        ap (λ (t : Tables). own_for setting t.clients t.waiting (there to from) s) (tables_moved now) ∙ own_for_moved from (clients setting now) (waiting setting now) s
    own_moved (Second ∷ earlier) =
        let now = Second ∷ earlier in
        ap (λ (t : Tables). pings_of setting t.clients t.waiting ++ due_of setting t.waiting) (tables_moved now)
        ∙ ap₂ (λ (a b : List Own). a ++ b) (pings_moved (clients setting now) (waiting setting now)) (due_moved (waiting setting now))
        ∙ sym (map-append (sent_elsewhere to) (pings_of setting (clients setting now) (waiting setting now)) (due_of setting (waiting setting now)))
    own_moved (Send node bytes ∷ earlier) = refl

pub carried_moved : (event : Event) (to : Node → Node) → carried (elsewhere to event) ≡ carried event
carried_moved (Datagram from bytes) to = refl
carried_moved Second to = refl
carried_moved (Send node bytes) to = refl
