-- How many of a list pass a test of place and node.
use Rattle.std.proofs.Common.{◌≡◌, ◌∙◌, refl, sym, ap, arith, ℕ, suc, ◌+◌, ◌<◌, ◌≤◌, Bool, true, false, ◌&&◌, if◌then◌else◌, inl, inr, List, [], ◌∷◌, length, map, filter}
use Rattle.std.proofs.lemmas.Bool.{cases_Bool, false≢true}
use Rattle.std.proofs.lemmas.List.{length-map}
use Rattle.ipx_wire.specs.declared.node.Node.{Node}
use Rattle.ipx_tunnel.specs.Laws.{copies}
use Rattle.ipx_tunnel.specs.Places.{same_node, same_address, broadcast, is_among, of_address}
use Rattle.ipx_tunnel.proofs.Lists.{filter-map}
use Rattle.ipx_tunnel.proofs.Members.{count-append, count-filter, no_copies, some_copies, of_same_address}
use Rattle.ipx_tunnel.proofs.Nodes.{same_is}
use Rattle.ipx_tunnel.proofs.Sending.{left_of, right_of}
use Rattle.ipx_keyed.specs.declared.client.Client.{Client}
use Rattle.ipx_keyed.specs.declared.said.Said.{Said}
use Rattle.ipx_keyed.specs.declared.sender.Sender.{Sender}
use Rattle.ipx_keyed.specs.declared.setting.Setting.{Setting}
use Rattle.ipx_keyed.specs.Numbers.{waits}
use Rattle.ipx_keyed.specs.Events.{Datagram, Second, Send, History}
use Rattle.ipx_keyed.specs.Says.{said, node_in}
use Rattle.ipx_keyed.specs.Members.{places_of, nodes_of, is_it, is_open, is_kept, is_taken, is_welcome, stays, later, fresh}
use Rattle.ipx_keyed.specs.Tables.{proves, prolongs, lasts, registers, refreshed, clients, waiting}

-- ---- what a datagram leaves as it is

pub kept_place : (from : Sender) (s : Said) (c : Client) → (refreshed from s c).place ≡ c.place
kept_place from s c =
    elim (cases_Bool (prolongs from s && is_it from.place (node_in from s) c)) [
      | inl is ↦ rw is (sym (same_is c.place from.place (left_of (same_node c.place from.place) _ (right_of (prolongs from s) _ is))))
      | inr other ↦ rw other refl
    ]

pub kept_node : (from : Sender) (s : Said) (c : Client) → (refreshed from s c).node ≡ c.node
kept_node from s c = elim (cases_Bool (prolongs from s && is_it from.place (node_in from s) c)) [ inl is ↦ rw is refl | inr other ↦ rw other refl ]

pub kept_places : (from : Sender) (s : Said) (list : List Client) → places_of (map (refreshed from s) list) ≡ places_of list
kept_places from s [] = refl
kept_places from s (c ∷ list) = grind (arith, kept_place, kept_places from s list)

pub kept_nodes : (from : Sender) (s : Said) (list : List Client) → nodes_of (map (refreshed from s) list) ≡ nodes_of list
kept_nodes from s [] = refl
kept_nodes from s (c ∷ list) = grind (arith, kept_node, kept_nodes from s list)

-- ---- counting

abbrev pub counted : (Node → Node → Bool) → List Client → ℕ
counted p list = length (filter (λ c. p c.place c.node) list)

counted_refreshed : (p : Node → Node → Bool) (from : Sender) (s : Said) (list : List Client) → counted p (map (refreshed from s) list) ≡ counted p list
counted_refreshed p from s [] = refl
counted_refreshed p from s (c ∷ list) = grind (arith, kept_place, kept_node, counted_refreshed p from s list)

counted_later : (p : Node → Node → Bool) (list : List Client) → counted p (map later list) ≡ counted p list
counted_later p [] = refl
counted_later p (c ∷ list) = grind (arith, counted_later p list)

one_counted : (p : Node → Node → Bool) (c : Client) (most before : ℕ) → before ≤ most → (p c.place c.node ≡ true → before < most) → before + counted p (c ∷ []) ≤ most
one_counted p c most before few fewer =
    elim (cases_Bool (p c.place c.node)) [
      | inl is ↦ rw is (omega (arith, fewer is))
      | inr other ↦ rw other (omega (arith, few))
    ]

-- who comes in where there is room is counted with those who were there
counted_new : (p : Node → Node → Bool) (most : ℕ) (list : List Client) (c : Client) (comes : Bool) → counted p list ≤ most
    → (comes ≡ true → p c.place c.node ≡ true → counted p list < most) → counted p list + counted p (if comes then c ∷ [] else []) ≤ most
counted_new p most list c comes few fewer =
    elim (cases_Bool comes) [
      | inl is ↦ rw is (one_counted p c most (counted p list) few (fewer is))
      | inr other ↦ rw other (omega (arith, few))
    ]

-- ---- those who are there

module _ (setting : Setting) (p : Node → Node → Bool) (most : ℕ) where
  -- where there is room, fewer than the most are counted
  pub few_clients : ((place node : Node) (list : List Client) → is_open setting place node list ≡ true → p place node ≡ true → counted p list < most)
      → (history : History) → counted p (clients setting history) ≤ most
  few_clients bound [] = omega arith
  few_clients bound (Datagram from bytes ∷ earlier) =
      let s = said setting.network from bytes in
      let before = clients setting earlier in
      let node = node_in from s in
      let room = is_open setting from.place node before in
      let comes = proves from (waiting setting earlier) s in
      let new : List Client = if comes && room then fresh from node (lasts from) ∷ [] else [] in
      omega (
        arith,
        count-append (λ (c : Client). p c.place c.node) (map (refreshed from s) before) new,
        counted_refreshed p from s before,
        counted_new p most before (fresh from node (lasts from)) (comes && room) (few_clients bound earlier) (λ both. bound from.place node before (right_of comes room both)),
      )
  few_clients bound (Second ∷ earlier) = omega (
    arith,
    count-filter (λ (c : Client). p c.place c.node) stays (map later (clients setting earlier)),
    counted_later p (clients setting earlier),
    few_clients bound earlier,
  )
  few_clients bound (Send to bytes ∷ earlier) = few_clients bound earlier

  pub few_waiting : ((place node : Node) (list : List Client) → is_kept setting place list ≡ true → p place node ≡ true → counted p list < most)
      → (history : History) → counted p (waiting setting history) ≤ most
  few_waiting bound [] = omega arith
  few_waiting bound (Datagram from bytes ∷ earlier) =
      let s = said setting.network from bytes in
      let before = waiting setting earlier in
      let room = is_kept setting from.place before in
      let welcome = is_welcome setting from (clients setting (Datagram from bytes ∷ earlier)) in
      let comes = registers s && welcome && room in
      let new : List Client = if comes then fresh from from.node waits ∷ [] else [] in
      omega (
        arith,
        count-append (λ (c : Client). p c.place c.node) before new,
        counted_new p most before (fresh from from.node waits) comes (few_waiting bound earlier)
            (λ all. bound from.place from.node before (right_of (registers s && welcome) room all)),
      )
  few_waiting bound (Second ∷ earlier) = omega (
    arith,
    counted_later p (filter stays (waiting setting earlier)),
    count-filter (λ (c : Client). p c.place c.node) stays (waiting setting earlier),
    few_waiting bound earlier,
  )
  few_waiting bound (Send to bytes ∷ earlier) = few_waiting bound earlier

-- ---- what is counted

abbrev pub everybody : Node → Node → Bool
everybody place node = true

pub all_counted : (list : List Client) → counted everybody list ≡ length list
all_counted [] = refl
all_counted (c ∷ list) = ap suc (all_counted list)

pub address_counted : (place : Node) (list : List Client) → counted (λ p n. same_address p place) list ≡ of_address place (places_of list)
address_counted place list =
    sym (length-map (filter (λ (c : Client). same_address c.place place) list) (λ (c : Client). c.place))
    ∙ ap length (sym (filter-map (λ p. same_address p place) (λ (c : Client). c.place) list))

pub place_counted : (place : Node) (list : List Client) → counted (λ p n. same_node p place) list ≡ copies place (places_of list)
place_counted place list =
    sym (length-map (filter (λ (c : Client). same_node c.place place) list) (λ (c : Client). c.place))
    ∙ ap length (sym (filter-map (λ p. same_node p place) (λ (c : Client). c.place) list))

pub node_counted : (node : Node) (list : List Client) → counted (λ p n. same_node n node) list ≡ copies node (nodes_of list)
node_counted node list =
    sym (length-map (filter (λ (c : Client). same_node c.node node) list) (λ (c : Client). c.node))
    ∙ ap length (sym (filter-map (λ p. same_node p node) (λ (c : Client). c.node) list))

-- ---- room

pub record Room (setting : Setting) (place node : Node) (list : List Client) : Type 0 where
  pub new : is_among place (places_of list) ≡ false
  pub free : is_taken setting node list ≡ false
  pub few : length list < setting.capacity
  pub fewer : of_address place (places_of list) < setting.share

pub room_of : (setting : Setting) (place node : Node) (list : List Client) → is_open setting place node list ≡ true → Room setting place node list
room_of setting place node list is = grind arith

pub record RoomToKeep (setting : Setting) (place : Node) (list : List Client) : Type 0 where
  pub new : is_among place (places_of list) ≡ false
  pub few : length list < setting.remembered
  pub fewer : of_address place (places_of list) < setting.remembered_share

pub room_to_keep : (setting : Setting) (place : Node) (list : List Client) → is_kept setting place list ≡ true → RoomToKeep setting place list
room_to_keep setting place list is = grind arith

-- a node that is free is no client's
free_node : (setting : Setting) (node : Node) (list : List Client) → is_taken setting node list ≡ false → is_among node (nodes_of list) ≡ false
free_node setting node list is = grind arith

module _ (setting : Setting) where
  pub capacity : (history : History) → length (clients setting history) ≤ setting.capacity
  capacity history = omega (
    arith,
    all_counted (clients setting history),
    few_clients setting everybody setting.capacity
        (λ place node list room counts. omega (arith, all_counted list, (room_of setting place node list room).few)) history,
  )

  pub capacity_waiting : (history : History) → length (waiting setting history) ≤ setting.remembered
  capacity_waiting history = omega (
    arith,
    all_counted (waiting setting history),
    few_waiting setting everybody setting.remembered
        (λ place node list room counts. omega (arith, all_counted list, (room_to_keep setting place list room).few)) history,
  )

  pub share : (history : History) (at : Node) → of_address at (places_of (clients setting history)) ≤ setting.share
  share history at = omega (
    arith,
    address_counted at (clients setting history),
    few_clients setting (λ p n. same_address p at) setting.share
        (λ place node list room same. omega (
          arith,
          address_counted at list,
          of_same_address place at (places_of list) same,
          (room_of setting place node list room).fewer,
        )) history,
  )

  pub share_waiting : (history : History) (at : Node) → of_address at (places_of (waiting setting history)) ≤ setting.remembered_share
  share_waiting history at = omega (
    arith,
    address_counted at (waiting setting history),
    few_waiting setting (λ p n. same_address p at) setting.remembered_share
        (λ place node list room same. omega (
          arith,
          address_counted at list,
          of_same_address place at (places_of list) same,
          (room_to_keep setting place list room).fewer,
        )) history,
  )

  -- nobody of the place is there where somebody comes in
  none_there : (place at : Node) (list : List Client) → is_among place (places_of list) ≡ false → same_node place at ≡ true → counted (λ p n. same_node p at) list < 1
  none_there place at list new same =
      let none : copies at (places_of list) ≡ 0 =
      no_copies at (places_of list) (ap (λ p. is_among p (places_of list)) (sym (same_is place at same)) ∙ new) in
      omega (arith, place_counted at list, none)

  none_named : (node at : Node) (list : List Client) → is_among node (nodes_of list) ≡ false → same_node node at ≡ true → counted (λ p n. same_node n at) list < 1
  none_named node at list new same =
      let none : copies at (nodes_of list) ≡ 0 =
      no_copies at (nodes_of list) (ap (λ n. is_among n (nodes_of list)) (sym (same_is node at same)) ∙ new) in
      omega (arith, node_counted at list, none)

  pub once : (history : History) (at : Node) → copies at (places_of (clients setting history)) ≤ 1
  once history at = omega (
    arith,
    place_counted at (clients setting history),
    few_clients setting (λ p n. same_node p at) 1
        (λ place node list room same. none_there place at list (room_of setting place node list room).new same) history,
  )

  pub once_waiting : (history : History) (at : Node) → copies at (places_of (waiting setting history)) ≤ 1
  once_waiting history at = omega (
    arith,
    place_counted at (waiting setting history),
    few_waiting setting (λ p n. same_node p at) 1
        (λ place node list room same. none_there place at list (room_to_keep setting place list room).new same) history,
  )

  pub once_named : (history : History) (at : Node) → copies at (nodes_of (clients setting history)) ≤ 1
  once_named history at = omega (
    arith,
    node_counted at (clients setting history),
    few_clients setting (λ p n. same_node n at) 1
        (λ place node list room same. none_named node at list (free_node setting node list (room_of setting place node list room).free) same) history,
  )

  -- ---- nodes that no client has

  pub never_named : (at : Node) → ((node : Node) (list : List Client) → is_taken setting node list ≡ false → same_node node at ≡ false) → (history : History)
      → is_among at (nodes_of (clients setting history)) ≡ false
  never_named at never history =
      let few : counted (λ p n. same_node n at) (clients setting history) ≤ 0 =
      few_clients setting (λ p n. same_node n at) 0
      (λ place node list room same. absurd (false≢true (sym (never node list (room_of setting place node list room).free) ∙ same))) history in
      elim (cases_Bool (is_among at (nodes_of (clients setting history)))) [
        | inl is ↦ absurd (omega (arith, few, node_counted at (clients setting history), some_copies at (nodes_of (clients setting history)) is))
        | inr other ↦ other
      ]

  pub free_own : (node : Node) (list : List Client) → is_taken setting node list ≡ false → same_node node setting.node ≡ false
  free_own node list is = grind arith

  pub free_all : (node : Node) (list : List Client) → is_taken setting node list ≡ false → same_node node broadcast ≡ false
  free_all node list is = grind arith

  pub none_own : (history : History) → is_among setting.node (nodes_of (clients setting history)) ≡ false
  none_own history = never_named setting.node free_own history

  pub none_all : (history : History) → is_among broadcast (nodes_of (clients setting history)) ≡ false
  none_all history = never_named broadcast free_all history
