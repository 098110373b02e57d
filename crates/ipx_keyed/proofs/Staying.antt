-- What touches the clients of a place.
use Rattle.std.proofs.Common.{◌≡◌, ◌≢◌, ◌∙◌, refl, sym, ap, ap₂, arith, ℕ, suc, ◌+◌, ◌≤◌, Bool, true, false, ◌&&◌, ◌||◌, if◌then◌else◌, inl, inr, List, [], ◌∷◌, ◌++◌, map, filter, length}
use Rattle.std.specs.List.{AllByRecursion}
use Rattle.std.proofs.lemmas.Bool.{cases_Bool, false≢true}
use Rattle.std.proofs.lemmas.List.{append-nil}
use Rattle.std.proofs.Math.Bool.{and-false}
use Rattle.ipx_wire.specs.declared.node.Node.{Node}
use Rattle.ipx_tunnel.specs.Laws.{copies}
use Rattle.ipx_tunnel.specs.Places.{same_node, is_among}
use Rattle.ipx_tunnel.proofs.Lists.{each-weaker}
use Rattle.ipx_tunnel.proofs.Members.{some_copies}
use Rattle.ipx_tunnel.proofs.Nodes.{same_is, same_itself}
use Rattle.ipx_tunnel.proofs.Sending.{left_of, right_of}
use Rattle.ipx_keyed.specs.declared.client.Client.{Client}
use Rattle.ipx_keyed.specs.declared.said.Said.{Said}
use Rattle.ipx_keyed.specs.declared.said.Said.TheVariants.{Answers}
use Rattle.ipx_keyed.specs.declared.sender.Sender.{Sender}
use Rattle.ipx_keyed.specs.declared.setting.Setting.{Setting}
use Rattle.ipx_keyed.specs.Events.{Datagram, Second, History}
use Rattle.ipx_keyed.specs.Says.{said, node_in}
use Rattle.ipx_keyed.specs.Members.{places_of, is_it, is_client_as, is_open, stays, later, fresh}
use Rattle.ipx_keyed.specs.Tables.{proves, prolongs, lasts, refreshed, clients, waiting}
use Rattle.ipx_keyed.specs.Stands.{leaving}
use Rattle.ipx_keyed.specs.Laws.{at_place, is_client, is_there}
use Rattle.ipx_keyed.proofs.At.{at_append, at_later, at_stays, at_refreshed, none_at, other_at, as_place}
use Rattle.ipx_keyed.proofs.Counting.{once, place_counted}
use Rattle.ipx_keyed.proofs.Shown.{either, no_renewal}

-- ---- from another place

-- somebody else's word leaves it as it is
same_refreshed : (from : Sender) (s : Said) (c : Client) → same_node c.place from.place ≡ false → refreshed from s c ≡ c
same_refreshed from s c other = rw (other, and-false (prolongs from s)) refl

at_others : (place : Node) (from : Sender) (s : Said) → same_node from.place place ≡ false → (list : List Client) → map (refreshed from s) (at_place place list) ≡ at_place place list
at_others place from s other [] = refl
at_others place from s other (c ∷ list) =
    elim (cases_Bool (same_node c.place place)) [
      | inl same ↦
          let elsewhere : same_node c.place from.place ≡ false =
          elim (cases_Bool (same_node c.place from.place)) [
            | inl sender ↦
                let at : same_node from.place place ≡ true = ap (λ p. same_node p place) (sym (same_is c.place from.place sender)) ∙ same in
                absurd (false≢true (sym other ∙ at))
            | inr not_there ↦ not_there
          ] in
          rw same (ap₂ (λ (d : Client) (l : List Client). d ∷ l) (same_refreshed from s c elsewhere) (at_others place from s other list))
      | inr different ↦ rw different (at_others place from s other list)
    ]

at_new : (place : Node) (c : Client) (comes : Bool) → same_node c.place place ≡ false → at_place place (if comes then c ∷ [] else []) ≡ []
at_new place c true other = other_at place c other
at_new place c false other = refl

pub others : (setting : Setting) (history : History) (from : Sender) (bytes : List ℕ) (place : Node) → same_node from.place place ≡ false
    → at_place place (clients setting (Datagram from bytes ∷ history)) ≡ at_place place (clients setting history)
others setting history from bytes place other =
    let s = said setting.network from bytes in
    let before = clients setting history in
    let new = fresh from (node_in from s) (lasts from) in
    at_append place (map (refreshed from s) before) _
    ∙ ap₂ (λ (a b : List Client). a ++ b) (at_refreshed place from s before ∙ at_others place from s other before) (at_new place new _ other)
    ∙ append-nil (at_place place before)

-- ---- from the place itself

pub all_same : (from : Sender) (s : Said) → prolongs from s ≡ false → (list : List Client) → map (refreshed from s) list ≡ list
all_same from s none [] = refl
all_same from s none (c ∷ list) = rw none (ap (λ (l : List Client). c ∷ l) (all_same from s none list))

not_open : (setting : Setting) (place node : Node) (list : List Client) → is_among place (places_of list) ≡ true → is_open setting place node list ≡ false
not_open setting place node list there = rw there refl

nobody_new : (kept : List Client) (c : Client) (proven room : Bool) → room ≡ false → kept ++ (if proven && room then c ∷ [] else []) ≡ kept
nobody_new kept c proven room none = rw (none, and-false proven) (append-nil kept)

pub same_clients : (setting : Setting) (history : History) (from : Sender) (bytes : List ℕ) → from.is_trusted ≡ false
    → ((node : Node) → said setting.network from bytes ≢ Answers node) → is_there setting from.place history ≡ true
    → clients setting (Datagram from bytes ∷ history) ≡ clients setting history
same_clients setting history from bytes distrusted other there =
    let s = said setting.network from bytes in
    let before = clients setting history in
    let node = node_in from s in
    nobody_new (map (refreshed from s) before) (fresh from node (lasts from)) (proves from (waiting setting history) s)
    (is_open setting from.place node before) (not_open setting from.place node before there)
    ∙ all_same from s (no_renewal from s distrusted other) before

-- ---- the one at a place

pub record Alone (place node : Node) (list : List Client) : Type 0 where
  pub client : Client
  pub is : at_place place list ≡ client ∷ []
  pub it : is_it place node client ≡ true

none_left : (place : Node) (list : List Client) → copies place (places_of list) ≡ 0 → is_among place (places_of list) ≡ false
none_left place list none =
    elim (cases_Bool (is_among place (places_of list))) [
      | inl there ↦ absurd (omega (arith, none, some_copies place (places_of list) there))
      | inr not_there ↦ not_there
    ]

pub alone_at : (place node : Node) (list : List Client) → copies place (places_of list) ≤ 1 → is_client_as place node list ≡ true → Alone place node list
alone_at place node [] few is = absurd (false≢true is)
alone_at place node (c ∷ list) few is =
    elim (cases_Bool (same_node c.place place)) [
      | inl same ↦
          let one : suc (copies place (places_of list)) ≤ 1 = rw same at few in
          let none = none_left place list (omega (arith, one)) in
          elim (either (is_it place node c) (is_client_as place node list) is) [
            | inl it ↦ record { client = c; is = rw same (ap (λ (l : List Client). c ∷ l) (none_at place list none)); it = it }
            | inr more ↦ absurd (false≢true (sym none ∙ as_place place node list more))
          ]
      | inr different ↦
          let few_more : copies place (places_of list) ≤ 1 = rw different at few in
          elim (either (is_it place node c) (is_client_as place node list) is) [
            | inl it ↦ absurd (false≢true (sym different ∙ left_of (same_node c.place place) _ it))
            | inr more ↦
                let rest = alone_at place node list few_more more in
                record { client = rest.client; is = rw different rest.is; it = rest.it }
          ]
    ]

renewed_one : (from : Sender) (s : Said) (node : Node) (c : Client) → prolongs from s ≡ true → node_in from s ≡ node → is_it from.place node c ≡ true
    → refreshed from s c ≡ fresh from node (lasts from)
renewed_one from s node c renews named it =
    let same = same_is c.node node (right_of (same_node c.place from.place) _ it) in
    ap (λ (b : Bool). if b && is_it from.place (node_in from s) c then fresh from c.node (lasts from) else c) renews
    ∙ ap (λ n. if is_it from.place n c then fresh from c.node (lasts from) else c) named
    ∙ ap (λ (b : Bool). if b then fresh from c.node (lasts from) else c) it
    ∙ ap (λ n. fresh from n (lasts from)) same

pub anew : (setting : Setting) (history : History) (from : Sender) (bytes : List ℕ) (node : Node) → prolongs from (said setting.network from bytes) ≡ true
    → node_in from (said setting.network from bytes) ≡ node → is_client setting from.place node history ≡ true
    → at_place from.place (clients setting (Datagram from bytes ∷ history)) ≡ fresh from node (lasts from) ∷ []
anew setting history from bytes node renews named client =
    let s = said setting.network from bytes in
    let said_node = node_in from s in
    let before = clients setting history in
    let alone = alone_at from.place node before (once setting history from.place) client in
    ap (at_place from.place)
    (nobody_new (map (refreshed from s) before) (fresh from said_node (lasts from)) (proves from (waiting setting history) s)
    (is_open setting from.place said_node before) (not_open setting from.place said_node before (as_place from.place node before client)))
    ∙ at_refreshed from.place from s before
    ∙ ap (map (refreshed from s)) alone.is
    ∙ ap (λ (c : Client). c ∷ []) (renewed_one from s node alone.client renews named alone.it)

-- with a second a client stays, or leaves
pub stays_or_leaves : (place node : Node) (list : List Client)
    → is_client_as place node list ≡ (is_client_as place node (filter stays (map later list)) || is_client_as place node (leaving list))
stays_or_leaves place node [] = refl
stays_or_leaves place node (c ∷ list) = grind (arith, stays_or_leaves place node list)

pub a_second : (setting : Setting) (history : History) (place : Node)
    → at_place place (clients setting (Second ∷ history)) ≡ filter stays (map later (at_place place (clients setting history)))
a_second setting history place =
    at_stays place (map later (clients setting history)) ∙ ap (filter stays) (at_later place (clients setting history))

-- ---- each is alone at its place

alone_more : (c d : Client) (list : List Client) → copies d.place (places_of (c ∷ list)) ≤ 1 → at_place d.place list ≡ d ∷ [] → at_place d.place (c ∷ list) ≡ d ∷ []
alone_more c d list few is =
    elim (cases_Bool (same_node c.place d.place)) [
      | inl same ↦
          let two : length (at_place d.place (c ∷ list)) ≡ 2 = rw same (ap (λ (l : List Client). length (c ∷ l)) is) in
          absurd (omega (arith, two, few, place_counted d.place (c ∷ list)))
      | inr different ↦ rw different is
    ]

one_more : (place : Node) (c : Client) (list : List Client) → length (at_place place list) ≤ length (at_place place (c ∷ list))
one_more place c list = elim (cases_Bool (same_node c.place place)) [ inl same ↦ rw same (omega arith) | inr different ↦ rw different (omega arith) ]

one_here : (c : Client) (list : List Client) → length (at_place c.place (c ∷ list)) ≡ 1 + length (at_place c.place list)
one_here c list = rw (same_itself c.place) (omega arith)

pub each_alone : (list : List Client) → ((place : Node) → copies place (places_of list) ≤ 1) → AllByRecursion (λ c. at_place c.place list ≡ c ∷ []) list
each_alone [] few = tt
each_alone (c ∷ list) few =
    let fewer : (place : Node) → copies place (places_of list) ≤ 1 = λ place. omega (arith, few place, place_counted place (c ∷ list), place_counted place list, one_more place c list) in
    let none : copies c.place (places_of list) ≡ 0 = omega (arith, few c.place, place_counted c.place (c ∷ list), place_counted c.place list, one_here c list) in (
      rw (same_itself c.place) (ap (λ (l : List Client). c ∷ l) (none_at c.place list (none_left c.place list none))),
      each-weaker (λ (d : Client). at_place d.place list ≡ d ∷ []) (λ (d : Client). at_place d.place (c ∷ list) ≡ d ∷ [])
          (λ d is. alone_more c d list (few d.place) is) list (each_alone list fewer),
    )
