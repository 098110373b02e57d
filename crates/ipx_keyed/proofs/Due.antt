-- What goes to somebody who is remembered.
use Rattle.std.proofs.Common.{◌≡◌, ◌≢◌, ◌∙◌, refl, sym, ap, ap₂, arith, ℕ, ◌+◌, ◌-◌, ◌<◌, ◌≤◌, ◌==◌, ◌%◌, ◌⊎◌, Bool, true, false, ◌&&◌, ◌||◌, not, if◌then◌else◌, inl, inr, List, [], ◌∷◌, ◌++◌, map, filter}
use Rattle.std.proofs.lemmas.Bool.{cases_Bool, false≢true}
use Rattle.std.proofs.lemmas.List.Elements.{filter-append, filter_agree}
use Rattle.std.proofs.Math.Bool.{and-false}
use Rattle.ipx_wire.specs.declared.node.Node.{Node}
use Rattle.ipx_tunnel.specs.declared.own.Own.{Own}
use Rattle.ipx_tunnel.specs.Numbers.{ping_every}
use Rattle.ipx_tunnel.specs.Own.{ping_to, is_ping}
use Rattle.ipx_tunnel.specs.Places.{same_node, broadcast, is_among}
use Rattle.ipx_tunnel.proofs.Lists.{filter-map}
use Rattle.ipx_tunnel.proofs.Nodes.{same_is}
use Rattle.ipx_tunnel.proofs.Sending.{right_of}
use Rattle.ipx_keyed.specs.declared.client.Client.{Client}
use Rattle.ipx_keyed.specs.declared.said.Said.{Said}
use Rattle.ipx_keyed.specs.declared.said.Said.TheVariants.{Nothing, Registers, Answers, Speaks}
use Rattle.ipx_keyed.specs.declared.sender.Sender.{Sender}
use Rattle.ipx_keyed.specs.declared.setting.Setting.{Setting}
use Rattle.ipx_keyed.specs.Numbers.{waits, answered_at}
use Rattle.ipx_keyed.specs.Events.{Datagram, Second, Send, History}
use Rattle.ipx_keyed.specs.Says.{said}
use Rattle.ipx_keyed.specs.Members.{places_of, nodes_of, is_client_as, is_open, is_welcome, fresh}
use Rattle.ipx_keyed.specs.Tables.{clients, waiting}
use Rattle.ipx_keyed.specs.Own.{answer_to, own_for, pings_now, pings_of, is_due, due_to, due_of, own}
use Rattle.ipx_keyed.specs.Laws.{seconds, at_place, own_to, Remembers, is_ping_to}
use Rattle.ipx_keyed.proofs.At.{filter-swap, among_at, as_node}
use Rattle.ipx_keyed.proofs.Counting.{room_of, free_all, none_all}
use Rattle.ipx_keyed.proofs.First.{stays_remembered}
use Rattle.ipx_keyed.proofs.Shown.{either}
use Rattle.ipx_keyed.proofs.Silence.{pings_at}

-- ---- a second

none_pinged : (place : Node) (held list : List Client) → is_among place (places_of held) ≡ true → filter (pings_now held) (at_place place list) ≡ []
none_pinged place held [] there = refl
none_pinged place held (c ∷ list) there =
    elim (cases_Bool (same_node c.place place)) [
      | inl same ↦
          let known : is_among c.place (places_of held) ≡ true = ap (λ p. is_among p (places_of held)) (same_is c.place place same) ∙ there in
          rw (same, known, and-false (c.seconds_left % ping_every == 0)) (none_pinged place held list there)
      | inr different ↦ rw different (none_pinged place held list there)
    ]

due_place : (setting : Setting) (c : Client) → (due_to setting c).place ≡ c.place
due_place setting c = elim (cases_Bool (c.seconds_left == answered_at)) [ inl is ↦ rw is refl | inr other ↦ rw other refl ]

-- what goes to a place is due to those who are remembered there
pub due_at : (setting : Setting) (place : Node) (list : List Client) → own_to place (due_of setting list) ≡ due_of setting (at_place place list)
due_at setting place list =
    filter-map (λ (o : Own). same_node o.place place) (due_to setting) (filter is_due list)
    ∙ ap (map (due_to setting))
    (filter_agree (λ (c : Client). same_node (due_to setting c).place place) (λ (c : Client). same_node c.place place)
    (λ c. ap (λ p. same_node p place) (due_place setting c)) (filter is_due list)
    ∙ filter-swap (λ (c : Client). same_node c.place place) is_due list)

pub own_second : (setting : Setting) (place : Node) (earlier : History) → let now = Second ∷ earlier in
    own_to place (own setting now) ≡ own_to place (pings_of setting (clients setting now) (waiting setting now)) ++ due_of setting (at_place place (waiting setting now))
own_second setting place earlier =
    let now = Second ∷ earlier in
    let pings = own_to place (pings_of setting (clients setting now) (waiting setting now)) in
    filter-append (λ (o : Own). same_node o.place place) (pings_of setting (clients setting now) (waiting setting now)) (due_of setting (waiting setting now))
    ∙ ap (λ (l : List Own). pings ++ l) (due_at setting place (waiting setting now))

not_due : (n : ℕ) → n ≢ 0 → n ≢ 6 → n < 8 → ((9 - (n + 1) == 8) || (9 - (n + 1) == 2) || (9 - (n + 1) == 0)) ≡ false
not_due n one seven few = grind arith

-- ---- nodes that aren't for all

module _ (setting : Setting) (history : History) where
  client_named : (place node : Node) → is_client_as place node (clients setting history) ≡ true → same_node node broadcast ≡ false
  client_named place node client =
      elim (cases_Bool (same_node node broadcast)) [
        | inl same ↦
            absurd (false≢true (sym (none_all setting history)
            ∙ ap (λ n. is_among n (nodes_of (clients setting history))) (sym (same_is node broadcast same)) ∙ as_node place node (clients setting history) client))
        | inr other ↦ other
      ]

  pub welcome_named : (from : Sender) → is_welcome setting from (clients setting history) ≡ true → same_node from.node broadcast ≡ false
  welcome_named from welcome =
      elim (either (is_client_as from.place from.node (clients setting history)) _ welcome) [
        | inl client ↦ client_named from.place from.node client
        | inr room ↦ free_all setting from.node (clients setting history) (room_of setting from.place from.node (clients setting history) room).free
      ]

-- ---- no ping

filter-and : {X : Type 0} (p q : X → Bool) (xs : List X) → filter (λ x. p x && q x) xs ≡ filter q (filter p xs)
filter-and p q [] = refl
filter-and p q (x ∷ xs) = grind (arith, filter-and p q xs)

abbrev is_for_all : Own → Bool
is_for_all o = same_node o.destination.node broadcast

none_of_one : (p : Own → Bool) (comes : Bool) (o : Own) → (comes ≡ true → p o ≡ false) → filter p (if comes then o ∷ [] else []) ≡ []
none_of_one p true o none = rw (none refl) refl
none_of_one p false o none = refl

no_answer : (setting : Setting) (place : Node) (comes : Bool) (to node : Node) → (comes ≡ true → same_node node broadcast ≡ false)
    → filter (is_ping_to place) (if comes then answer_to setting to node ∷ [] else []) ≡ []
no_answer setting place comes to node named =
    none_of_one (is_ping_to place) comes (answer_to setting to node) (λ is. ap (λ (b : Bool). same_node to place && b) (named is) ∙ and-false (same_node to place))

-- a stranger who is remembered isn't pinged
no_ping : (setting : Setting) (place : Node) (from : Sender) (held : List Client) (open_now : Bool) → is_among place (places_of held) ≡ true
    → filter (is_ping_to place) (if open_now && not (is_among from.place (places_of held)) then ping_to setting.network from.place from.cookies.current ∷ [] else []) ≡ []
no_ping setting place from held open_now there =
    none_of_one (is_ping_to place) (open_now && not (is_among from.place (places_of held))) (ping_to setting.network from.place from.cookies.current)
    (λ is. ap (λ (b : Bool). b && same_node broadcast broadcast) (elsewhere is))
  where
    elsewhere : (open_now && not (is_among from.place (places_of held))) ≡ true → same_node from.place place ≡ false
    elsewhere is =
        elim (cases_Bool (same_node from.place place)) [
          | inl same ↦
              let known : is_among from.place (places_of held) ≡ true = ap (λ p. is_among p (places_of held)) (same_is from.place place same) ∙ there in
              absurd (false≢true (sym (ap (λ (b : Bool). not b) known) ∙ right_of open_now _ is))
          | inr other ↦ other
        ]

quiet_packet : (setting : Setting) (place : Node) (from : Sender) (node : Node) (held : List Client) (client pings open_now : Bool)
    → is_among place (places_of held) ≡ true → (client ≡ true → same_node node broadcast ≡ false)
    → filter (is_ping_to place)
    (if client then (if pings then answer_to setting from.place node ∷ [] else [])
    else if open_now && not (is_among from.place (places_of held)) then ping_to setting.network from.place from.cookies.current ∷ [] else []) ≡ []
quiet_packet setting place from node held true pings open_now there named = no_answer setting place pings from.place node (λ is. named refl)
quiet_packet setting place from node held false pings open_now there named = no_ping setting place from held open_now there

quiet_own : (setting : Setting) (history : History) (place : Node) (from : Sender) (held : List Client) (s : Said) → is_among place (places_of held) ≡ true
    → filter (is_ping_to place) (own_for setting (clients setting history) held from s) ≡ []
quiet_own setting history place from held Nothing there = refl
quiet_own setting history place from held Registers there =
    no_answer setting place (is_welcome setting from (clients setting history)) from.place from.node (welcome_named setting history from)
quiet_own setting history place from held (Answers node) there = refl
quiet_own setting history place from held (Speaks header) there =
    quiet_packet setting place from header.source.node held (is_client_as from.place header.source.node (clients setting history))
    (is_ping setting.network header) (is_open setting from.place header.source.node (clients setting history)) there
    (client_named setting history from.place header.source.node)

-- before the seventh second nothing is due but an answer
quiet_due : (setting : Setting) (c : Client) → 2 < c.seconds_left → same_node c.node broadcast ≡ false → filter is_for_all (due_of setting (c ∷ [])) ≡ []
quiet_due setting c some named =
    elim (cases_Bool (c.seconds_left == answered_at)) [
      | inl is ↦ rw (is, is, named) refl
      | inr other ↦
          let second : (c.seconds_left == 2) ≡ false = grind arith in
          let last : (c.seconds_left == 0) ≡ false = grind arith in
          rw (other, second, last) refl
    ]

module _ (setting : Setting) (earlier : History) (from : Sender) (bytes : List ℕ) (r : Remembers setting from bytes earlier) where
  there_since : (since : History) → seconds since ≤ waits → is_among from.place (places_of (waiting setting (since ++ Datagram from bytes ∷ earlier))) ≡ true
  there_since since within =
      among_at from.place (waiting setting (since ++ Datagram from bytes ∷ earlier)) [] (fresh from from.node (waits - seconds since))
      (stays_remembered setting from bytes earlier r since within)

  -- all that goes to him with a second is what is due
  pub in_second : (since : History) → seconds since + 1 ≤ waits
      → own_to from.place (own setting (Second ∷ since ++ Datagram from bytes ∷ earlier)) ≡ due_of setting (fresh from from.node (waits - (seconds since + 1)) ∷ [])
  in_second since within =
      let now = Second ∷ since ++ Datagram from bytes ∷ earlier in
      let list = waiting setting now in
      own_second setting from.place (since ++ Datagram from bytes ∷ earlier)
      ∙ ap₂ (λ (a b : List Own). a ++ b)
      (pings_at setting from.place (clients setting now) list
      ∙ ap (map (λ c. ping_to setting.network c.place c.cookie)) (none_pinged from.place list (clients setting now) (there_since (Second ∷ since) within)))
      (ap (due_of setting) (stays_remembered setting from bytes earlier r (Second ∷ since) within))

  pub again : (since : History) → seconds since ≡ 0
      → own_to from.place (own setting (Second ∷ since ++ Datagram from bytes ∷ earlier)) ≡ answer_to setting from.place from.node ∷ []
  again since is =
      in_second since (omega (arith, is)) ∙ ap (λ (n : ℕ). due_of setting (fresh from from.node (waits - (n + 1)) ∷ [])) is

  pub pinged : (since : History) → (seconds since ≡ 6) ⊎ (seconds since ≡ 8)
      → own_to from.place (own setting (Second ∷ since ++ Datagram from bytes ∷ earlier)) ≡ ping_to setting.network from.place from.cookies.current ∷ []
  pinged since when =
      elim when [
        | inl is ↦ in_second since (omega (arith, is)) ∙ ap (λ (n : ℕ). due_of setting (fresh from from.node (waits - (n + 1)) ∷ [])) is
        | inr is ↦ in_second since (omega (arith, is)) ∙ ap (λ (n : ℕ). due_of setting (fresh from from.node (waits - (n + 1)) ∷ [])) is
      ]

  pub between : (since : History) → seconds since ≢ 0 → seconds since ≢ 6 → seconds since < 8
      → own_to from.place (own setting (Second ∷ since ++ Datagram from bytes ∷ earlier)) ≡ []
  between since one seven few =
      in_second since (omega (arith, few)) ∙ ap (λ (b : Bool). map (due_to setting) (if b then fresh from from.node (waits - (seconds since + 1)) ∷ [] else [])) (not_due (seconds since) one seven few)

  pub quiet : (since : History) → seconds since < 7 → filter (is_ping_to from.place) (own setting (since ++ Datagram from bytes ∷ earlier)) ≡ []
  quiet [] few =
      let now = Datagram from bytes ∷ earlier in
      quiet_own setting now from.place from (waiting setting now) (said setting.network from bytes) (there_since [] (omega arith))
  quiet (Datagram other more ∷ since) few =
      let now = Datagram other more ∷ since ++ Datagram from bytes ∷ earlier in
      quiet_own setting now from.place other (waiting setting now) (said setting.network other more) (there_since (Datagram other more ∷ since) (omega (arith, few)))
  quiet (Second ∷ since) few =
      let now = Second ∷ since ++ Datagram from bytes ∷ earlier in
      filter-and (λ (o : Own). same_node o.place from.place) is_for_all (own setting now)
      ∙ ap (filter is_for_all) (in_second since (omega (arith, few)))
      ∙ quiet_due setting (fresh from from.node (waits - (seconds since + 1))) (omega (arith, few)) (welcome_named setting earlier from r.welcome)
  quiet (Send to more ∷ since) few = refl
