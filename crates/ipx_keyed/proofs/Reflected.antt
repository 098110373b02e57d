-- How much goes to a place without a client.
use Rattle.std.proofs.Common.{◌≡◌, ◌∙◌, refl, ap, arith, ℕ, ◌+◌, ◌-◌, ◌*◌, ◌<◌, ◌≤◌, ◌==◌, Bool, true, false, ◌&&◌, ◌||◌, not, nat_lt, if◌then◌else◌, inl, inr, List, [], ◌∷◌, ◌++◌, length, map, filter}
use Rattle.std.proofs.lemmas.Bool.{cases_Bool, ltb-true}
use Rattle.std.proofs.lemmas.List.{length-map}
use Rattle.ipx_wire.specs.declared.node.Node.{Node}
use Rattle.ipx_tunnel.specs.declared.own.Own.{Own}
use Rattle.ipx_tunnel.specs.Own.{ping_to, is_ping}
use Rattle.ipx_tunnel.specs.Places.{same_node, is_among}
use Rattle.ipx_keyed.specs.declared.client.Client.{Client}
use Rattle.ipx_keyed.specs.declared.said.Said.{Said}
use Rattle.ipx_keyed.specs.declared.said.Said.TheVariants.{Nothing, Registers, Answers, Speaks}
use Rattle.ipx_keyed.specs.declared.sender.Sender.{Sender}
use Rattle.ipx_keyed.specs.declared.setting.Setting.{Setting}
use Rattle.ipx_keyed.specs.Numbers.{waits}
use Rattle.ipx_keyed.specs.Events.{Datagram, Second, Send, History}
use Rattle.ipx_keyed.specs.Says.{said}
use Rattle.ipx_keyed.specs.Members.{places_of, is_client_as, is_open, is_welcome, is_kept, stays, later, fresh}
use Rattle.ipx_keyed.specs.Tables.{registers, clients, waiting}
use Rattle.ipx_keyed.specs.Own.{answer_to, own_for, is_due, due_to, due_of, own}
use Rattle.ipx_keyed.specs.Laws.{at_place, own_to, ever_came, is_there, sent_to_stranger}
use Rattle.ipx_keyed.proofs.Due.{own_second}
use Rattle.ipx_keyed.proofs.Sending.{carried_none}
use Rattle.ipx_keyed.proofs.Silence.{no_pings}

-- ---- what is yet to be sent

-- how many datagrams somebody remembered is yet to get: an answer, and two pings
pub yet : ℕ → ℕ
yet n = (if nat_lt 8 n then 1 else 0) + (if nat_lt 2 n then 1 else 0) + (if nat_lt 0 n then 1 else 0)

pub pending : Node → List Client → ℕ
pending place [] = 0
pending place (c ∷ list) = (if same_node c.place place then yet c.seconds_left else 0) + pending place list

pending_append : (place : Node) (one two : List Client) → pending place (one ++ two) ≡ pending place one + pending place two
unfolding pending
pending_append place [] two = omega arith
pending_append place (c ∷ one) two = omega (arith, pending_append place one two)

-- with each second one of them is sent, or none
due_one : (n : ℕ) → 0 < n → (if (n - 1 == 8) || (n - 1 == 2) || (n - 1 == 0) then 1 else 0) + yet (n - 1) ≤ yet n
unfolding yet
due_one n some = grind arith

second_pays : (place : Node) (list : List Client) → let after = map later (filter stays list) in
    length (filter is_due (at_place place after)) + pending place after ≤ pending place list
unfolding pending
second_pays place [] = omega arith
second_pays place (c ∷ list) =
    let rest = second_pays place list in
    elim (cases_Bool (stays c)) [
      | inr none ↦ rw none (omega (arith, rest))
      | inl stay ↦
          let pays = due_one c.seconds_left (ltb-true 0 c.seconds_left stay) in
          elim (cases_Bool (same_node c.place place)) [
            | inr other ↦ rw (stay, other) (omega (arith, rest))
            | inl same ↦ elim (cases_Bool (is_due (later c))) [
              | inl due ↦ rw (stay, same, due) (omega (arith, rest, rw due at pays))
              | inr none ↦ rw (stay, same, none) (omega (arith, rest, rw none at pays))
            ]
          ]
    ]

-- ---- a datagram

one_goes : (place at : Node) (o : Own) (comes : Bool) → o.place ≡ at → length (own_to place (if comes then o ∷ [] else [])) ≤ (if same_node at place then 1 else 0)
one_goes place at o false is = omega arith
one_goes place at o true is =
    elim (cases_Bool (same_node at place)) [ inl same ↦ rw (is, same) (omega arith) | inr other ↦ rw (is, other) (omega arith) ]

two_go : (place at : Node) (one two : Own) (a b d : Bool) → one.place ≡ at → two.place ≡ at
    → length (own_to place (if a then (if b then one ∷ [] else []) else if d then two ∷ [] else [])) ≤ (if same_node at place then 1 else 0)
two_go place at one two true b d first second = one_goes place at one b first
two_go place at one two false b d first second = one_goes place at two d second

own_goes : (setting : Setting) (list held : List Client) (from : Sender) (s : Said) (place : Node)
    → length (own_to place (own_for setting list held from s)) ≤ (if same_node from.place place then 1 else 0)
own_goes setting list held from Nothing place = omega arith
own_goes setting list held from Registers place = one_goes place from.place (answer_to setting from.place from.node) (is_welcome setting from list) refl
own_goes setting list held from (Answers node) place = omega arith
own_goes setting list held from (Speaks header) place =
    two_go place from.place (answer_to setting from.place header.source.node) (ping_to setting.network from.place from.cookies.current)
    (is_client_as from.place header.source.node list) (is_ping setting.network header)
    (is_open setting from.place header.source.node list && not (is_among from.place (places_of held))) refl refl

kept_goes : (from : Sender) (place : Node) (comes : Bool)
    → pending place (if comes then fresh from from.node waits ∷ [] else []) ≤ 3 * (if same_node from.place place then 1 else 0)
unfolding pending yet
kept_goes from place true = elim (cases_Bool (same_node from.place place)) [ inl same ↦ rw same (omega arith) | inr other ↦ rw other (omega arith) ]
kept_goes from place false = omega arith

-- ---- in all

due_counted : (setting : Setting) (list : List Client) → length (due_of setting list) ≡ length (filter is_due list)
due_counted setting list = length-map (filter is_due list) (due_to setting)

module _ (setting : Setting) (place : Node) where
  -- what goes there with a second, if no client is there
  second_goes : (earlier : History) → is_there setting place (Second ∷ earlier) ≡ false
      → length (own_to place (own setting (Second ∷ earlier))) ≡ length (filter is_due (at_place place (waiting setting (Second ∷ earlier))))
  second_goes earlier none =
      let now = Second ∷ earlier in
      ap length (own_second setting place earlier ∙ ap (λ (l : List Own). l ++ due_of setting (at_place place (waiting setting now))) (no_pings setting now place none))
      ∙ due_counted setting (at_place place (waiting setting now))

  pub paid_for : (history : History) → sent_to_stranger setting place history + pending place (waiting setting history) ≤ 4 * ever_came place history
  unfolding pending
  paid_for [] = omega arith
  paid_for (Datagram from bytes ∷ earlier) =
      let now = Datagram from bytes ∷ earlier in
      let s = said setting.network from bytes in
      let comes = registers s && is_welcome setting from (clients setting now) && is_kept setting from.place (waiting setting earlier) in
      let more = pending_append place (waiting setting earlier) (if comes then fresh from from.node waits ∷ [] else []) in
      elim (cases_Bool (is_there setting place now)) [
        | inl there ↦ rw there (omega (arith, paid_for earlier, more, kept_goes from place comes))
        | inr none ↦
            rw none (omega (
              arith,
              paid_for earlier,
              more,
              kept_goes from place comes,
              carried_none setting now place none,
              own_goes setting (clients setting now) (waiting setting now) from s place,
            ))
      ]
  paid_for (Second ∷ earlier) =
      let now = Second ∷ earlier in
      elim (cases_Bool (is_there setting place now)) [
        | inl there ↦ rw there (omega (arith, paid_for earlier, second_pays place (waiting setting earlier)))
        | inr none ↦ rw none (omega (arith, paid_for earlier, second_pays place (waiting setting earlier), second_goes earlier none))
      ]
  paid_for (Send to bytes ∷ earlier) =
      let now = Send to bytes ∷ earlier in
      elim (cases_Bool (is_there setting place now)) [
        | inl there ↦ rw there (omega (arith, paid_for earlier))
        | inr none ↦ rw none (omega (arith, paid_for earlier, carried_none setting now place none))
      ]
