-- Whoever is remembered stays so for his nine seconds.
use Rattle.std.proofs.Common.{◌≡◌, ◌∙◌, sym, ap, ap₂, arith, ℕ, ◌+◌, ◌-◌, ◌≤◌, Bool, true, ◌&&◌, if◌then◌else◌, inl, inr, List, [], ◌∷◌, ◌++◌, map, filter}
use Rattle.std.proofs.lemmas.Bool.{cases_Bool, false≢true}
use Rattle.std.proofs.lemmas.List.{append-nil}
use Rattle.ipx_wire.specs.declared.node.Node.{Node}
use Rattle.ipx_tunnel.specs.Places.{same_node, is_among}
use Rattle.ipx_tunnel.proofs.Nodes.{same_is, same_itself}
use Rattle.ipx_tunnel.proofs.Sending.{right_of}
use Rattle.ipx_keyed.specs.declared.client.Client.{Client}
use Rattle.ipx_keyed.specs.declared.sender.Sender.{Sender}
use Rattle.ipx_keyed.specs.declared.setting.Setting.{Setting}
use Rattle.ipx_keyed.specs.Numbers.{waits}
use Rattle.ipx_keyed.specs.Events.{Datagram, Second, Send, History}
use Rattle.ipx_keyed.specs.Says.{said}
use Rattle.ipx_keyed.specs.Members.{places_of, is_welcome, is_kept, stays, later, fresh}
use Rattle.ipx_keyed.specs.Tables.{registers, clients, waiting}
use Rattle.ipx_keyed.specs.Laws.{seconds, at_place, Remembers}
use Rattle.ipx_keyed.proofs.At.{at_append, at_later, at_stays, none_at, among_at, other_at, self_at}
use Rattle.ipx_keyed.proofs.Counting.{room_to_keep}
use Rattle.ipx_keyed.proofs.Entering.{remembers_more}

-- where somebody is remembered, nobody is remembered anew
stays_first : (setting : Setting) (other : Sender) (place : Node) (comes : Bool) (list more : List Client) (c : Client) → at_place place list ≡ c ∷ more
    → (comes ≡ true → is_kept setting other.place list ≡ true)
    → at_place place (list ++ (if comes then fresh other other.node waits ∷ [] else [])) ≡ c ∷ more
stays_first setting other place comes list more c is room =
    let new = fresh other other.node waits in
    elim (cases_Bool comes) [
      | inr none ↦ rw none (ap (at_place place) (append-nil list) ∙ is)
      | inl some ↦
          let kept = room_to_keep setting other.place list (room some) in
          elim (cases_Bool (same_node other.place place)) [
            | inl same ↦ absurd (false≢true (sym kept.new ∙ ap (λ p. is_among p (places_of list)) (same_is other.place place same) ∙ among_at place list more c is))
            | inr different ↦
                rw some (at_append place list (new ∷ []) ∙ ap₂ (λ (a b : List Client). a ++ b) is (other_at place new different) ∙ append-nil (c ∷ more))
          ]
    ]

a_second : (place : Node) (from : Sender) (node : Node) (list : List Client) (n : ℕ) → n + 1 ≤ waits → at_place place list ≡ fresh from node (waits - n) ∷ []
    → at_place place (map later (filter stays list)) ≡ fresh from node (waits - (n + 1)) ∷ []
a_second place from node list n within is = grind (arith, at_later, at_stays)

module _ (setting : Setting) (from : Sender) (bytes : List ℕ) (earlier : History) (r : Remembers setting from bytes earlier) where
  pub stays_remembered : (since : History) → seconds since ≤ waits
      → at_place from.place (waiting setting (since ++ Datagram from bytes ∷ earlier)) ≡ fresh from from.node (waits - seconds since) ∷ []
  stays_remembered [] within =
      let new = fresh from from.node waits in
      let before = waiting setting earlier in
      ap (at_place from.place) (remembers_more setting from bytes earlier r)
      ∙ at_append from.place before (new ∷ [])
      ∙ ap₂ (λ (a b : List Client). a ++ b) (none_at from.place before (room_to_keep setting from.place before r.kept).new)
      (self_at from.place new (same_itself from.place))
  stays_remembered (Datagram other said_now ∷ since) within =
      let before = since ++ Datagram from bytes ∷ earlier in
      let s = said setting.network other said_now in
      let welcome = is_welcome setting other (clients setting (Datagram other said_now ∷ before)) in
      let kept = is_kept setting other.place (waiting setting before) in
      stays_first setting other from.place (registers s && welcome && kept) (waiting setting before) [] _ (stays_remembered since within)
      (λ all. right_of (registers s && welcome) kept all)
  stays_remembered (Second ∷ since) within =
      a_second from.place from from.node (waiting setting (since ++ Datagram from bytes ∷ earlier)) (seconds since) within (stays_remembered since (omega (arith, within)))
  stays_remembered (Send to sent ∷ since) within = stays_remembered since within
