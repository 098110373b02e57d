-- Since when a place is there.
use Rattle.std.proofs.Common.{◌≡◌, ◌≢◌, ◌∙◌, refl, sym, ap, subst, arith, ℕ, ◌+◌, ◌-◌, ◌<◌, ◌≤◌, ◌⊎◌, Bool, true, nat_lt, if◌then◌else◌, inl, inr, List, [], ◌∷◌, ◌++◌, filter, rules}
use Rattle.std.specs.List.{AllByRecursion}
use Rattle.std.proofs.lemmas.Bool.{cases_Bool, false≢true, ltb-true, lt-ltb}
use Rattle.ipx_wire.specs.declared.node.Node.{Node}
use Rattle.ipx_tunnel.specs.declared.said.Said.{Said}
use Rattle.ipx_tunnel.specs.declared.said.Said.TheVariants.{Nothing, Answers}
use Rattle.ipx_tunnel.specs.declared.sender.Sender.{Sender}
use Rattle.ipx_tunnel.specs.declared.setting.Setting.{Setting}
use Rattle.ipx_tunnel.specs.Numbers.{answer_lasts, trust_lasts}
use Rattle.ipx_tunnel.specs.Places.{same_node}
use Rattle.ipx_tunnel.specs.Events.{Event, Datagram, Second, Send, History}
use Rattle.ipx_tunnel.specs.Says.{said}
use Rattle.ipx_tunnel.specs.Clients.{lasts_by, lasts, seconds_left, is_there}
use Rattle.ipx_tunnel.specs.Laws.{seconds, Answered, Trusted, IsThereThrough, AnswersThrough, SpeaksThrough, comes_trusted, IsAlwaysTrusted, concerns}
use Rattle.ipx_tunnel.proofs.Lists.{each-before}
use Rattle.ipx_tunnel.proofs.Nodes.{same_is, same_itself}

-- ---- how long it counts what is said

-- what counts is an answer, or said by somebody trusted
says_who : (is_trusted : Bool) (s : Said) (left passed : ℕ) → 0 < left → left + passed ≡ lasts_by is_trusted s
    → ((s ≡ Answers) × (passed < answer_lasts)) ⊎ ((is_trusted ≡ true) × (s ≢ Nothing) × (passed < trust_lasts))
says_who is_trusted s left passed some is = grind arith

-- whatever counts does so for 30 seconds at least
least : (is_trusted : Bool) (s : Said) → nat_lt 0 (lasts_by is_trusted s) ≡ true → answer_lasts ≤ lasts_by is_trusted s
least is_trusted s some = grind arith

least_answer : (is_trusted : Bool) (s : Said) → s ≡ Answers → answer_lasts ≤ lasts_by is_trusted s
least_answer is_trusted s is = grind arith

-- what counts for a place came from there
counts_sender : (is_sender : Bool) (lasts : ℕ) → nat_lt 0 (if is_sender then lasts else 0) ≡ true → (is_sender ≡ true) × ((if is_sender then lasts else 0) ≡ lasts)
counts_sender is_sender lasts some = grind arith

-- whatever somebody trusted says does so for 180
trusted_says : (s : Said) → s ≢ Nothing → trust_lasts ≤ lasts_by true s
trusted_says s some = grind arith

lasts_now : (least : ℕ) (is_sender : Bool) (lasts left : ℕ) → 0 < least → is_sender ≡ true → least ≤ lasts
    → least ≤ (if nat_lt 0 (if is_sender then lasts else 0) then (if is_sender then lasts else 0) else left)
lasts_now least is_sender lasts left some is long = grind arith

module _ (setting : Setting) (place : Node) where
  -- ---- the event that counts

  -- the latest event that counts for the place
  record Counted (history : History) : Type 0 where
    later : History
    from : Sender
    bytes : List ℕ
    earlier : History
    event : history ≡ later ++ Datagram from bytes ∷ earlier
    sender : same_node place from.place ≡ true
    left : seconds_left setting place history + seconds later ≡ lasts_by from.is_trusted (said setting.network from bytes)

  counted : (history : History) → 0 < seconds_left setting place history → Counted history
  counted [] some = absurd (omega arith)
  counted (Datagram from bytes ∷ earlier) some =
      let l = lasts setting place (Datagram from bytes) in
      let after = λ (b : Bool). if b then l else seconds_left setting place earlier in
      elim (cases_Bool (nat_lt 0 l)) [
        | inl counts ↦
            let who = counts_sender (same_node place from.place) (lasts_by from.is_trusted (said setting.network from bytes)) counts in
            let left : seconds_left setting place (Datagram from bytes ∷ earlier) ≡ lasts_by from.is_trusted (said setting.network from bytes) = ap after counts ∙ who.1 in
            record { later = []; from = from; bytes = bytes; earlier = earlier; event = refl; sender = who.0; left = omega (arith, left) }
        | inr none ↦
            let same : seconds_left setting place (Datagram from bytes ∷ earlier) ≡ seconds_left setting place earlier = ap after none in
            let before = counted earlier (omega (arith, same, some)) in
            record {
              later = Datagram from bytes ∷ before.later;
              from = before.from;
              bytes = before.bytes;
              earlier = before.earlier;
              event = ap (λ (h : History). Datagram from bytes ∷ h) before.event;
              sender = before.sender;
              left = omega (arith, same, before.left);
            }
      ]
  counted (Second ∷ earlier) some =
      let before = counted earlier (omega arith) in
      record {
        later = Second ∷ before.later;
        from = before.from;
        bytes = before.bytes;
        earlier = before.earlier;
        event = ap (λ (h : History). Second ∷ h) before.event;
        sender = before.sender;
        left = omega (arith, before.left, some);
      }
  counted (Send to bytes ∷ earlier) some =
      let before = counted earlier some in
      record {
        later = Send to bytes ∷ before.later;
        from = before.from;
        bytes = before.bytes;
        earlier = before.earlier;
        event = ap (λ (h : History). Send to bytes ∷ h) before.event;
        sender = before.sender;
        left = before.left;
      }

  pub proved : (history : History) → is_there setting place history ≡ true → Answered setting place history ⊎ Trusted setting place history
  proved history there =
      let some : 0 < seconds_left setting place history = ltb-true 0 (seconds_left setting place history) there in
      let e = counted history some in
      elim (says_who e.from.is_trusted (said setting.network e.from e.bytes) (seconds_left setting place history) (seconds e.later) some e.left) [
        | inl answers ↦ inl (record {
          later = e.later;
          from = e.from;
          bytes = e.bytes;
          earlier = e.earlier;
          event = e.event;
          sender = sym (same_is place e.from.place e.sender);
          said = answers.0;
          recent = answers.1;
        })
        | inr speaks ↦ inr (record {
          later = e.later;
          from = e.from;
          bytes = e.bytes;
          earlier = e.earlier;
          event = e.event;
          sender = sym (same_is place e.from.place e.sender);
          trusted = speaks.0;
          said = speaks.1;
          recent = speaks.2;
        })
      ]

  -- ---- who answered is there

  -- each of the events that count does so for so many seconds at least
  Lasting : ℕ → History → Type 0
  Lasting least later = AllByRecursion (λ event. nat_lt 0 (lasts setting place event) ≡ true → least ≤ lasts setting place event) later

  each_answer : (later : History) → Lasting answer_lasts later
  unfolding Lasting
  each_answer [] = tt
  each_answer (Datagram from bytes ∷ later) = grind (arith, each_answer later)
  each_answer (Second ∷ later) = ((λ e. absurd (false≢true e)), each_answer later)
  each_answer (Send to bytes ∷ later) = ((λ e. absurd (false≢true e)), each_answer later)

  each_trusted : (later : History) → IsAlwaysTrusted place later → Lasting trust_lasts later
  unfolding Lasting
  each_trusted [] all = tt
  each_trusted (Datagram from bytes ∷ later) all = grind (arith, each_trusted later all.1)
  each_trusted (Second ∷ later) all = ((λ e. absurd (false≢true e)), each_trusted later all.1)
  each_trusted (Send to bytes ∷ later) all = ((λ e. absurd (false≢true e)), each_trusted later all.1)

  -- seconds alone take from what is left
  left_later : (n least : ℕ) → n ≤ least → (later history : History) → Lasting least later → n ≤ seconds_left setting place history
      → n ≤ seconds_left setting place (later ++ history) + seconds later
  unfolding Lasting
  left_later n least few [] history all enough = omega arith
  left_later n least few (Datagram from bytes ∷ later) history all enough = grind (arith, left_later n least few later history all.1 enough)
  left_later n least few (Second ∷ later) history all enough = omega (arith, left_later n least few later history all.1 enough)
  left_later n least few (Send to bytes ∷ later) history all enough = left_later n least few later history all.1 enough

  -- an event counted, and it lasts still
  still_there : (least : ℕ) (history later : History) (from : Sender) (bytes : List ℕ) (earlier : History) → history ≡ later ++ Datagram from bytes ∷ earlier
      → from.place ≡ place → 0 < least → least ≤ lasts_by from.is_trusted (said setting.network from bytes) → Lasting least later → seconds later < least
      → is_there setting place history ≡ true
  still_there least history later from bytes earlier is sender some long all recent =
      let then_left : least ≤ seconds_left setting place (Datagram from bytes ∷ earlier) =
      lasts_now least (same_node place from.place) (lasts_by from.is_trusted (said setting.network from bytes)) (seconds_left setting place earlier)
      some (ap (same_node place) sender ∙ same_itself place) long in
      let left = left_later least least (omega arith) later (Datagram from bytes ∷ earlier) all then_left in
      let enough : 0 < seconds_left setting place (later ++ Datagram from bytes ∷ earlier) = omega (arith, left, recent) in
      ap (λ (h : History). is_there setting place h) is ∙ lt-ltb 0 (seconds_left setting place (later ++ Datagram from bytes ∷ earlier)) enough

  pub answered_there : (history : History) → Answered setting place history → is_there setting place history ≡ true
  answered_there history a = search (rules, still_there, least_answer, each_answer)

  pub trusted_there : (history : History) → IsAlwaysTrusted place history → Trusted setting place history → is_there setting place history ≡ true
  trusted_there history all a =
      let long : trust_lasts ≤ lasts_by a.from.is_trusted (said setting.network a.from a.bytes) =
      subst (λ (b : Bool). trust_lasts ≤ lasts_by b (said setting.network a.from a.bytes)) (sym a.trusted) (trusted_says (said setting.network a.from a.bytes) a.said) in
      still_there trust_lasts history a.later a.from a.bytes a.earlier a.event a.sender (omega arith) long
      (each_trusted a.later (each-before (λ event. comes_trusted place event ≡ true) a.later (Datagram a.from a.bytes ∷ a.earlier)
      (subst (IsAlwaysTrusted place) a.event all))) a.recent

  pub speaks_there : (events : List Event) (history : History) → IsAlwaysTrusted place (events ++ history) → SpeaksThrough setting place events history
      → IsThereThrough setting place events history
  speaks_there [] history all each = tt
  speaks_there (event ∷ events) history all each = (trusted_there (event ∷ events ++ history) all each.0, speaks_there events history all.1 each.1)

  pub answers_there : (events : List Event) (history : History) → AnswersThrough setting place events history → IsThereThrough setting place events history
  answers_there [] history all = tt
  answers_there (event ∷ events) history all = (answered_there (event ∷ events ++ history) all.0, answers_there events history all.1)

  -- ---- what concerns the place

  pub own_alone : (history : History) → seconds_left setting place history ≡ seconds_left setting place (filter (concerns place) history)
  own_alone [] = refl
  own_alone (Datagram from bytes ∷ earlier) = grind (arith, own_alone earlier)
  own_alone (Second ∷ earlier) = ap (λ (n : ℕ). n - 1) (own_alone earlier)
  own_alone (Send to bytes ∷ earlier) = own_alone earlier
