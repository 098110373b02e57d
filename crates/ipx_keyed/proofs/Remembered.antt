-- Whoever is remembered registered, and was given his node.
use Rattle.std.proofs.Common.{◌≡◌, ◌∙◌, refl, ap, ap₂, arith, ℕ, Bool, true, false, ◌&&◌, if◌then◌else◌, inl, inr, List, [], ◌∷◌, filter}
use Rattle.std.specs.List.{AllByRecursion}
use Rattle.std.proofs.lemmas.Bool.{cases_Bool, ltb-true}
use Rattle.ipx_wire.specs.declared.node.Node.{Node}
use Rattle.ipx_tunnel.proofs.Lists.{each-append, each-weaker}
use Rattle.ipx_tunnel.proofs.Sending.{left_of, right_of}
use Rattle.ipx_keyed.specs.declared.client.Client.{Client}
use Rattle.ipx_keyed.specs.declared.said.Said.TheVariants.{Registers}
use Rattle.ipx_keyed.specs.declared.sender.Sender.{Sender}
use Rattle.ipx_keyed.specs.declared.setting.Setting.{Setting}
use Rattle.ipx_keyed.specs.Numbers.{waits}
use Rattle.ipx_keyed.specs.Events.{Event, Datagram, Second, Send, History}
use Rattle.ipx_keyed.specs.Says.{said}
use Rattle.ipx_keyed.specs.Members.{is_remembered, is_welcome, is_kept, stays, later, fresh}
use Rattle.ipx_keyed.specs.Tables.{registers, clients, waiting}
use Rattle.ipx_keyed.specs.Own.{answer_to, own, own_for}
use Rattle.ipx_keyed.specs.Laws.{seconds, Registered, Given}
use Rattle.ipx_keyed.proofs.At.{each-map, one_of}
use Rattle.ipx_keyed.proofs.Shown.{registers_is}

-- what passes a test has what follows from it
pub each-passed : {X : Type 0} (P Q : X → Type 0) (q : X → Bool) → ((x : X) → q x ≡ true → P x → Q x) → (xs : List X) → AllByRecursion P xs → AllByRecursion Q (filter q xs)
each-passed P Q q step [] all = tt
each-passed P Q q step (x ∷ xs) all =
    elim (cases_Bool (q x)) [
      | inl passes ↦ rw passes (step x passes all.0, each-passed P Q q step xs all.1)
      | inr other ↦ rw other (each-passed P Q q step xs all.1)
    ]

-- one who comes, if he does
pub each-one : {X : Type 0} (P : X → Type 0) (x : X) (comes : Bool) → (comes ≡ true → P x) → AllByRecursion P (if comes then x ∷ [] else [])
each-one P x true holds = (holds refl, tt)
each-one P x false holds = tt

module _ (setting : Setting) where
  answered : (from : Sender) (bytes : List ℕ) (earlier : History) → said setting.network from bytes ≡ Registers
      → is_welcome setting from (clients setting (Datagram from bytes ∷ earlier)) ≡ true
      → own setting (Datagram from bytes ∷ earlier) ≡ answer_to setting from.place from.node ∷ []
  answered from bytes earlier registered welcome =
      let now = Datagram from bytes ∷ earlier in
      ap (own_for setting (clients setting now) (waiting setting now) from) registered
      ∙ ap (λ (b : Bool). if b then answer_to setting from.place from.node ∷ [] else []) welcome

  registers_now : (from : Sender) (bytes : List ℕ) (earlier : History) → registers (said setting.network from bytes) ≡ true
      → is_welcome setting from (clients setting (Datagram from bytes ∷ earlier)) ≡ true
      → Registered setting (fresh from from.node waits) (Datagram from bytes ∷ earlier)
  registers_now from bytes earlier registered welcome =
      let is = registers_is (said setting.network from bytes) registered in
      record {
        later = [];
        from = from;
        bytes = bytes;
        earlier = earlier;
        event = refl;
        sender = refl;
        node = refl;
        said = is;
        given = answered from bytes earlier is welcome;
        cookie = refl;
        left = refl;
      }

  -- a datagram or a packet of the router more
  passes_by : (event : Event) (earlier : History) (c : Client) → ((l : History) → seconds (event ∷ l) ≡ seconds l) → Registered setting c earlier
      → Registered setting c (event ∷ earlier)
  passes_by event earlier c same r = record {
    later = event ∷ r.later;
    from = r.from;
    bytes = r.bytes;
    earlier = r.earlier;
    event = ap (λ (h : History). event ∷ h) r.event;
    sender = r.sender;
    node = r.node;
    said = r.said;
    given = r.given;
    cookie = r.cookie;
    left = omega (arith, r.left, same r.later);
  }

  second_passes : (earlier : History) (c : Client) → stays c ≡ true → Registered setting c earlier → Registered setting (later c) (Second ∷ earlier)
  second_passes earlier c stay r = record {
    later = Second ∷ r.later;
    from = r.from;
    bytes = r.bytes;
    earlier = r.earlier;
    event = ap (λ (h : History). Second ∷ h) r.event;
    sender = r.sender;
    node = r.node;
    said = r.said;
    given = r.given;
    cookie = r.cookie;
    left = omega (arith, r.left, ltb-true 0 c.seconds_left stay);
  }

  pub each_registered : (history : History) → AllByRecursion (λ c. Registered setting c history) (waiting setting history)
  each_registered [] = tt
  each_registered (Datagram from bytes ∷ earlier) =
      let now = Datagram from bytes ∷ earlier in
      let s = said setting.network from bytes in
      let welcome = is_welcome setting from (clients setting now) in
      let kept = is_kept setting from.place (waiting setting earlier) in
      each-append (λ (c : Client). Registered setting c now) (waiting setting earlier) _
      (each-weaker (λ (c : Client). Registered setting c earlier) (λ (c : Client). Registered setting c now)
      (λ c r. passes_by (Datagram from bytes) earlier c (λ l. refl) r) (waiting setting earlier) (each_registered earlier))
      (each-one (λ (c : Client). Registered setting c now) (fresh from from.node waits) (registers s && welcome && kept)
      (λ all.
      let both = left_of (registers s && welcome) kept all in
      registers_now from bytes earlier (left_of (registers s) welcome both) (right_of (registers s) welcome both)))
  each_registered (Second ∷ earlier) =
      each-map (λ (c : Client). Registered setting c (Second ∷ earlier)) later (filter stays (waiting setting earlier))
      (each-passed (λ (c : Client). Registered setting c earlier) (λ (c : Client). Registered setting (later c) (Second ∷ earlier)) stays
      (second_passes earlier) (waiting setting earlier) (each_registered earlier))
  each_registered (Send to bytes ∷ earlier) =
      each-weaker (λ (c : Client). Registered setting c earlier) (λ (c : Client). Registered setting c (Send to bytes ∷ earlier))
      (λ c r. passes_by (Send to bytes) earlier c (λ l. refl) r) (waiting setting earlier) (each_registered earlier)

  pub was_given : (history : History) (place node : Node) → is_remembered place node (waiting setting history) ≡ true → Given setting place node history
  was_given history place node is =
      let one = one_of (λ c. Registered setting c history) place node (waiting setting history) (each_registered history) is in
      let r = one.holds in
      record {
        later = r.later;
        from = r.from;
        bytes = r.bytes;
        earlier = r.earlier;
        event = r.event;
        sender = r.sender ∙ one.place_is;
        said = r.said;
        given = r.given ∙ ap₂ (λ (p n : Node). answer_to setting p n ∷ []) one.place_is one.node_is;
        recent = omega (arith, r.left);
      }
