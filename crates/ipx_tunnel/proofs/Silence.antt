-- How long a place was silent.
use Rattle.std.proofs.Common.{◌≡◌, ◌∙◌, refl, ap, ap₂, arith, ℕ, ◌-◌, ◌%◌, ◌<◌, ◌≤◌, ◌==◌, Bool, true, false, ◌&&◌, nat_lt, if◌then◌else◌, inl, inr, List, [], ◌∷◌, ◌++◌, length, filter, map, replicate}
use Rattle.std.specs.List.{AllByRecursion}
use Rattle.std.proofs.lemmas.Bool.{cases_Bool, lt-ltb, ltb-true}
use Rattle.std.proofs.lemmas.List.{length-map}
use Rattle.ipx_wire.specs.declared.node.Node.{Node}
use Rattle.ipx_tunnel.specs.declared.own.Own.{Own}
use Rattle.ipx_tunnel.specs.declared.said.Said.{Said}
use Rattle.ipx_tunnel.specs.declared.sender.Sender.{Sender}
use Rattle.ipx_tunnel.specs.declared.setting.Setting.{Setting}
use Rattle.ipx_tunnel.specs.Numbers.{ping_every}
use Rattle.ipx_tunnel.specs.Places.{same_node}
use Rattle.ipx_tunnel.specs.Events.{Event, Datagram, Second, Send, History}
use Rattle.ipx_tunnel.specs.Says.{said}
use Rattle.ipx_tunnel.specs.Clients.{lasts_by, lasts, seconds_left, is_there, cookie, clients}
use Rattle.ipx_tunnel.specs.Own.{ping_to, own, is_silent}
use Rattle.ipx_tunnel.specs.Laws.{seconds, copies, LastHeard, is_client, own_to}
use Rattle.ipx_tunnel.proofs.Clients.{once}
use Rattle.ipx_tunnel.proofs.Lists.{filter-map}
use Rattle.ipx_tunnel.proofs.Members.{copies_passed, each_among, alone}
use Rattle.ipx_tunnel.proofs.Standing.{each_there}

-- ---- numbers

fives_of : (is_sender is_trusted : Bool) (s : Said) → (if is_sender then lasts_by is_trusted s else 0) % ping_every ≡ 0
fives_of is_sender is_trusted s = grind arith

left_in_fives : (n passed : ℕ) → n % ping_every ≡ 0 → passed ≤ n → ((n - passed) % ping_every == 0) ≡ (passed % ping_every == 0)
left_in_fives n passed fives within = grind arith

-- ---- silence

kept : (lasts : ℕ) (X : Type 0) (new old : X) → lasts ≡ 0 → (if nat_lt 0 lasts then new else old) ≡ old
kept lasts X new old none = rw none refl

taken : (lasts : ℕ) (X : Type 0) (new old : X) → 0 < lasts → (if nat_lt 0 lasts then new else old) ≡ new
taken lasts X new old some = rw (lt-ltb 0 lasts some) refl

module _ (setting : Setting) (place : Node) (from : Sender) (bytes : List ℕ) (earlier : History) (counts : 0 < lasts setting place (Datagram from bytes)) where
  left_since : (later : History) → AllByRecursion (λ e. lasts setting place e ≡ 0) later
      → seconds_left setting place (later ++ Datagram from bytes ∷ earlier) ≡ lasts setting place (Datagram from bytes) - seconds later
  left_since [] silence = taken (lasts setting place (Datagram from bytes)) ℕ _ _ counts ∙ omega arith
  left_since (Datagram other said ∷ later) silence = kept (lasts setting place (Datagram other said)) ℕ _ _ silence.0 ∙ left_since later silence.1
  left_since (Second ∷ later) silence = omega (arith, left_since later silence.1)
  left_since (Send to sent ∷ later) silence = left_since later silence.1

  cookie_since : (later : History) → AllByRecursion (λ e. lasts setting place e ≡ 0) later
      → cookie setting place (later ++ Datagram from bytes ∷ earlier) ≡ from.cookies.current
  cookie_since [] silence = taken (lasts setting place (Datagram from bytes)) Node _ _ counts
  cookie_since (Datagram other said ∷ later) silence = kept (lasts setting place (Datagram other said)) Node _ _ silence.0 ∙ cookie_since later silence.1
  cookie_since (Second ∷ later) silence = cookie_since later silence.1
  cookie_since (Send to sent ∷ later) silence = cookie_since later silence.1

one_or_none : (ping : Node → Own) (place : Node) (due : Bool) → map ping (replicate (if due then 1 else 0) place) ≡ (if due then ping place ∷ [] else [])
one_or_none ping place due = grind arith

no_time : (lasts : ℕ) → nat_lt 0 lasts ≡ false → lasts ≡ 0
no_time lasts none = grind arith

module _ (setting : Setting) (place : Node) where
  -- one event more, which doesn't count
  more : (event : Event) (earlier : History) → lasts setting place event ≡ 0 → LastHeard setting place earlier → LastHeard setting place (event ∷ earlier)
  more event earlier none last = record {
    later = event ∷ last.later;
    from = last.from;
    bytes = last.bytes;
    earlier = last.earlier;
    event = ap (λ (h : History). event ∷ h) last.event;
    counts = last.counts;
    silence = (none, last.silence);
  }

  pub cookie_last : (history : History) (last : LastHeard setting place history) → cookie setting place history ≡ last.from.cookies.current
  cookie_last history last = grind (arith, cookie_since)

  -- a client is silent at a second just when that is a multiple of five seconds after it was heard
  silent_last : (history : History) (last : LastHeard setting place history) → is_there setting place history ≡ true
      → is_silent setting history place ≡ (seconds last.later % ping_every == 0)
  silent_last history last there = grind (arith, left_since, ltb-true, left_in_fives, fives_of)

  pub pinged : (history : History) (last : LastHeard setting place (Second ∷ history)) → is_client setting place (Second ∷ history) ≡ true
      → own_to place (own setting (Second ∷ history)) ≡ (if seconds last.later % ping_every == 0 then 1 else 0)
  pinged history last client =
      let now = Second ∷ history in
      let places = clients setting now in
      let ping = λ (p : Node). ping_to setting.network p (cookie setting p now) in
      let silent = filter (is_silent setting now) places in
      let there = each_among (λ p. is_there setting p now) place places (each_there setting now) client in
      ap length (filter-map (λ (o : Own). same_node o.place place) ping silent) ∙ length-map (filter (λ p. same_node p place) silent) ping
      ∙ copies_passed (is_silent setting now) place places (once setting now place)
      ∙ ap₂ (λ (a b : Bool). if a && b then 1 else 0) client (silent_last now last there)

  -- what it gets at a second is one ping or none
  pub pings_exact : (history : History) (last : LastHeard setting place (Second ∷ history)) → is_client setting place (Second ∷ history) ≡ true
      → filter (λ o. same_node o.place place) (own setting (Second ∷ history))
      ≡ (if seconds last.later % ping_every == 0 then ping_to setting.network place last.from.cookies.current ∷ [] else [])
  pings_exact history last client =
      let now = Second ∷ history in
      let places = clients setting now in
      let ping = λ (p : Node). ping_to setting.network p (cookie setting p now) in
      let silent = filter (is_silent setting now) places in
      let due = seconds last.later % ping_every == 0 in
      let there = each_among (λ p. is_there setting p now) place places (each_there setting now) client in
      let count : copies place silent ≡ (if due then 1 else 0) =
      copies_passed (is_silent setting now) place places (once setting now place)
      ∙ ap₂ (λ (a b : Bool). if a && b then 1 else 0) client (silent_last now last there) in
      filter-map (λ (o : Own). same_node o.place place) ping silent ∙ ap (map ping) (alone place silent)
      ∙ ap (λ (n : ℕ). map ping (replicate n place)) count ∙ one_or_none ping place due
      ∙ ap (λ (k : Node). if due then ping_to setting.network place k ∷ [] else []) (cookie_last now last)

  -- ---- each client was heard

  last_heard : (history : History) → 0 < seconds_left setting place history → LastHeard setting place history
  last_heard [] some = absurd (omega arith)
  last_heard (Datagram from bytes ∷ earlier) some =
      let l = lasts setting place (Datagram from bytes) in
      let after = λ (b : Bool). if b then l else seconds_left setting place earlier in
      elim (cases_Bool (nat_lt 0 l)) [
        | inl counts ↦ record { later = []; from = from; bytes = bytes; earlier = earlier; event = refl; counts = ltb-true 0 l counts; silence = tt }
        | inr none ↦
            let same : seconds_left setting place (Datagram from bytes ∷ earlier) ≡ seconds_left setting place earlier = ap after none in
            more (Datagram from bytes) earlier (no_time l none) (last_heard earlier (omega (arith, same, some)))
      ]
  last_heard (Second ∷ earlier) some = more Second earlier refl (last_heard earlier (omega (arith, some)))
  last_heard (Send to bytes ∷ earlier) some = more (Send to bytes) earlier refl (last_heard earlier some)

  -- a client has a second left at least
  pub client_left : (history : History) → is_client setting place history ≡ true → 1 ≤ seconds_left setting place history
  client_left history client =
      ltb-true 0 (seconds_left setting place history)
      (each_among (λ p. is_there setting p history) place (clients setting history) (each_there setting history) client)

  pub client_heard : (history : History) → is_client setting place history ≡ true → LastHeard setting place history
  client_heard history client = last_heard history (client_left history client)
