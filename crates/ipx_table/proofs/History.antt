-- What the definitions of alive and marked offers say of one fact more.
use Rattle.std.proofs.Common.{◌≡◌, refl, ap, ◌∙◌, ℕ, ◌+◌, Bool, true, false, not, ◌&&◌, cond, if◌then◌else◌, nat_lt, List, [], ◌∷◌, ◌++◌, filter, arith}
use Rattle.ipx_table.specs.Reading.{Rules}
use Rattle.ipx_table.specs.Facts.{Fact, Offered, Second, PortEnd, End, Marked, seconds}
use Rattle.ipx_table.specs.Alive.{cuts, lasts, alive, lifetime}
use Rattle.ipx_table.specs.Accepted.{is_accepted, marked_after, marked}
use Rattle.ipx_table.specs.inside.AfterOffer.{fresh, uncut, after_offer}
use Rattle.ipx_table.specs.Stands.{second_later, without_port}
use Rattle.ipx_table.specs.declared.held.Held.{Held}

module _ {O : Type 0} (rules : Rules O) where
  pub lasts-more : (offer : O) (ms : List (Marked O)) (m : Marked O) → lasts rules offer (ms ++ m ∷ []) ≡ (lasts rules offer ms && lasts rules offer (m ∷ []))
  lasts-more offer [] m = refl
  lasts-more offer ((Offered later, a) ∷ rest) m = grind (arith, lasts-more offer rest m)
  lasts-more offer ((Second, a) ∷ rest) m = lasts-more offer rest m
  lasts-more offer ((PortEnd port, a) ∷ rest) m = grind (arith, lasts-more offer rest m)
  lasts-more offer ((End, a) ∷ rest) m = refl

  seconds-offered : (ms : List (Marked O)) (offer : O) (a : Bool) → seconds (ms ++ (Offered offer, a) ∷ []) ≡ seconds ms
  seconds-offered [] offer a = refl
  seconds-offered ((Offered later, m) ∷ rest) offer a = seconds-offered rest offer a
  seconds-offered ((Second, m) ∷ rest) offer a = ap (λ n. n + 1) (seconds-offered rest offer a)
  seconds-offered ((PortEnd port, m) ∷ rest) offer a = seconds-offered rest offer a
  seconds-offered ((End, m) ∷ rest) offer a = seconds-offered rest offer a

  seconds-second : (ms : List (Marked O)) (m : Bool) → seconds (ms ++ (Second, m) ∷ []) ≡ seconds ms + 1
  seconds-second [] m = refl
  seconds-second ((Offered later, a) ∷ rest) m = seconds-second rest m
  seconds-second ((Second, a) ∷ rest) m = ap (λ n. n + 1) (seconds-second rest m)
  seconds-second ((PortEnd port, a) ∷ rest) m = seconds-second rest m
  seconds-second ((End, a) ∷ rest) m = seconds-second rest m

  seconds-port : (ms : List (Marked O)) (port : ℕ) (m : Bool) → seconds (ms ++ (PortEnd port, m) ∷ []) ≡ seconds ms
  seconds-port [] port m = refl
  seconds-port ((Offered later, a) ∷ rest) port m = seconds-port rest port m
  seconds-port ((Second, a) ∷ rest) port m = ap (λ n. n + 1) (seconds-port rest port m)
  seconds-port ((PortEnd other, a) ∷ rest) port m = seconds-port rest port m
  seconds-port ((End, a) ∷ rest) port m = seconds-port rest port m

  -- one alive place, with or without a cut behind it
  kept_or_cut : (p : Held O → Bool) (l y c : Bool) (h : Held O) (rest tail : List (Held O)) → p h ≡ not c
      → cond ((l && (not c && true)) && y) (h ∷ (filter p rest ++ tail)) (filter p rest ++ tail) ≡ filter p (cond (l && y) (h ∷ rest) rest) ++ tail
  kept_or_cut p l y c h rest tail e = grind arith

  pub alive-offered : (ms : List (Marked O)) (offer : O) (a : Bool)
      → alive rules (ms ++ (Offered offer, a) ∷ []) ≡ uncut rules offer a (alive rules ms) ++ (if a then fresh offer ∷ [] else [])
  alive-offered [] offer true = refl
  alive-offered [] offer false = refl
  alive-offered ((Offered first, true) ∷ later) offer a =
      let known = alive-offered later offer a in
      let lasting = lasts-more first later (Offered offer, a) in
      let aged = seconds-offered later offer a in
      rw (lasting, aged, known)
      (kept_or_cut (λ h. not (cuts rules offer a h.offer)) (lasts rules first later) (nat_lt (seconds later) lifetime) (cuts rules offer a first)
      (record { offer = first; age = seconds later }) (alive rules later) (if a then fresh offer ∷ [] else []) refl)
  alive-offered ((Offered first, false) ∷ later) offer a = alive-offered later offer a
  alive-offered ((Second, m) ∷ later) offer a = alive-offered later offer a
  alive-offered ((PortEnd port, m) ∷ later) offer a = alive-offered later offer a
  alive-offered ((End, m) ∷ later) offer a = alive-offered later offer a

  -- one alive place, in its last second or before it
  older_or_ended : (l : Bool) (n : ℕ) (offer : O) (rest : List (Held O))
      → cond (l && nat_lt (n + 1) lifetime) (record { offer = offer; age = n + 1 } ∷ second_later rest) (second_later rest)
      ≡ second_later (cond (l && nat_lt n lifetime) (record { offer = offer; age = n } ∷ rest) rest)
  older_or_ended l n offer rest = grind arith

  pub alive-second : (ms : List (Marked O)) (m : Bool) → alive rules (ms ++ (Second, m) ∷ []) ≡ second_later (alive rules ms)
  alive-second [] m = refl
  alive-second ((Offered first, true) ∷ later) m =
      let known = alive-second later m in
      let lasting : lasts rules first (later ++ (Second, m) ∷ []) ≡ lasts rules first later = lasts-more first later (Second, m) ∙ and_true (lasts rules first later) in
      let aged = seconds-second later m in
      rw (lasting, aged, known) (older_or_ended (lasts rules first later) (seconds later) first (alive rules later))
    where
      and_true : (b : Bool) → (b && true) ≡ b
      and_true true = refl
      and_true false = refl
  alive-second ((Offered first, false) ∷ later) m = alive-second later m
  alive-second ((Second, a) ∷ later) m = alive-second later m
  alive-second ((PortEnd port, a) ∷ later) m = alive-second later m
  alive-second ((End, a) ∷ later) m = alive-second later m

  -- one alive place, that ends with its port or stays
  stays_or_ends : (p : Held O → Bool) (l y c : Bool) (h : Held O) (rest : List (Held O)) → p h ≡ not c
      → cond ((l && (not c && true)) && y) (h ∷ filter p rest) (filter p rest) ≡ filter p (cond (l && y) (h ∷ rest) rest)
  stays_or_ends p l y c h rest e = grind arith

  pub alive-port : (ms : List (Marked O)) (port : ℕ) (m : Bool) → alive rules (ms ++ (PortEnd port, m) ∷ []) ≡ without_port rules.port port (alive rules ms)
  alive-port [] port m = refl
  alive-port ((Offered first, true) ∷ later) port m = grind (arith, alive-port later port m, lasts-more, seconds-port, stays_or_ends)
  alive-port ((Offered first, false) ∷ later) port m = alive-port later port m
  alive-port ((Second, a) ∷ later) port m = alive-port later port m
  alive-port ((PortEnd other, a) ∷ later) port m = alive-port later port m
  alive-port ((End, a) ∷ later) port m = alive-port later port m

  pub alive-end : (ms : List (Marked O)) (m : Bool) → alive rules (ms ++ (End, m) ∷ []) ≡ []
  alive-end [] m = refl
  alive-end ((Offered first, true) ∷ later) m =
      let known = alive-end later m in
      let lasting : lasts rules first (later ++ (End, m) ∷ []) ≡ false = lasts-more first later (End, m) ∙ and_false (lasts rules first later) in
      rw (lasting, known) refl
    where
      and_false : (b : Bool) → (b && false) ≡ false
      and_false true = refl
      and_false false = refl
  alive-end ((Offered first, false) ∷ later) m = alive-end later m
  alive-end ((Second, a) ∷ later) m = alive-end later m
  alive-end ((PortEnd port, a) ∷ later) m = alive-end later m
  alive-end ((End, a) ∷ later) m = alive-end later m

  marked_after-more : (before : List (Marked O)) (facts : List (Fact O)) (fact : Fact O)
      → marked_after rules before (facts ++ fact ∷ []) ≡ marked_after rules before facts ++ (fact, is_accepted rules (alive rules (marked_after rules before facts)) fact) ∷ []
  marked_after-more before [] fact = refl
  marked_after-more before (first ∷ facts) fact = marked_after-more (before ++ (first, is_accepted rules (alive rules before) first) ∷ []) facts fact

  -- the alive offers after one fact more
  pub alive_after-offered : (facts : List (Fact O)) (offer : O)
      → alive rules (marked rules (facts ++ Offered offer ∷ [])) ≡ after_offer rules (alive rules (marked rules facts)) offer
  alive_after-offered facts offer = grind (arith, marked_after-more, alive-offered)

  pub alive_after-second : (facts : List (Fact O)) → alive rules (marked rules (facts ++ Second ∷ [])) ≡ second_later (alive rules (marked rules facts))
  alive_after-second facts = ap (alive rules) (marked_after-more [] facts Second) ∙ alive-second (marked rules facts) false

  pub alive_after-port : (facts : List (Fact O)) (port : ℕ)
      → alive rules (marked rules (facts ++ PortEnd port ∷ [])) ≡ without_port rules.port port (alive rules (marked rules facts))
  alive_after-port facts port = ap (alive rules) (marked_after-more [] facts (PortEnd port)) ∙ alive-port (marked rules facts) port false

  pub alive_after-end : (facts : List (Fact O)) → alive rules (marked rules (facts ++ End ∷ [])) ≡ []
  alive_after-end facts = ap (alive rules) (marked_after-more [] facts End) ∙ alive-end (marked rules facts) false
