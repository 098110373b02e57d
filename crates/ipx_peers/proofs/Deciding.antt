-- What is decided in memory is the verdict.
use Rattle.std.proofs.Common.{◌≡◌, ◌∙◌, refl, sym, ap, arith, ℕ, zero, ◌+◌, ◌-◌, ◌<◌, ◌≤◌, true, false, cond, ◌&&◌, ◌||◌, ◌==◌, not, nat_lt, inl, inr, List, [], ◌∷◌, ◌++◌, length, map, set, get_or, replicate, Option, None, Some, length-set, length-append}
use Rattle.std.specs.List.{list_any, position}
use Rattle.std.proofs.lemmas.Bool.{cases_Bool, cases_lt, and_parts, both_ways, not-true, ltb-false}
use Rattle.std.proofs.lemmas.List.{length-map, length-replicate, append-nil, get_or-append_right, get_or-replicate}
use Rattle.std.proofs.lemmas.List.Quantifiers.{position-Some}
use Rattle.std.proofs.lemmas.Cmp.{nat_list_eq_equiv}
use Rattle.std.specs.Cmp.Lexicographic.{same_text}
use Rattle.ipx_peers.specs.declared.opened.Opened.{Opened}
use Rattle.ipx_peers.specs.declared.peer.Peer.{Peer}
use Rattle.ipx_peers.specs.declared.peers.Peers.{Peers}
use Rattle.ipx_peers.specs.declared.verdict.Verdict.{Verdict}
use Rattle.ipx_peers.specs.declared.verdict.Verdict.TheVariants.{Dropped, Greet, Repeated, Heard, New, Full, Again}
use Rattle.ipx_peers.specs.Places.{same, no_session, is_session, Place, nobody, is_of, is_away, first, heard, yielded}
use Rattle.ipx_peers.specs.States.{State, counts, place_at, verdict_of, verdict, places_after}
use Rattle.ipx_peers.specs.Memory.{peer_of, no_peer, peers_of, memory_of}
use Rattle.ipx_peers.specs.inside.Kept.{is_kept_of, has_room_for, heard_in, first_in, is_away_in, yielded_in, verdict_there, verdict_in, peers_after}
use Rattle.ipx_peers.proofs.Positions.{none_passes, position_is, no_position}
use Rattle.ipx_peers.proofs.Said.{Says, taken}
use Rattle.ipx_peers.proofs.Kept.{room_kept, heard_kept, first_kept, yielded_none, all_change, at_known, set_known, set_new}

-- ---- where a place lies

pub same_is : (a b : List ℕ) → same a b ≡ true → a ≡ b
same_is a b e = same_text a b (sym e)

pub same_itself : (a : List ℕ) → same a a ≡ true
same_itself a = nat_list_eq_equiv.refl a

-- zeros are nobody's session
no_peer_of : (session : List ℕ) → is_session session ≡ true → is_kept_of session no_peer ≡ false
no_peer_of session is = elim (cases_Bool (same no_session session)) [
  | inl e ↦
      let zeros : no_session ≡ session = same_is no_session session e in
      absurd (both_ways (same session no_session) (not-true (same session no_session) is) (ap (λ s. same s no_session) (sym zeros) ∙ same_itself no_session))
  | inr e ↦ e
]

pub long : (xs : List Place) → length xs ≤ 64 → length (peers_of xs) ≡ 64
long xs few =
    let first = length-map xs peer_of in
    let rest = length-replicate (64 - length xs) no_peer in
    omega (arith, few, first, rest, length-append (map peer_of xs) (replicate (64 - length xs) no_peer))

behind : (xs : List Place) (k : ℕ) → length xs ≤ k → k < 64 → get_or (peers_of xs) k no_peer ≡ no_peer
behind xs k past within =
    get_or-append_right (map peer_of xs) (replicate (64 - length xs) no_peer) (length xs) k no_peer (length-map xs peer_of) past
    ∙ get_or-replicate (64 - length xs) (k - length xs) no_peer no_peer (omega (arith, past, within))

of_known : (session : List ℕ) (xs : List Place) (k : ℕ) → k < length xs → is_kept_of session (get_or (peers_of xs) k no_peer) ≡ is_of session (get_or xs k nobody)
of_known session xs k within = ap (λ (p : Peer). is_kept_of session p) (at_known xs k within)

pub place_kept : (session : List ℕ) (xs : List Place) → is_session session ≡ true → length xs ≤ 64
    → position (is_kept_of session) (peers_of xs) ≡ position (is_of session) xs
place_kept session xs is few = by (position (is_of session) xs) refl
  where
    by : (o : Option ℕ) → position (is_of session) xs ≡ o → position (is_kept_of session) (peers_of xs) ≡ o
    by None none =
        no_position (is_kept_of session) (peers_of xs) no_peer (λ k within. elim (cases_lt k (length xs)) [
          | inl known ↦ of_known session xs k known ∙ none_passes (is_of session) xs none k nobody known
          | inr past ↦ ap (λ (p : Peer). is_kept_of session p) (behind xs k past (omega (arith, within, long xs few))) ∙ no_peer_of session is
        ])
    by (Some i) some =
        let (within, here, before) = position-Some (is_of session) xs i nobody some in
        position_is (is_kept_of session) (peers_of xs) i no_peer (omega (arith, within, few, long xs few))
        (λ k less. of_known session xs k (omega (arith, less, within)) ∙ before k less)
        (of_known session xs i within ∙ here)

-- ---- whether some place isn't present

any_away : (xs : List Place) → list_any is_away_in (map peer_of xs) ≡ list_any is_away xs
any_away [] = refl
any_away (x ∷ xs) = ap (λ b. is_away x || b) (any_away xs)

pub away_kept : (xs : List Place) → length xs ≡ 64 → list_any is_away_in (peers_of xs) ≡ list_any is_away xs
away_kept xs all =
    let none : 64 - length xs ≡ zero = omega (arith, all) in
    ap (λ n. list_any is_away_in (map peer_of xs ++ replicate n no_peer)) none
    ∙ ap (λ ys. list_any is_away_in ys) (append-nil (map peer_of xs))
    ∙ any_away xs

-- ---- the verdict

there_kept : (opened : Opened) (s : State) → 0 < opened.number → length s.places ≤ 64 → (o : Option ℕ) → position (is_of opened.session) s.places ≡ o
    → verdict_there opened (memory_of s) o ≡ verdict_of opened s.places o
there_kept opened s some few (Some i) is =
    let within = (position-Some (is_of opened.session) s.places i nobody is).0 in
    ap (λ b. cond b (Heard i) Repeated) (ap (λ (p : Peer). has_room_for opened p) (at_known s.places i within) ∙ room_kept opened (place_at i s.places) some)
there_kept opened s some few None is = elim (cases_Bool (nat_lt (length s.places) 64)) [
  | inl e ↦ rw e refl
  | inr e ↦
      let all : length s.places ≡ 64 = omega (arith, few, ltb-false (length s.places) 64 e) in
      rw e (ap (λ b. cond b Again Full) (away_kept s.places all))
]

of_session : (opened : Opened) (s : State) → counts s opened ≡ true → is_session opened.session ≡ true
of_session opened s counted =
    let begun = is_session s.session in
    let numbered = not (opened.number == 0) in
    let (three, other) = and_parts (begun && numbered && is_session opened.session) (not (same opened.session s.session)) counted in
    (and_parts (begun && numbered) (is_session opened.session) three).1

pub verdict_kept : (opened : Opened) (s : State) → length s.places ≤ 64 → verdict_in opened (memory_of s) ≡ verdict opened s
verdict_kept opened s few = elim (cases_Bool (counts s opened)) [
  | inl e ↦ rw e (elim (cases_Bool (same opened.echo s.session)) [
    | inl echoes ↦
        rw echoes
        (ap (λ o. verdict_there opened (memory_of s) o) (place_kept opened.session s.places (of_session opened s e) few)
        ∙ there_kept opened s (taken opened s e echoes).number few (position (is_of opened.session) s.places) refl)
    | inr other ↦ rw other refl
  ])
  | inr e ↦ rw e refl
]

-- ---- what becomes of the places

abbrev keeping : State → ℕ → List Peer → Peers
keeping s used places = record { session = s.session; sent = s.sent; used = used; places = places }

abbrev after_verdict : Opened → State → Verdict → State
after_verdict opened s v = record { session = s.session; sent = s.sent; places = places_after opened s.places v }

pub places_kept : (opened : Opened) (s : State) (v : Verdict) → Says opened s v → peers_after opened (memory_of s) v ≡ memory_of (after_verdict opened s v)
places_kept opened s Dropped said = refl
places_kept opened s Greet said = refl
places_kept opened s Repeated said = refl
places_kept opened s (Heard i) said =
    let (taken, is, fresh) = said in
    let within = (position-Some (is_of opened.session) s.places i nobody is).0 in
    let y = heard opened (place_at i s.places) in
    ap (λ (p : Peer). keeping s (length s.places) (set (peers_of s.places) i (heard_in opened p))) (at_known s.places i within)
    ∙ ap (λ (p : Peer). keeping s (length s.places) (set (peers_of s.places) i p)) (heard_kept opened (place_at i s.places) taken.number fresh)
    ∙ ap (λ ys. keeping s (length s.places) ys) (set_known s.places i y within)
    ∙ ap (λ n. keeping s n (peers_of (set s.places i y))) (sym (length-set s.places i y))
places_kept opened s (New i) said =
    let (taken, none, is, room) = said in
    let moved = map (yielded opened.address) s.places in
    let as_many = length-map s.places (yielded opened.address) in
    let more : length s.places + 1 ≡ length (moved ++ first opened ∷ []) = omega (arith, as_many, length-append moved (first opened ∷ [])) in
    ap (λ ys. keeping s (length s.places + 1) (set ys i (first_in opened))) (all_change (yielded_in opened.address) (yielded opened.address) (λ x. refl) (yielded_none opened.address) s.places)
    ∙ ap (λ (p : Peer). keeping s (length s.places + 1) (set (peers_of moved) i p)) (first_kept opened taken.number)
    ∙ ap (λ n. keeping s (length s.places + 1) (set (peers_of moved) n (peer_of (first opened)))) (is ∙ sym as_many)
    ∙ ap (λ ys. keeping s (length s.places + 1) ys) (set_new moved (first opened) (omega (arith, room, as_many)))
    ∙ ap (λ n. keeping s n (peers_of (moved ++ first opened ∷ []))) more
places_kept opened s Full said = refl
places_kept opened s Again said = refl
