-- What stands for a history stands for it with one event more.
use Rattle.std.proofs.Common.{◌≡◌, ◌∙◌, refl, sym, ap, arith, ℕ, zero, suc, List, [], ◌∷◌, map, length, replicate}
use Rattle.std.proofs.lemmas.List.{length-map}
use Rattle.ipx_peers.specs.declared.opened.Opened.{Opened}
use Rattle.ipx_peers.specs.declared.peer.Peer.{Peer}
use Rattle.ipx_peers.specs.declared.peers.Peers.{Peers}
use Rattle.ipx_peers.specs.declared.verdict.Verdict.{Verdict}
use Rattle.ipx_peers.specs.Events.{Begins, Hears, Second, History}
use Rattle.ipx_peers.specs.Places.{later}
use Rattle.ipx_peers.specs.States.{verdict, state}
use Rattle.ipx_peers.specs.Memory.{no_peer, peers_of, Stands}
use Rattle.ipx_peers.specs.inside.Kept.{later_in, verdict_in, peers_after}
use Rattle.ipx_peers.proofs.Said.{says, few_places}
use Rattle.ipx_peers.proofs.Kept.{all_change}
use Rattle.ipx_peers.proofs.Deciding.{verdict_kept, places_kept}

abbrev keeping : List ℕ → ℕ → ℕ → List Peer → Peers
keeping session sent used places = record { session = session; sent = sent; used = used; places = places }

-- ---- a datagram

pub decides : (opened : Opened) (peers : Peers) (h : History) → Stands peers h → verdict_in opened peers ≡ verdict opened (state h)
decides opened peers h stands =
    ap (λ (p : Peers). verdict_in opened p) stands.memory ∙ verdict_kept opened (state h) (few_places h)

pub after_hearing : (opened : Opened) (old new : Peers) (h : History) → Stands old h → new ≡ peers_after opened old (verdict_in opened old)
    → Stands new (Hears opened ∷ h)
after_hearing opened old new h stands is = record {
  memory =
      is
      ∙ ap (λ (v : Verdict). peers_after opened old v) (decides opened old h stands)
      ∙ ap (λ (p : Peers). peers_after opened p (verdict opened (state h))) stands.memory
      ∙ places_kept opened (state h) (verdict opened (state h)) (says opened (state h));
}

-- ---- a second

pub after_second : (old : Peers) (places : List Peer) (h : History) → Stands old h → places ≡ map later_in old.places
    → Stands (record { session = old.session; sent = old.sent; used = old.used; places = places }) (Second ∷ h)
after_second old places h stands is =
    let s = state h in
    let memory = stands.memory in
    let all : places ≡ peers_of (map later s.places) =
    is ∙ ap (λ (p : Peers). map later_in p.places) memory ∙ all_change later_in later (λ x. refl) refl s.places in
    record {
      memory =
          ap (λ (p : Peers). keeping p.session p.sent p.used places) memory
          ∙ ap (λ ys. keeping s.session s.sent (length s.places) ys) all
          ∙ ap (λ n. keeping s.session s.sent n (peers_of (map later s.places))) (sym (length-map s.places later));
    }

-- ---- a beginning

nothing_left : (n : ℕ) (xs : List Peer) → length xs ≡ n → map (λ (x : Peer). no_peer) xs ≡ replicate n no_peer
nothing_left zero [] is = refl
nothing_left (suc n) [] is = absurd (omega (arith, is))
nothing_left zero (x ∷ xs) is = absurd (omega (arith, is))
nothing_left (suc n) (x ∷ xs) is = ap (λ ys. no_peer ∷ ys) (nothing_left n xs (omega (arith, is)))

pub after_beginning : (session : List ℕ) (old places : List Peer) (h : History) → length old ≡ 64 → places ≡ map (λ (x : Peer). no_peer) old
    → Stands (record { session = session; sent = 0; used = 0; places = places }) (Begins session ∷ h)
after_beginning session old places h all is = record {
  memory = ap (λ (ys : List Peer). keeping session 0 0 ys) (is ∙ nothing_left 64 old all);
}
