-- A listing that grows up to a limit, piece by piece.
use Rattle.std.proofs.lemmas.Grind.{common_steps}
use Rattle.std.proofs.Common.{◌≡◌, refl, sym, ap, ◌∙◌, subst, ℕ, suc, ◌+◌, ◌<◌, ◌≤◌, Bool, true, false, List, [], ◌∷◌, ◌++◌, length, map, filter, drop, get_or, Some, slice_get, arith, length-append}
use Rattle.std.proofs.Math.Seq.{drop-cons}
use Rattle.std.proofs.lemmas.List.{append_assoc, append-nil}
use Rattle.std.proofs.lemmas.Option.{get_or_from_slice_get, slice_get_within}
use Rattle.ipx_wire.specs.declared.network.Network.{Network}
use Rattle.ipx_router.specs.Port.{Port, port_at}
use Rattle.ipx_router.specs.Relays.{Sent}
use Rattle.ipx_internet.specs.Listed.{sent_bytes, child, listed_from, IsCut, Fills}
use Rattle.ipx_internet.specs.inside.Stations.{stations_on, hears}
use Rattle.ipx_internet.specs.declared.fault.TraceFault.{TraceFault}
use Rattle.ipx_internet.specs.declared.fault.TraceFault.TheVariants.{Memory}
use Rattle.ipx_internet.specs.declared.listing.Listed.{Listed}
use Rattle.ipx_internet.specs.declared.listing.Parent.{Parent}
use Rattle.ipx_internet.specs.declared.stations.Station.{Station}

-- what cuts so many short cuts more short too
pub cut_more : (limit a b : ℕ) (fault : TraceFault) → a ≤ b → IsCut limit a fault → IsCut limit b fault
cut_more limit a b fault more cut = grind arith

-- no memory is a reason for any number, where one is allowed
pub no_memory : (limit count : ℕ) (fault : TraceFault) → 0 < limit → fault ≡ Memory → IsCut limit count fault
no_memory limit count fault some is = subst (λ (f : TraceFault). IsCut limit count f) (sym is) some

module _ (limit : ℕ) (first now all : List Listed) where
  pub begins : Fills limit first first all all
  begins = record { whole = refl; few = λ h. h }

  pub goes_on : (piece rest next : List Listed) → Fills limit first now all (piece ++ rest) → next ≡ now ++ piece
      → (length now ≤ limit → length next ≤ limit) → Fills limit first next all rest
  goes_on piece rest next fills is few = grind (arith, append_assoc)

  pub ends : Fills limit first now all [] → now ≡ first ++ all
  ends fills = sym (append-nil now) ∙ fills.whole

  -- a piece that is cut short cuts the whole short
  pub cut_short : (piece rest : List Listed) (fault : TraceFault) → Fills limit first now all (piece ++ rest)
      → IsCut limit (length now + length piece) fault → IsCut limit (length first + length all) fault
  cut_short piece rest fault fills cut =
      let a : length (now ++ (piece ++ rest)) ≡ length (first ++ all) = ap (λ (xs : List Listed). length xs) fills.whole in
      let b = length-append now (piece ++ rest) in
      let d = length-append piece rest in
      let e = length-append first all in
      cut_more limit (length now + length piece) (length first + length all) fault (omega (arith, a, b, d, e)) cut

-- ---- what is left of some stations

module _ {X Y : Type 0} (f : X → Y) (hears : X → Bool) (xs : List X) (k : ℕ) (d : X) (within : k < length xs) where
  abbrev left : ℕ → List Y
  left n = map f (filter hears (drop n xs))

  pub one_hears : hears (get_or xs k d) ≡ true → left k ≡ f (get_or xs k d) ∷ left (suc k)
  one_hears on = rw (drop-cons xs k d within) (rw on refl)

  pub none_hears : hears (get_or xs k d) ≡ false → left k ≡ left (suc k)
  none_hears off = rw (drop-cons xs k d within) (rw off refl)

-- behind the last there is nothing
pub drop_all : {X : Type 0} (xs : List X) (k : ℕ) → length xs ≤ k → drop k xs ≡ []
drop_all xs k past = grind (arith, common_steps)

-- ---- what is left of some packets

-- from one packet on
pub from_one : (sents : List Sent) (k : ℕ) (s : Sent) → slice_get sents k ≡ Some s → drop k sents ≡ s ∷ drop (k + 1) sents
from_one sents k s there =
    let within : k < length sents = slice_get_within sents k s there in
    let n : suc k ≡ k + 1 = omega arith in
    drop-cons sents k s within ∙ ap (λ (x : Sent). x ∷ drop (suc k) sents) (get_or_from_slice_get sents k s s there)
    ∙ ap (λ (m : ℕ). s ∷ drop m sents) n

-- a station, where none is asked for
abbrev pub some_station : Station
some_station = record { network = record { 0 = 0 }; node = record { 0 = [] }; router = 0; port = 0 }

-- what is left before a packet is asked, over the stations that are on its network
pub packet_fills : (limit : ℕ) (first now all : List Listed) (stations : List Station) (ports : List Port) (parent : Parent) (sents : List Sent) (k start : ℕ) (s : Sent)
    (network : Network) (near : List Station) → near ≡ stations_on stations network → network ≡ (port_at ports s.port).network → slice_get sents k ≡ Some s
    → Fills limit first now all (listed_from stations ports parent start (drop k sents))
    → Fills limit first now all (map (child parent start (length s.bytes)) (filter (hears parent.router s.link) near)
    ++ listed_from stations ports parent (start + length s.bytes) (drop (k + 1) sents))
packet_fills limit first now all stations ports parent sents k start s network near on of there fills = grind (arith, from_one)

-- its bytes are appended, and those of the others are left
pub packet_joins : (first now next : List ℕ) (sents : List Sent) (k : ℕ) (s : Sent) → slice_get sents k ≡ Some s → next ≡ now ++ s.bytes
    → now ++ sent_bytes (drop k sents) ≡ first → next ++ sent_bytes (drop (k + 1) sents) ≡ first
packet_joins first now next sents k s there is joins = grind (arith, append_assoc, from_one)
