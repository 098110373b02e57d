-- The record at the front of bytes, by how many of them there are.
use Rattle.std.proofs.lemmas.Grind.{common_steps}
use Rattle.std.proofs.Common.{◌≡◌, ◌==◌, true, false, ℕ, ◌+◌, ◌<◌, ◌≤◌, List, [], ◌++◌, length, refl, inl, inr, sym, ap, ◌∙◌, arith, Ok, Err, Some, None, length-drop, length-append, rules}
use Rattle.std.proofs.lemmas.List.{take-append-le, drop-append-le}
use Rattle.std.proofs.lemmas.Bool.{lt-ltb, le-ltb, ne_eqb, cases_lt, cases_eq, eqb-true}
use Rattle.ipx_wire.specs.Piece.{piece}
use Rattle.ipx_capture.specs.Records.{Record, first_record, kept_count, wire_count, behind}
use Rattle.ipx_capture.specs.Order.{u32_in}
use Rattle.ipx_capture.specs.declared.capture_fault.CaptureFault.TheVariants.{CutRecord, RecordLong}
use Rattle.ipx_capture.specs.declared.order.Order.{Order}
use Rattle.ipx_capture.proofs.Pieces.{length_piece}

-- the bytes end inside the header of a record
pub first_cut_header : (order : Order) (n : ℕ) (b : List ℕ) → 0 < length b → length b < 16 → first_record order n b ≡ Err CutRecord
unfolding first_record
first_cut_header order n b some few = grind (arith, ne_eqb, lt-ltb)

-- the header of a record says that it is too long
pub first_long : (order : Order) (n : ℕ) (b : List ℕ) → 16 ≤ length b → 262144 < kept_count order b → first_record order n b ≡ Err RecordLong
unfolding first_record
first_long order n b enough long = grind arith

-- the bytes end inside what a record keeps
pub first_cut : (order : Order) (n : ℕ) (b : List ℕ) → 16 ≤ length b → kept_count order b ≤ 262144 → length b < 16 + kept_count order b
    → first_record order n b ≡ Err CutRecord
unfolding first_record
first_cut order n b enough short cut = grind arith

-- the record is there whole
pub first_whole : (order : Order) (n : ℕ) (b : List ℕ) → 16 ≤ length b → kept_count order b ≤ 262144 → 16 + kept_count order b ≤ length b
    → first_record order n b ≡ Ok (Some (record { number = n; wire = wire_count order b; bytes = piece b 16 (kept_count order b) }))
unfolding first_record
first_whole order n b enough short whole = grind (arith, ne_eqb, le-ltb)

-- nothing stands at the front of no bytes
pub first_none : (order : Order) (n : ℕ) (b : List ℕ) → length b ≡ 0 → first_record order n b ≡ Ok None
unfolding first_record
first_none order n b none = rw none refl

-- bytes that aren't none
pub some_bytes : (l m : List ℕ) → l ≡ m → false ≡ (length l == 0) → 0 < length m
some_bytes l m same h = grind arith

pub no_bytes : (l : List ℕ) → length l ≡ 0 → l ≡ []
no_bytes l e = grind (arith, common_steps)

-- bytes that are none
pub none_ahead : (l m : List ℕ) → l ≡ m → true ≡ (length l == 0) → m ≡ []
none_ahead l m same h = no_bytes m (omega (arith, ap length same, eqb-true (length l) 0 (sym h)))

-- how the bytes at the front are, by what is told of them
pub record IsWhole (order : Order) (n : ℕ) (b : List ℕ) (r : Record) : Type 0 where
  pub enough : 16 ≤ length b
  pub short : kept_count order b ≤ 262144
  pub whole : 16 + kept_count order b ≤ length b
  pub is : r ≡ record { number = n; wire = wire_count order b; bytes = piece b 16 (kept_count order b) }

pub whole_first : (order : Order) (n : ℕ) (b : List ℕ) (r : Record) → first_record order n b ≡ Ok (Some r) → IsWhole order n b r
whole_first order n b r told =
    elim (cases_eq (length b) 0) [
      | inl none ↦ let e = first_none order n b none in cc
      | inr some ↦ elim (cases_lt (length b) 16) [
        | inl few ↦ let e = first_cut_header order n b (omega arith) few in cc
        | inr enough ↦ elim (cases_lt 262144 (kept_count order b)) [
          | inl long ↦ let e = first_long order n b enough long in cc
          | inr short ↦ elim (cases_lt (length b) (16 + kept_count order b)) [
            | inl cut ↦ let e = first_cut order n b enough short cut in cc
            | inr whole ↦
                let e = first_whole order n b enough short whole in
                record { enough = enough; short = short; whole = whole; is = cc }
          ]
        ]
      ]
    ]

pub long_first : (order : Order) (n : ℕ) (b : List ℕ) → first_record order n b ≡ Err RecordLong → (16 ≤ length b) × (262144 < kept_count order b)
long_first order n b told =
    elim (cases_eq (length b) 0) [
      | inl none ↦ let e = first_none order n b none in cc
      | inr some ↦ elim (cases_lt (length b) 16) [
        | inl few ↦ let e = first_cut_header order n b (omega arith) few in cc
        | inr enough ↦ elim (cases_lt 262144 (kept_count order b)) [
          | inl long ↦ (enough, long)
          | inr short ↦ elim (cases_lt (length b) (16 + kept_count order b)) [
            | inl cut ↦ let e = first_cut order n b enough short cut in cc
            | inr whole ↦ let e = first_whole order n b enough short whole in cc
          ]
        ]
      ]
    ]

-- further bytes change no piece that is there
pub piece_append : (a b : List ℕ) (at n : ℕ) → at + n ≤ length a → piece (a ++ b) at n ≡ piece a at n
piece_append a b given n h = grind (arith, drop-append-le, take-append-le, length-drop)

-- nor what the header of a record says
pub kept_count-append : (order : Order) (a b : List ℕ) → 16 ≤ length a → kept_count order (a ++ b) ≡ kept_count order a
kept_count-append order a b h = ap (u32_in order) (piece_append a b 8 4 (omega arith))

pub wire_count-append : (order : Order) (a b : List ℕ) → 16 ≤ length a → wire_count order (a ++ b) ≡ wire_count order a
wire_count-append order a b h = ap (u32_in order) (piece_append a b 12 4 (omega arith))

-- a record is there with its header
pub first_size : (order : Order) (n : ℕ) (b : List ℕ) (r : Record) → first_record order n b ≡ Ok (Some r) → 16 + length r.bytes ≤ length b
first_size order n b r told = search (rules, whole_first, length_piece)

-- further bytes change no record that is there
pub first_append : (order : Order) (n : ℕ) (a b : List ℕ) (r : Record) → first_record order n a ≡ Ok (Some r) → first_record order n (a ++ b) ≡ Ok (Some r)
first_append order n a b r told =
    let w = whole_first order n a r told in
    let more : length (a ++ b) ≡ length a + length b = length-append a b in
    let kept = kept_count-append order a b w.enough in
    let wired = wire_count-append order a b w.enough in
    first_whole order n (a ++ b) (omega (arith, more, w.enough)) (omega (arith, kept, w.short)) (omega (arith, kept, more, w.whole))
    ∙ ap (λ (x : ℕ). Ok (Some (record { number = n; wire = x; bytes = piece (a ++ b) 16 (kept_count order (a ++ b)) }))) wired
    ∙ ap (λ (k : ℕ). Ok (Some (record { number = n; wire = wire_count order a; bytes = piece (a ++ b) 16 k }))) kept
    ∙ ap (λ (l : List ℕ). Ok (Some (record { number = n; wire = wire_count order a; bytes = l }))) (piece_append a b 16 (kept_count order a) w.whole)
    ∙ ap (λ (s : Record). Ok (Some s)) (sym w.is)

pub behind_append : (order : Order) (n : ℕ) (a b : List ℕ) (r : Record) → first_record order n a ≡ Ok (Some r) → behind r (a ++ b) ≡ behind r a ++ b
behind_append order n a b r told = drop-append-le (16 + length r.bytes) a b (first_size order n a r told)

-- nor a record that is too long
pub long_append : (order : Order) (n : ℕ) (a b : List ℕ) → first_record order n a ≡ Err RecordLong → first_record order n (a ++ b) ≡ Err RecordLong
long_append order n a b told = grind (arith, long_first, first_long, length-append, kept_count-append)
