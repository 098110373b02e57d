-- What is read behind the fields of a block: its packet, what is left of it, and its length again.
use Rattle.std.proofs.Common.{◌≡◌, ◌≢◌, ℕ, ◌+◌, ◌-◌, ◌<◌, ◌≤◌, min, List, [], ◌∷◌, length, drop, refl, inl, inr, sym, ap, ◌∙◌, arith, Ok, Err, Some, append-nil, length-drop, drop-drop}
use Rattle.std.proofs.lemmas.Bool.{lt-ltb, le-ltb, ne_eqb, cases_lt}
use Rattle.ipx_wire.specs.Piece.{piece}
use Rattle.ipx_capture.specs.Order.{u32_in}
use Rattle.ipx_capture.specs.declared.order.Order.{Order}
use Rattle.ipx_recording.specs.Met.{met}
use Rattle.ipx_recording.specs.Recorded.{State, prepend, packets_from}
use Rattle.ipx_recording.specs.declared.due.Due.{Due}
use Rattle.ipx_recording.specs.declared.due.Due.TheVariants.{Block, Packet, Rest}
use Rattle.ipx_recording.specs.declared.interface.Interface.{Interface}
use Rattle.ipx_recording.specs.declared.met.Met.TheVariants.{Wants, Passed, Captured}
use Rattle.ipx_recording.specs.declared.recording_fault.RecordingFault.{RecordingFault}
use Rattle.ipx_recording.specs.declared.recording_fault.RecordingFault.TheVariants.{LengthAgain, CutBlock}
use Rattle.ipx_recording.proofs.Parts.{one_part, refused, ended, skip_some}

abbrev pub stands : Order → List Interface → Due → State
stands order interfaces due = record { order = order; interfaces = interfaces; due = due }

-- a fault at the front of the bytes
pub one_fault : (s : State) (n : ℕ) (b : List ℕ) (fault : RecordingFault) → met s.order s.interfaces s.due b ≡ Err fault
    → packets_from s n b ≡ record { records = []; fault = Some fault }
one_fault s n b fault told = ap (packets_from s n) (sym (append-nil b)) ∙ refused s n b [] fault told

module _ (order : Order) (interfaces : List Interface) where
  wants_rest : (left size : ℕ) (b : List ℕ) → length b ≡ 0 → 0 < left → met order interfaces (Rest left size) b ≡ Ok (Wants 1)
  unfolding met
  wants_rest left size b none some = grind (arith, ne_eqb)

  wants_again : (size : ℕ) (b : List ℕ) → length b < 4 → met order interfaces (Rest 0 size) b ≡ Ok (Wants 4)
  unfolding met
  wants_again size b few = rw (lt-ltb (length b) 4 few) refl

  again_wrong : (size : ℕ) (b : List ℕ) → 4 ≤ length b → u32_in order (piece b 0 4) ≢ size → met order interfaces (Rest 0 size) b ≡ Err LengthAgain
  unfolding met
  again_wrong size b enough another = rw (le-ltb (length b) 4 enough) (rw (ne_eqb (u32_in order (piece b 0 4)) size another) refl)

  again_right : (size : ℕ) (b : List ℕ) → 4 ≤ length b → u32_in order (piece b 0 4) ≡ size → met order interfaces (Rest 0 size) b ≡ Ok (Passed 4 Block)
  unfolding met
  again_right size b enough same = grind (arith, le-ltb)

  -- what is left is there
  left_there : (left size n : ℕ) (b : List ℕ) → left ≤ length b
      → packets_from (stands order interfaces (Rest left size)) n b ≡ packets_from (stands order interfaces (Rest 0 size)) n (drop left b)
  left_there left size n b enough =
      skip_some order interfaces left size n left b (let all : left ≡ min left (length b) = omega (arith, enough) in all)
      ∙ ap (λ j. packets_from (stands order interfaces (Rest j size)) n (drop left b)) (let none : left - left ≡ 0 = omega arith in none)

  -- the file ends before the end of the block
  pub rest_cut : (left size n : ℕ) (b : List ℕ) → length b < left + 4
      → packets_from (stands order interfaces (Rest left size)) n b ≡ record { records = []; fault = Some CutBlock }
  rest_cut left size n b few =
      elim (cases_lt (length b) left) [
        | inl less ↦
            skip_some order interfaces left size n (length b) b (let all : length b ≡ min left (length b) = omega (arith, less) in all)
            ∙ ended (stands order interfaces (Rest (left - length b) size)) n (drop (length b) b) 1
            (wants_rest (left - length b) size (drop (length b) b) (omega (arith, length-drop (length b) b)) (omega (arith, less)))
        | inr enough ↦
            left_there left size n b (omega (arith, enough))
            ∙ ended (stands order interfaces (Rest 0 size)) n (drop left b) 4 (wants_again size (drop left b) (omega (arith, length-drop left b, few)))
      ]

  -- the length at the end is another
  pub rest_wrong : (left size n : ℕ) (b : List ℕ) → left + 4 ≤ length b → u32_in order (piece b left 4) ≢ size
      → packets_from (stands order interfaces (Rest left size)) n b ≡ record { records = []; fault = Some LengthAgain }
  rest_wrong left size n b enough another =
      left_there left size n b (omega (arith, enough))
      ∙ one_fault (stands order interfaces (Rest 0 size)) n (drop left b) LengthAgain (again_wrong size (drop left b) (omega (arith, length-drop left b, enough)) another)

  -- the block ends well
  pub rest_right : (left size n : ℕ) (b : List ℕ) → left + 4 ≤ length b → u32_in order (piece b left 4) ≡ size
      → packets_from (stands order interfaces (Rest left size)) n b ≡ packets_from (stands order interfaces Block) n (drop (left + 4) b)
  rest_right left size n b enough same =
      left_there left size n b (omega (arith, enough))
      ∙ one_part (stands order interfaces (Rest 0 size)) n (drop left b) (Passed 4 Block) (again_right size (drop left b) (omega (arith, length-drop left b, enough)) same) refl
      ∙ ap (λ j. packets_from (stands order interfaces Block) j (drop 4 (drop left b))) (let no_more : n + 0 ≡ n = omega arith in no_more)
      ∙ ap (packets_from (stands order interfaces Block) n) (drop-drop 4 left b)

  packet_wants : (link kept left size : ℕ) (b : List ℕ) → length b < 4 + kept → met order interfaces (Packet link kept left size) b ≡ Ok (Wants (4 + kept))
  unfolding met
  packet_wants link kept left size b few = ap Ok (rw (lt-ltb (length b) (4 + kept) few) refl)

  packet_met : (link kept left size : ℕ) (b : List ℕ) → 4 + kept ≤ length b
      → met order interfaces (Packet link kept left size) b ≡ Ok (Captured link kept (u32_in order (piece b 0 4)) (Rest left size))
  unfolding met
  packet_met link kept left size b enough = ap Ok (rw (le-ltb (length b) (4 + kept) enough) refl)

  -- the file ends before the end of the packet
  pub packet_cut : (link kept left size n : ℕ) (b : List ℕ) → length b < 4 + kept
      → packets_from (stands order interfaces (Packet link kept left size)) n b ≡ record { records = []; fault = Some CutBlock }
  packet_cut link kept left size n b few = ended (stands order interfaces (Packet link kept left size)) n b (4 + kept) (packet_wants link kept left size b few)

  -- the packet is there
  pub packet_there : (link kept left size n : ℕ) (b : List ℕ) → 4 + kept ≤ length b
      → packets_from (stands order interfaces (Packet link kept left size)) n b
      ≡ prepend (record { number = n; link = link; wire = u32_in order (piece b 0 4); bytes = piece b 4 kept } ∷ [])
      (packets_from (stands order interfaces (Rest left size)) (n + 1) (drop (4 + kept) b))
  packet_there link kept left size n b enough =
      one_part (stands order interfaces (Packet link kept left size)) n b (Captured link kept (u32_in order (piece b 0 4)) (Rest left size))
      (packet_met link kept left size b enough) refl

-- the end of a block of so many bytes, behind its first ones
pub last_four : (f n : ℕ) (b : List ℕ) → f + 4 ≤ n → piece (drop f b) (n - (f + 4)) 4 ≡ piece b (n - 4) 4
last_four f n b long = ap (λ l. piece l 0 4) (drop-drop (n - (f + 4)) f b) ∙ ap (λ j. piece b j 4) (let place : f + (n - (f + 4)) ≡ n - 4 = omega (arith, long) in place)

module _ (order : Order) (interfaces : List Interface) (f n : ℕ) (k : ℕ) (b : List ℕ) where
  pub close_cut : f + 4 ≤ n → length b < n → packets_from (stands order interfaces (Rest (n - (f + 4)) n)) k (drop f b) ≡ record { records = []; fault = Some CutBlock }
  close_cut long few = rest_cut order interfaces (n - (f + 4)) n k (drop f b) (omega (arith, length-drop f b, long, few))

  pub close_wrong : f + 4 ≤ n → n ≤ length b → u32_in order (piece b (n - 4) 4) ≢ n
      → packets_from (stands order interfaces (Rest (n - (f + 4)) n)) k (drop f b) ≡ record { records = []; fault = Some LengthAgain }
  close_wrong long enough another =
      rest_wrong order interfaces (n - (f + 4)) n k (drop f b) (omega (arith, length-drop f b, long, enough)) (λ same. another (sym (ap (u32_in order) (last_four f n b long)) ∙ same))

  pub close_right : f + 4 ≤ n → n ≤ length b → u32_in order (piece b (n - 4) 4) ≡ n
      → packets_from (stands order interfaces (Rest (n - (f + 4)) n)) k (drop f b) ≡ packets_from (stands order interfaces Block) k (drop n b)
  close_right long enough same =
      rest_right order interfaces (n - (f + 4)) n k (drop f b) (omega (arith, length-drop f b, long, enough)) (ap (u32_in order) (last_four f n b long) ∙ same)
      ∙ ap (packets_from (stands order interfaces Block) k) (drop-drop (n - (f + 4) + 4) f b
      ∙ ap (λ j. drop j b) (let all : f + (n - (f + 4) + 4) ≡ n = omega (arith, long) in all))
