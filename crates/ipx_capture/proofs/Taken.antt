-- What taking a record comes to, at each of its ends.
use Rattle.std.proofs.lemmas.Grind.{common_steps}
use Rattle.std.proofs.Common.{◌≡◌, Bool, ℕ, ◌+◌, ◌<◌, ◌≤◌, true, false, List, [], ◌++◌, length, drop, refl, sym, ap, ◌∙◌, arith, subst, append_assoc, length-append, length-drop, ◌*◌, Option, Some, None, Result, Ok, Err, OnOk}
use Rattle.std.proofs.KnownBytes.{Consumes-trans}
use Rattle.ipx_wire.specs.Ends.{Input}
use Rattle.ipx_wire.specs.declared.failed.Failed.{Failed}
use Rattle.ipx_capture.specs.Asks.{Lacks, TellsNothing}
use Rattle.ipx_capture.specs.Given.{TakesBy}
use Rattle.ipx_wire.specs.Piece.{piece}
use Rattle.ipx_capture.specs.inside.Numbered.{numbered}
use Rattle.ipx_capture.specs.Place.{Place, Gives, Takes, Continues, Nexts, taken_after, standing_after}
use Rattle.ipx_capture.specs.Reads.{Gained, Gathered, Lost, GaveUp}
use Rattle.ipx_capture.specs.Records.{Record, first_record, kept_count, wire_count, is_ready, size_of_first}
use Rattle.ipx_capture.specs.inside.Taking.{Took}
use Rattle.ipx_capture.specs.Window.{Held, Grows}
use Rattle.ipx_capture.specs.declared.capture_fault.CaptureFault.{CaptureFault}
use Rattle.ipx_capture.specs.declared.capture_fault.CaptureFault.TheVariants.{RecordLong, CutRecord, Memory}
use Rattle.ipx_capture.specs.declared.order.Order.{Order}
use Rattle.ipx_capture.specs.declared.standing.Standing.{Standing}
use Rattle.ipx_capture.specs.declared.standing.Standing.TheVariants.{Open}
use Rattle.ipx_capture.proofs.Fetching.{fetched_from, header_fetched, record_fetched, meets_later}
use Rattle.ipx_capture.proofs.First.{first_size, first_cut_header, first_long, first_cut, first_whole, kept_count-append, wire_count-append}
use Rattle.ipx_capture.proofs.Growing.{size_most, size_whole, grows_header, grows_record}
use Rattle.ipx_capture.proofs.Pieces.{length_piece}
use Rattle.ipx_capture.proofs.Reading.{gained_both}

gives_lost : (order : Order) (n : ℕ) (bytes rest : List ℕ) (after : Input) (fault : CaptureFault) → GaveUp after.failed fault → Gives order n bytes rest after (Err fault)
gives_lost order n bytes rest after fault h = grind arith

-- nothing that was given up is told as a fault of the file
lost_cut : (failed : Bool) (fault : CaptureFault) → GaveUp failed fault → fault ≡ CutRecord → ⊥
lost_cut failed fault h e = subst (GaveUp failed) e h

-- what the header of a record says, once it is there
kept_stays : (order : Order) (old one more : List ℕ) (g : List ℕ) → one ≡ old ++ g → 16 ≤ length one → kept_count order (old ++ (g ++ more)) ≡ kept_count order one
kept_stays order old one more g grown enough =
    ap (kept_count order) (sym (append_assoc old g more) ∙ ap (λ l. l ++ more) (sym grown)) ∙ kept_count-append order one more enough

-- how much the record takes then
size_stays : (order : Order) (old one more : List ℕ) (g : List ℕ) (kept : ℕ) → one ≡ old ++ g → 16 ≤ length one → kept ≡ kept_count order one → kept ≤ 262144
    → size_of_first order (old ++ (g ++ more)) ≡ 16 + kept
size_stays order old one more g kept grown enough is short = grind (arith, common_steps, kept_stays, size_whole, length-append)

module _ (asked : ℕ → List ℕ → Result ℕ Failed → ℕ → Type 0) (order : Order) where
  -- reading was given up before a header was there
  pub took_lost_header : (old new : Held) (before after : Input) (fault : CaptureFault) → Lost asked old.ahead before after 16 fault → Grows 16 old.memory new.memory
      → 8192 ≤ old.memory → (fault ≡ Memory → old.memory < 16) → Took asked order old new before after (Err fault)
  took_lost_header old new before after fault l grows least refused = grind (arith, gives_lost, header_fetched, lost_cut, grows_header)

  -- nothing is left
  pub took_end : (old new : Held) (before after : Input) → Gathered asked old.ahead new.ahead before after 16 false → before.failed ≡ false
      → Grows 16 old.memory new.memory → new.ahead ≡ [] → Took asked order old new before after (Ok None)
  took_end old new before after g fine grows none = record {
    more = g.more;
    read = g.gained.read;
    gives = λ n. (sym g.grown ∙ none, none, (g.ended refl).1, g.fine ∙ fine);
    gained = g.gained;
    fetched = header_fetched asked order old.ahead g.more before.state after.state g.fetched;
    ended = λ e. (g.ended refl).2;
    cut = λ e. absurd cc;
    room = grows_header order (old.ahead ++ g.more) old.memory new.memory grows;
    refused = λ e. absurd cc;
  }

  -- the bytes end inside the header of a record
  pub took_cut_header : (old new : Held) (before after : Input) → Gathered asked old.ahead new.ahead before after 16 false → before.failed ≡ false
      → Grows 16 old.memory new.memory → 0 < length new.ahead → Took asked order old new before after (Err CutRecord)
  took_cut_header old new before after g fine grows some = record {
    more = g.more;
    read = g.gained.read;
    gives = λ n. (ap (first_record order n) (sym g.grown) ∙ first_cut_header order n new.ahead some (g.ended refl).0, (g.ended refl).1, g.fine ∙ fine);
    gained = tt;
    fetched = header_fetched asked order old.ahead g.more before.state after.state g.fetched;
    ended = λ e. absurd cc;
    cut = λ e. (g.ended refl).2;
    room = grows_header order (old.ahead ++ g.more) old.memory new.memory grows;
    refused = λ e. absurd cc;
  }

  -- the header of a record says that it is too long
  pub took_long : (old new : Held) (before after : Input) → Gathered asked old.ahead new.ahead before after 16 true → before.failed ≡ false
      → Grows 16 old.memory new.memory → 262144 < kept_count order new.ahead → Took asked order old new before after (Err RecordLong)
  took_long old new before after g fine grows long = grind (arith, first_long, header_fetched, grows_header)

  -- reading was given up behind the header of a record
  pub took_lost : (old one new : Held) (before mid after : Input) (kept : ℕ) (fault : CaptureFault) → Gathered asked old.ahead one.ahead before mid 16 true
      → Lost asked one.ahead mid after (16 + kept) fault → kept ≡ kept_count order one.ahead → kept ≤ 262144 → Grows 16 old.memory one.memory
      → Grows (16 + kept) one.memory new.memory → (fault ≡ Memory → one.memory < 16 + kept) → Took asked order old new before after (Err fault)
  took_lost old one new before mid after kept fault g l is short first second refused =
      let enough : 16 ≤ length one.ahead = g.whole refl in
      let size = size_stays order old.ahead one.ahead l.more g.more kept g.grown enough is short in
      record {
        more = g.more ++ l.more;
        read = Consumes-trans before.left mid.left after.left g.more l.more g.gained.read l.read;
        gives = λ n. gives_lost order n (old.ahead ++ (g.more ++ l.more)) new.ahead after fault l.told;
        gained = tt;
        fetched = record_fetched asked order old.ahead g.more l.more before.state mid.state after.state kept g.fetched
            (fetched_from asked (Lacks (16 + kept)) one.ahead (old.ahead ++ g.more) l.more mid.state after.state g.grown l.fetched)
            (subst (λ b. 16 ≤ length b) g.grown enough) (is ∙ ap (kept_count order) g.grown) short;
        ended = λ e. absurd cc;
        cut = λ e. absurd (lost_cut after.failed fault l.told cc);
        room = grows_record (16 + kept) _ old.memory one.memory new.memory first second size (omega arith);
        refused = λ e. omega (arith, size, refused cc, first.kept);
      }

  -- the bytes end inside what a record keeps
  pub took_cut : (old one new : Held) (before mid after : Input) (kept : ℕ) → Gathered asked old.ahead one.ahead before mid 16 true
      → Gathered asked one.ahead new.ahead mid after (16 + kept) false → before.failed ≡ false → kept ≡ kept_count order one.ahead → kept ≤ 262144
      → Grows 16 old.memory one.memory → Grows (16 + kept) one.memory new.memory → Took asked order old new before after (Err CutRecord)
  took_cut old one new before mid after kept g h fine is short first second =
      let enough : 16 ≤ length one.ahead = g.whole refl in
      let all : new.ahead ≡ old.ahead ++ (g.more ++ h.more) = h.grown ∙ ap (λ l. l ++ h.more) g.grown ∙ append_assoc old.ahead g.more h.more in
      let stays : kept_count order new.ahead ≡ kept = ap (kept_count order) h.grown ∙ kept_count-append order one.ahead h.more enough ∙ sym is in
      record {
        more = g.more ++ h.more;
        read = Consumes-trans before.left mid.left after.left g.more h.more g.gained.read h.gained.read;
        gives = λ n. (
          ap (first_record order n) (sym all) ∙ first_cut order n new.ahead (omega (arith, enough, ap length h.grown, length-append one.ahead h.more)) (omega (arith, stays, short))
              (omega (arith, stays, (h.ended refl).0)),
          (h.ended refl).1,
          h.fine ∙ g.fine ∙ fine,
        );
        gained = tt;
        fetched = record_fetched asked order old.ahead g.more h.more before.state mid.state after.state kept g.fetched
            (fetched_from asked (Lacks (16 + kept)) one.ahead (old.ahead ++ g.more) h.more mid.state after.state g.grown h.fetched)
            (subst (λ b. 16 ≤ length b) g.grown enough) (is ∙ ap (kept_count order) g.grown) short;
        ended = λ e. absurd cc;
        cut = λ e. meets_later g.fetched.asks h.fetched.asks (h.ended refl).2;
        room = grows_record (16 + kept) _ old.memory one.memory new.memory first second (size_stays order old.ahead one.ahead h.more g.more kept g.grown enough is short) (omega arith);
        refused = λ e. absurd cc;
      }

  -- the record is there whole, and is taken
  pub took_whole : (old one now new : Held) (before mid after : Input) (kept wire : ℕ) → Gathered asked old.ahead one.ahead before mid 16 true
      → Gathered asked one.ahead now.ahead mid after (16 + kept) true → before.failed ≡ false → kept ≡ kept_count order one.ahead → wire ≡ wire_count order one.ahead
      → kept ≤ 262144 → new.taken ≡ piece now.ahead 16 kept → new.ahead ≡ drop (16 + kept) now.ahead → Grows 16 old.memory one.memory
      → Grows (16 + kept) one.memory now.memory → new.memory ≡ now.memory → Took asked order old new before after (Ok (Some wire))
  took_whole old one now new before mid after kept wire g h fine is wired short taken ahead first second same =
      let enough : 16 ≤ length one.ahead = g.whole refl in
      let whole : 16 + kept ≤ length now.ahead = h.whole refl in
      let all : now.ahead ≡ old.ahead ++ (g.more ++ h.more) = h.grown ∙ ap (λ l. l ++ h.more) g.grown ∙ append_assoc old.ahead g.more h.more in
      let stays : kept ≡ kept_count order now.ahead = is ∙ sym (ap (kept_count order) h.grown ∙ kept_count-append order one.ahead h.more enough) in
      let wires : wire ≡ wire_count order now.ahead = wired ∙ sym (ap (wire_count order) h.grown ∙ wire_count-append order one.ahead h.more enough) in
      let size : length new.taken ≡ kept = ap length taken ∙ length_piece now.ahead 16 kept whole in
      let grows = grows_record (16 + kept) _ old.memory one.memory now.memory first second (size_stays order old.ahead one.ahead h.more g.more kept g.grown enough is short) (omega arith) in
      record {
        more = g.more ++ h.more;
        read = Consumes-trans before.left mid.left after.left g.more h.more g.gained.read h.gained.read;
        gives = λ n. (
          ap (first_record order n) (sym all) ∙ first_whole order n now.ahead (omega arith) (omega (arith, stays, short)) (omega (arith, stays, whole))
              ∙ ap (λ (w : ℕ). Ok (Some (record { number = n; wire = w; bytes = piece now.ahead 16 (kept_count order now.ahead) }))) (sym wires)
              ∙ ap (λ (k : ℕ). Ok (Some (record { number = n; wire = wire; bytes = piece now.ahead 16 k }))) (sym stays)
              ∙ ap (λ (l : List ℕ). Ok (Some (record { number = n; wire = wire; bytes = l }))) (sym taken),
          ahead ∙ ap (λ k. drop (16 + k) now.ahead) (sym size) ∙ ap (λ l. drop (16 + length new.taken) l) all,
          h.fine ∙ g.fine ∙ fine,
        );
        gained = gained_both asked before mid after g.more h.more g.gained h.gained;
        fetched = record_fetched asked order old.ahead g.more h.more before.state mid.state after.state kept g.fetched
            (fetched_from asked (Lacks (16 + kept)) one.ahead (old.ahead ++ g.more) h.more mid.state after.state g.grown h.fetched)
            (subst (λ b. 16 ≤ length b) g.grown enough) (is ∙ ap (kept_count order) g.grown) short;
        ended = λ e. absurd cc;
        cut = λ e. absurd cc;
        room = subst (Grows (size_of_first order (old.ahead ++ (g.more ++ h.more))) old.memory) (sym same) grows;
        refused = λ e. absurd cc;
      }

gained_ok : (before after : Input) (more : List ℕ) (n : ℕ) (bytes : List ℕ) (answer : Result (Option ℕ) CaptureFault) → OnOk answer (Gained before after more) → OnOk (numbered n bytes answer) (Gained before after more)
gained_ok before after more n bytes answer h = grind arith

-- what was told is the same in numbers
told_end : (n : ℕ) (bytes : List ℕ) (answer : Result (Option ℕ) CaptureFault) → numbered n bytes answer ≡ Ok None → answer ≡ Ok None
told_end n bytes answer e = grind arith

told_fault : (n : ℕ) (bytes : List ℕ) (answer : Result (Option ℕ) CaptureFault) (fault : CaptureFault) → numbered n bytes answer ≡ Err fault → answer ≡ Err fault
told_fault n bytes answer fault e = grind arith

-- what taking a record comes to for the capture
pub takes : (asked : ℕ → List ℕ → Result ℕ Failed → ℕ → Type 0) (old new : Place) (h w : Held) (n : ℕ) (answer : Result (Option ℕ) CaptureFault)
    → Took asked old.order h w old.input new.input answer → h.ahead ≡ old.ahead → h.memory ≡ old.memory → old.memory ≤ 262160
    → n ≡ old.taken + 1 → new.ahead ≡ w.ahead → new.memory ≡ w.memory → new.order ≡ old.order → new.taken ≡ taken_after old.taken (numbered n w.taken answer)
    → new.standing ≡ standing_after (numbered n w.taken answer) → (is_ready old.order old.ahead ≡ true → new.input ≡ old.input) → TakesBy asked old new (numbered n w.taken answer)
takes asked old new h w n answer t at holds most number ahead memory order taken standing still =
    let size = size_of_first old.order (old.ahead ++ t.more) in
    let same : size_of_first old.order (h.ahead ++ t.more) ≡ size = ap (λ l. size_of_first old.order (l ++ t.more)) at in
    record {
      takes = record {
        more = t.more;
        read = t.read;
        gives = subst (λ m. Gives old.order m (old.ahead ++ t.more) new.ahead new.input (numbered n w.taken answer)) number
            (subst (λ l. Gives old.order n (old.ahead ++ t.more) l new.input (numbered n w.taken answer)) (sym ahead)
            (subst (λ l. Gives old.order n (l ++ t.more) w.ahead new.input (numbered n w.taken answer)) at (t.gives n)));
        taken = taken;
        standing = standing;
        order = order;
        still = still;
        gained = gained_ok old.input new.input t.more n w.taken answer t.gained;
        room = record { kept = omega (arith, t.room.kept, holds, memory); needed = omega (arith, t.room.needed, same, holds, memory) };
        most = omega (arith, t.room.needed, same, holds, memory, most, size_most old.order (old.ahead ++ t.more));
        refused = λ e. omega (arith, t.refused (told_fault n w.taken answer Memory e), same, holds);
      };
      fetched = fetched_from asked (TellsNothing old.order) h.ahead old.ahead t.more old.input.state new.input.state at t.fetched;
      ended = λ e. t.ended (told_end n w.taken answer e);
      cut = λ e. t.cut (told_fault n w.taken answer CutRecord e);
    }

-- so many records were taken from so many bytes
pub few_taken : (asked : ℕ → List ℕ → Result ℕ Failed → ℕ → Type 0) (order : Order) (old new : Held) (before after : Input) (wire n : ℕ)
    → Took asked order old new before after (Ok (Some wire)) → 16 * n + length old.ahead ≤ 262160 * before.calls → 16 * (n + 1) + length new.ahead ≤ 262160 * after.calls
few_taken asked order old new before after wire n t few =
    let bytes = old.ahead ++ t.more in
    let gives = t.gives 0 in
    let size : 16 + length new.taken ≤ length bytes = first_size order 0 bytes _ gives.0 in
    omega (arith, size, length-append old.ahead t.more, ap length gives.1, length-drop (16 + length new.taken) bytes, t.gained.few)

-- a buffer that grew for a record has room for the longest at most
pub room_taken : (asked : ℕ → List ℕ → Result ℕ Failed → ℕ → Type 0) (order : Order) (old new : Held) (before after : Input) (answer : Result (Option ℕ) CaptureFault)
    → Took asked order old new before after answer → (8192 ≤ old.memory) × (old.memory ≤ 262160) → (8192 ≤ new.memory) × (new.memory ≤ 262160)
room_taken asked order old new before after answer t room = omega (arith, size_most)

-- a capture that goes on
pub nexts_open : (old new : Place) (answer : Result (Option Record) CaptureFault) → old.standing ≡ Open → Takes old new answer → Nexts old new answer
nexts_open old new answer is t = subst (λ (s : Standing). Continues s old new answer) (sym is) t
