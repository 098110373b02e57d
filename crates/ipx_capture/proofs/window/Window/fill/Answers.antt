use Rattle.std.proofs.Common.{◌≡◌, ◌+◌, ◌++◌, [], arith, ap, drop, refl, ◌∙◌, length, length-drop}
use Rattle.ipx_wire.specs.Piece.{piece}
use Rattle.ipx_capture.specs.Asks.{Lacks}
use Rattle.ipx_capture.proofs.Fetching.{fetched_failed}
use Rattle.ipx_capture.proofs.Once.{kept_none}
use Rattle.ipx_capture.proofs.Pieces.{piece_front, piece_grown, length_piece}
use Rattle.ipx_capture.proofs.window.Window.fill.Goals as goal

pub returns-clause-ok : goal.returns-clause-ok
returns-clause-ok g c =
    let w = c.self.inside in
    let at = c.in_ok-self-inside.field-0 in
    let roomed = c.make_room.new.bytes.items in
    let now = c.read_behind.new.bytes.items in
    let got = c.in-Ok.got in
    let came = c.in-Ok.ensures.ok in
    let more = piece now (at + w.count) got in
    let counted : length more ≡ got = length_piece now (at + w.count) got (omega (arith, came.bound, came.room, length-drop (at + w.count) now)) in
    let front : piece now at w.count ≡ c.args.self.now.ahead =
    piece_front now roomed at w.count c.read_behind.ensures.front ∙ c.in_ok-self-inside.ensures.kept ∙ ap (λ h. h.ahead) c.self.view_is in
    record {
      more = more;
      gained = record { read = came.read; few = omega (arith, counted, came.bound, length-drop (at + w.count) now, came.counted, c.self.invariant.most, c.read_behind.ensures.len, c.in_ok-self-inside.ensures.most, c.requires.few); bounded = λ _. came.bounded };
      grown = piece_grown now at w.count got ∙ ap (λ l. l ++ more) front;
      counted = counted;
      fine = came.fine;
      ended = came.ended;
      buffer = drop (at + w.count) now;
      room = came.room;
      once = came.once;
      gave = refl;
    }

pub returns-in_default-clause-err : goal.returns-in_default-clause-err
returns-in_default-clause-err g c =
    let before = c.args.intake.now in
    let after = c.read_behind.new.intake in
    let old = c.args.self.now.ahead in
    let failed = c.in_default.ensures.err in
    record {
      more = [];
      read = kept_none before.left after.left failed.lost.left;
      told = failed.lost.told;
      fetched = fetched_failed g.S.Source.asked (Lacks c.args.need) old before.state after.state c.requires.more failed.made;
    }

pub invariant_of-self-in_default : goal.invariant_of-self-in_default
invariant_of-self-in_default g c =
    let i = c.self.invariant in
    let b = c.read_behind.ensures in
    let m = c.in_ok-self-inside.ensures in
    record {
      taken = omega (arith, i.taken, b.len, m.grows);
      ahead = omega (arith, b.len, m.room, c.requires.more, ap (λ h. length h.ahead) c.self.view_is, length_piece c.self.inside.bytes.items c.self.inside.from c.self.inside.count i.ahead);
      some = omega (arith, i.some, b.len, m.grows);
      most = omega (arith, i.most, b.len, m.most, c.requires.few);
      memory = omega (arith, i.memory, b.capacity, m.memory.needed, c.requires.few);
    }

pub invariant_of-self-2 : goal.invariant_of-self-2
invariant_of-self-2 g c =
    let i = c.self.invariant in
    let b = c.read_behind.ensures in
    let m = c.in_ok-self-inside.ensures in
    record {
      taken = omega (arith, i.taken, b.len, m.grows);
      ahead = omega (arith, c.in-Ok.ensures.ok.bound, c.in-Ok.ensures.ok.room, length-drop (c.in_ok-self-inside.field-0 + c.self.inside.count) c.read_behind.new.bytes.items);
      some = omega (arith, i.some, b.len, m.grows);
      most = omega (arith, i.most, b.len, m.most, c.requires.few);
      memory = omega (arith, i.memory, b.capacity, m.memory.needed, c.requires.few);
    }
