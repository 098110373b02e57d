-- A receiver as it is made.
use Rattle.std.proofs.Common.{◌≡◌, ◌∙◌, sym, ap, arith, ℕ, true, ◌&&◌, nat_le, replicate}
use Rattle.std.proofs.lemmas.Bool.{and_parts, leb-true}
use Rattle.std.proofs.lemmas.List.{length-replicate}
use Rattle.ipx_fair.specs.declared.setting.Setting.{Setting}
use Rattle.ipx_fair.specs.declared.tally.Tally.{Tally}
use Rattle.ipx_fair.specs.Numbers.{most_time, most_speakers, can_be}
use Rattle.ipx_fair.specs.States.{empty}
use Rattle.ipx_fair.specs.Queues.{total, waiting}
use Rattle.ipx_fair.specs.Tallies.{queues_of, state_of}
use Rattle.ipx_fair.specs.inside.Held.{Agrees, IsHeld}
use Rattle.ipx_fair.proofs.Queues.{total-replicate, waiting-replicate, lowered_none}
use Rattle.ipx_fair.proofs.Kept.{kept_empty, state}
use Rattle.ipx_fair.proofs.Counted.{spares_none, latest_zero}

-- a tally as it is made
abbrev pub made : Setting → Tally
made setting = record { setting = setting; left = 0; served = 0; latest = 0; spare = 0; waits = 0; total = 0 }

pub made_state : (setting : Setting) (speakers : ℕ) → state_of (made setting) (replicate speakers 0) ≡ empty setting speakers
made_state setting speakers = ap (state setting 0) (lowered_none (replicate speakers 0))

made_agrees : (setting : Setting) (speakers : ℕ) → Agrees (made setting) (replicate speakers 0)
made_agrees setting speakers =
    let same : queues_of (made setting) (replicate speakers 0) ≡ replicate speakers 0 = lowered_none (replicate speakers 0) in
    let none : total (queues_of (made setting) (replicate speakers 0)) ≡ 0 = ap total same ∙ total-replicate speakers in
    record {
      total = sym none;
      waits = sym (ap waiting same ∙ waiting-replicate speakers);
      spare = spares_none 0 (queues_of (made setting) (replicate speakers 0)) none;
      latest = latest_zero 0 (replicate speakers 0) (total-replicate speakers);
    }

pub made_held : (setting : Setting) (speakers : ℕ) → can_be setting speakers ≡ true → IsHeld (made setting) (replicate speakers 0)
made_held setting speakers can =
    let all = and_parts (nat_le setting.one setting.own && nat_le setting.own most_time && nat_le setting.reserve most_time && nat_le setting.room most_time) _ can in
    let three = and_parts (nat_le setting.one setting.own && nat_le setting.own most_time && nat_le setting.reserve most_time) _ all.0 in
    let two = and_parts (nat_le setting.one setting.own && nat_le setting.own most_time) _ three.0 in
    let one = and_parts (nat_le setting.one setting.own) _ two.0 in
    record {
      agrees = made_agrees setting speakers;
      kept = rw made_state (kept_empty setting speakers (leb-true _ _ one.0));
      small = record {
        own = leb-true _ _ one.1;
        reserve = leb-true _ _ two.1;
        room = leb-true _ _ three.1;
        speakers = omega (arith, leb-true speakers most_speakers all.1, length-replicate {A = ℕ} speakers 0);
        served = omega arith;
        latest = omega arith;
      };
    }
