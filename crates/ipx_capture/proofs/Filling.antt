-- The loop that fills the front of a buffer from a source.
use Rattle.std.proofs.Common.{◌≡◌, ℕ, ◌+◌, ◌<◌, ◌≤◌, List, [], ◌∷◌, ◌++◌, length, take, refl, sym, ap, subst, ◌∙◌, arith, append-nil, length-take-le, Ok, Result}
use Rattle.std.proofs.KnownBytes.{Consumes-nil, Consumes-trans}
use Rattle.std.specs.Io.KnownBytes.{Consumes}
use Rattle.ipx_wire.specs.Ends.{Input}
use Rattle.ipx_wire.specs.declared.failed.Failed.{Failed}
use Rattle.ipx_capture.specs.Asks.{Ask, Asks, Fetched, Lacks, all_came}
use Rattle.ipx_capture.specs.Reads.{CameOnce, FailedOnce, FilledFront, LostFront}
use Rattle.ipx_capture.proofs.Fetching.{AllGave, all_came-append, all_gave-append, calls_append, fetched_failed, fetched_none, fetched_trans}
use Rattle.ipx_capture.proofs.Once.{kept_none}

-- what the loop keeps
pub record Filling (asked : ℕ → List ℕ → Result ℕ Failed → ℕ → Type 0) (buffer : List ℕ) (before now : Input) (at : ℕ) : Type 0 where
  pub bound : at ≤ length buffer
  pub read : Consumes before.left now.left (take at buffer)
  pub fine : now.failed ≡ before.failed
  pub bounded : 0 < at → now.calls ≤ 16777216
  pub fetched : Fetched asked (Lacks (length buffer)) [] (take at buffer) before.state now.state
  pub all : AllGave fetched.asks

pub filling_none : (asked : ℕ → List ℕ → Result ℕ Failed → ℕ → Type 0) (buffer : List ℕ) (before : Input) → Filling asked buffer before before 0
filling_none asked buffer before = record {
  bound = omega arith;
  read = Consumes-nil before.left;
  fine = refl;
  bounded = λ some. absurd (omega (arith, some));
  fetched = fetched_none asked (Lacks (length buffer)) [] before.state;
  all = tt;
}

-- it is full
pub filled_all : (asked : ℕ → List ℕ → Result ℕ Failed → ℕ → Type 0) (buffer : List ℕ) (before now : Input) (at : ℕ) → Filling asked buffer before now at
    → length buffer ≤ at → FilledFront asked buffer before now at
filled_all asked buffer before now given f full = grind arith

-- a call failed
pub filling_lost : (asked : ℕ → List ℕ → Result ℕ Failed → ℕ → Type 0) (buffer : List ℕ) (before mid after : Input) (at : ℕ) → Filling asked buffer before mid at
    → at < length buffer → FailedOnce asked mid after → LostFront asked (length buffer) before after
filling_lost asked buffer before mid after at f missing failed = record {
  front = take at buffer ++ [];
  read = Consumes-trans before.left mid.left after.left (take at buffer) [] f.read (kept_none mid.left after.left failed.lost.left);
  failed = failed.lost.told;
  fetched = fetched_trans asked (Lacks (length buffer)) [] (take at buffer) [] before.state mid.state after.state f.fetched f.all
      (fetched_failed asked (Lacks (length buffer)) (take at buffer) mid.state after.state (omega (arith, missing, length-take-le at buffer f.bound)) failed.made);
}

-- a call gave n bytes, which were put behind those that were there
module _ (asked : ℕ → List ℕ → Result ℕ Failed → ℕ → Type 0) (old new buffer : List ℕ) (before mid after : Input) (at n : ℕ) (f : Filling asked old before mid at)
    (missing : at < length old) (size : length new ≡ length old) (front : take (at + n) new ≡ take at old ++ take n buffer) (came : CameOnce asked mid after buffer n) where
  abbrev one : Ask
  one = record { buffer = buffer; answer = Ok n; state = after.state }

  abbrev asks : List Ask
  asks = f.fetched.asks ++ one ∷ []

  calls : Asks asked (Lacks (length new)) asks [] before.state after.state
  calls = grind (arith, length-take-le, calls_append)

  gave : take (at + n) new ≡ all_came asks
  gave = grind (arith, append-nil, all_came-append)

  read : Consumes before.left after.left (take (at + n) new)
  read = subst (λ l. Consumes before.left after.left l) (sym front) (Consumes-trans before.left mid.left after.left (take at old) (take n buffer) f.read came.read)

  pub filling_more : 0 < n → at + n ≤ length new → Filling asked new before after (at + n)
  filling_more some within = record {
    bound = within;
    read = read;
    fine = came.fine ∙ f.fine;
    bounded = λ _. came.bounded;
    fetched = record { asks = asks; calls = calls; gave = gave };
    all = all_gave-append f.fetched.asks (one ∷ []) f.all (omega (arith, some, length-take-le n buffer came.bound), tt);
  }

  pub filled_end : n ≡ 0 → FilledFront asked new before after at
  filled_end none =
      let here : at + n ≡ at = omega (arith, none) in
      let same : take (at + n) new ≡ take at new = ap (λ (k : ℕ). take k new) here in
      record {
        bound = omega (arith, f.bound, size);
        read = subst (λ l. Consumes before.left after.left l) same read;
        fine = came.fine ∙ f.fine;
        bounded = λ _. came.bounded;
        fetched = record { asks = asks; calls = calls; gave = sym same ∙ gave };
        ended = λ _. (came.ended none, record { front = f.fetched.asks; last = one; are = refl; none = ap Ok none });
      }
