-- What further bytes do to the text of a capture, and to that of a script.
use Rattle.std.specs.Prelude.{◌≡◌, ℕ, true, List, ◌++◌}
use Rattle.ipx_cmd.specs.Decoded.{IsFront}
use Rattle.ipx_cmd.specs.Replayed.{replayed, replayed_end, sofar as script_sofar, judged as script_judged}
use Rattle.ipx_cmd.specs.Shown.{shown, shown_end, sofar, judged}
use Rattle.ipx_cmd.specs.Simulated.{simulated, simulated_end, sofar as internet_sofar, judged as internet_judged}
use Rattle.ipx_cmd.specs.declared.ended.Ended.TheVariants.{BadInput}

-- the text of all bytes begins with the text so far of the first; it is just that, with bad input, where these are judged
pub record Continues (bytes more : List ℕ) : Type 0 where
  pub front : IsFront (sofar bytes) (shown (bytes ++ more))
  pub whole : judged bytes ≡ true → shown (bytes ++ more) ≡ sofar bytes
  pub bad : judged bytes ≡ true → shown_end (bytes ++ more) ≡ BadInput

-- the same of a script for one router
pub record ScriptContinues (bytes more : List ℕ) : Type 0 where
  pub front : IsFront (script_sofar bytes) (replayed (bytes ++ more))
  pub whole : script_judged bytes ≡ true → replayed (bytes ++ more) ≡ script_sofar bytes
  pub bad : script_judged bytes ≡ true → replayed_end (bytes ++ more) ≡ BadInput

-- the same of a script for an internet
pub record InternetContinues (bytes more : List ℕ) : Type 0 where
  pub front : IsFront (internet_sofar bytes) (simulated (bytes ++ more))
  pub whole : internet_judged bytes ≡ true → simulated (bytes ++ more) ≡ internet_sofar bytes
  pub bad : internet_judged bytes ≡ true → simulated_end (bytes ++ more) ≡ BadInput
