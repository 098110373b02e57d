-- Some condition holds of each packet.
use Rattle.std.proofs.Common.{◌≡◌, ◌∙◌, refl, ap, ℕ, zero, suc, Bool, true, false, if◌then◌else◌, Option, None, Some, List, [], ◌∷◌, drop}
use Rattle.std.specs.Option.{is_some}
use Rattle.ipx_fates.specs.declared.fate.Fate.{Fate}
use Rattle.ipx_fates.specs.declared.step.FrameStep.TheVariants as asks
use Rattle.ipx_fates.specs.Courses.{of_frame, of_datagram}
use Rattle.ipx_fates.specs.Walks.{Answers, fate_of}
use Rattle.ipx_fates.specs.Conditions.{or_else, first_of, frame, behind_limits, at_router, of_several, of_one, links, frame_conditions, word_conditions, datagram_conditions}
use Rattle.ipx_fates.proofs.Ends.{frame_ends}
use Rattle.ipx_fates.proofs.EndsOfDatagrams.{datagram_ends}

behind : (row rest : Option Fate) → is_some rest ≡ true → is_some (or_else row rest) ≡ true
behind None rest some = some
behind (Some fate) rest some = refl

-- one of those behind the first few holds
later : (rows : List (Option Fate)) (few : ℕ) → is_some (first_of (drop few rows)) ≡ true → is_some (first_of rows) ≡ true
later rows zero some = some
later [] (suc few) some = some
later (row ∷ rows) (suc few) some = behind row (first_of rows) (later rows few some)

either_list : (a : Bool) (l m : List (Option Fate)) → is_some (first_of l) ≡ true → is_some (first_of m) ≡ true → is_some (first_of (if a then l else m)) ≡ true
either_list true l m some_l some_m = some_l
either_list false l m some_l some_m = some_m

at_limits : (told : Answers) → is_some (first_of (behind_limits told)) ≡ true
at_limits told = later (behind_limits told) 2 refl

routed : (told : Answers) → is_some (first_of (at_router told)) ≡ true
routed told = later (at_router told) 1 (at_limits told)

of_links : (told : Answers) → is_some (first_of (links told)) ≡ true
of_links told = either_list (frame told asks.HasLinks) (of_several told) (of_one told)
    (later (of_several told) 6 (routed told))
    (either_list (frame told asks.IsWhole) (at_router told) (behind_limits told) (routed told) (at_limits told))

pub some_frame : (told : Answers) → is_some (fate_of told of_frame) ≡ true
some_frame told = ap is_some (frame_ends told) ∙ later (frame_conditions told) 9 (of_links told)

pub some_datagram : (told : Answers) → is_some (fate_of told of_datagram) ≡ true
some_datagram told = ap is_some (datagram_ends told) ∙ later (datagram_conditions told) 13 (later (word_conditions told) 5 (routed told))
