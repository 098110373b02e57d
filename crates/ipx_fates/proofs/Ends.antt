-- Each way ends in the fate whose condition is the first that holds.
use Rattle.std.proofs.Common.{◌≡◌, ◌∙◌, refl, ℕ, suc, ◌&&◌, not, if◌then◌else◌, Option, Some}
use Rattle.ipx_fates.specs.declared.course.Course.TheVariants.{Ends}
use Rattle.ipx_fates.specs.declared.fate.Fate.{Fate}
use Rattle.ipx_fates.specs.declared.fate.Fate.TheVariants.{Elsewhere, HandedOn, Awaited, Probe, Lost}
use Rattle.ipx_fates.specs.declared.reason.Reason.TheVariants as reason
use Rattle.ipx_fates.specs.declared.step.FrameStep.TheVariants as asks
use Rattle.ipx_fates.specs.declared.step.RouterStep.TheVariants as routes
use Rattle.ipx_fates.specs.declared.step.Step.TheVariants.{Frame, Router}
use Rattle.ipx_fates.specs.Fates.{reason_at}
use Rattle.ipx_fates.specs.Steps.{lost}
use Rattle.ipx_fates.specs.Routing.{hands, heard}
use Rattle.ipx_fates.specs.Frames as frames
use Rattle.ipx_fates.specs.Courses.{of_frame}
use Rattle.ipx_fates.specs.Walks.{Answers, fate_by, fate_of}
use Rattle.ipx_fates.specs.Conditions.{when, refused, or_else, first_of, frame, router, behind_limits, at_router, of_several, of_one, links, frame_conditions}
use Rattle.ipx_fates.proofs.Shapes.{at_end, deed, fork, limit, ends_if, ends_unless, either_way, of_lists, unless_one, if_one, unless_two}

-- ---- at the router

outcome : (told : Answers) (n : ℕ) → fate_by told (hands routes.Outcome) (suc n) ≡ Some (heard (told (Router routes.Outcome)))
outcome told n = deed told (Router routes.Outcome) n (Ends (heard (told (Router routes.Outcome)))) (Some (heard (told (Router routes.Outcome)))) refl
    (at_end told (heard (told (Router routes.Outcome))) n)

-- what the router says of a packet that it heard
abbrev by_hearing : Answers → Option Fate
by_hearing told = or_else (when (router told routes.Hear) (Lost reason.NoMemory)) (Some (heard (told (Router routes.Outcome))))

hearing : (told : Answers) (n : ℕ) → fate_by told (hands routes.Hear) (suc (suc n)) ≡ by_hearing told
hearing told n =
    fork told (Router routes.Hear) (suc n) (lost reason.NoMemory) (hands routes.Outcome) (Some (Lost reason.NoMemory)) (Some (heard (told (Router routes.Outcome)))) refl
    (at_end told (Lost reason.NoMemory) (suc n)) (outcome told n)
    ∙ ends_if (router told routes.Hear) (Lost reason.NoMemory) (Some (heard (told (Router routes.Outcome))))

awaited : (told : Answers) (n : ℕ) → fate_by told (hands routes.IsAwaited) (suc (suc (suc n))) ≡ first_of (behind_limits told)
awaited told n =
    fork told (Router routes.IsAwaited) (suc (suc n)) (Ends Awaited) (hands routes.Hear) (Some Awaited) (by_hearing told) refl
    (at_end told Awaited (suc (suc n))) (hearing told n)
    ∙ ends_if (router told routes.IsAwaited) Awaited (by_hearing told)

for_all : (told : Answers) (n : ℕ) → fate_by told (hands routes.IsForAll) (suc (suc (suc (suc (suc n))))) ≡ first_of (behind_limits told)
for_all told n =
    fork told (Router routes.IsForAll) (suc (suc (suc (suc n)))) (hands routes.Extend) (hands routes.IsAwaited) (first_of (behind_limits told)) (first_of (behind_limits told)) refl
    (deed told (Router routes.Extend) (suc (suc (suc n))) (hands routes.IsAwaited) (first_of (behind_limits told)) refl (awaited told n))
    (awaited told (suc n))
    ∙ either_way (router told routes.IsForAll) (first_of (behind_limits told))

pub at_the_router : (told : Answers) (n : ℕ) → fate_by told (hands routes.LetsHear) (suc (suc (suc (suc (suc (suc n)))))) ≡ first_of (at_router told)
at_the_router told n = limit told (Router routes.LetsHear) (suc (suc (suc (suc (suc n))))) (hands routes.IsForAll) (first_of (behind_limits told)) refl (for_all told n)

-- ---- a frame on one of several links

from_client : (told : Answers) → fate_by told (frames.on asks.IsFromClient) 5 ≡ (if frame told asks.IsFromClient then Some (Lost reason.FalseSource) else Some (Lost reason.ForAnother))
from_client told =
    fork told (Frame asks.IsFromClient) 4 (lost reason.FalseSource) (lost reason.ForAnother) (Some (Lost reason.FalseSource)) (Some (Lost reason.ForAnother)) refl
    (at_end told (Lost reason.FalseSource) 4) (at_end told (Lost reason.ForAnother) 4)

put : (told : Answers) → fate_by told (frames.on asks.WasPut) 6
    ≡ (if frame told asks.WasPut then Some HandedOn else (if frame told asks.IsFromClient then Some (Lost reason.FalseSource) else Some (Lost reason.ForAnother)))
put told =
    fork told (Frame asks.WasPut) 5 (Ends HandedOn) (frames.on asks.IsFromClient) (Some HandedOn)
    (if frame told asks.IsFromClient then Some (Lost reason.FalseSource) else Some (Lost reason.ForAnother)) refl
    (at_end told HandedOn 5) (from_client told)

-- what becomes of it once it was put on the other links
abbrev behind_links : Answers → Option Fate
behind_links told =
    or_else (when (not (frame told asks.IsForRouter) && frame told asks.WasPut) HandedOn)
    (or_else (when (not (frame told asks.IsForRouter) && frame told asks.IsFromClient) (Lost reason.FalseSource))
    (or_else (when (not (frame told asks.IsForRouter)) (Lost reason.ForAnother)) (first_of (at_router told))))

for_router : (told : Answers) → fate_by told (frames.on asks.IsForRouter) 7 ≡ behind_links told
for_router told =
    fork told (Frame asks.IsForRouter) 6 (hands routes.LetsHear) (frames.on asks.WasPut) (first_of (at_router told))
    (if frame told asks.WasPut then Some HandedOn else (if frame told asks.IsFromClient then Some (Lost reason.FalseSource) else Some (Lost reason.ForAnother))) refl
    (at_the_router told 0) (put told)
    ∙ unless_two (frame told asks.IsForRouter) (frame told asks.WasPut) (frame told asks.IsFromClient) HandedOn (Lost reason.FalseSource) (Lost reason.ForAnother) (first_of (at_router told))

abbrev behind_name : Answers → Option Fate
behind_name told = or_else (when (frame told asks.NamesClient) (Lost reason.FalseSource)) (behind_links told)

names : (told : Answers) → fate_by told (frames.on asks.NamesClient) 9 ≡ behind_name told
names told =
    fork told (Frame asks.NamesClient) 8 (lost reason.FalseSource) (frames.on asks.PutOnLinks) (Some (Lost reason.FalseSource)) (behind_links told) refl
    (at_end told (Lost reason.FalseSource) 8)
    (deed told (Frame asks.PutOnLinks) 7 (frames.on asks.IsForRouter) (behind_links told) refl (for_router told))
    ∙ ends_if (frame told asks.NamesClient) (Lost reason.FalseSource) (behind_links told)

abbrev behind_length : Answers → Option Fate
behind_length told = or_else (when (frame told asks.IsBeyondLink) (Lost reason.TooLong)) (behind_name told)

beyond : (told : Answers) → fate_by told (frames.on asks.IsBeyondLink) 10 ≡ behind_length told
beyond told =
    fork told (Frame asks.IsBeyondLink) 9 (lost reason.TooLong) (frames.on asks.NamesClient) (Some (Lost reason.TooLong)) (behind_name told) refl
    (at_end told (Lost reason.TooLong) 9) (names told)
    ∙ ends_if (frame told asks.IsBeyondLink) (Lost reason.TooLong) (behind_name told)

several : (told : Answers) → fate_by told (frames.on asks.IsPacket) 11 ≡ first_of (of_several told)
several told =
    fork told (Frame asks.IsPacket) 10 (frames.on asks.IsBeyondLink) (lost reason.NoIpx) (behind_length told) (Some (Lost reason.NoIpx)) refl
    (beyond told) (at_end told (Lost reason.NoIpx) 10)
    ∙ ends_unless (frame told asks.IsPacket) (Lost reason.NoIpx) (behind_length told)

-- ---- a frame on the only link

whole : (told : Answers) → fate_by told (frames.on asks.IsWhole) 11 ≡ first_of (of_one told)
whole told =
    fork told (Frame asks.IsWhole) 10 (hands routes.LetsHear) (hands routes.IsAwaited) (first_of (at_router told)) (first_of (behind_limits told)) refl
    (at_the_router told 4) (awaited told 7)
    ∙ of_lists (frame told asks.IsWhole) (at_router told) (behind_limits told)

-- ---- any frame

has_links : (told : Answers) → fate_by told (frames.on asks.HasLinks) 12 ≡ first_of (links told)
has_links told =
    fork told (Frame asks.HasLinks) 11 (frames.on asks.IsPacket) (frames.on asks.IsWhole) (first_of (of_several told)) (first_of (of_one told)) refl
    (several told) (whole told)
    ∙ of_lists (frame told asks.HasLinks) (of_several told) (of_one told)

lets_in : (told : Answers) → fate_by told (frames.on asks.LetsIn) 13 ≡ or_else (refused (reason_at (told (Frame asks.LetsIn)))) (first_of (links told))
lets_in told = limit told (Frame asks.LetsIn) 12 (frames.on asks.HasLinks) (first_of (links told)) refl (has_links told)

abbrev behind_limit : Answers → Option Fate
behind_limit told = or_else (refused (reason_at (told (Frame asks.LetsIn)))) (first_of (links told))

abbrev behind_other : Answers → Option Fate
behind_other told = or_else (when (frame told asks.IsForAnother) (Lost reason.ForAnother)) (behind_limit told)

for_another : (told : Answers) → fate_by told (frames.on asks.IsForAnother) 15 ≡ behind_other told
for_another told =
    fork told (Frame asks.IsForAnother) 14 (lost reason.ForAnother) (frames.on asks.Capture) (Some (Lost reason.ForAnother)) (behind_limit told) refl
    (at_end told (Lost reason.ForAnother) 14)
    (deed told (Frame asks.Capture) 13 (frames.on asks.LetsIn) (behind_limit told) refl (lets_in told))
    ∙ ends_if (frame told asks.IsForAnother) (Lost reason.ForAnother) (behind_limit told)

abbrev behind_kind : Answers → Option Fate
behind_kind told = or_else (when (not (frame told asks.IsOfItsKind)) (Lost reason.SecondKind)) (behind_other told)

of_its_kind : (told : Answers) → fate_by told (frames.on asks.IsOfItsKind) 16 ≡ behind_kind told
of_its_kind told =
    fork told (Frame asks.IsOfItsKind) 15 (frames.on asks.IsForAnother) (lost reason.SecondKind) (behind_other told) (Some (Lost reason.SecondKind)) refl
    (for_another told) (at_end told (Lost reason.SecondKind) 15)
    ∙ ends_unless (frame told asks.IsOfItsKind) (Lost reason.SecondKind) (behind_other told)

probe : (told : Answers) → fate_by told (frames.on asks.IsProbe) 16 ≡ (if frame told asks.IsProbe then Some Probe else Some (Lost reason.OwnFrame))
probe told =
    fork told (Frame asks.IsProbe) 15 (Ends Probe) (lost reason.OwnFrame) (Some Probe) (Some (Lost reason.OwnFrame)) refl
    (at_end told Probe 15) (at_end told (Lost reason.OwnFrame) 15)

abbrev behind_long : Answers → Option Fate
behind_long told = or_else (when (frame told asks.IsOwn && frame told asks.IsProbe) Probe) (or_else (when (frame told asks.IsOwn) (Lost reason.OwnFrame)) (behind_kind told))

own : (told : Answers) → fate_by told (frames.on asks.IsOwn) 17 ≡ behind_long told
own told =
    fork told (Frame asks.IsOwn) 16 (frames.on asks.IsProbe) (frames.on asks.IsOfItsKind)
    (if frame told asks.IsProbe then Some Probe else Some (Lost reason.OwnFrame)) (behind_kind told) refl
    (probe told) (of_its_kind told)
    ∙ if_one (frame told asks.IsOwn) (frame told asks.IsProbe) Probe (Lost reason.OwnFrame) (behind_kind told)

abbrev behind_network : Answers → Option Fate
behind_network told = or_else (when (frame told asks.IsTooLong) (Lost reason.TooLong)) (behind_long told)

too_long : (told : Answers) → fate_by told (frames.on asks.IsTooLong) 18 ≡ behind_network told
too_long told =
    fork told (Frame asks.IsTooLong) 17 (lost reason.TooLong) (frames.on asks.IsOwn) (Some (Lost reason.TooLong)) (behind_long told) refl
    (at_end told (Lost reason.TooLong) 17) (own told)
    ∙ ends_if (frame told asks.IsTooLong) (Lost reason.TooLong) (behind_long told)

beside : (told : Answers) → fate_by told (frames.on asks.IsHeardBeside) 18 ≡ (if frame told asks.IsHeardBeside then Some Elsewhere else Some (Lost reason.OtherKind))
beside told =
    fork told (Frame asks.IsHeardBeside) 17 (Ends Elsewhere) (lost reason.OtherKind) (Some Elsewhere) (Some (Lost reason.OtherKind)) refl
    (at_end told Elsewhere 17) (at_end told (Lost reason.OtherKind) 17)

abbrev behind_frame : Answers → Option Fate
behind_frame told =
    or_else (when (not (frame told asks.HasNetwork) && frame told asks.IsHeardBeside) Elsewhere)
    (or_else (when (not (frame told asks.HasNetwork)) (Lost reason.OtherKind)) (behind_network told))

has_network : (told : Answers) → fate_by told (frames.on asks.HasNetwork) 19 ≡ behind_frame told
has_network told =
    fork told (Frame asks.HasNetwork) 18 (frames.on asks.IsTooLong) (frames.on asks.IsHeardBeside) (behind_network told)
    (if frame told asks.IsHeardBeside then Some Elsewhere else Some (Lost reason.OtherKind)) refl
    (too_long told) (beside told)
    ∙ unless_one (frame told asks.HasNetwork) (frame told asks.IsHeardBeside) Elsewhere (Lost reason.OtherKind) (behind_network told)

pub frame_ends : (told : Answers) → fate_of told of_frame ≡ first_of (frame_conditions told)
frame_ends told =
    fork told (Frame asks.IsFrame) 19 (frames.on asks.HasNetwork) (lost reason.NoIpx) (behind_frame told) (Some (Lost reason.NoIpx)) refl
    (has_network told) (at_end told (Lost reason.NoIpx) 19)
    ∙ ends_unless (frame told asks.IsFrame) (Lost reason.NoIpx) (behind_frame told)
