-- Which fate a packet has: of all conditions, the first that holds says it.
use Rattle.std.specs.Prelude.{ℕ, Bool, ◌==◌, ◌&&◌, not, if◌then◌else◌, List, [], ◌∷◌, Option, None, Some}
use Rattle.ipx_fates.specs.declared.fate.Fate.{Fate}
use Rattle.ipx_fates.specs.declared.fate.Fate.TheVariants.{Elsewhere, HandedOn, Answered, Stays, Awaited, Probe, Lost}
use Rattle.ipx_fates.specs.declared.reason.Reason.{Reason}
use Rattle.ipx_fates.specs.declared.reason.Reason.TheVariants as reason
use Rattle.ipx_fates.specs.declared.step.FrameStep.{FrameStep}
use Rattle.ipx_fates.specs.declared.step.FrameStep.TheVariants as asks
use Rattle.ipx_fates.specs.declared.step.DatagramStep.{DatagramStep}
use Rattle.ipx_fates.specs.declared.step.DatagramStep.TheVariants as hears
use Rattle.ipx_fates.specs.declared.step.WordStep.{WordStep}
use Rattle.ipx_fates.specs.declared.step.WordStep.TheVariants as says
use Rattle.ipx_fates.specs.declared.step.RouterStep.{RouterStep}
use Rattle.ipx_fates.specs.declared.step.RouterStep.TheVariants as routes
use Rattle.ipx_fates.specs.declared.step.Step.TheVariants.{Frame, Datagram, Word, Router}
use Rattle.ipx_fates.specs.Fates.{reason_at}
use Rattle.ipx_fates.specs.Steps.{is_yes}
use Rattle.ipx_fates.specs.Routing.{heard}
use Rattle.ipx_fates.specs.Datagrams.{registers, answers, speaks}
use Rattle.ipx_fates.specs.Walks.{Answers}

-- where a condition holds, that is the fate
abbrev pub when : Bool → Fate → Option Fate
when holds fate = if holds then Some fate else None

-- where a limit names a reason, it is lost for it
abbrev pub refused : Option Reason → Option Fate
refused None = None
refused (Some why) = Some (Lost why)

abbrev pub or_else : Option Fate → Option Fate → Option Fate
or_else None later = later
or_else (Some fate) later = Some fate

abbrev pub first_of : List (Option Fate) → Option Fate
first_of [] = None
first_of (fate ∷ fates) = or_else fate (first_of fates)

module _ (told : Answers) where
  -- what holds of the packet
  abbrev pub frame : FrameStep → Bool
  frame step = is_yes (told (Frame step))

  abbrev pub datagram : DatagramStep → Bool
  datagram step = is_yes (told (Datagram step))

  abbrev pub word : WordStep → Bool
  word step = is_yes (told (Word step))

  abbrev pub router : RouterStep → Bool
  router step = is_yes (told (Router step))

  -- what a datagram says
  abbrev pub is_said : ℕ → Bool
  is_said what = told (Datagram hears.Hear) == what

  abbrev pub says_nothing : Bool
  says_nothing = not (is_said registers) && (not (is_said answers) && not (is_said speaks))

  -- behind the limits of the router
  abbrev pub behind_limits : List (Option Fate)
  behind_limits =
      when (router routes.IsAwaited) Awaited
      ∷ when (router routes.Hear) (Lost reason.NoMemory)
      ∷ Some (heard (told (Router routes.Outcome)))
      ∷ []

  abbrev pub at_router : List (Option Fate)
  at_router = refused (reason_at (told (Router routes.LetsHear))) ∷ behind_limits

  -- its network has several links
  abbrev pub of_several : List (Option Fate)
  of_several =
      when (not (frame asks.IsPacket)) (Lost reason.NoIpx)
      ∷ when (frame asks.IsBeyondLink) (Lost reason.TooLong)
      ∷ when (frame asks.NamesClient) (Lost reason.FalseSource)
      ∷ when (not (frame asks.IsForRouter) && frame asks.WasPut) HandedOn
      ∷ when (not (frame asks.IsForRouter) && frame asks.IsFromClient) (Lost reason.FalseSource)
      ∷ when (not (frame asks.IsForRouter)) (Lost reason.ForAnother)
      ∷ at_router

  -- or one: what isn't whole is shown to the router, which says what is wrong with it
  abbrev pub of_one : List (Option Fate)
  of_one = if frame asks.IsWhole then at_router else behind_limits

  abbrev pub links : List (Option Fate)
  links = if frame asks.HasLinks then of_several else of_one

  abbrev pub frame_conditions : List (Option Fate)
  frame_conditions =
      when (not (frame asks.IsFrame)) (Lost reason.NoIpx)
      ∷ when (not (frame asks.HasNetwork) && frame asks.IsHeardBeside) Elsewhere
      ∷ when (not (frame asks.HasNetwork)) (Lost reason.OtherKind)
      ∷ when (frame asks.IsTooLong) (Lost reason.TooLong)
      ∷ when (frame asks.IsOwn && frame asks.IsProbe) Probe
      ∷ when (frame asks.IsOwn) (Lost reason.OwnFrame)
      ∷ when (not (frame asks.IsOfItsKind)) (Lost reason.SecondKind)
      ∷ when (frame asks.IsForAnother) (Lost reason.ForAnother)
      ∷ refused (reason_at (told (Frame asks.LetsIn)))
      ∷ links

  -- a client says something to others
  abbrev pub word_conditions : List (Option Fate)
  word_conditions =
      when (not (word says.IsPing) && not (word says.IsForSomebody)) (Lost reason.NoClient)
      ∷ when (word says.IsForFarRouters) (Lost reason.ForFarRouters)
      ∷ refused (reason_at (told (Word says.LetsSay)))
      ∷ when (not (word says.IsHeard) && word says.WasCarried) HandedOn
      ∷ when (not (word says.IsHeard)) (Lost reason.NoClient)
      ∷ at_router

  abbrev pub datagram_conditions : List (Option Fate)
  datagram_conditions =
      when (datagram hears.IsTooLong) (Lost reason.TooLong)
      ∷ when (not (datagram hears.IsAllowed)) (Lost reason.NotAllowed)
      ∷ when (says_nothing && datagram hears.IsPacket) (Lost reason.FalseSource)
      ∷ when says_nothing (Lost reason.NoIpx)
      ∷ when (is_said registers && not (datagram hears.IsAnswered)) (Lost reason.NoRoom)
      ∷ when (is_said registers && (datagram hears.IsClient && not (datagram hears.LetsAnswer))) (Lost reason.TooManyAnswers)
      ∷ when (is_said registers && (not (datagram hears.IsClient) && not (datagram hears.LetsStranger))) (Lost reason.TooManyStrangers)
      ∷ when (is_said registers) Answered
      ∷ when (is_said answers && datagram hears.IsClientNow) Stays
      ∷ when (is_said answers) (Lost reason.NoRoom)
      ∷ when (not (datagram hears.IsFromClient) && not (datagram hears.IsPinged)) (Lost reason.NoRoom)
      ∷ when (not (datagram hears.IsFromClient) && not (datagram hears.LetsPing)) (Lost reason.TooManyStrangers)
      ∷ when (not (datagram hears.IsFromClient)) (Lost reason.Stranger)
      ∷ word_conditions
