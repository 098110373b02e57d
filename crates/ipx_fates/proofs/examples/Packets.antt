-- A few packets, and their fates.
use Rattle.std.proofs.Common.{◌≡◌, refl, ℕ, Some, [], ◌∷◌}
use Rattle.ipx_fates.specs.declared.fate.Fate.TheVariants.{Dropped, HandedOn, Lost}
use Rattle.ipx_fates.specs.declared.reason.Reason.TheVariants as reason
use Rattle.ipx_fates.specs.declared.step.FrameStep.TheVariants as asks
use Rattle.ipx_fates.specs.declared.step.DatagramStep.TheVariants as hears
use Rattle.ipx_fates.specs.declared.step.WordStep.TheVariants as says
use Rattle.ipx_fates.specs.declared.step.RouterStep.TheVariants as routes
use Rattle.ipx_fates.specs.declared.step.Step.TheVariants.{Frame, Datagram, Word, Router}
use Rattle.ipx_fates.specs.Datagrams.{registers, speaks}
use Rattle.ipx_fates.specs.Courses.{of_frame}
use Rattle.ipx_fates.specs.Walks.{Answers, fate_by, steps_by, fate_of, steps_of}
use Rattle.ipx_fates.specs.Conditions.{first_of, frame_conditions, datagram_conditions}

-- no limit refuses it
abbrev pub nothing : ℕ
nothing = 31

-- a frame of the gateway's own came back
pub own : Answers
own (Frame asks.IsFrame) = 1
own (Frame asks.HasNetwork) = 1
own (Frame asks.IsOwn) = 1
own step = 0

pub own_frame : first_of (frame_conditions own) ≡ Some (Lost reason.OwnFrame)
unfolding own
own_frame = refl

pub own_way : steps_of own of_frame ≡ Frame asks.IsFrame ∷ Frame asks.HasNetwork ∷ Frame asks.IsTooLong ∷ Frame asks.IsOwn ∷ Frame asks.IsProbe ∷ []
unfolding own steps_by
own_way = refl

-- on one of several links a packet for the router, which drops it, since it is for another socket
pub routed : Answers
routed (Frame asks.IsFrame) = 1
routed (Frame asks.HasNetwork) = 1
routed (Frame asks.IsOfItsKind) = 1
routed (Frame asks.LetsIn) = nothing
routed (Frame asks.HasLinks) = 1
routed (Frame asks.IsPacket) = 1
routed (Frame asks.IsForRouter) = 1
routed (Router routes.LetsHear) = nothing
routed (Router routes.Outcome) = 900
routed step = 0

pub routed_frame : first_of (frame_conditions routed) ≡ Some (Dropped 900)
unfolding routed
routed_frame = refl

pub routed_fate : fate_of routed of_frame ≡ Some (Dropped 900)
unfolding routed fate_by
routed_fate = refl

-- a stranger registers, and too many have lately
pub late : Answers
late (Datagram hears.IsAllowed) = 1
late (Datagram hears.Hear) = registers
late (Datagram hears.IsAnswered) = 1
late step = 0

pub late_one : first_of (datagram_conditions late) ≡ Some (Lost reason.TooManyStrangers)
unfolding late
late_one = refl

-- a client's word to another client
pub said : Answers
said (Datagram hears.IsAllowed) = 1
said (Datagram hears.Hear) = speaks
said (Datagram hears.IsFromClient) = 1
said (Word says.IsForSomebody) = 1
said (Word says.LetsSay) = nothing
said (Word says.WasCarried) = 1
said step = 0

pub said_word : first_of (datagram_conditions said) ≡ Some HandedOn
unfolding said
said_word = refl
