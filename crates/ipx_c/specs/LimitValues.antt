-- The numbers by which C knows links, kinds of packets, what becomes of them, and which come first on a narrow line.
use Rattle.std.specs.Prelude.{ℕ, ◌==◌, if◌then◌else◌, Option, None, Some}
use Rattle.ipx_limits.specs.declared.decision.Decision.{Decision}
use Rattle.ipx_limits.specs.declared.decision.Decision.TheVariants.{Passes, TooManyPings, TooManyQuestions, TooManyAdvertisements, TooMuchForRouter, TooMuchForClient, TooMuchForAddress, TooMuchForLink, TooManyAnswers, TooMuchForStrangers}
use Rattle.ipx_limits.specs.declared.kind.Kind.{Kind}
use Rattle.ipx_limits.specs.declared.kind.Kind.TheVariants.{Ping, Answer, Question, Told, Other}
use Rattle.ipx_limits.specs.declared.network.Link.{Link}
use Rattle.ipx_limits.specs.declared.network.Link.TheVariants.{Tunnel, Frames}
use Rattle.ipx_limits.specs.declared.network.NetworkSetting.{NetworkSetting}
use Rattle.ipx_limits.specs.declared.rank.Rank.{Rank}
use Rattle.ipx_limits.specs.declared.rank.Rank.TheVariants.{Beyond, OfAddress, OfSpeaker, Little, Within}

-- any other number than a tunnel's is a link with frames
abbrev pub link_of : ℕ → Link
link_of number = if number == 0 then Tunnel else Frames

abbrev pub setting_of : ℕ → ℕ → ℕ → ℕ → ℕ → NetworkSetting
setting_of link rate share routes services =
    record { link = link_of link; rate = rate; share = share; routes = routes; services = services }

-- any other number than these is of no kind that has a limit of its own
abbrev pub kind_at : ℕ → Kind
kind_at number =
    if number == 1 then Ping
    else if number == 2 then Answer
    else if number == 3 then Question
    else if number == 4 then Told
    else Other

abbrev pub kind_number : Kind → ℕ
kind_number Other = 0
kind_number Ping = 1
kind_number Answer = 2
kind_number Question = 3
kind_number Told = 4

abbrev pub decision_number : Decision → ℕ
decision_number Passes = 0
decision_number TooManyPings = 1
decision_number TooManyQuestions = 2
decision_number TooManyAdvertisements = 3
decision_number TooMuchForRouter = 4
decision_number TooMuchForClient = 5
decision_number TooMuchForAddress = 6
decision_number TooMuchForLink = 7
decision_number TooManyAnswers = 8
decision_number TooMuchForStrangers = 9

-- any other number than these is beyond all parts
abbrev pub rank_at : ℕ → Rank
rank_at number =
    if number == 2 then OfAddress
    else if number == 3 then OfSpeaker
    else if number == 4 then Little
    else if number == 5 then Within
    else Beyond

-- 0 where there is no room
abbrev pub room_number : Option Rank → ℕ
room_number None = 0
room_number (Some Beyond) = 1
room_number (Some OfAddress) = 2
room_number (Some OfSpeaker) = 3
room_number (Some Little) = 4
room_number (Some Within) = 5
