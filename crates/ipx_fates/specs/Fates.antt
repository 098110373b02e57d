-- Why a packet goes no further, by number.
use Rattle.std.specs.Prelude.{ℕ, ◌==◌, if◌then◌else◌, Option, None, Some}
use Rattle.ipx_fates.specs.declared.reason.Reason.{Reason}
use Rattle.ipx_fates.specs.declared.reason.Reason.TheVariants.{TooLong, FalseSource, Stranger, NoRoom, NotAllowed, NoClient, NoIpx, OtherKind, SecondKind, ForAnother, OwnFrame, NoMemory, NotExtended, NotSent, NobodyThere, TooManyStrangers, TooMuchForClient, TooMuchForAddress, TooMuchForLine, TooMuchForLink, TooManyPings, TooManyQuestions, TooManyAdvertisements, TooManyAnswers, ForFarRouters, TooMuchForRouter, FromAfar, Denied, NotSealed, Repeated, OtherSession}

-- how many reasons there are
abbrev pub reasons_count : ℕ
reasons_count = 31

abbrev pub reason_number : Reason → ℕ
reason_number TooLong = 0
reason_number FalseSource = 1
reason_number Stranger = 2
reason_number NoRoom = 3
reason_number NotAllowed = 4
reason_number NoClient = 5
reason_number NoIpx = 6
reason_number OtherKind = 7
reason_number SecondKind = 8
reason_number ForAnother = 9
reason_number OwnFrame = 10
reason_number NoMemory = 11
reason_number NotExtended = 12
reason_number NotSent = 13
reason_number NobodyThere = 14
reason_number TooManyStrangers = 15
reason_number TooMuchForClient = 16
reason_number TooMuchForAddress = 17
reason_number TooMuchForLine = 18
reason_number TooMuchForLink = 19
reason_number TooManyPings = 20
reason_number TooManyQuestions = 21
reason_number TooManyAdvertisements = 22
reason_number TooManyAnswers = 23
reason_number ForFarRouters = 24
reason_number TooMuchForRouter = 25
reason_number FromAfar = 26
reason_number Denied = 27
reason_number NotSealed = 28
reason_number Repeated = 29
reason_number OtherSession = 30

-- the reason with a number
abbrev pub reason_at : ℕ → Option Reason
reason_at number =
    if number == 0 then Some TooLong
    else if number == 1 then Some FalseSource
    else if number == 2 then Some Stranger
    else if number == 3 then Some NoRoom
    else if number == 4 then Some NotAllowed
    else if number == 5 then Some NoClient
    else if number == 6 then Some NoIpx
    else if number == 7 then Some OtherKind
    else if number == 8 then Some SecondKind
    else if number == 9 then Some ForAnother
    else if number == 10 then Some OwnFrame
    else if number == 11 then Some NoMemory
    else if number == 12 then Some NotExtended
    else if number == 13 then Some NotSent
    else if number == 14 then Some NobodyThere
    else if number == 15 then Some TooManyStrangers
    else if number == 16 then Some TooMuchForClient
    else if number == 17 then Some TooMuchForAddress
    else if number == 18 then Some TooMuchForLine
    else if number == 19 then Some TooMuchForLink
    else if number == 20 then Some TooManyPings
    else if number == 21 then Some TooManyQuestions
    else if number == 22 then Some TooManyAdvertisements
    else if number == 23 then Some TooManyAnswers
    else if number == 24 then Some ForFarRouters
    else if number == 25 then Some TooMuchForRouter
    else if number == 26 then Some FromAfar
    else if number == 27 then Some Denied
    else if number == 28 then Some NotSealed
    else if number == 29 then Some Repeated
    else if number == 30 then Some OtherSession
    else None
