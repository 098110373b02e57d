-- The words of the reasons for which packets are dropped.
use Rattle.std.specs.Prelude.{ℕ, List, ◌++◌, codes}
use Rattle.ipx_wire.specs.declared.packet.PacketFault.{PacketFault}
use Rattle.ipx_wire.specs.declared.packet.PacketFault.TheVariants.{Short as PacketShort, LengthSmall, LengthBeyond}
use Rattle.ipx_wire.specs.declared.rip.RipFault.{RipFault}
use Rattle.ipx_wire.specs.declared.rip.RipFault.TheVariants.{Short as RipShort, Operation, NoEntry, TooMany}
use Rattle.ipx_wire.specs.declared.sap.SapFault.{SapFault}
use Rattle.ipx_wire.specs.declared.sap.SapFault.TheVariants.{Short as SapShort, Operation as SapOperation, NoEntry as NoService, TooMany as TooManyServices}
use Rattle.ipx_router.specs.declared.why.Why.{Why}
use Rattle.ipx_router.specs.declared.why.Why.TheVariants.{NotRunning, Malformed, OwnEcho, BadSource, CrossedShort, CrossedFull, CrossedSeen, Elsewhere, OtherSocket, NotNeighbour, BadRip, BadSap, NearestReply, TooManyRouters, FarSide, NoRoute, TooLong, DownPort}

-- the names of the faults of packets, of routing information and of service advertising
abbrev pub packet_word : PacketFault → List ℕ
packet_word PacketShort = codes "Short"
packet_word LengthSmall = codes "LengthSmall"
packet_word LengthBeyond = codes "LengthBeyond"

abbrev pub rip_word : RipFault → List ℕ
rip_word RipShort = codes "Short"
rip_word (Operation number) = codes "Operation"
rip_word NoEntry = codes "NoEntry"
rip_word TooMany = codes "TooMany"

abbrev pub sap_word : SapFault → List ℕ
sap_word SapShort = codes "Short"
sap_word (SapOperation number) = codes "Operation"
sap_word NoService = codes "NoEntry"
sap_word TooManyServices = codes "TooMany"

-- the word of a reason: its name, and where a reader refused the bytes a colon and the name of the fault
abbrev pub why_word : Why → List ℕ
why_word NotRunning = codes "NotRunning"
why_word (Malformed fault) = codes "Malformed:" ++ packet_word fault
why_word OwnEcho = codes "OwnEcho"
why_word BadSource = codes "BadSource"
why_word CrossedShort = codes "CrossedShort"
why_word CrossedFull = codes "CrossedFull"
why_word CrossedSeen = codes "CrossedSeen"
why_word Elsewhere = codes "Elsewhere"
why_word OtherSocket = codes "OtherSocket"
why_word NotNeighbour = codes "NotNeighbour"
why_word (BadRip fault) = codes "BadRip:" ++ rip_word fault
why_word (BadSap fault) = codes "BadSap:" ++ sap_word fault
why_word NearestReply = codes "NearestReply"
why_word TooManyRouters = codes "TooManyRouters"
why_word FarSide = codes "FarSide"
why_word NoRoute = codes "NoRoute"
why_word TooLong = codes "TooLong"
why_word DownPort = codes "DownPort"
