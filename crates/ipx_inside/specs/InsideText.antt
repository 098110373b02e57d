-- The line of what a packet holds.
use Rattle.std.specs.Prelude.{ℕ, List, ◌++◌, codes, decimal}
use Rattle.std.specs.Int.{to_be_bytes, w16}
use Rattle.hex.specs.Hex.{encode_upper}
use Rattle.ipx_inside.specs.Fields.{named}
use Rattle.ipx_inside.specs.Names.{socket_name}
use Rattle.ipx_inside.specs.NcpText.{ncp_text}
use Rattle.ipx_inside.specs.NetBiosText.{netbios_text}
use Rattle.ipx_inside.specs.SpxText.{spx_text}
use Rattle.ipx_inside.specs.declared.inside.Inside.{Inside}
use Rattle.ipx_inside.specs.declared.inside.Inside.TheVariants.{Rip, Sap, Ncp as InNcp, Spx as InSpx, NetBios as InNetBios, Watchdog, Serialization as Serial, DiagnosticRequest, DiagnosticResponse, Ping as InPing, Cut, Named, Unknown}
use Rattle.ipx_inside.specs.declared.inside.Ping.{Ping}
use Rattle.ipx_inside.specs.declared.inside.Ping.TheVariants.{Registers, Asks as AsksAll, Answers as AnswersOne}
use Rattle.ipx_inside.specs.declared.inside.Protocol.{Protocol}
use Rattle.ipx_inside.specs.declared.inside.Protocol.TheVariants.{Ncp as OfNcp, Spx as OfSpx, NetBios as OfNetBios, Diagnostics as OfDiagnostics, Serialization as OfSerialization}
use Rattle.ipx_inside.specs.declared.inside.Signal.{Signal}
use Rattle.ipx_inside.specs.declared.inside.Signal.TheVariants.{Asks, Answers, Waits}

abbrev pub signal_word : Signal → List ℕ
signal_word Asks = codes "watchdog asks connection "
signal_word Answers = codes "watchdog answers connection "
signal_word Waits = codes "broadcast waits connection "

abbrev pub ping_word : Ping → List ℕ
ping_word Registers = codes "ping registers"
ping_word AsksAll = codes "ping asks"
ping_word AnswersOne = codes "ping answers"

abbrev pub cut_word : Protocol → List ℕ
cut_word OfNcp = codes "ncp cut"
cut_word OfSpx = codes "spx cut"
cut_word OfNetBios = codes "netbios cut"
cut_word OfDiagnostics = codes "diagnostics cut"
cut_word OfSerialization = codes "serialization cut"

-- `diagnostics response version 1.1 socket SOCKET components N`
unfoldable pub response_text : ℕ → ℕ → ℕ → ℕ → List ℕ
response_text major minor socket components =
    codes "diagnostics response version " ++ decimal major ++ codes "." ++ decimal minor ++ codes " socket " ++ encode_upper (to_be_bytes w16 socket)
    ++ codes " components " ++ decimal components

unfoldable pub inside_text : Inside → List ℕ
inside_text Rip = codes "rip"
inside_text Sap = codes "sap"
inside_text (InNcp ncp) = ncp_text ncp
inside_text (InSpx spx) = spx_text spx
inside_text (InNetBios netbios) = netbios_text netbios
inside_text (Watchdog signal connection) = signal_word signal ++ decimal connection
inside_text (Serial number) = codes "serialization number " ++ encode_upper number
inside_text (DiagnosticRequest excluded) = codes "diagnostics request excluded " ++ decimal excluded
inside_text (DiagnosticResponse major minor socket components) = response_text major minor socket.0 components
inside_text (InPing ping) = ping_word ping
inside_text (Cut protocol) = cut_word protocol
inside_text (Named socket) = codes "socket " ++ encode_upper (to_be_bytes w16 socket.0) ++ named (codes " ") (socket_name socket.0)
inside_text Unknown = codes "unknown"
