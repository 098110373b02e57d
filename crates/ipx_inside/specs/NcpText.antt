-- The line of an NCP packet.
use Rattle.std.specs.Prelude.{ℕ, List, [], ◌∷◌, ◌++◌, codes, decimal}
use Rattle.std.specs.Int.{to_be_bytes, w16}
use Rattle.hex.specs.Hex.{encode_upper}
use Rattle.ipx_inside.specs.Fields.{named}
use Rattle.ipx_inside.specs.NcpName.{function_name}
use Rattle.ipx_inside.specs.declared.ncp.Burst.{Burst}
use Rattle.ipx_inside.specs.declared.ncp.Caller.{Caller}
use Rattle.ipx_inside.specs.declared.ncp.Ncp.{Ncp}
use Rattle.ipx_inside.specs.declared.ncp.Ncp.TheVariants.{Create, Request, Reply, Destroy, Burst as InBurst, Busy, Other}
use Rattle.ipx_inside.specs.declared.ncp.Sub.{Sub}
use Rattle.ipx_inside.specs.declared.ncp.Sub.TheVariants.{Absent, Cut, Number}

-- `ncp WORD sequence S connection C task T`
unfoldable pub caller_text : List ℕ → Caller → List ℕ
caller_text word c =
    word ++ codes " sequence " ++ decimal c.sequence ++ codes " connection " ++ decimal c.connection ++ codes " task " ++ decimal c.task

-- ` sub N`, where there is one
unfoldable pub sub_text : Sub → List ℕ
sub_text Absent = []
sub_text Cut = codes " sub cut"
sub_text (Number number) = codes " sub " ++ decimal number

-- `.. function F sub N NAME`
unfoldable pub request_text : Caller → ℕ → Sub → List ℕ
request_text c function sub =
    caller_text (codes "ncp request") c ++ codes " function " ++ decimal function ++ sub_text sub ++ named (codes " ") (function_name function sub)

-- `.. completion C status S`
unfoldable pub reply_text : Caller → ℕ → ℕ → List ℕ
reply_text c completion status =
    caller_text (codes "ncp reply") c ++ codes " completion " ++ encode_upper (completion ∷ []) ++ codes " status " ++ encode_upper (status ∷ [])

-- whose packet of a burst it is, and which
unfoldable pub burst_ends : Burst → List ℕ
burst_ends b =
    codes "ncp burst" ++ codes " flags " ++ encode_upper (b.flags ∷ []) ++ codes " stream " ++ encode_upper (b.stream ∷ [])
    ++ codes " source " ++ decimal b.source ++ codes " destination " ++ decimal b.destination
    ++ codes " packet " ++ decimal b.packet ++ codes " delay " ++ decimal b.delay

-- what it has of the burst
unfoldable pub burst_piece : Burst → List ℕ
burst_piece b =
    codes " sequence " ++ decimal b.sequence ++ codes " acknowledge " ++ decimal b.acknowledge
    ++ codes " length " ++ decimal b.length ++ codes " offset " ++ decimal b.offset
    ++ codes " bytes " ++ decimal b.bytes ++ codes " missing " ++ decimal b.missing

unfoldable pub ncp_text : Ncp → List ℕ
ncp_text (Create c) = caller_text (codes "ncp create") c
ncp_text (Request c function sub) = request_text c function sub
ncp_text (Reply c completion status) = reply_text c completion status
ncp_text (Destroy c) = caller_text (codes "ncp destroy") c
ncp_text (InBurst b) = burst_ends b ++ burst_piece b
ncp_text (Busy c) = caller_text (codes "ncp busy") c
ncp_text (Other kind) = codes "ncp type " ++ encode_upper (to_be_bytes w16 kind)
