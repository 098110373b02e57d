-- Rules of a filter: what each names, and what the first of them that names something says of it (own).
use Rattle.std.specs.Prelude.{ℕ, Bool, true, false, ◌==◌, ◌&&◌, ◌||◌, nat_le, nat_eq, if◌then◌else◌, List, [], ◌∷◌, length, take, Option, None, Some, Result, Ok, Err}
use Rattle.std.specs.Cmp.Lexicographic.{pointwise}
use Rattle.ipx_wire.specs.Numbers.{every_service}
use Rattle.ipx_wire.specs.Packet.{Parts}
use Rattle.ipx_wire.specs.Sap.{sap_of}
use Rattle.ipx_wire.specs.declared.rip.RipEntry.{RipEntry}
use Rattle.ipx_wire.specs.declared.sap.Sap.{Sap}
use Rattle.ipx_wire.specs.declared.sap.Sap.TheVariants.{Query, Response}
use Rattle.ipx_wire.specs.declared.sap.SapFault.{SapFault}
use Rattle.ipx_wire.specs.declared.sap_entries.SapEntry.{SapEntry}
use Rattle.ipx_router.specs.Port.{Port}
use Rattle.ipx_router.specs.Why.{is_near, is_for_sap}
use Rattle.ipx_edge.specs.declared.rule.Names.{Names}
use Rattle.ipx_edge.specs.declared.rule.Names.TheVariants.{All, Is, Begins}
use Rattle.ipx_edge.specs.declared.rule.Rule.{Rule}
use Rattle.ipx_edge.specs.declared.rule.Way.{Way}
use Rattle.ipx_edge.specs.declared.rule.Way.TheVariants.{In, Out}
use Rattle.ipx_edge.specs.declared.rule.What.{What}
use Rattle.ipx_edge.specs.declared.rule.What.TheVariants.{Kind, OnSocket, Nearest, Routes, Services}

-- ---- packets

-- asks for the nearest service
abbrev pub is_nearest_query : Result Sap SapFault → Bool
is_nearest_query (Ok (Query nearest kind)) = nearest
is_nearest_query (Ok (Response nearest entries)) = false
is_nearest_query (Err fault) = false

-- that, of the port's network
abbrev pub asks_nearest : Port → Parts → Bool
asks_nearest port p = is_near port p.header && is_for_sap p.header && is_nearest_query (sap_of p.payload)

-- packets that a rule names: of a type, from a socket or to it, or queries for the nearest service
abbrev pub names_packet : Port → Parts → What → Bool
names_packet port p (Kind kind) = p.header.kind == kind
names_packet port p (OnSocket socket) = (p.header.destination.socket.0 == socket.0) || (p.header.source.socket.0 == socket.0)
names_packet port p Nearest = asks_nearest port p
names_packet port p (Routes way from to) = false
names_packet port p (Services way kind names) = false

-- ---- routes and services

abbrev pub same_way : Way → Way → Bool
same_way In In = true
same_way In Out = false
same_way Out In = false
same_way Out Out = true

-- routes that a rule names: to networks from one to another, both too
abbrev pub names_route : Way → RipEntry → What → Bool
names_route way e (Kind kind) = false
names_route way e (OnSocket socket) = false
names_route way e Nearest = false
names_route way e (Routes on from to) = same_way on way && nat_le from.0 e.network.0 && nat_le e.network.0 to.0
names_route way e (Services on kind names) = false

abbrev pub same_bytes : List ℕ → List ℕ → Bool
same_bytes a b = pointwise nat_eq a b

-- names are all, also none; or one; or those that begin so
abbrev pub is_among_names : Names → Option (List ℕ) → Bool
is_among_names All name = true
is_among_names (Is one) None = false
is_among_names (Is one) (Some name) = same_bytes one name
is_among_names (Begins front) None = false
is_among_names (Begins front) (Some name) = same_bytes front (take (length front) name)

-- services that a rule names: of a type, or of all types, with such a name
abbrev pub names_service : Way → SapEntry → What → Bool
names_service way e (Kind kind) = false
names_service way e (OnSocket socket) = false
names_service way e Nearest = false
names_service way e (Routes on from to) = false
names_service way e (Services on kind names) = same_way on way && ((kind == every_service) || (kind == e.kind)) && is_among_names names e.name

-- ---- the first that names it

-- what no rule names is permitted
abbrev pub permits : (What → Bool) → List Rule → Bool
permits names [] = true
permits names (rule ∷ rules) = if names rule.what then rule.permits else permits names rules
