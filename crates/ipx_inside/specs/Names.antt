-- The names of well-known sockets, and of types of services (Novell's published lists, as tshark has them).
use Rattle.std.specs.Prelude.{ℕ, ◌==◌, if◌then◌else◌, List, [], codes}

-- the name of a socket; none for any other
abbrev pub socket_name : ℕ → List ℕ
socket_name socket =
    if socket == 0x0002 then codes "ping" else
    if socket == 0x0451 then codes "NCP" else
    if socket == 0x0452 then codes "SAP" else
    if socket == 0x0453 then codes "RIP" else
    if socket == 0x0455 then codes "NetBIOS" else
    if socket == 0x0456 then codes "diagnostics" else
    if socket == 0x0457 then codes "serialization" else
    if socket == 0x0550 then codes "NWLink SMB server" else
    if socket == 0x0551 then codes "NWLink SMB name query" else
    if socket == 0x0552 then codes "NWLink SMB redirector" else
    if socket == 0x0553 then codes "NWLink SMB mailslot datagram" else
    if socket == 0x0554 then codes "NWLink SMB messenger" else
    if socket == 0x0555 then codes "NWLink SMB browser" else
    if socket == 0x85BE then codes "EIGRP for IPX" else
    if socket == 0x9001 then codes "NetWare Link Services Protocol" else
    if socket == 0x9004 then codes "IPX WAN" else
    if socket == 0x900F then codes "SNMP agent" else
    if socket == 0x9010 then codes "SNMP sink" else
    if socket == 0x9086 then codes "Novell ping" else
    if socket == 0x9091 then codes "TCP tunnel" else
    if socket == 0x9092 then codes "UDP tunnel" else []

-- the name of a type of services; none for any other
abbrev pub service_name : ℕ → List ℕ
service_name kind =
    if kind == 0x0001 then codes "user" else
    if kind == 0x0002 then codes "user group" else
    if kind == 0x0003 then codes "print queue" else
    if kind == 0x0004 then codes "file server" else
    if kind == 0x0005 then codes "job server" else
    if kind == 0x0006 then codes "gateway" else
    if kind == 0x0007 then codes "print server" else
    if kind == 0x0008 then codes "archive queue" else
    if kind == 0x0009 then codes "archive server" else
    if kind == 0x000A then codes "job queue" else
    if kind == 0x000B then codes "administration" else
    if kind == 0x0020 then codes "NetBIOS" else
    if kind == 0x0024 then codes "remote bridge" else
    if kind == 0x0047 then codes "advertising print server" else
    if kind == 0x0098 then codes "NetWare access server" else
    if kind == 0x0107 then codes "remote console" else
    if kind == 0x026B then codes "time synchronization" else
    if kind == 0x0278 then codes "directory server" else
    if kind == 0x030C then codes "HP JetDirect" else
    if kind == 0x0640 then codes "gateway services for NetWare" else []
