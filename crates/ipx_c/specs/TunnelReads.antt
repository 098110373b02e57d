-- What C reads of a tunnel: what came of its last event, and its clients.
use Rattle.std.specs.Prelude.{ℕ, List, length, Option, None, Some, Result, Ok, Err}
use Rattle.ipx_wire.specs.declared.node.Node.{Node}
use Rattle.ipx_tunnel.specs.declared.client.Client.{Client}
use Rattle.ipx_tunnel.specs.declared.own.Own.{Own}
use Rattle.ipx_c.specs.Extends.{flag}
use Rattle.ipx_c.specs.Reads.{record_at}
use Rattle.ipx_c.specs.TunnelValues.{own_record, client_record}
use Rattle.ipx_c.specs.declared.fault.Fault.{Fault}
use Rattle.ipx_c.specs.declared.fault.Fault.TheVariants.{NoTunnel, NoRecord}
use Rattle.ipx_c.specs.declared.tunnel_machine.TunnelMachine.{TunnelMachine}
use Rattle.ipx_c.specs.declared.tunnel_values.ClientRecord.{ClientRecord}
use Rattle.ipx_c.specs.declared.tunnel_values.OwnRecord.{OwnRecord}

-- ---- datagrams of the tunnel's own

abbrev pub own_count : Option TunnelMachine → ℕ
own_count None = 0
own_count (Some machine) = length machine.own.items

-- the one of that number, counted from 0
abbrev pub own_at : Option TunnelMachine → ℕ → Result Own Fault
own_at None index = Err NoTunnel
own_at (Some machine) index = record_at machine.own.items index

-- what C has of it then
abbrev pub own_after : Result Own Fault → OwnRecord → OwnRecord
own_after (Ok own) before = own_record own
own_after (Err fault) before = before

-- ---- the packet

-- the places that get it
abbrev pub receiver_count : Option TunnelMachine → ℕ
receiver_count None = 0
receiver_count (Some machine) = length machine.to.items

abbrev pub receiver_at : Option TunnelMachine → ℕ → Result Node Fault
receiver_at None index = Err NoTunnel
receiver_at (Some machine) index = record_at machine.to.items index

-- how many bytes of what was heard it is
abbrev pub carried_size : Option TunnelMachine → ℕ
carried_size None = 0
carried_size (Some machine) = machine.carried

-- the router hears it
abbrev pub heard_flag : Option TunnelMachine → ℕ
heard_flag None = 0
heard_flag (Some machine) = flag machine.is_heard

-- ---- clients

-- those that left
abbrev pub leaver_count : Option TunnelMachine → ℕ
leaver_count None = 0
leaver_count (Some machine) = length machine.left.items

abbrev pub leaver_at : Option TunnelMachine → ℕ → Result Node Fault
leaver_at None index = Err NoTunnel
leaver_at (Some machine) index = record_at machine.left.items index

-- those that there are
abbrev pub client_count : Option TunnelMachine → ℕ
client_count None = 0
client_count (Some machine) = length machine.tunnel.clients

abbrev pub client_at : Option TunnelMachine → ℕ → Result Client Fault
client_at None index = Err NoTunnel
client_at (Some machine) index = record_at machine.tunnel.clients index

abbrev pub client_after : Result Client Fault → ClientRecord → ClientRecord
client_after (Ok client) before = client_record client
client_after (Err fault) before = before

-- ---- places

-- what C has of a place then
abbrev pub place_after : Result Node Fault → List ℕ → List ℕ
place_after (Ok node) before = node.0
place_after (Err fault) before = before

abbrev pub found_or : Option Node → Result Node Fault
found_or None = Err NoRecord
found_or (Some node) = Ok node
