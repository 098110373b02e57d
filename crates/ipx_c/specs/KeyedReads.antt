-- What C reads of a tunnel with keyed nodes: what came of its last event, its clients, and who is remembered.
use Rattle.std.specs.Prelude.{ℕ, ◌++◌, length, Option, None, Some, Result, Ok, Err}
use Rattle.ipx_wire.specs.declared.node.Node.{Node}
use Rattle.ipx_tunnel.specs.declared.own.Own.{Own}
use Rattle.ipx_keyed.specs.declared.client.Client.{Client}
use Rattle.ipx_c.specs.Extends.{flag}
use Rattle.ipx_c.specs.Reads.{record_at}
use Rattle.ipx_c.specs.KeyedValues.{member_of}
use Rattle.ipx_c.specs.declared.fault.Fault.{Fault}
use Rattle.ipx_c.specs.declared.fault.Fault.TheVariants.{NoTunnel, NoRecord}
use Rattle.ipx_c.specs.declared.keyed_machine.KeyedMachine.{KeyedMachine}
use Rattle.ipx_c.specs.declared.keyed_values.KeyedMember.{KeyedMember}

-- ---- datagrams of the tunnel's own: pings of clients first

abbrev pub own_count : Option KeyedMachine → ℕ
own_count None = 0
own_count (Some machine) = length (machine.pings.items ++ machine.due.items)

abbrev pub ping_count : Option KeyedMachine → ℕ
ping_count None = 0
ping_count (Some machine) = length machine.pings.items

-- the one of that number, counted from 0
abbrev pub own_at : Option KeyedMachine → ℕ → Result Own Fault
own_at None index = Err NoTunnel
own_at (Some machine) index = record_at (machine.pings.items ++ machine.due.items) index

-- ---- the packet

-- the places that get it
abbrev pub receiver_count : Option KeyedMachine → ℕ
receiver_count None = 0
receiver_count (Some machine) = length machine.to.items

abbrev pub receiver_at : Option KeyedMachine → ℕ → Result Node Fault
receiver_at None index = Err NoTunnel
receiver_at (Some machine) index = record_at machine.to.items index

-- how many bytes of what was heard it is
abbrev pub carried_size : Option KeyedMachine → ℕ
carried_size None = 0
carried_size (Some machine) = machine.carried

-- the router hears it
abbrev pub heard_flag : Option KeyedMachine → ℕ
heard_flag None = 0
heard_flag (Some machine) = flag machine.is_heard

-- ---- clients

-- those that left
abbrev pub leaver_count : Option KeyedMachine → ℕ
leaver_count None = 0
leaver_count (Some machine) = length machine.left.items

abbrev pub leaver_at : Option KeyedMachine → ℕ → Result Client Fault
leaver_at None index = Err NoTunnel
leaver_at (Some machine) index = record_at machine.left.items index

-- those that there are
abbrev pub client_count : Option KeyedMachine → ℕ
client_count None = 0
client_count (Some machine) = length machine.tunnel.tables.clients

abbrev pub client_at : Option KeyedMachine → ℕ → Result Client Fault
client_at None index = Err NoTunnel
client_at (Some machine) index = record_at machine.tunnel.tables.clients index

-- those who are remembered
abbrev pub waiter_count : Option KeyedMachine → ℕ
waiter_count None = 0
waiter_count (Some machine) = length machine.tunnel.tables.waiting

abbrev pub waiter_at : Option KeyedMachine → ℕ → Result Client Fault
waiter_at None index = Err NoTunnel
waiter_at (Some machine) index = record_at machine.tunnel.tables.waiting index

-- what C has of one then
abbrev pub member_after : Result Client Fault → KeyedMember → KeyedMember
member_after (Ok client) before = member_of client
member_after (Err fault) before = before

abbrev pub found_or : Option Client → Result Client Fault
found_or None = Err NoRecord
found_or (Some client) = Ok client
