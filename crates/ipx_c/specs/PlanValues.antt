-- What crosses to C in a struct, as a plan knows it.
use Rattle.std.specs.Prelude.{ℕ, ◌+◌, Bool, true, false, ◌==◌, nat_lt, if◌then◌else◌, Option, None, Some}
use Rattle.ipx_plan.specs.declared.carrier.Carrier.{Carrier}
use Rattle.ipx_plan.specs.declared.carrier.Carrier.TheVariants.{Tunnel, Card, Shared, Own}
use Rattle.ipx_plan.specs.declared.fate.Fate.{Fate}
use Rattle.ipx_plan.specs.declared.link.Link.{Link}
use Rattle.ipx_plan.specs.declared.origin.Cable.{Cable}
use Rattle.ipx_plan.specs.declared.origin.Cable.TheVariants.{Kept, Opened}
use Rattle.ipx_plan.specs.declared.origin.Origin.{Origin}
use Rattle.ipx_plan.specs.declared.origin.Tunnel.{Tunnel as TunnelOf}
use Rattle.ipx_plan.specs.declared.origin.Tunnel.TheVariants.{Absent, Stays, Again, New}
use Rattle.ipx_c.specs.Sizes.{most_ports, most_links}
use Rattle.ipx_c.specs.TunnelValues.{node_of}
use Rattle.ipx_c.specs.declared.plan_values.PlanLink.{PlanLink}
use Rattle.ipx_c.specs.declared.plan_values.PlanOrigin.{PlanOrigin}
use Rattle.ipx_c.specs.declared.plan_values.PlanFate.{PlanFate}

-- the most links of a configuration: one for each port, and those of the networks that have several
abbrev pub most_planned : ℕ
most_planned = most_ports + most_links

-- ---- links

-- the numbers of their carriers
abbrev pub tunnel_carrier : ℕ
tunnel_carrier = 0

abbrev pub card_carrier : ℕ
card_carrier = 1

abbrev pub shared_carrier : ℕ
shared_carrier = 2

abbrev pub own_carrier : ℕ
own_carrier = 3

-- the number is one of these
abbrev pub is_carrier : PlanLink → Bool
is_carrier v = nat_lt v.carrier 4

-- the carrier that has these values
abbrev pub carrier_of : PlanLink → Carrier
carrier_of v =
    if v.carrier == tunnel_carrier then Tunnel v.udp_port v.number else
    if v.carrier == card_carrier then Card v.number else
    if v.carrier == shared_carrier then Shared v.number else Own v.number

-- the link
abbrev pub planned_link : PlanLink → Link
planned_link v = record {
  network = record { 0 = v.network };
  carrier = carrier_of v;
  frames = v.frames;
  is_of_several = v.is_of_several;
  is_first = v.is_first;
  port = v.port;
  node = if v.has_node then Some (node_of v.node) else None;
  clients = v.clients;
  sockets = v.sockets;
}

-- ---- what a plan says

-- the number of a link; where there is none, the most that there can be
abbrev pub number_of : Option ℕ → ℕ
number_of None = most_planned
number_of (Some number) = number

abbrev pub is_kept : Cable → Bool
is_kept (Kept j) = true
is_kept (Opened i) = false

-- the link whose cable it is
abbrev pub cable_number : Cable → ℕ
cable_number (Kept j) = j
cable_number (Opened i) = i

abbrev pub tunnel_number : TunnelOf → ℕ
tunnel_number Absent = 0
tunnel_number Stays = 1
tunnel_number Again = 2
tunnel_number New = 3

abbrev pub origin_record : Origin → PlanOrigin
origin_record o = record {
  was = number_of o.was;
  cable = cable_number o.cable;
  tunnel = tunnel_number o.tunnel;
  is_kept = is_kept o.cable;
  is_as_before = o.is_as_before;
  has_other_clients = o.has_other_clients;
  has_other_sockets = o.has_other_sockets;
}

abbrev pub fate_record : Fate → PlanFate
fate_record f = record { becomes = number_of f.becomes; is_closed = f.is_closed; ends_tunnel = f.ends_tunnel }
