-- Packets of a router's own by their envelope: the port on which they leave, from whom, and to whom.
use Rattle.std.specs.Prelude.{ℕ, Bool, List}
use Rattle.ipx_wire.specs.Write.{rip_packet}
use Rattle.ipx_wire.specs.WriteServices.{sap_packet}
use Rattle.ipx_wire.specs.declared.address.Address.{Address}
use Rattle.ipx_wire.specs.declared.rip.Operation.TheVariants.{Response}
use Rattle.ipx_wire.specs.declared.rip.RipEntry.{RipEntry}
use Rattle.ipx_wire.specs.declared.service.Service.{Service}
use Rattle.ipx_router.specs.Port.{Port, port_at, own_address, everyone, own_services, every_server, reply_to}
use Rattle.ipx_router.specs.Relays.{Sent}
use Rattle.ipx_router.specs.declared.advertising.envelope.Envelope.{Envelope}

-- ---- from the RIP process of a port

abbrev pub of_routes : List Port → ℕ → Address → Envelope
of_routes ports number to = record { port = number; from = own_address (port_at ports number); to = to }

-- to all nodes of its network, and to one that asked
abbrev pub routes_to_all : List Port → ℕ → Envelope
routes_to_all ports number = of_routes ports number (everyone (port_at ports number))

abbrev pub routes_reply : List Port → ℕ → Address → Envelope
routes_reply ports number source = of_routes ports number (reply_to (port_at ports number) source)

-- ---- from its SAP process

abbrev pub of_services : List Port → ℕ → Address → Envelope
of_services ports number to = record { port = number; from = own_services (port_at ports number); to = to }

abbrev pub services_to_all : List Port → ℕ → Envelope
services_to_all ports number = of_services ports number (every_server (port_at ports number))

abbrev pub services_reply : List Port → ℕ → Address → Envelope
services_reply ports number source = of_services ports number (reply_to (port_at ports number) source)

-- ---- responses in an envelope

abbrev pub entries_in : Envelope → List RipEntry → Sent
entries_in envelope page = record { port = envelope.port; link = envelope.to.node; bytes = rip_packet envelope.from envelope.to Response page }

-- the answer to a query for the nearest service says so
abbrev pub services_in : Bool → Envelope → List Service → Sent
services_in nearest envelope page = record { port = envelope.port; link = envelope.to.node; bytes = sap_packet envelope.from envelope.to nearest page }
