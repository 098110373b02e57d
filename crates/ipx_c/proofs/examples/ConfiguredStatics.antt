-- A line of a configuration says a route or a service that can be written in a neighbour's name.
use Rattle.std.proofs.Common.{◌≡◌, ℕ, List, [], ◌∷◌, Option, Some, None, false, refl}
use Rattle.std.specs.Prelude.{codes, replicate}
use Rattle.ipx_settings.specs.Lines.{reading_of}
use Rattle.ipx_settings.specs.declared.link.Cards.TheVariants as has
use Rattle.ipx_settings.specs.declared.line.Line.{Line}
use Rattle.ipx_wire.specs.Name.{name_of}
use Rattle.ipx_wire.specs.declared.rip.RipEntry.{RipEntry}
use Rattle.ipx_wire.specs.declared.service.Service.{Service}
use Rattle.ipx_configuration.specs.declared.statics.StaticRouteSaid.{StaticRouteSaid}
use Rattle.ipx_configuration.specs.declared.statics.StaticServiceSaid.{StaticServiceSaid}
use Rattle.ipx_c.specs.SettingsValues.{context_of, route_of_line, service_of_line}
use Rattle.ipx_c.specs.Writes.{address_with, entry_of, services_of}
use Rattle.ipx_c.specs.declared.values.RouteEntry.{RouteEntry}
use Rattle.ipx_c.specs.declared.values.ServiceEntry.{ServiceEntry}

-- the same numbers: C has one struct for both
abbrev route_entry : StaticRouteSaid → RouteEntry
route_entry s = record { network = s.route.network; hops = s.route.hops; ticks = s.route.ticks }

abbrev service_entry : StaticServiceSaid → ServiceEntry
service_entry s = record {
  name = s.service.name;
  network = s.service.network;
  node = s.service.node;
  socket = s.service.socket;
  kind = s.service.kind;
  hops = s.service.hops;
}

abbrev said : List ℕ → Line
said text = (reading_of (context_of has.All false 4096) text).line

-- the route that is written, and the services, if they have names
abbrev route : List ℕ → RipEntry
route text = entry_of (route_entry (route_of_line (said text)))

abbrev services : List ℕ → Option (List Service)
services text = services_of (service_entry (service_of_line (said text)) ∷ [])

abbrev a_server : List ℕ
a_server = 0 ∷ 0 ∷ 0 ∷ 0 ∷ 0 ∷ 1 ∷ []

a_route : route (codes "route A1 2 3 via 00001B0204AA") ≡ record { network = record { 0 = 0xA1 }; hops = 2; ticks = 3 }
a_route = refl

its_node : (route_of_line (said (codes "route A1 2 3 via 00001B0204AA"))).via ≡ 0 ∷ 0 ∷ 0x1B ∷ 2 ∷ 4 ∷ 0xAA ∷ []
its_node = refl

a_service : services (codes "service 4 LAB A1.000000000001.451 5 via 00001B0204AA")
    ≡ Some (record { kind = 4; name = codes "LAB"; address = address_with 0xA1 a_server 0x451; hops = 5 } ∷ [])
unfolding name_of
a_service = refl

-- what isn't said whole is no route, and no service
half_a_route : (route_of_line (said (codes "route A1 2 3 via"))).via ≡ replicate 6 0
half_a_route = refl

half_a_service : services (codes "service 4 LAB A1.000000000001.451 5 via") ≡ None
unfolding name_of
half_a_service = refl
