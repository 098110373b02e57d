-- Groups and switches beside other links.
use Rattle.std.proofs.Common.{◌≡◌, refl, true, false, ℕ, List, [], ◌∷◌, replicate, Option, Some, None}
use Rattle.std.specs.Prelude.{codes}
use Rattle.ipx_settings.specs.Names.{padded, host_room}
use Rattle.ipx_settings.specs.declared.link.Cards.{Cards}
use Rattle.ipx_settings.specs.declared.link.Cards.TheVariants as has
use Rattle.ipx_settings.specs.declared.network.NetworkBegun.TheVariants as network
use Rattle.ipx_settings.specs.declared.expected.Expected.TheVariants as expected
use Rattle.ipx_configuration.specs.Carriers.{no_carrier, carrier_at, no_host, no_name, group, switch}
use Rattle.ipx_configuration.specs.Configurations.{nothing, configuration_at, network_of, told}
use Rattle.ipx_configuration.specs.Endpoints.{endpoint_at, no_endpoint, no_six}
use Rattle.ipx_configuration.specs.Configured.{configured}
use Rattle.ipx_configuration.specs.Memory.{most_networks, most_links, network_list, link_list}
use Rattle.ipx_configuration.specs.Said.{no_internal, new_link}
use Rattle.ipx_configuration.specs.Wholes.{after_lines}
use Rattle.std.specs.Option.{option_map}
use Rattle.ipx_configuration.specs.declared.carrier.Carrier.{Carrier}
use Rattle.ipx_configuration.specs.declared.configuration.Capacity.{Capacity}
use Rattle.ipx_configuration.specs.declared.configuration.Configuration.{Configuration}
use Rattle.ipx_configuration.specs.declared.fault.Fault.{Fault}
use Rattle.ipx_configuration.specs.declared.fault.Fault.TheVariants as fault

abbrev capacity_with : Cards → Capacity
capacity_with cards = record { cards = cards; networks = 32; links = 32; clients = 4096; routes = 64; services = 32 }

abbrev blank : Configuration
blank =
    configuration_at (network_list (replicate most_networks (network_of 0 0 network.Nothing true)) 0)
    (link_list (replicate most_links (new_link 0 0 no_carrier)) 0) no_internal nothing

-- what the first lines of a file say
abbrev said : List (List ℕ) → Configuration
said lines = after_lines (capacity_with has.All) 1 blank lines

-- what is wrong with a second line
abbrev wrong_behind : List ℕ → List ℕ → Option Fault
wrong_behind first second = (told (capacity_with has.All) 2 second (said (first ∷ []))).fault

-- what carries the link of one line
abbrev carrier_by : List ℕ → Option Carrier
carrier_by text = option_map (λ link. link.carrier) (configured (capacity_with has.All) 0 (said (text ∷ [])))

abbrev a_group : List ℕ
a_group = codes "network 10 1 1500 qemu-mcast 230.0.0.1:1234 via 192.168.1.2 raw"

pub carries_a_group : carrier_by a_group
    ≡ Some (carrier_at group 2 (endpoint_at (192 ∷ 168 ∷ 1 ∷ 2 ∷ []) no_six 0 false) (endpoint_at (230 ∷ 0 ∷ 0 ∷ 1 ∷ []) no_six 1234 false) no_host no_name)
carries_a_group = refl

pub of_one_kind : wrong_behind a_group (codes "network 20 1 1500 qemu-mcast 230.0.0.1:1234 via 192.168.1.2 raw") ≡ Some (fault.OtherKind 1)
of_one_kind = refl

pub of_another_kind : wrong_behind a_group (codes "network 20 1 1497 qemu-mcast 230.0.0.1:1234 via 192.168.1.2 llc") ≡ None
of_another_kind = refl

pub by_another_card : wrong_behind a_group (codes "network 20 1 1500 qemu-mcast 230.0.0.1:1234 raw") ≡ None
by_another_card = refl

pub at_all_addresses : wrong_behind a_group (codes "network 20 1 1424 dosbox 0.0.0.0:1234") ≡ Some (fault.OtherPort 1)
at_all_addresses = refl

pub at_its_own_address : wrong_behind (codes "network 20 1 1424 udp 230.0.0.1:1234 5001 raw") a_group ≡ Some (fault.OtherPort 1)
at_its_own_address = refl

pub at_its_cards_address : wrong_behind a_group (codes "network 20 1 1424 dosbox 192.168.1.2:1234") ≡ None
at_its_cards_address = refl

abbrev a_switch : List ℕ
a_switch = codes "network 10 1 1500 vde /run/vde.ctl raw"

pub carries_a_switch : carrier_by a_switch ≡ Some (carrier_at switch 2 no_endpoint no_endpoint (padded host_room (codes "/run/vde.ctl")) no_name)
carries_a_switch = refl

pub of_a_switch : wrong_behind a_switch (codes "network 20 1 1500 vde /run/vde.ctl raw") ≡ Some (fault.OtherKind 1)
of_a_switch = refl

pub of_another_switch : wrong_behind a_switch (codes "network 20 1 1500 vde /run/vde2.ctl raw") ≡ None
of_another_switch = refl

-- ---- a system without switches

pub no_switch : (told (capacity_with has.Interfaces) 1 a_switch blank).fault ≡ Some (fault.Line expected.LinkOfSystem)
no_switch = refl
