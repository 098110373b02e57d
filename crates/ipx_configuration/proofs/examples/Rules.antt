-- Below a network lines say which packets, routes and services pass.
use Rattle.std.proofs.Common.{◌≡◌, refl, true, false, ℕ, List, [], ◌∷◌, replicate, Option, Some, None}
use Rattle.std.specs.Option.{option_map, unwrap_or}
use Rattle.std.specs.Prelude.{codes}
use Rattle.ipx_settings.specs.declared.link.Cards.TheVariants as has
use Rattle.ipx_settings.specs.Names.{padded}
use Rattle.ipx_settings.specs.declared.expected.Expected.TheVariants as expected
use Rattle.ipx_settings.specs.declared.network.NetworkBegun.TheVariants as network
use Rattle.ipx_settings.specs.declared.rule.RuleBegun.TheVariants as rule
use Rattle.ipx_settings.specs.declared.rule.What.TheVariants as what
use Rattle.ipx_configuration.specs.Carriers.{no_carrier}
use Rattle.ipx_configuration.specs.Configurations.{nothing, configuration_at, network_of, told}
use Rattle.ipx_configuration.specs.Configured.{configured}
use Rattle.ipx_configuration.specs.Memory.{most_networks, most_links, network_list, link_list}
use Rattle.ipx_configuration.specs.Rules.{rule_at, no_service, no_rule, rules_at, rules_in, with_rules, rule_taken}
use Rattle.ipx_configuration.specs.Said.{no_internal, new_link}
use Rattle.ipx_configuration.specs.Wholes.{after_lines}
use Rattle.ipx_configuration.specs.declared.configuration.Capacity.{Capacity}
use Rattle.ipx_configuration.specs.declared.configuration.Configuration.{Configuration}
use Rattle.ipx_configuration.specs.declared.fault.Fault.{Fault}
use Rattle.ipx_configuration.specs.declared.fault.Fault.TheVariants as fault
use Rattle.ipx_configuration.specs.declared.rules.RuleSaid.{RuleSaid}

abbrev capacity : Capacity
capacity = record { cards = has.All; networks = 32; links = 32; clients = 4096; routes = 64; services = 32 }

abbrev blank : Configuration
blank =
    configuration_at (network_list (replicate most_networks (network_of 0 0 network.Nothing true)) 0)
    (link_list (replicate most_links (new_link 0 0 no_carrier)) 0) no_internal nothing

-- what the first lines of a file say
abbrev said : List (List ℕ) → Configuration
said lines = after_lines capacity 1 blank lines

-- the rules of the first network then
abbrev rules : List (List ℕ) → List RuleSaid
rules lines = unwrap_or (option_map (λ link. rules_in link.rules) (configured capacity 0 (said lines))) []

-- what is wrong with a line behind them
abbrev wrong_behind : List (List ℕ) → ℕ → List ℕ → Option Fault
wrong_behind lines number text = (told capacity number text (said lines)).fault

abbrev a_tunnel : List ℕ
a_tunnel = codes "network 10 1 1424 dosbox 0.0.0.0:213"

abbrev of_several : List ℕ
of_several = codes "network 10 1 1424"

pub in_their_order : rules (a_tunnel ∷ codes "permit route 1000 in" ∷ codes "deny route 1000-1fff in" ∷ [])
    ≡ rule_at 1 4 1 0 0 0 0x1000 0x1000 no_service ∷ rule_at 0 4 1 0 0 0 0x1000 0x1FFF no_service ∷ []
in_their_order = refl

pub below_a_network_and_its_links : rules (of_several ∷ codes "deny type 20" ∷ codes "link dosbox 213" ∷ codes "deny socket 0457" ∷ codes "deny nearest" ∷ [])
    ≡ rule_at 0 1 0 0 20 0 0 0 no_service ∷ rule_at 0 2 0 0 0 0x457 0 0 no_service ∷ rule_at 0 3 0 0 0 0 0 0 no_service ∷ []
below_a_network_and_its_links = refl

pub of_services : rules (a_tunnel ∷ codes "permit service 0004 LAB* out" ∷ codes "deny service * * out" ∷ [])
    ≡ rule_at 1 5 2 2 4 0 0 0 (padded 48 (codes "LAB")) ∷ rule_at 0 5 2 0 0xFFFF 0 0 0 no_service ∷ []
of_services = refl

pub a_wrong_one : wrong_behind (a_tunnel ∷ []) 2 (codes "deny type 256") ≡ Some (fault.Line expected.PacketType)
a_wrong_one = refl

pub one_too_many : (rule_taken (with_rules (network_of 1 0 network.Nothing true) (rules_at (replicate 64 no_rule) 64)) false (rule.Whole what.Nearest) None).1 ≡ Some fault.ManyRules
one_too_many = refl

pub above_all : wrong_behind [] 1 (codes "deny nearest") ≡ Some fault.BelowNetwork
above_all = refl
