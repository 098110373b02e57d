-- A line of a configuration says a rule of a filter.
use Rattle.std.proofs.Common.{◌≡◌, ℕ, List, Option, Some, None, true, false, refl}
use Rattle.std.specs.Prelude.{codes}
use Rattle.ipx_wire.specs.Name.{name_of}
use Rattle.ipx_settings.specs.Lines.{reading_of}
use Rattle.ipx_settings.specs.declared.link.Cards.TheVariants as has
use Rattle.ipx_edge.specs.declared.rule.Names.TheVariants.{All, Is, Begins}
use Rattle.ipx_edge.specs.declared.rule.Rule.{Rule}
use Rattle.ipx_edge.specs.declared.rule.Way.TheVariants.{In, Out}
use Rattle.ipx_edge.specs.declared.rule.What.{What}
use Rattle.ipx_edge.specs.declared.rule.What.TheVariants.{Kind, OnSocket, Nearest, Routes, Services}
use Rattle.ipx_configuration.specs.declared.rules.RuleSaid.{RuleSaid}
use Rattle.ipx_c.specs.RuleValues.{rule_of}
use Rattle.ipx_c.specs.SettingsValues.{context_of, rule_of_line}
use Rattle.ipx_c.specs.declared.rule_values.RuleValues.{RuleValues}

-- the same numbers: C has one struct for both
abbrev values : RuleSaid → RuleValues
values r =
    record { permits = r.permits; what = r.what; way = r.way; names = r.names; kind = r.kind; socket = r.socket; from = r.from; to = r.to; name = r.name }

-- the rule that a filter has of a line's words
abbrev filters : List ℕ → Option Rule
filters text = rule_of (values (rule_of_line (reading_of (context_of has.All false 4096) text).line))

abbrev denied : What → Option Rule
denied what = Some (record { permits = false; what = what })

type_20 : filters (codes "deny type 20") ≡ denied (Kind 20)
type_20 = refl

a_socket : filters (codes "deny socket 0457") ≡ denied (OnSocket (record { 0 = 0x457 }))
a_socket = refl

the_nearest : filters (codes "deny nearest") ≡ denied Nearest
the_nearest = refl

some_routes : filters (codes "deny route 1000-1FFF in") ≡ denied (Routes In (record { 0 = 0x1000 }) (record { 0 = 0x1FFF }))
some_routes = refl

all_services : filters (codes "deny service * * out") ≡ denied (Services Out 0xFFFF All)
all_services = refl

one_server : filters (codes "deny service 0004 LAB in") ≡ denied (Services In 4 (Is (codes "LAB")))
unfolding name_of
one_server = refl

permitted : filters (codes "permit service 0004 LAB* out") ≡ Some (record { permits = true; what = Services Out 4 (Begins (codes "LAB")) })
unfolding name_of
permitted = refl

-- what isn't said whole is no rule
half_a_rule : filters (codes "deny route 1000-1FFF") ≡ None
half_a_rule = refl
