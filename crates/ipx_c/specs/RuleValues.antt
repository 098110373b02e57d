-- A rule of a filter, as it crosses to C by plain values: which rule they are, if they are one, and the values of a rule.
use Rattle.std.specs.Prelude.{ℕ, Bool, true, false, ◌==◌, nat_lt, if◌then◌else◌, List, [], ◌∷◌, replicate, Option, None, Some}
use Rattle.std.specs.Option.{option_map, option_and_then}
use Rattle.ipx_wire.specs.Name.{name_of, name_field}
use Rattle.ipx_edge.specs.declared.rule.Names.{Names}
use Rattle.ipx_edge.specs.declared.rule.Names.TheVariants.{All, Is, Begins}
use Rattle.ipx_edge.specs.declared.rule.Rule.{Rule}
use Rattle.ipx_edge.specs.declared.rule.Way.{Way}
use Rattle.ipx_edge.specs.declared.rule.Way.TheVariants.{In, Out}
use Rattle.ipx_edge.specs.declared.rule.What.{What}
use Rattle.ipx_edge.specs.declared.rule.What.TheVariants.{Kind, OnSocket, Nearest, Routes, Services}
use Rattle.ipx_c.specs.Extends.{flag}
use Rattle.ipx_c.specs.declared.rule_values.TheConstants.{MOST_RULES}
use Rattle.ipx_c.specs.declared.rule_values.RuleValues.{RuleValues}

-- the most rules of a filter
abbrev pub most_rules : ℕ
most_rules = MOST_RULES

-- ---- which rule values are

abbrev pub way_of : ℕ → Option Way
way_of number = if number == 1 then Some In else if number == 2 then Some Out else None

-- a type of packets is one byte of them
abbrev pub kind_of : ℕ → Option What
kind_of kind = if nat_lt kind 256 then Some (Kind kind) else None

abbrev pub routes_of : RuleValues → Option What
routes_of v = option_map (λ way. Routes way (record { 0 = v.from }) (record { 0 = v.to })) (way_of v.way)

-- all names, one, or those that begin so: then the field has a name
abbrev pub names_of : ℕ → List ℕ → Option Names
names_of number field =
    if number == 0 then Some All
    else if number == 1 then option_map Is (name_of field)
    else if number == 2 then option_map Begins (name_of field)
    else None

abbrev pub services_of : RuleValues → Option What
services_of v = option_and_then (λ way. option_map (λ names. Services way v.kind names) (names_of v.names v.name)) (way_of v.way)

-- what is named, by its number
abbrev pub what_of : RuleValues → Option What
what_of v =
    if v.what == 1 then kind_of v.kind
    else if v.what == 2 then Some (OnSocket (record { 0 = v.socket }))
    else if v.what == 3 then Some Nearest
    else if v.what == 4 then routes_of v
    else if v.what == 5 then services_of v
    else None

abbrev pub permits_of : ℕ → Option Bool
permits_of number = if number == 0 then Some false else if number == 1 then Some true else None

-- the rule that has these values, if there is one
abbrev pub rule_of : RuleValues → Option Rule
rule_of v = option_and_then (λ permits. option_map (λ what. record { permits = permits; what = what }) (what_of v)) (permits_of v.permits)

-- the rules, where each is one
abbrev pub rules_of : List RuleValues → Option (List Rule)
rules_of [] = Some []
rules_of (v ∷ values) = option_and_then (λ rule. option_map (λ rules. rule ∷ rules) (rules_of values)) (rule_of v)

-- ---- which values a rule has

abbrev pub way_number : Way → ℕ
way_number In = 1
way_number Out = 2

abbrev pub names_number : Names → ℕ
names_number All = 0
names_number (Is name) = 1
names_number (Begins name) = 2

-- the name, with zeros behind, where there is one
abbrev pub names_field : Names → List ℕ
names_field All = replicate 48 0
names_field (Is name) = name_field name
names_field (Begins name) = name_field name

-- what needs no value has 0
abbrev pub nothing_named : Bool → RuleValues
nothing_named permits = record { permits = flag permits; what = 0; way = 0; names = 0; kind = 0; socket = 0; from = 0; to = 0; name = replicate 48 0 }

abbrev pub values_of : Rule → RuleValues
values_of rule = elim rule.what [
  | Kind kind ↦ record (nothing_named rule.permits) { what = 1; kind = kind }
  | OnSocket socket ↦ record (nothing_named rule.permits) { what = 2; socket = socket.0 }
  | Nearest ↦ record (nothing_named rule.permits) { what = 3 }
  | Routes way from to ↦ record (nothing_named rule.permits) { what = 4; way = way_number way; from = from.0; to = to.0 }
  | Services way kind names ↦
      record (nothing_named rule.permits) { what = 5; way = way_number way; kind = kind; names = names_number names; name = names_field names }
]
