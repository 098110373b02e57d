-- The rules of a network, with the numbers that the edge of a cable has for them.
use Rattle.std.specs.Prelude.{ℕ, ◌+◌, Bool, true, false, not, nat_lt, if◌then◌else◌, List, [], ◌∷◌, take, replicate, Option, slice_set}
use Rattle.ipx_settings.specs.declared.expected.Expected.{Expected}
use Rattle.ipx_settings.specs.declared.rule.Names.{Names}
use Rattle.ipx_settings.specs.declared.rule.Names.TheVariants as names
use Rattle.ipx_settings.specs.declared.rule.RuleBegun.{RuleBegun}
use Rattle.ipx_settings.specs.declared.rule.RuleBegun.TheVariants as rule
use Rattle.ipx_settings.specs.declared.rule.Way.{Way}
use Rattle.ipx_settings.specs.declared.rule.Way.TheVariants.{In, Out}
use Rattle.ipx_settings.specs.declared.rule.What.{What}
use Rattle.ipx_settings.specs.declared.rule.What.TheVariants as what
use Rattle.ipx_configuration.specs.Clashes.{first_of, when, line_fault}
use Rattle.ipx_configuration.specs.Lines.{if_right}
use Rattle.ipx_configuration.specs.declared.fault.Fault.{Fault}
use Rattle.ipx_configuration.specs.declared.fault.Fault.TheVariants as fault
use Rattle.ipx_configuration.specs.declared.rules.RuleSaid.{RuleSaid}
use Rattle.ipx_configuration.specs.declared.rules.Rules.{Rules}
use Rattle.ipx_configuration.specs.declared.said.NetworkSetting.{NetworkSetting}

-- ---- a rule

abbrev pub rule_at : ℕ → ℕ → ℕ → ℕ → ℕ → ℕ → ℕ → ℕ → List ℕ → RuleSaid
rule_at permits what way names kind socket from to name =
    record { permits = permits; what = what; way = way; names = names; kind = kind; socket = socket; from = from; to = to; name = name }

abbrev pub permits_number : Bool → ℕ
permits_number true = 1
permits_number false = 0

abbrev pub way_number : Way → ℕ
way_number In = 1
way_number Out = 2

abbrev pub names_number : Names → ℕ
names_number names.All = 0
names_number (names.Is name) = 1
names_number (names.Begins name) = 2

abbrev pub no_service : List ℕ
no_service = replicate 48 0

abbrev pub name_among : Names → List ℕ
name_among names.All = no_service
name_among (names.Is name) = name
name_among (names.Begins name) = name

-- what its line says; the numbers that it doesn't need are 0
abbrev pub rule_said : Bool → What → RuleSaid
rule_said permits (what.Kind n) = rule_at (permits_number permits) 1 0 0 n 0 0 0 no_service
rule_said permits (what.OnSocket n) = rule_at (permits_number permits) 2 0 0 0 n 0 0 no_service
rule_said permits what.Nearest = rule_at (permits_number permits) 3 0 0 0 0 0 0 no_service
rule_said permits (what.Routes way from to) = rule_at (permits_number permits) 4 (way_number way) 0 0 0 from to no_service
rule_said permits (what.Services way kind it) = rule_at (permits_number permits) 5 (way_number way) (names_number it) kind 0 0 0 (name_among it)

-- ---- all of a network: the first so many places of memory

abbrev pub most_rules : ℕ
most_rules = 64

abbrev pub no_rule : RuleSaid
no_rule = rule_at 0 0 0 0 0 0 0 0 no_service

-- that of a line of which all words were read
abbrev pub rule_in : Bool → RuleBegun → RuleSaid
rule_in permits (rule.Whole it) = rule_said permits it
rule_in permits other = no_rule

abbrev pub rules_at : List RuleSaid → ℕ → Rules
rules_at list count = record { list = list; count = count }

abbrev pub no_rules : Rules
no_rules = rules_at (replicate 64 no_rule) 0

abbrev pub rules_in : Rules → List RuleSaid
rules_in r = take r.count r.list

-- one more behind them, while there is room
abbrev pub with_rule : Rules → RuleSaid → Rules
with_rule r it = if nat_lt r.count most_rules then rules_at (slice_set r.list r.count it) (r.count + 1) else r

-- ---- its line

abbrev pub more_rules : Rules → Bool → RuleBegun → Rules
more_rules r permits (rule.Whole it) = with_rule r (rule_said permits it)
more_rules r permits other = r

abbrev pub rule_fault : Rules → Option Expected → Option Fault
rule_fault r own = first_of (when (not (nat_lt r.count most_rules)) fault.ManyRules ∷ line_fault own ∷ [])

abbrev pub with_rules : NetworkSetting → Rules → NetworkSetting
with_rules n rules = record {
  line = n.line;
  first = n.first;
  has_link = n.has_link;
  number = n.number;
  cost = n.cost;
  longest = n.longest;
  has_shares = n.has_shares;
  routes = n.routes;
  services = n.services;
  is_of_several = n.is_of_several;
  has_node = n.has_node;
  node = n.node;
  sockets = n.sockets;
  adopt_line = n.adopt_line;
  rules = rules;
  static_routes = n.static_routes;
  static_services = n.static_services;
  peers = n.peers;
}

-- a network behind the line of a rule, and what is wrong with that
abbrev pub rule_taken : NetworkSetting → Bool → RuleBegun → Option Expected → NetworkSetting × Option Fault
rule_taken n permits begun own = if_right (rule_fault n.rules own) n (with_rules n (more_rules n.rules permits begun))
