-- What passes between a cable and the router, as C hears it: at a port that has these values, if they are a port's.
use Rattle.std.specs.Prelude.{◌≡◌, ℕ, ℤ, pos, ◌<◌, ◌≤◌, ◌⊎◌, List, length, take, Option, None, Some}
use Rattle.ipx_wire.specs.declared.network.Network.{Network}
use Rattle.ipx_router.specs.Port.{IsPort}
use Rattle.ipx_router.specs.declared.port.PortFault.{PortFault}
use Rattle.ipx_edge.specs.Claimed.{claimed}
use Rattle.ipx_edge.specs.Entered.{is_held, entered}
use Rattle.ipx_edge.specs.Filtered.{filtered}
use Rattle.ipx_edge.specs.Needless.{is_needless}
use Rattle.ipx_edge.specs.Numbered.{numbered}
use Rattle.ipx_edge.specs.declared.rule.Rule.{Rule}
use Rattle.ipx_edge.specs.declared.rule.Way.{Way}
use Rattle.ipx_c.specs.Codes.{fault_code, done}
use Rattle.ipx_c.specs.Extends.{flag}
use Rattle.ipx_c.specs.Makes.{IsBad}
use Rattle.ipx_c.specs.RuleValues.{most_rules, way_of, rules_of}
use Rattle.ipx_c.specs.Values.{port_of}
use Rattle.ipx_c.specs.declared.fault.Fault.{Fault}
use Rattle.ipx_c.specs.declared.fault.Fault.TheVariants.{Port, Way as BadWay, ManyRules, Rule as BadRule}
use Rattle.ipx_c.specs.declared.rule_values.RuleValues.{RuleValues}
use Rattle.ipx_c.specs.declared.values.PortValues.{PortValues}

-- the values are no port's: C hears why, and the bytes stay
abbrev pub IsRefused : PortValues → List ℕ → List ℕ → ℤ → Type 0
IsRefused v old new answer = (fault : PortFault) × IsBad v fault × (answer ≡ fault_code (Port fault)) × (new ≡ old)

-- what comes in is numbered, and what is held stays as it was
abbrev pub Comes : Option (List ℕ) → List ℕ → List ℕ → ℤ → Type 0
Comes (Some within) old new answer = (answer ≡ pos 1) × (new ≡ within)
Comes None old new answer = (answer ≡ pos 0) × (new ≡ old)

abbrev pub Enters : PortValues → List ℕ → List ℕ → ℤ → Type 0
Enters v old new answer = (IsPort (port_of v) × Comes (entered (port_of v) old) old new answer) ⊎ IsRefused v old new answer

abbrev pub IsHeld : PortValues → List ℕ → ℤ → Type 0
IsHeld v bytes answer = (IsPort (port_of v) × (answer ≡ pos (flag (is_held (port_of v) bytes)))) ⊎ IsRefused v bytes bytes answer

abbrev pub Numbers : PortValues → List ℕ → List ℕ → ℤ → Type 0
Numbers v old new answer = (IsPort (port_of v) × (answer ≡ done) × (new ≡ numbered (port_of v) old)) ⊎ IsRefused v old new answer

-- ---- filters

-- a way, a port and rules, as the values say
pub record IsFilter (way : ℕ) (v : PortValues) (values : List RuleValues) (on : Way) (rules : List Rule) : Type 0 where
  pub on_way : way_of way ≡ Some on
  pub port : IsPort (port_of v)
  pub few : length values ≤ most_rules
  pub rules_are : rules_of values ≡ Some rules

-- what passes stands at the front of the bytes, so many of them; if nothing does, they stay
abbrev pub Left : Option (List ℕ) → List ℕ → List ℕ → Option ℕ → Type 0
Left (Some within) old new (Some count) = (count ≤ length new) × (take count new ≡ within) × (length new ≡ length old)
Left None old new None = new ≡ old
Left (Some within) old new None = ⊥
Left None old new (Some count) = ⊥

pub record IsLeft (way : ℕ) (v : PortValues) (values : List RuleValues) (old new : List ℕ) (passes : Option ℕ) : Type 0 where
  pub on : Way
  pub rules : List Rule
  pub is : IsFilter way v values on rules
  pub passing : Left (filtered on (port_of v) rules old) old new passes

-- why there is no filter, the first that holds: the way is none, the values are no port's, there are too many rules, one is none
abbrev pub IsUnfiltered : ℕ → PortValues → List RuleValues → Fault → Type 0
IsUnfiltered way v values BadWay = way_of way ≡ None
IsUnfiltered way v values (Port why) = ((on : Way) × (way_of way ≡ Some on)) × IsBad v why
IsUnfiltered way v values ManyRules = ((on : Way) × (way_of way ≡ Some on)) × IsPort (port_of v) × (most_rules < length values)
IsUnfiltered way v values BadRule =
    ((on : Way) × (way_of way ≡ Some on)) × IsPort (port_of v) × (length values ≤ most_rules) × (rules_of values ≡ None)
IsUnfiltered way v values other = ⊥

-- what C hears of it, and the number that was lent for how many bytes pass: 0 where nothing does
abbrev pub Tells : Option ℕ → ℕ → ℤ → Type 0
Tells (Some count) passes answer = (answer ≡ pos 1) × (passes ≡ count)
Tells None passes answer = (answer ≡ pos 0) × (passes ≡ 0)

abbrev pub Filters : ℕ → PortValues → List RuleValues → List ℕ → List ℕ → ℕ → ℕ → ℤ → Type 0
Filters way v values old new before passes answer =
    ((count : Option ℕ) × IsLeft way v values old new count × Tells count passes answer)
    ⊎ ((why : Fault) × IsUnfiltered way v values why × (answer ≡ fault_code why) × (new ≡ old) × (passes ≡ before))

-- ---- others on the cable

-- the number that is claimed for the cable, or 0
abbrev pub Says : Option Network → ℕ → ℤ → Type 0
Says (Some network) number answer = (answer ≡ pos 1) × (number ≡ network.0)
Says None number answer = (answer ≡ pos 0) × (number ≡ 0)

abbrev pub Claims : PortValues → List ℕ → ℕ → ℕ → ℤ → Type 0
Claims v bytes before number answer =
    (IsPort (port_of v) × Says (claimed (port_of v) bytes) number answer) ⊎ (IsRefused v bytes bytes answer × (number ≡ before))

abbrev pub IsNeedless : PortValues → ℕ → List ℕ → ℤ → Type 0
IsNeedless v hops bytes answer = (IsPort (port_of v) × (answer ≡ pos (flag (is_needless (port_of v) hops bytes)))) ⊎ IsRefused v bytes bytes answer
