-- Which rules values are.
use Rattle.std.proofs.Common.{◌≡◌, ℕ, List, [], ◌∷◌, ◌++◌, None, Some, true, false, refl, codes, replicate}
use Rattle.ipx_wire.specs.Name.{name_of}
use Rattle.ipx_edge.specs.declared.rule.Names.TheVariants.{Begins}
use Rattle.ipx_edge.specs.declared.rule.Way.TheVariants.{In, Out}
use Rattle.ipx_edge.specs.declared.rule.What.TheVariants.{Kind, Routes, Services}
use Rattle.ipx_c.specs.RuleValues.{rule_of, rules_of}
use Rattle.ipx_c.specs.declared.rule_values.RuleValues.{RuleValues}

-- all bytes 0, which are no rule
abbrev blank : RuleValues
blank = record { permits = 0; what = 0; way = 0; names = 0; kind = 0; socket = 0; from = 0; to = 0; name = replicate 48 0 }

no_rule : rule_of blank ≡ None
no_rule = refl

-- packets of type 20 are denied
abbrev broadcasts : RuleValues
broadcasts = record blank { what = 1; kind = 20 }

denies_broadcasts : rule_of broadcasts ≡ Some (record { permits = false; what = Kind 20 })
denies_broadcasts = refl

-- no packet has type 256
no_type : rule_of (record broadcasts { kind = 256 }) ≡ None
no_type = refl

-- what is neither permitted nor denied
no_verdict : rule_of (record broadcasts { permits = 2 }) ≡ None
no_verdict = refl

-- routes to 1000h through 1FFFh that come in are permitted; without a way there is no rule
abbrev routes : ℕ → RuleValues
routes way = record blank { permits = 1; what = 4; way = way; from = 0x1000; to = 0x1fff }

permits_routes : rule_of (routes 1) ≡ Some (record { permits = true; what = Routes In (record { 0 = 0x1000 }) (record { 0 = 0x1fff }) })
permits_routes = refl

no_way : rule_of (routes 0) ≡ None
no_way = refl

-- file servers whose names begin so aren't advertised; where nothing stands for the name, there is no rule
abbrev servers : List ℕ → RuleValues
servers name = record blank { what = 5; way = 2; kind = 4; names = 2; name = name }

denies_servers : rule_of (servers (codes "LAB" ++ 0 ∷ replicate 44 255)) ≡ Some (record { permits = false; what = Services Out 4 (Begins (codes "LAB")) })
unfolding name_of
denies_servers = refl

no_name : rule_of (servers (replicate 48 0)) ≡ None
unfolding name_of
no_name = refl

-- one that is none is none among others
none_among : rules_of (broadcasts ∷ routes 1 ∷ blank ∷ []) ≡ None
none_among = refl
