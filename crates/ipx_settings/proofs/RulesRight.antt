-- Rules, as far as they were read.
use Rattle.std.proofs.Common.{◌≡◌, ℕ, zero, suc, ◌+◌, ◌<◌, ◌≤◌, ◌==◌, nat_le, not, true, false, List, [], ◌∷◌, length, take, drop, refl, ap, subst, arith, Option, Some, None}
use Rattle.std.proofs.lemmas.Bool.{leb-true}
use Rattle.std.specs.List.{AllByRecursion, position}
use Rattle.std.specs.Option.{option_map, unwrap_or}
use Rattle.std.specs.Prelude.{Ok, codes}
use Rattle.ipx_settings.specs.Cutting.{cut_at, is_byte}
use Rattle.ipx_settings.specs.Links.{is_the}
use Rattle.ipx_settings.specs.Names.{hyphen}
use Rattle.ipx_settings.specs.Numbers.{number_of, hexadecimal_of}
use Rattle.ipx_settings.specs.Right.{IsInWord, IsWord}
use Rattle.ipx_settings.specs.RightLines.{Within, AreNames, IsWhat, IsRule}
use Rattle.ipx_settings.specs.Rules.{star, service_name_of, names_by, names_of, last_route, one_network, networks_by, networks_of, every_type, service_type_of, way_of, rule_first, rule_step, rule_ends}
use Rattle.ipx_settings.specs.declared.expected.Expected.TheVariants as expected
use Rattle.ipx_settings.specs.declared.rule.Names.{Names}
use Rattle.ipx_settings.specs.declared.rule.Names.TheVariants as names
use Rattle.ipx_settings.specs.declared.rule.RuleBegun.{RuleBegun}
use Rattle.ipx_settings.specs.declared.rule.RuleBegun.TheVariants as rule
use Rattle.ipx_settings.specs.declared.rule.What.TheVariants as what
use Rattle.ipx_settings.proofs.AddressesAgain.{one_value}
use Rattle.ipx_settings.proofs.AddressesRight.{bound, mapped, chosen, no_value, decimal_within, hexadecimal_within}
use Rattle.ipx_settings.proofs.LinksRight.{no_error, said_right, chosen_right, ok_right}

-- ---- the front of a word

each_take : (P : ℕ → Type 0) (n : ℕ) (xs : List ℕ) → AllByRecursion P xs → AllByRecursion P (take n xs)
each_take P zero xs all = tt
each_take P (suc n) [] all = tt
each_take P (suc n) (x ∷ xs) all = (all.0, each_take P n xs all.1)

front_each : (P : ℕ → Type 0) (byte : ℕ) (text front behind : List ℕ) → cut_at byte text ≡ Some (front, behind) → AllByRecursion P text → AllByRecursion P front
front_each P byte text front behind cut all = by (position (is_byte byte) text) cut
  where
    nothing : ◌≡◌ {A = Option (List ℕ × List ℕ)} None (Some (front, behind)) → ⊥
    nothing bad = cc

    by : (o : Option ℕ) → ◌≡◌ {A = Option (List ℕ × List ℕ)} (option_map (λ k. (take k text, drop (k + 1) text)) o) (Some (front, behind)) → AllByRecursion P front
    by None e = absurd (nothing e)
    by (Some k) e = subst (AllByRecursion P) (ap (λ (o : Option (List ℕ × List ℕ)). (unwrap_or o (text, text)).0) e) (each_take P k text all)

not_zero : (n : ℕ) → (n == 0) ≡ false → 0 < n
not_zero zero is = absurd cc
not_zero (suc n) is = omega arith

-- ---- names, networks and types

names_right : (word : List ℕ) (it : Names) → IsWord word → names_of word ≡ Some it → AreNames it
names_right word it one e = by (cut_at star word) refl e
  where
    by : (o : Option (List ℕ × List ℕ)) → cut_at star word ≡ o → names_by o word ≡ Some it → AreNames it
    by None cut f = mapped AreNames names.Is (service_name_of word) it (λ field read. (word, one, read)) f
    by (Some parts) cut f =
        chosen AreNames (not (length parts.1 == 0)) None _ it (λ _ g. absurd (no_value it g)) (λ _ f1.
        chosen AreNames (length parts.0 == 0) (Some names.All) _ it (λ _ g. subst AreNames (one_value names.All it g) tt)
        (λ some g. mapped AreNames names.Begins (service_name_of parts.0) it
        (λ field read. (parts.0, (not_zero (length parts.0) some, front_each IsInWord star word parts.0 parts.1 cut one.1), read)) g) f1) f

abbrev AreNetworks : ℕ × ℕ → Type 0
AreNetworks r = Within 1 last_route r.0 × Within 1 last_route r.1 × (r.0 ≤ r.1)

networks_right : (word : List ℕ) (r : ℕ × ℕ) → networks_of word ≡ Some r → AreNetworks r
networks_right word r e = by (cut_at hyphen word) e
  where
    by : (o : Option (List ℕ × List ℕ)) → networks_by o word ≡ Some r → AreNetworks r
    by None f = mapped AreNetworks (λ n. (n, n)) (one_network word) r (λ n read. let is = hexadecimal_within 8 1 last_route n word read in (is, is, omega arith)) f
    by (Some parts) f =
        bound AreNetworks (one_network parts.0) _ r (λ from read f1.
        bound AreNetworks (one_network parts.1) _ r (λ to also f2.
        chosen AreNetworks (nat_le from to) (Some (from, to)) None r
        (λ le g. subst AreNetworks (one_value (from, to) r g) (hexadecimal_within 8 1 last_route from parts.0 read, hexadecimal_within 8 1 last_route to parts.1 also, leb-true from to le))
        (λ _ g. absurd (no_value r g)) f2) f1) f

type_right : (word : List ℕ) (n : ℕ) → service_type_of word ≡ Some n → Within 0 65535 n
type_right word n e =
    chosen (Within 0 65535) (is_the word (codes "*")) (Some every_type) (hexadecimal_of 4 0 65535 word) n
    (λ _ f. subst (Within 0 65535) (one_value every_type n f) (omega arith, omega arith)) (λ _ f. hexadecimal_within 4 0 65535 n word f) e

-- ---- rules

abbrev pub RulePart : RuleBegun → Type 0
RulePart rule.Nothing = Unit {0}
RulePart rule.Kind = Unit {0}
RulePart rule.OnSocket = Unit {0}
RulePart rule.Routes = Unit {0}
RulePart (rule.RoutesTo from to) = AreNetworks (from, to)
RulePart rule.Services = Unit {0}
RulePart (rule.ServicesOf kind) = Within 0 65535 kind
RulePart (rule.ServicesNamed kind it) = Within 0 65535 kind × AreNames it
RulePart (rule.Whole it) = IsWhat it

first_part : (word : List ℕ) (next : RuleBegun) → rule_first word ≡ Ok next → RulePart next
first_part word next e =
    chosen_right RulePart (is_the word (codes "type")) _ _ next (λ _ f. ok_right RulePart rule.Kind next tt f) (λ _ e1.
    chosen_right RulePart (is_the word (codes "socket")) _ _ next (λ _ f. ok_right RulePart rule.OnSocket next tt f) (λ _ e2.
    chosen_right RulePart (is_the word (codes "nearest")) _ _ next (λ _ f. ok_right RulePart (rule.Whole what.Nearest) next tt f) (λ _ e3.
    chosen_right RulePart (is_the word (codes "route")) _ _ next (λ _ f. ok_right RulePart rule.Routes next tt f) (λ _ e4.
    chosen_right RulePart (is_the word (codes "service")) _ _ next (λ _ f. ok_right RulePart rule.Services next tt f) (λ _ f. absurd (no_error expected.Rule next f))
    e4) e3) e2) e1) e

pub rule_part : (it next : RuleBegun) (word : List ℕ) → IsWord word → RulePart it → rule_step it word ≡ Ok next → RulePart next
rule_part rule.Nothing next word one part e = first_part word next e
rule_part rule.Kind next word one part e =
    said_right RulePart expected.PacketType (λ n. rule.Whole (what.Kind n)) (number_of 0 255 word) next (λ n read. decimal_within 0 255 n word read) e
rule_part rule.OnSocket next word one part e =
    said_right RulePart expected.Socket (λ n. rule.Whole (what.OnSocket n)) (hexadecimal_of 4 1 65535 word) next (λ n read. hexadecimal_within 4 1 65535 n word read) e
rule_part rule.Routes next word one part e =
    said_right RulePart expected.Networks (λ r. rule.RoutesTo r.0 r.1) (networks_of word) next (λ r read. networks_right word r read) e
rule_part (rule.RoutesTo from to) next word one part e =
    said_right RulePart expected.Way (λ way. rule.Whole (what.Routes way from to)) (way_of word) next (λ way read. part) e
rule_part rule.Services next word one part e =
    said_right RulePart expected.ServiceType rule.ServicesOf (service_type_of word) next (λ n read. type_right word n read) e
rule_part (rule.ServicesOf kind) next word one part e =
    said_right RulePart expected.ServiceNames (rule.ServicesNamed kind) (names_of word) next (λ it read. (part, names_right word it one read)) e
rule_part (rule.ServicesNamed kind it) next word one part e =
    said_right RulePart expected.Way (λ way. rule.Whole (what.Services way kind it)) (way_of word) next (λ way read. part) e
rule_part (rule.Whole it) next word one part e = absurd (no_error expected.Nothing next e)

pub rule_right : (it : RuleBegun) → RulePart it → rule_ends it ≡ true → IsRule it
rule_right rule.Nothing part ends = absurd cc
rule_right rule.Kind part ends = absurd cc
rule_right rule.OnSocket part ends = absurd cc
rule_right rule.Routes part ends = absurd cc
rule_right (rule.RoutesTo from to) part ends = absurd cc
rule_right rule.Services part ends = absurd cc
rule_right (rule.ServicesOf kind) part ends = absurd cc
rule_right (rule.ServicesNamed kind it) part ends = absurd cc
rule_right (rule.Whole it) part ends = part
