-- Rules that were written are read again as what they were.
use Rattle.std.proofs.Common.{◌≡◌, ◌≢◌, ℕ, ◌<◌, ◌≤◌, Bool, true, false, List, [], ◌∷◌, ◌++◌, length, refl, sym, ap, subst, ◌∙◌, arith, Some, None, ne_eqb, le-leb, append_assoc}
use Rattle.std.proofs.lemmas.Bool.Decides.{nat_tests}
use Rattle.std.proofs.lemmas.List.{length-append}
use Rattle.std.specs.List.{AllByRecursion, list_all}
use Rattle.std.specs.Prelude.{codes, decimal}
use Rattle.ipx_settings.specs.Beginnings.{said_by, IsLine}
use Rattle.ipx_settings.specs.Names.{padded, hyphen}
use Rattle.ipx_settings.specs.Right.{IsInWord, IsWord}
use Rattle.ipx_settings.specs.RightLines.{Within, IsServiceName, AreNames, IsWhat, IsRule}
use Rattle.ipx_settings.specs.Rules.{star, service_room, is_service_byte, is_service_name, service_name_of, names_of, last_route, networks_of, service_type_of, way_of}
use Rattle.ipx_settings.specs.WritingLinks.{name_in}
use Rattle.ipx_settings.specs.WritingLines.{number_word, socket_word, way_word, names_word, networks_word, what_words, rule_words, permit_word}
use Rattle.ipx_settings.specs.declared.line.Context.{Context}
use Rattle.ipx_settings.specs.declared.line.Line.TheVariants as line
use Rattle.ipx_settings.specs.declared.rule.Names.{Names}
use Rattle.ipx_settings.specs.declared.rule.Names.TheVariants as names
use Rattle.ipx_settings.specs.declared.rule.RuleBegun.{RuleBegun}
use Rattle.ipx_settings.specs.declared.rule.RuleBegun.TheVariants as rule
use Rattle.ipx_settings.specs.declared.rule.Way.{Way}
use Rattle.ipx_settings.specs.declared.rule.Way.TheVariants.{In, Out}
use Rattle.ipx_settings.specs.declared.rule.What.{What}
use Rattle.ipx_settings.specs.declared.rule.What.TheVariants as what
use Rattle.ipx_settings.proofs.AddressesAgain.{one_value}
use Rattle.ipx_settings.proofs.DigitsAgain.{route_again, number_without, number_is_word, socket_again, type_again, no_star, socket_is_word, decimal_is_word}
use Rattle.ipx_settings.proofs.LinksAgain.{literal}
use Rattle.ipx_settings.proofs.NamesAgain.{each_of, each_weaker, isnt, name_is}
use Rattle.ipx_settings.proofs.NumbersAgain.{number_again}
use Rattle.ipx_settings.proofs.Without.{Without, each-append, cut_front, cut_none}

-- ---- names of services

service_size : (name : List ℕ) → is_service_name name ≡ true → length name < 48
service_size name right = grind (arith, nat_tests)

service_bytes : (name : List ℕ) → is_service_name name ≡ true → list_all is_service_byte name ≡ true
service_bytes name right = grind arith

service_without : (byte : ℕ) (name : List ℕ) → is_service_name name ≡ true → is_service_byte byte ≡ false → Without byte name
service_without byte name right fails =
    each_weaker (λ c. is_service_byte c ≡ true) (λ c. c ≢ byte) (λ c passes. isnt is_service_byte byte c fails passes) name (each_of is_service_byte name (service_bytes name right))

-- what stands before the zeros of a name, without a star
service_by : (name field : List ℕ) (right : Bool) → is_service_name name ≡ right → service_name_of name ≡ Some field → (name_in field ≡ name) × Without star name
service_by name field false wrong read = (let none : None ≡ Some field = sym (rw wrong refl) ∙ read in cc)
service_by name field true right read =
    let same : padded service_room name ≡ field = one_value (padded service_room name) field (sym (rw right refl) ∙ read) in
    (ap name_in (sym same) ∙ name_is name service_room (service_size name right) (service_without 0 name right refl), service_without star name right refl)

pub service_name : (field : List ℕ) (is : IsServiceName field) → (name_in field ≡ is.0) × Without star is.0
service_name field is = service_by is.0 field (is_service_name is.0) refl is.2

names_again : (it : Names) → AreNames it → names_of (names_word it) ≡ Some it
names_again names.All are = refl
names_again (names.Is field) are =
    let is = service_name field are in
    rw (is.0, cut_none star are.0 is.1, are.2) refl
names_again (names.Begins field) are =
    let is = service_name field are in
    rw (is.0, cut_front star are.0 [] is.1, are.2, ne_eqb (length are.0) 0 (λ e. omega (arith, e, are.1.0))) refl

names_is_word : (it : Names) → AreNames it → IsWord (names_word it)
names_is_word names.All are = literal (codes "*") (omega arith) refl
names_is_word (names.Is field) are = subst IsWord (sym (service_name field are).0) are.1
names_is_word (names.Begins field) are =
    rw (service_name field are).0
    (omega (arith, length-append are.0 (codes "*")), each-append IsInWord are.0 (codes "*") are.1.1 ((refl, refl), tt))

-- ---- networks, types and ways

networks_again : (from to : ℕ) → Within 1 last_route from → Within 1 last_route to → from ≤ to → networks_of (networks_word from to) ≡ Some (from, to)
networks_again from to is also le =
    let split : networks_word from to ≡ number_word from ++ 45 ∷ number_word to = append_assoc (number_word from) (codes "-") (number_word to) in
    rw (split, cut_front hyphen (number_word from) (number_word to) (number_without hyphen from refl), route_again from is.0 is.1, route_again to also.0 also.1, le-leb from to le) refl

networks_is_word : (from to : ℕ) → IsWord (networks_word from to)
networks_is_word from to =
    let one = number_is_word from in
    let other = number_is_word to in (
      omega (arith, one.0, length-append (number_word from ++ codes "-") (number_word to), length-append (number_word from) (codes "-")),
      each-append IsInWord (number_word from ++ codes "-") (number_word to) (each-append IsInWord (number_word from) (codes "-") one.1 ((refl, refl), tt)) other.1,
    )

kind_again : (n : ℕ) → Within 0 65535 n → service_type_of (socket_word n) ≡ Some n
kind_again n is = rw (no_star n) (type_again n (omega (arith, is.1)))

way_again : (way : Way) → way_of (way_word way) ≡ Some way
way_again In = refl
way_again Out = refl

way_is_word : (way : Way) → IsWord (way_word way)
way_is_word In = literal (codes "in") (omega arith) refl
way_is_word Out = literal (codes "out") (omega arith) refl

-- ---- rules

first_said : (c : Context) (permits : Bool) (more : List (List ℕ)) → said_by c line.Nothing (permit_word permits ∷ more) ≡ said_by c (line.Rule permits rule.Nothing) more
first_said c true more = refl
first_said c false more = refl

what_said : (c : Context) (permits : Bool) (it : What) → IsWhat it → said_by c line.Nothing (what_words (permit_word permits) it) ≡ Some (line.Rule permits (rule.Whole it))
what_said c permits (what.Kind n) is = first_said c permits (codes "type" ∷ decimal n ∷ []) ∙ rw (number_again 0 255 n (omega (arith, is.1)) is.0 is.1) refl
what_said c permits (what.OnSocket n) is = first_said c permits (codes "socket" ∷ socket_word n ∷ []) ∙ rw (socket_again n is.0 (omega (arith, is.1))) refl
what_said c permits what.Nearest is = first_said c permits (codes "nearest" ∷ [])
what_said c permits (what.Routes way from to) is =
    first_said c permits (codes "route" ∷ networks_word from to ∷ way_word way ∷ []) ∙ rw (networks_again from to is.0 is.1 is.2, way_again way) refl
what_said c permits (what.Services way kind it) is =
    first_said c permits (codes "service" ∷ socket_word kind ∷ names_word it ∷ way_word way ∷ []) ∙ rw (kind_again kind is.0, names_again it is.1, way_again way) refl

pub rule_line : (c : Context) (permits : Bool) (it : RuleBegun) → IsRule it → IsLine c (line.Rule permits it) (rule_words (permit_word permits) it)
rule_line c permits (rule.Whole it) is = (what_said c permits it is, refl)
rule_line c permits rule.Nothing is = absurd is
rule_line c permits rule.Kind is = absurd is
rule_line c permits rule.OnSocket is = absurd is
rule_line c permits rule.Routes is = absurd is
rule_line c permits (rule.RoutesTo from to) is = absurd is
rule_line c permits rule.Services is = absurd is
rule_line c permits (rule.ServicesOf kind) is = absurd is
rule_line c permits (rule.ServicesNamed kind it) is = absurd is

permit_is_word : (permits : Bool) → IsWord (permit_word permits)
permit_is_word true = literal (codes "permit") (omega arith) refl
permit_is_word false = literal (codes "deny") (omega arith) refl

what_is_words : (first : List ℕ) (it : What) → IsWord first → IsWhat it → AllByRecursion IsWord (what_words first it)
what_is_words first (what.Kind n) one is = (one, (literal (codes "type") (omega arith) refl, (decimal_is_word n (omega (arith, is.1)), tt)))
what_is_words first (what.OnSocket n) one is = (one, (literal (codes "socket") (omega arith) refl, (socket_is_word n, tt)))
what_is_words first what.Nearest one is = (one, (literal (codes "nearest") (omega arith) refl, tt))
what_is_words first (what.Routes way from to) one is =
    (one, (literal (codes "route") (omega arith) refl, (networks_is_word from to, (way_is_word way, tt))))
what_is_words first (what.Services way kind it) one is =
    (one, (literal (codes "service") (omega arith) refl, (socket_is_word kind, (names_is_word it is.1, (way_is_word way, tt)))))

pub rule_is_words : (permits : Bool) (it : RuleBegun) → IsRule it → AllByRecursion IsWord (rule_words (permit_word permits) it)
rule_is_words permits (rule.Whole it) is = what_is_words (permit_word permits) it (permit_is_word permits) is
rule_is_words permits rule.Nothing is = absurd is
rule_is_words permits rule.Kind is = absurd is
rule_is_words permits rule.OnSocket is = absurd is
rule_is_words permits rule.Routes is = absurd is
rule_is_words permits (rule.RoutesTo from to) is = absurd is
rule_is_words permits rule.Services is = absurd is
rule_is_words permits (rule.ServicesOf kind) is = absurd is
rule_is_words permits (rule.ServicesNamed kind it) is = absurd is

what_count : (first : List ℕ) (it : What) → length (what_words first it) ≤ 5
what_count first (what.Kind n) = omega arith
what_count first (what.OnSocket n) = omega arith
what_count first what.Nearest = omega arith
what_count first (what.Routes way from to) = omega arith
what_count first (what.Services way kind it) = omega arith

pub rule_count : (first : List ℕ) (it : RuleBegun) → length (rule_words first it) ≤ 5
rule_count first (rule.Whole it) = what_count first it
rule_count first rule.Nothing = omega arith
rule_count first rule.Kind = omega arith
rule_count first rule.OnSocket = omega arith
rule_count first rule.Routes = omega arith
rule_count first (rule.RoutesTo from to) = omega arith
rule_count first rule.Services = omega arith
rule_count first (rule.ServicesOf kind) = omega arith
rule_count first (rule.ServicesNamed kind it) = omega arith
