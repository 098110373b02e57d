-- Routes and services that were written are read again as what they were.
use Rattle.std.proofs.Common.{◌≡◌, ℕ, ◌≤◌, Bool, true, false, List, ◌∷◌, ◌++◌, length, refl, sym, ap, subst, ◌∙◌, arith, Some, None, append_assoc}
use Rattle.std.proofs.lemmas.List.{length-append}
use Rattle.std.specs.List.{AllByRecursion, list_all}
use Rattle.std.specs.Prelude.{codes}
use Rattle.ipx_settings.specs.Beginnings.{IsLine}
use Rattle.ipx_settings.specs.Cutting.{dot}
use Rattle.ipx_settings.specs.Right.{IsInWord, IsWord}
use Rattle.ipx_settings.specs.RightLines.{IsNode, IsPlainName, IsServiceAddress, IsRoute, IsService}
use Rattle.ipx_settings.specs.Rules.{service_name_of}
use Rattle.ipx_settings.specs.Statics.{most_hops, is_plain_byte, plain_name_of, host_node_of, service_address_of}
use Rattle.ipx_settings.specs.WritingLinks.{name_in}
use Rattle.ipx_settings.specs.WritingLines.{bytes_digits, number_word, socket_word, via_words, route_words, service_address_word, service_words}
use Rattle.ipx_settings.specs.declared.line.Context.{Context}
use Rattle.ipx_settings.specs.declared.line.Line.TheVariants as line
use Rattle.ipx_settings.specs.declared.statics.RouteBegun.{RouteBegun}
use Rattle.ipx_settings.specs.declared.statics.RouteBegun.TheVariants as route
use Rattle.ipx_settings.specs.declared.statics.ServiceAddress.{ServiceAddress}
use Rattle.ipx_settings.specs.declared.statics.ServiceBegun.{ServiceBegun}
use Rattle.ipx_settings.specs.declared.statics.ServiceBegun.TheVariants as service
use Rattle.ipx_settings.proofs.DigitsAgain.{network_again, route_again, number_without, number_is_word, socket_again, one_type_again, socket_is_word, decimal_is_word, node_bytes_again, node_bytes_without, node_again, node_is_word, node_bytes_are_word}
use Rattle.ipx_settings.proofs.LinksAgain.{literal}
use Rattle.ipx_settings.proofs.NumbersAgain.{number_again}
use Rattle.ipx_settings.proofs.RulesAgain.{service_name}
use Rattle.ipx_settings.proofs.Without.{each-append, cut_front}

-- ---- names

-- what is the name of one service may stand in a rule
plain : (name field : List ℕ) (all : Bool) → list_all is_plain_byte name ≡ all → plain_name_of name ≡ Some field → service_name_of name ≡ Some field
plain name field true is read = sym (rw is refl) ∙ read
plain name field false is read = (let none : None ≡ Some field = sym (rw is refl) ∙ read in cc)

name_words : (field : List ℕ) (is : IsPlainName field) → name_in field ≡ is.0
name_words field is = (service_name field (is.0, is.1, plain is.0 field (list_all is_plain_byte is.0) refl is.2)).0

plain_again : (field : List ℕ) → IsPlainName field → plain_name_of (name_in field) ≡ Some field
plain_again field is = ap plain_name_of (name_words field is) ∙ is.2

plain_is_word : (field : List ℕ) → IsPlainName field → IsWord (name_in field)
plain_is_word field is = subst IsWord (sym (name_words field is)) is.1

-- ---- addresses

-- what stands before the first dot, and behind it
address_cut : (a : ServiceAddress) → service_address_word a ≡ number_word a.network ++ dot ∷ (bytes_digits a.node ++ dot ∷ socket_word a.socket)
address_cut a =
    let n = number_word a.network in
    let d = bytes_digits a.node in
    let s = socket_word a.socket in
    append_assoc (n ++ codes "." ++ d) (codes ".") s ∙ append_assoc (n ++ codes ".") d (dot ∷ s) ∙ append_assoc n (codes ".") (d ++ dot ∷ s)

address_again : (a : ServiceAddress) → IsServiceAddress a → service_address_of (service_address_word a) ≡ Some a
address_again a is =
    let node : host_node_of (bytes_digits a.node) ≡ Some a.node = rw (node_bytes_again a.node is.1, is.2) refl in
    rw (
      address_cut a,
      cut_front dot (number_word a.network) (bytes_digits a.node ++ dot ∷ socket_word a.socket) (number_without dot a.network refl),
      cut_front dot (bytes_digits a.node) (socket_word a.socket) (node_bytes_without dot a.node is.1 refl),
      network_again a.network is.0.0 is.0.1,
      node,
      socket_again a.socket is.3.0 (omega (arith, is.3.1)),
    ) refl

address_is_word : (a : ServiceAddress) → IsServiceAddress a → IsWord (service_address_word a)
address_is_word a is =
    let n = number_is_word a.network in
    let d = node_bytes_are_word a.node is.1 in
    let s = socket_is_word a.socket in
    let rest : AllByRecursion IsInWord (bytes_digits a.node ++ dot ∷ socket_word a.socket) = each-append IsInWord (bytes_digits a.node) (dot ∷ socket_word a.socket) d.1 ((refl, refl), s.1) in
    let all : AllByRecursion IsInWord (number_word a.network ++ dot ∷ (bytes_digits a.node ++ dot ∷ socket_word a.socket)) =
    each-append IsInWord (number_word a.network) (dot ∷ (bytes_digits a.node ++ dot ∷ socket_word a.socket)) n.1 ((refl, refl), rest) in
    rw (address_cut a) (omega (arith, n.0, length-append (number_word a.network) (dot ∷ (bytes_digits a.node ++ dot ∷ socket_word a.socket))), all)

-- ---- lines

pub route_line : (c : Context) (it : RouteBegun) → IsRoute it → IsLine c (line.Route it) (codes "route" ∷ route_words it)
route_line c (route.Whole it) is =
    (rw (route_again it.network is.0.0 is.0.1, number_again 1 most_hops it.hops (omega (arith, is.1.1)) is.1.0 is.1.1, number_again 1 65535 it.ticks (omega (arith, is.2.1)) is.2.0 is.2.1, node_again it.via is.3) refl, refl)
route_line c route.Nothing is = absurd is
route_line c (route.To network) is = absurd is
route_line c (route.Hops network hops) is = absurd is
route_line c (route.Ticks network hops ticks) is = absurd is
route_line c (route.Via network hops ticks) is = absurd is

pub service_line : (c : Context) (it : ServiceBegun) → IsService it → IsLine c (line.Service it) (codes "service" ∷ service_words it)
service_line c (service.Whole it) is =
    (rw (one_type_again it.kind is.0.0 is.0.1, plain_again it.name is.1, address_again it.address is.2, number_again 1 most_hops it.hops (omega (arith, is.3.1)) is.3.0 is.3.1, node_again it.via is.4) refl, refl)
service_line c service.Nothing is = absurd is
service_line c (service.Kind kind) is = absurd is
service_line c (service.Named kind name) is = absurd is
service_line c (service.At kind name address) is = absurd is
service_line c (service.Hops kind name address hops) is = absurd is
service_line c (service.Via kind name address hops) is = absurd is

-- ---- their words

via_are_words : (via : List ℕ) → IsNode via → AllByRecursion IsWord (via_words via)
via_are_words via is = (literal (codes "via") (omega arith) refl, (node_is_word via is, tt))

pub route_is_words : (it : RouteBegun) → IsRoute it → AllByRecursion IsWord (route_words it)
route_is_words (route.Whole it) is =
    (number_is_word it.network, (decimal_is_word it.hops (omega (arith, is.1.1)), (decimal_is_word it.ticks (omega (arith, is.2.1)), via_are_words it.via is.3)))
route_is_words route.Nothing is = absurd is
route_is_words (route.To network) is = absurd is
route_is_words (route.Hops network hops) is = absurd is
route_is_words (route.Ticks network hops ticks) is = absurd is
route_is_words (route.Via network hops ticks) is = absurd is

pub service_is_words : (it : ServiceBegun) → IsService it → AllByRecursion IsWord (service_words it)
service_is_words (service.Whole it) is =
    (socket_is_word it.kind, (plain_is_word it.name is.1, (address_is_word it.address is.2, (decimal_is_word it.hops (omega (arith, is.3.1)), via_are_words it.via is.4))))
service_is_words service.Nothing is = absurd is
service_is_words (service.Kind kind) is = absurd is
service_is_words (service.Named kind name) is = absurd is
service_is_words (service.At kind name address) is = absurd is
service_is_words (service.Hops kind name address hops) is = absurd is
service_is_words (service.Via kind name address hops) is = absurd is

pub route_count : (it : RouteBegun) → length (route_words it) ≤ 5
route_count (route.Whole it) = omega arith
route_count route.Nothing = omega arith
route_count (route.To network) = omega arith
route_count (route.Hops network hops) = omega arith
route_count (route.Ticks network hops ticks) = omega arith
route_count (route.Via network hops ticks) = omega arith

pub service_count : (it : ServiceBegun) → length (service_words it) ≤ 6
service_count (service.Whole it) = omega arith
service_count service.Nothing = omega arith
service_count (service.Kind kind) = omega arith
service_count (service.Named kind name) = omega arith
service_count (service.At kind name address) = omega arith
service_count (service.Hops kind name address hops) = omega arith
service_count (service.Via kind name address hops) = omega arith
