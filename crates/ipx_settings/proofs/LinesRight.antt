use Rattle.std.proofs.Common.{◌≡◌, ℕ, ◌^◌, ◌<◌, ◌≤◌, ◌==◌, ◌&&◌, nat_lt, not, Bool, true, false, List, [], ◌∷◌, length, filter, refl, sym, subst, arith, Option, Some, None, one-add}
use Rattle.std.specs.List.{AllByRecursion, slice_split, onto_first}
use Rattle.std.specs.Option.{is_some, is_none}
use Rattle.std.specs.Prelude.{Result, Ok, Err, codes}
use Rattle.ipx_settings.specs.Addresses.{remote_of, range_of, is_first}
use Rattle.ipx_settings.specs.Beginnings.{if_right, said_by}
use Rattle.ipx_settings.specs.Lines.{most_rate, most_kilobits, rate_or_none, socket_of, line_first, clients_step, share_behind, rate_step, strangers_step, kilobits_step, nodes_step, adopt_step, peer_step, range_by, with_network, with_internal, with_rule, with_route, with_service, line_step, line_ends, read_from, read_to, reading_by, reading_of}
use Rattle.ipx_settings.specs.Lines as lines
use Rattle.ipx_settings.specs.Internals.{internal_step, internal_ends}
use Rattle.ipx_settings.specs.Links.{said, is_the, behind_whole as of_whole, link_step, link_ends}
use Rattle.ipx_settings.specs.Networks.{last_network, least_longest, most_longest, head_of, with_shares, is_share, with_link, behind_head, may_have_node, node_word, behind_whole, network_step, network_ends}
use Rattle.ipx_settings.specs.Names.{origin_of}
use Rattle.ipx_settings.specs.Nodes.{node_of}
use Rattle.ipx_settings.specs.Numbers.{number_of, hexadecimal_of}
use Rattle.ipx_settings.specs.Right.{IsInWord, IsWord, IsRemote, IsLink}
use Rattle.ipx_settings.specs.RightLines.{Within, IsHead, IsNode, MayHaveNode, IsWhole, IsNetwork, IsClients, IsRate, IsMost, IsInternal, IsPeer, IsSaid}
use Rattle.ipx_settings.specs.Rules.{rule_step}
use Rattle.ipx_settings.specs.Statics.{route_step, service_step}
use Rattle.ipx_settings.specs.Words.{is_blank, is_mark, before_mark, words, most_words}
use Rattle.ipx_settings.specs.declared.addresses.HostRange.{HostRange}
use Rattle.ipx_settings.specs.declared.addresses.Place.{Place}
use Rattle.ipx_settings.specs.declared.expected.Expected.{Expected}
use Rattle.ipx_settings.specs.declared.expected.Expected.TheVariants as expected
use Rattle.ipx_settings.specs.declared.internal.InternalBegun.{InternalBegun}
use Rattle.ipx_settings.specs.declared.internal.InternalBegun.TheVariants as internal
use Rattle.ipx_settings.specs.declared.line.ClientsBegun.{ClientsBegun}
use Rattle.ipx_settings.specs.declared.line.ClientsBegun.TheVariants as clients
use Rattle.ipx_settings.specs.declared.line.Context.{Context}
use Rattle.ipx_settings.specs.declared.line.Line.{Line}
use Rattle.ipx_settings.specs.declared.line.Line.TheVariants as line
use Rattle.ipx_settings.specs.declared.line.RateBegun.{RateBegun}
use Rattle.ipx_settings.specs.declared.line.RateBegun.TheVariants as rate
use Rattle.ipx_settings.specs.declared.link.Cards.{Cards}
use Rattle.ipx_settings.specs.declared.link.Link.{Link}
use Rattle.ipx_settings.specs.declared.link.Link.TheVariants as link
use Rattle.ipx_settings.specs.declared.link.LinkBegun.{LinkBegun}
use Rattle.ipx_settings.specs.declared.link.LinkBegun.TheVariants as begun
use Rattle.ipx_settings.specs.declared.network.Head.{Head}
use Rattle.ipx_settings.specs.declared.network.NetworkBegun.{NetworkBegun}
use Rattle.ipx_settings.specs.declared.network.NetworkBegun.TheVariants as network
use Rattle.ipx_settings.specs.declared.rule.RuleBegun.{RuleBegun}
use Rattle.ipx_settings.specs.declared.rule.RuleBegun.TheVariants as rule
use Rattle.ipx_settings.specs.declared.statics.RouteBegun.{RouteBegun}
use Rattle.ipx_settings.specs.declared.statics.RouteBegun.TheVariants as route
use Rattle.ipx_settings.specs.declared.statics.ServiceBegun.{ServiceBegun}
use Rattle.ipx_settings.specs.declared.statics.ServiceBegun.TheVariants as service
use Rattle.ipx_settings.proofs.AddressesAgain.{one_value}
use Rattle.ipx_settings.proofs.AddressesRight.{chosen, no_value, decimal_within, hexadecimal_within}
use Rattle.ipx_settings.proofs.FirstWrong.{right}
use Rattle.ipx_settings.proofs.LinksRight.{remote_right, IsPart, no_error, said_right, chosen_right, ok_right, whole_right, step_right}
use Rattle.ipx_settings.proofs.NodesRight.{node_right}
use Rattle.ipx_settings.proofs.Parts.{has_bytes, keeps}
use Rattle.ipx_settings.proofs.RulesRight.{RulePart, rule_part, rule_right}
use Rattle.ipx_settings.proofs.StaticsRight.{RoutePart, route_part, route_right, ServicePart, service_part, service_right}

-- ---- words of a text

unmarked : (text : List ℕ) → AllByRecursion (λ c. is_mark c ≡ false) (before_mark text)
unmarked [] = tt
unmarked (c ∷ text) = by (is_mark c) refl (unmarked text)
  where
    by : (b : Bool) → is_mark c ≡ b → AllByRecursion (λ x. is_mark x ≡ false) (before_mark text) → AllByRecursion (λ x. is_mark x ≡ false) (before_mark (c ∷ text))
    by true is more = rw is tt
    by false is more = rw (is, one-add) (is, more)

-- a byte more of the first part
onto : (c : ℕ) (parts : List (List ℕ)) → IsInWord c → AllByRecursion (AllByRecursion IsInWord) parts → AllByRecursion (AllByRecursion IsInWord) (onto_first c parts)
onto c [] is each = ((is, tt), tt)
onto c (part ∷ parts) is each = ((is, each.0), each.1)

parts_each : (text : List ℕ) → AllByRecursion (λ c. is_mark c ≡ false) text → AllByRecursion (AllByRecursion IsInWord) (slice_split is_blank text)
parts_each [] each = (tt, tt)
parts_each (c ∷ text) each = by (is_blank c) refl (parts_each text each.1)
  where
    by : (b : Bool) → is_blank c ≡ b → AllByRecursion (AllByRecursion IsInWord) (slice_split is_blank text) → AllByRecursion (AllByRecursion IsInWord) (slice_split is_blank (c ∷ text))
    by true is more = rw is (tt, more)
    by false is more = rw is (onto c (slice_split is_blank text) (is, each.0) more)

filled : (parts : List (List ℕ)) → AllByRecursion (AllByRecursion IsInWord) parts → AllByRecursion IsWord (filter has_bytes parts)
filled [] each = tt
filled ([] ∷ parts) each = filled parts each.1
filled ((c ∷ part) ∷ parts) each = subst (AllByRecursion IsWord) (sym (keeps (c ∷ part) parts (omega arith))) ((omega arith, each.0), filled parts each.1)

pub words_are : (text : List ℕ) → AllByRecursion IsWord (words (before_mark text))
words_are text = filled (slice_split is_blank (before_mark text)) (parts_each (before_mark text) (unmarked text))

-- ---- numbers

rate_most : (word : List ℕ) (r : ℕ) → rate_or_none word ≡ Some r → r ≤ most_rate
rate_most word r e =
    chosen (λ n. n ≤ most_rate) (is_the word (codes "none")) (Some 0) (number_of 1 most_rate word) r
    (λ _ f. subst (λ n. n ≤ most_rate) (one_value 0 r f) (omega arith)) (λ _ f. (decimal_within 1 most_rate r word f).1) e

-- ---- networks, as far as they were read

abbrev NetworkPart : Cards → NetworkBegun → Type 0
NetworkPart cards network.Nothing = Unit {0}
NetworkPart cards (network.Number number) = Within 1 last_network number
NetworkPart cards (network.Cost number cost) = Within 1 last_network number × Within 1 65535 cost
NetworkPart cards (network.Head head) = IsHead head
NetworkPart cards (network.Routes head routes) = IsHead head × (routes < 2 ^ 16)
NetworkPart cards (network.Link head b) = IsHead head × IsPart cards b
NetworkPart cards (network.Node head it) = IsHead head × MayHaveNode cards it
NetworkPart cards (network.Whole head it node) = IsHead head × MayHaveNode cards it × IsNode node

link_part : (cards : Cards) (head : Head) (b : LinkBegun) (word : List ℕ) (r : Result LinkBegun Expected) (next : NetworkBegun) → IsHead head → IsWord word → IsPart cards b → link_step cards b word ≡ r
    → with_link head r ≡ Ok next → NetworkPart cards next
link_part cards head b word (Ok it) next is one part read e = ok_right (NetworkPart cards) (network.Link head it) next (is, step_right cards b it word one part read) e
link_part cards head b word (Err why) next is one part read e = absurd (no_error why next e)

behind_part : (cards : Cards) (head : Head) (b : LinkBegun) (word : List ℕ) (next : NetworkBegun) → IsHead head → IsWord word → IsPart cards b
    → with_link head (link_step cards b word) ≡ Ok next → NetworkPart cards next
behind_part cards head b word next is one part e = link_part cards head b word (link_step cards b word) next is one part refl e

head_part : (cards : Cards) (head : Head) (word : List ℕ) (next : NetworkBegun) → IsHead head → IsWord word → behind_head head cards word ≡ Ok next → NetworkPart cards next
head_part cards head word next is one e =
    let P = NetworkPart cards in
    chosen_right P (is_none head.shares && is_share word) _ _ next
    (λ _ f. said_right P expected.Routes (network.Routes head) (number_of 0 65535 word) next (λ routes read. (is, omega (arith, decimal_within 0 65535 routes word read))) f)
    (λ _ e1. chosen_right P (is_the word (codes "node")) _ _ next (λ _ f. ok_right P (network.Node head None) next (is, tt) f) (λ _ f. behind_part cards head begun.Nothing word next is one tt f) e1) e

node_part : (cards : Cards) (head : Head) (it : Link) (word : List ℕ) (next : NetworkBegun) → IsHead head → IsLink cards it → node_word head it word ≡ Ok next → NetworkPart cards next
node_part cards head it word next is one e =
    let P = NetworkPart cards in
    chosen_right P (not (may_have_node it)) _ _ next (λ _ f. absurd (no_error expected.Nothing next f)) (λ may e1.
    chosen_right P (not (is_the word (codes "node"))) _ _ next (λ _ f. absurd (no_error expected.NodeWord next f))
    (λ _ f. ok_right P (network.Node head (Some it)) next (is, (one, no_false (may_have_node it) may)) f) e1) e
  where
    no_false : (b : Bool) → not b ≡ false → b ≡ true
    no_false b fails = grind arith

of_whole_part : (cards : Cards) (head : Head) (it : Link) (word : List ℕ) (r : Result LinkBegun Expected) (next : NetworkBegun) → IsHead head → IsLink cards it → of_whole it word ≡ r
    → with_link head r ≡ Ok next → NetworkPart cards next
of_whole_part cards head it word (Ok b) next is one read e = ok_right (NetworkPart cards) (network.Link head b) next (is, whole_right cards it b word one read) e
of_whole_part cards head it word (Err why) next is one read e = absurd (no_error why next e)

whole_part : (cards : Cards) (head : Head) (it : Link) (word : List ℕ) (next : NetworkBegun) → IsHead head → IsLink cards it → behind_whole head it word ≡ Ok next → NetworkPart cards next
whole_part cards head (link.Web address) word next is one e = of_whole_part cards head (link.Web address) word (of_whole (link.Web address) word) next is one refl e
whole_part cards head (link.Tunnel address) word next is one e = node_part cards head (link.Tunnel address) word next is one e
whole_part cards head (link.Rfc1234 address) word next is one e = node_part cards head (link.Rfc1234 address) word next is one e
whole_part cards head (link.Framed end frames) word next is one e = node_part cards head (link.Framed end frames) word next is one e

network_part : (cards : Cards) (b next : NetworkBegun) (word : List ℕ) → IsWord word → NetworkPart cards b → network_step cards b word ≡ Ok next → NetworkPart cards next
network_part cards network.Nothing next word one part e =
    said_right (NetworkPart cards) expected.Network network.Number (hexadecimal_of 8 1 last_network word) next (λ n read. hexadecimal_within 8 1 last_network n word read) e
network_part cards (network.Number number) next word one part e =
    said_right (NetworkPart cards) expected.Cost (network.Cost number) (number_of 1 65535 word) next (λ n read. (part, decimal_within 1 65535 n word read)) e
network_part cards (network.Cost number cost) next word one part e =
    said_right (NetworkPart cards) expected.Longest (λ longest. network.Head (head_of number cost None longest)) (number_of least_longest most_longest word) next
    (λ n read. (part.0, part.1, decimal_within least_longest most_longest n word read, tt)) e
network_part cards (network.Head head) next word one part e = head_part cards head word next part one e
network_part cards (network.Routes head routes) next word one part e =
    said_right (NetworkPart cards) expected.Services (λ services. network.Head (with_shares head routes services)) (number_of 0 65535 word) next
    (λ n read. (part.0.0, part.0.1, part.0.2, (part.1, omega (arith, decimal_within 0 65535 n word read)))) e
network_part cards (network.Link head (begun.Whole it)) next word one part e = whole_part cards head it word next part.0 part.1 e
network_part cards (network.Link head begun.Nothing) next word one part e = behind_part cards head begun.Nothing word next part.0 one part.1 e
network_part cards (network.Link head begun.Tunnel) next word one part e = behind_part cards head begun.Tunnel word next part.0 one part.1 e
network_part cards (network.Link head begun.Udp) next word one part e = behind_part cards head begun.Udp word next part.0 one part.1 e
network_part cards (network.Link head (begun.UdpFrom local)) next word one part e = behind_part cards head (begun.UdpFrom local) word next part.0 one part.1 e
network_part cards (network.Link head begun.Tcp) next word one part e = behind_part cards head begun.Tcp word next part.0 one part.1 e
network_part cards (network.Link head begun.Listen) next word one part e = behind_part cards head begun.Listen word next part.0 one part.1 e
network_part cards (network.Link head begun.Connect) next word one part e = behind_part cards head begun.Connect word next part.0 one part.1 e
network_part cards (network.Link head begun.Tap) next word one part e = behind_part cards head begun.Tap word next part.0 one part.1 e
network_part cards (network.Link head begun.Interface) next word one part e = behind_part cards head begun.Interface word next part.0 one part.1 e
network_part cards (network.Link head begun.Multicast) next word one part e = behind_part cards head begun.Multicast word next part.0 one part.1 e
network_part cards (network.Link head (begun.Group group)) next word one part e = behind_part cards head (begun.Group group) word next part.0 one part.1 e
network_part cards (network.Link head (begun.Via group)) next word one part e = behind_part cards head (begun.Via group) word next part.0 one part.1 e
network_part cards (network.Link head begun.Vde) next word one part e = behind_part cards head begun.Vde word next part.0 one part.1 e
network_part cards (network.Link head begun.Web) next word one part e = behind_part cards head begun.Web word next part.0 one part.1 e
network_part cards (network.Link head begun.Peers) next word one part e = behind_part cards head begun.Peers word next part.0 one part.1 e
network_part cards (network.Link head (begun.PeersAt local)) next word one part e = behind_part cards head (begun.PeersAt local) word next part.0 one part.1 e
network_part cards (network.Link head begun.Rfc1234) next word one part e = behind_part cards head begun.Rfc1234 word next part.0 one part.1 e
network_part cards (network.Link head (begun.End end)) next word one part e = behind_part cards head (begun.End end) word next part.0 one part.1 e
network_part cards (network.Node head it) next word one part e =
    said_right (NetworkPart cards) expected.Node (network.Whole head it) (node_of word) next (λ node read. (part.0, part.1, node_right word node read)) e
network_part cards (network.Whole head it node) next word one part e = absurd (no_error expected.Nothing next e)

link_whole : (cards : Cards) (b : LinkBegun) → IsPart cards b → link_ends b ≡ true → IsWhole cards b
link_whole cards (begun.Whole it) part ends = part
link_whole cards begun.Nothing part ends = absurd cc
link_whole cards begun.Tunnel part ends = absurd cc
link_whole cards begun.Udp part ends = absurd cc
link_whole cards (begun.UdpFrom local) part ends = absurd cc
link_whole cards begun.Tcp part ends = absurd cc
link_whole cards begun.Listen part ends = absurd cc
link_whole cards begun.Connect part ends = absurd cc
link_whole cards begun.Tap part ends = absurd cc
link_whole cards begun.Interface part ends = absurd cc
link_whole cards begun.Multicast part ends = absurd cc
link_whole cards (begun.Group group) part ends = absurd cc
link_whole cards (begun.Via group) part ends = absurd cc
link_whole cards begun.Vde part ends = absurd cc
link_whole cards begun.Web part ends = absurd cc
link_whole cards begun.Peers part ends = absurd cc
link_whole cards (begun.PeersAt local) part ends = absurd cc
link_whole cards begun.Rfc1234 part ends = absurd cc
link_whole cards (begun.End end) part ends = absurd cc

network_right : (cards : Cards) (b : NetworkBegun) → NetworkPart cards b → network_ends b ≡ true → IsNetwork cards b
network_right cards network.Nothing part ends = absurd cc
network_right cards (network.Number number) part ends = absurd cc
network_right cards (network.Cost number cost) part ends = absurd cc
network_right cards (network.Head head) part ends = part
network_right cards (network.Routes head routes) part ends = absurd cc
network_right cards (network.Link head b) part ends = (part.0, link_whole cards b part.1 ends)
network_right cards (network.Node head it) part ends = absurd cc
network_right cards (network.Whole head it node) part ends = part

-- ---- lines, as far as they were read

abbrev ClientsPart : ℕ → ClientsBegun → Type 0
ClientsPart most clients.Nothing = Unit {0}
ClientsPart most (clients.All n) = Within 1 most n
ClientsPart most (clients.OfAddress n m) = Within 1 most n × Within 1 n m

abbrev RatePart : Bool → RateBegun → Type 0
RatePart is_below_tunnel rate.Nothing = Unit {0}
RatePart is_below_tunnel (rate.Rate r) = r ≤ most_rate
RatePart is_below_tunnel (rate.Share r share) = (r ≤ most_rate) × Within 1 r share
RatePart is_below_tunnel (rate.Household r share household) = (r ≤ most_rate) × Within 1 r share × (household ≤ most_rate) × (is_below_tunnel ≡ true)

abbrev MostPart : ℕ → ℕ → Option ℕ → Type 0
MostPart least most None = Unit {0}
MostPart least most (Some n) = Within least most n

abbrev InternalPart : InternalBegun → Type 0
InternalPart internal.Nothing = Unit {0}
InternalPart (internal.Number number) = Within 1 last_network number
InternalPart (internal.Node number) = Within 1 last_network number
InternalPart (internal.Whole number node) = Within 1 last_network number × IsNode node

abbrev PeerPart : Option Place → Type 0
PeerPart None = Unit {0}
PeerPart (Some place) = IsRemote place

abbrev LinePart : Context → Line → Type 0
LinePart c line.Nothing = Unit {0}
LinePart c (line.Network b) = NetworkPart c.cards b
LinePart c (line.Link b) = IsPart c.cards b
LinePart c (line.Extend has_some) = Unit {0}
LinePart c (line.Clients it) = ClientsPart c.most_clients it
LinePart c (line.Allow has_some) = Unit {0}
LinePart c (line.Trust has_some) = Unit {0}
LinePart c (line.Rate it) = RatePart c.is_below_tunnel it
LinePart c (line.Strangers it) = MostPart 0 most_rate it
LinePart c (line.Kilobits it) = MostPart 1 most_kilobits it
LinePart c (line.Nodes by_address) = Unit {0}
LinePart c (line.Internal it) = InternalPart it
LinePart c (line.Adopt is_off) = Unit {0}
LinePart c (line.Rule permits it) = RulePart it
LinePart c (line.Route it) = RoutePart it
LinePart c (line.Service it) = ServicePart it
LinePart c (line.Origins has_some) = Unit {0}
LinePart c (line.Peer it) = PeerPart it

first_part : (c : Context) (word : List ℕ) (next : Line) → line_first word ≡ Ok next → LinePart c next
first_part c word next e =
    let P = LinePart c in
    chosen_right P (is_the word (codes "network")) _ _ next (λ _ f. ok_right P (line.Network network.Nothing) next tt f) (λ _ e1.
    chosen_right P (is_the word (codes "link")) _ _ next (λ _ f. ok_right P (line.Link begun.Nothing) next tt f) (λ _ e2.
    chosen_right P (is_the word (codes "extend")) _ _ next (λ _ f. ok_right P (line.Extend false) next tt f) (λ _ e3.
    chosen_right P (is_the word (codes "clients")) _ _ next (λ _ f. ok_right P (line.Clients clients.Nothing) next tt f) (λ _ e4.
    chosen_right P (is_the word (codes "allow")) _ _ next (λ _ f. ok_right P (line.Allow false) next tt f) (λ _ e5.
    chosen_right P (is_the word (codes "trust")) _ _ next (λ _ f. ok_right P (line.Trust false) next tt f) (λ _ e6.
    chosen_right P (is_the word (codes "rate")) _ _ next (λ _ f. ok_right P (line.Rate rate.Nothing) next tt f) (λ _ e7.
    chosen_right P (is_the word (codes "strangers")) _ _ next (λ _ f. ok_right P (line.Strangers None) next tt f) (λ _ e8.
    chosen_right P (is_the word (codes "line")) _ _ next (λ _ f. ok_right P (line.Kilobits None) next tt f) (λ _ e9.
    chosen_right P (is_the word (codes "nodes")) _ _ next (λ _ f. ok_right P (line.Nodes false) next tt f) (λ _ e10.
    chosen_right P (is_the word (codes "internal")) _ _ next (λ _ f. ok_right P (line.Internal internal.Nothing) next tt f) (λ _ e11.
    chosen_right P (is_the word (codes "adopt")) _ _ next (λ _ f. ok_right P (line.Adopt false) next tt f) (λ _ e12.
    chosen_right P (is_the word (codes "permit")) _ _ next (λ _ f. ok_right P (line.Rule true rule.Nothing) next tt f) (λ _ e13.
    chosen_right P (is_the word (codes "deny")) _ _ next (λ _ f. ok_right P (line.Rule false rule.Nothing) next tt f) (λ _ e14.
    chosen_right P (is_the word (codes "route")) _ _ next (λ _ f. ok_right P (line.Route route.Nothing) next tt f) (λ _ e15.
    chosen_right P (is_the word (codes "service")) _ _ next (λ _ f. ok_right P (line.Service service.Nothing) next tt f) (λ _ e16.
    chosen_right P (is_the word (codes "origins")) _ _ next (λ _ f. ok_right P (line.Origins false) next tt f) (λ _ e17.
    chosen_right P (is_the word (codes "peer")) _ _ next (λ _ f. ok_right P (line.Peer None) next tt f) (λ _ f. absurd (no_error expected.Line next f))
    e17) e16) e15) e14) e13) e12) e11) e10) e9) e8) e7) e6) e5) e4) e3) e2) e1) e

network_line_part : (c : Context) (b : NetworkBegun) (word : List ℕ) (r : Result NetworkBegun Expected) (next : Line) → IsWord word → NetworkPart c.cards b → network_step c.cards b word ≡ r
    → with_network r ≡ Ok next → LinePart c next
network_line_part c b word (Ok it) next one part read e = ok_right (LinePart c) (line.Network it) next (network_part c.cards b it word one part read) e
network_line_part c b word (Err why) next one part read e = absurd (no_error why next e)

link_line_part : (c : Context) (b : LinkBegun) (word : List ℕ) (r : Result LinkBegun Expected) (next : Line) → IsWord word → IsPart c.cards b → link_step c.cards b word ≡ r
    → lines.with_link r ≡ Ok next → LinePart c next
link_line_part c b word (Ok it) next one part read e = ok_right (LinePart c) (line.Link it) next (step_right c.cards b it word one part read) e
link_line_part c b word (Err why) next one part read e = absurd (no_error why next e)

range_part : (c : Context) (into next : Line) (o : Option HostRange) → LinePart c into → range_by into o ≡ Ok next → LinePart c next
range_part c into next None part e = absurd (no_error expected.Range next e)
range_part c into next (Some range) part e =
    chosen_right (LinePart c) (is_first range) _ _ next (λ _ f. ok_right (LinePart c) into next part f) (λ _ f. absurd (no_error (expected.FirstOf range.bits) next f)) e

truth : (b : Bool) → not b ≡ false → b ≡ true
truth b fails = grind arith

rate_part : (c : Context) (it : RateBegun) (word : List ℕ) (next : Line) → RatePart c.is_below_tunnel it → rate_step it c.is_below_tunnel word ≡ Ok next → LinePart c next
rate_part c rate.Nothing word next part e = said_right (LinePart c) expected.Rate (λ r. line.Rate (rate.Rate r)) (rate_or_none word) next (λ r read. rate_most word r read) e
rate_part c (rate.Rate r) word next part e =
    chosen_right (LinePart c) (r == 0) _ _ next (λ _ f. absurd (no_error expected.Nothing next f))
    (λ _ f. said_right (LinePart c) expected.Share (λ share. line.Rate (rate.Share r share)) (number_of 1 r word) next (λ share read. (part, decimal_within 1 r share word read)) f) e
rate_part c (rate.Share r share) word next part e =
    chosen_right (LinePart c) (not c.is_below_tunnel) _ _ next (λ _ f. absurd (no_error expected.Nothing next f))
    (λ below f. said_right (LinePart c) expected.Household (λ household. line.Rate (rate.Household r share household)) (rate_or_none word) next
    (λ household read. (part.0, part.1, rate_most word household read, truth c.is_below_tunnel below)) f) e
rate_part c (rate.Household r share household) word next part e = absurd (no_error expected.Nothing next e)

clients_part : (c : Context) (it : ClientsBegun) (word : List ℕ) (next : Line) → ClientsPart c.most_clients it → clients_step it c.most_clients word ≡ Ok next → LinePart c next
clients_part c clients.Nothing word next part e =
    said_right (LinePart c) expected.Clients (λ n. line.Clients (clients.All n)) (number_of 1 c.most_clients word) next (λ n read. decimal_within 1 c.most_clients n word read) e
clients_part c (clients.All n) word next part e =
    said_right (LinePart c) expected.ClientsOfAddress (λ m. line.Clients (clients.OfAddress n m)) (number_of 1 n word) next (λ m read. (part, decimal_within 1 n m word read)) e
clients_part c (clients.OfAddress n m) word next part e = absurd (no_error expected.Nothing next e)

strangers_part : (c : Context) (it : Option ℕ) (word : List ℕ) (next : Line) → strangers_step it word ≡ Ok next → LinePart c next
strangers_part c it word next e =
    chosen_right (LinePart c) (is_some it) _ _ next (λ _ f. absurd (no_error expected.Nothing next f))
    (λ _ f. said_right (LinePart c) expected.Strangers (λ r. line.Strangers (Some r)) (rate_or_none word) next (λ r read. (omega arith, rate_most word r read)) f) e

kilobits_part : (c : Context) (it : Option ℕ) (word : List ℕ) (next : Line) → kilobits_step it word ≡ Ok next → LinePart c next
kilobits_part c it word next e =
    chosen_right (LinePart c) (is_some it) _ _ next (λ _ f. absurd (no_error expected.Nothing next f))
    (λ _ f. said_right (LinePart c) expected.Kilobits (λ n. line.Kilobits (Some n)) (number_of 1 most_kilobits word) next (λ n read. decimal_within 1 most_kilobits n word read) f) e

nodes_part : (c : Context) (by_address : Bool) (word : List ℕ) (next : Line) → nodes_step by_address word ≡ Ok next → LinePart c next
nodes_part c by_address word next e =
    let P = LinePart c in
    chosen_right P by_address _ _ next (λ _ f. absurd (no_error expected.Nothing next f)) (λ _ e1.
    chosen_right P (is_the word (codes "by-address")) _ _ next (λ _ f. ok_right P (line.Nodes true) next tt f) (λ _ f. absurd (no_error expected.ByAddress next f)) e1) e

internal_part : (it next : InternalBegun) (word : List ℕ) → InternalPart it → internal_step it word ≡ Ok next → InternalPart next
internal_part internal.Nothing next word part e =
    said_right InternalPart expected.Network internal.Number (hexadecimal_of 8 1 last_network word) next (λ n read. hexadecimal_within 8 1 last_network n word read) e
internal_part (internal.Number number) next word part e =
    chosen_right InternalPart (is_the word (codes "node")) _ _ next (λ _ f. ok_right InternalPart (internal.Node number) next part f) (λ _ f. absurd (no_error expected.NodeWord next f)) e
internal_part (internal.Node number) next word part e =
    said_right InternalPart expected.Node (internal.Whole number) (node_of word) next (λ node read. (part, node_right word node read)) e
internal_part (internal.Whole number node) next word part e = absurd (no_error expected.Nothing next e)

internal_line_part : (c : Context) (it : InternalBegun) (word : List ℕ) (r : Result InternalBegun Expected) (next : Line) → InternalPart it → internal_step it word ≡ r
    → with_internal r ≡ Ok next → LinePart c next
internal_line_part c it word (Ok more) next part read e = ok_right (LinePart c) (line.Internal more) next (internal_part it more word part read) e
internal_line_part c it word (Err why) next part read e = absurd (no_error why next e)

adopt_part : (c : Context) (is_off : Bool) (word : List ℕ) (next : Line) → adopt_step is_off word ≡ Ok next → LinePart c next
adopt_part c is_off word next e =
    let P = LinePart c in
    chosen_right P is_off _ _ next (λ _ f. absurd (no_error expected.Nothing next f)) (λ _ e1.
    chosen_right P (is_the word (codes "no")) _ _ next (λ _ f. ok_right P (line.Adopt true) next tt f) (λ _ f. absurd (no_error expected.No next f)) e1) e

peer_part : (c : Context) (it : Option Place) (word : List ℕ) (next : Line) → peer_step it word ≡ Ok next → LinePart c next
peer_part c it word next e =
    chosen_right (LinePart c) (is_some it) _ _ next (λ _ f. absurd (no_error expected.Nothing next f))
    (λ _ f. said_right (LinePart c) expected.Remote (λ place. line.Peer (Some place)) (remote_of word) next (λ place read. remote_right word place read) f) e

rule_line_part : (c : Context) (permits : Bool) (it : RuleBegun) (word : List ℕ) (r : Result RuleBegun Expected) (next : Line) → IsWord word → RulePart it → rule_step it word ≡ r
    → with_rule permits r ≡ Ok next → LinePart c next
rule_line_part c permits it word (Ok more) next one part read e = ok_right (LinePart c) (line.Rule permits more) next (rule_part it more word one part read) e
rule_line_part c permits it word (Err why) next one part read e = absurd (no_error why next e)

route_line_part : (c : Context) (it : RouteBegun) (word : List ℕ) (r : Result RouteBegun Expected) (next : Line) → RoutePart it → route_step it word ≡ r
    → with_route r ≡ Ok next → LinePart c next
route_line_part c it word (Ok more) next part read e = ok_right (LinePart c) (line.Route more) next (route_part it more word part read) e
route_line_part c it word (Err why) next part read e = absurd (no_error why next e)

service_line_part : (c : Context) (it : ServiceBegun) (word : List ℕ) (r : Result ServiceBegun Expected) (next : Line) → IsWord word → ServicePart it → service_step it word ≡ r
    → with_service r ≡ Ok next → LinePart c next
service_line_part c it word (Ok more) next one part read e = ok_right (LinePart c) (line.Service more) next (service_part it more word one part read) e
service_line_part c it word (Err why) next one part read e = absurd (no_error why next e)

line_part : (c : Context) (l next : Line) (word : List ℕ) → IsWord word → LinePart c l → line_step c l word ≡ Ok next → LinePart c next
line_part c line.Nothing next word one part e = first_part c word next e
line_part c (line.Network b) next word one part e = network_line_part c b word (network_step c.cards b word) next one part refl e
line_part c (line.Link b) next word one part e = link_line_part c b word (link_step c.cards b word) next one part refl e
line_part c (line.Extend has_some) next word one part e = said_right (LinePart c) expected.Socket (λ socket. line.Extend true) (socket_of word) next (λ socket read. tt) e
line_part c (line.Clients it) next word one part e = clients_part c it word next part e
line_part c (line.Allow has_some) next word one part e = range_part c (line.Allow true) next (range_of word) tt e
line_part c (line.Trust has_some) next word one part e = range_part c (line.Trust true) next (range_of word) tt e
line_part c (line.Rate it) next word one part e = rate_part c it word next part e
line_part c (line.Strangers it) next word one part e = strangers_part c it word next e
line_part c (line.Kilobits it) next word one part e = kilobits_part c it word next e
line_part c (line.Nodes by_address) next word one part e = nodes_part c by_address word next e
line_part c (line.Internal it) next word one part e = internal_line_part c it word (internal_step it word) next part refl e
line_part c (line.Adopt is_off) next word one part e = adopt_part c is_off word next e
line_part c (line.Rule permits it) next word one part e = rule_line_part c permits it word (rule_step it word) next one part refl e
line_part c (line.Route it) next word one part e = route_line_part c it word (route_step it word) next part refl e
line_part c (line.Service it) next word one part e = service_line_part c it word (service_step it word) next one part refl e
line_part c (line.Origins has_some) next word one part e = said_right (LinePart c) expected.Origin (λ origin. line.Origins true) (origin_of word) next (λ origin read. tt) e
line_part c (line.Peer it) next word one part e = peer_part c it word next e

said_part : (c : Context) (l last : Line) (ws : List (List ℕ)) → AllByRecursion IsWord ws → LinePart c l → said_by c l ws ≡ Some last → LinePart c last
said_part c l last [] are part e = subst (LinePart c) (one_value l last e) part
said_part c l last (w ∷ ws) are part e = by (λ next. said_part c next last ws are.1) (line_step c l w) refl e
  where
    by : ((next : Line) → LinePart c next → said_by c next ws ≡ Some last → LinePart c last) → (r : Result Line Expected) → line_step c l w ≡ r
        → if_right r (λ next. said_by c next ws) ≡ Some last → LinePart c last
    by each (Ok next) is said = each next (line_part c l next w are.0 part is) said
    by each (Err why) is said = absurd (no_value last said)

clients_right : (most : ℕ) (it : ClientsBegun) → ClientsPart most it → lines.clients_end it ≡ true → IsClients most it
clients_right most clients.Nothing part ends = absurd cc
clients_right most (clients.All n) part ends = part
clients_right most (clients.OfAddress n m) part ends = part

rate_right : (is_below_tunnel : Bool) (it : RateBegun) → RatePart is_below_tunnel it → lines.rate_ends it ≡ true → IsRate is_below_tunnel it
rate_right is_below_tunnel rate.Nothing part ends = absurd cc
rate_right is_below_tunnel (rate.Rate r) part ends = part
rate_right is_below_tunnel (rate.Share r share) part ends = part
rate_right is_below_tunnel (rate.Household r share household) part ends = part

most_right : (least most : ℕ) (it : Option ℕ) → MostPart least most it → is_some it ≡ true → IsMost least most it
most_right least most None part ends = absurd cc
most_right least most (Some n) part ends = part

internal_right : (it : InternalBegun) → InternalPart it → internal_ends it ≡ true → IsInternal it
internal_right internal.Nothing part ends = absurd cc
internal_right (internal.Number number) part ends = part
internal_right (internal.Node number) part ends = absurd cc
internal_right (internal.Whole number node) part ends = part

peer_right : (it : Option Place) → PeerPart it → is_some it ≡ true → IsPeer it
peer_right None part ends = absurd cc
peer_right (Some place) part ends = part

line_said : (c : Context) (l : Line) → LinePart c l → line_ends l ≡ true → IsSaid c l
line_said c line.Nothing part ends = tt
line_said c (line.Network b) part ends = network_right c.cards b part ends
line_said c (line.Link b) part ends = link_whole c.cards b part ends
line_said c (line.Extend has_some) part ends = ends
line_said c (line.Clients it) part ends = clients_right c.most_clients it part ends
line_said c (line.Allow has_some) part ends = ends
line_said c (line.Trust has_some) part ends = ends
line_said c (line.Rate it) part ends = rate_right c.is_below_tunnel it part ends
line_said c (line.Strangers it) part ends = most_right 0 most_rate it part ends
line_said c (line.Kilobits it) part ends = most_right 1 most_kilobits it part ends
line_said c (line.Nodes by_address) part ends = ends
line_said c (line.Internal it) part ends = internal_right it part ends
line_said c (line.Adopt is_off) part ends = ends
line_said c (line.Rule permits it) part ends = rule_right it part ends
line_said c (line.Route it) part ends = route_right it part ends
line_said c (line.Service it) part ends = service_right it part ends
line_said c (line.Origins has_some) part ends = ends
line_said c (line.Peer it) part ends = peer_right it part ends

words_said : (c : Context) (ws : List (List ℕ)) → AllByRecursion IsWord ws → (reading_by c ws).fault ≡ None → IsSaid c (reading_by c ws).line
words_said c ws are none = by (nat_lt most_words (length ws)) refl
  where
    by : (b : Bool) → nat_lt most_words (length ws) ≡ b → IsSaid c (reading_by c ws).line
    by true is = absurd (no_fault (sym (rw is at none)))
      where
        no_fault : None ≡ Some expected.FewerWords → ⊥
        no_fault bad = cc
    by false is = (
        let known = right c ws (rw is at none) in
        rw is (line_said c (read_from c line.Nothing 0 ws).line (said_part c line.Nothing (read_from c line.Nothing 0 ws).line ws are tt known.0) known.1))

-- a line that was read without a fault says something right
pub text_said : (c : Context) (text : List ℕ) → (reading_of c text).fault ≡ None → IsSaid c (reading_of c text).line
text_said c text none = words_said c (words (before_mark text)) (words_are text) none
