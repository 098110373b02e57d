-- What a line makes of the links that stand above it: the same, one more, or another in place of the last, with the same carrier.
use Rattle.std.proofs.Common.{◌≡◌, ℕ, ◌+◌, ◌-◌, ◌<◌, Bool, true, false, not, ◌==◌, ◌&&◌, nat_lt, nat_le, if◌then◌else◌, List, [], ◌∷◌, refl, sym, ap, subst, ◌∙◌, arith, Option, Some, None, inl, inr, true≢false}
use Rattle.std.specs.Option.{is_some}
use Rattle.std.proofs.lemmas.Bool.{cases_Bool, cases_eq, ltb-true, lt-ltb}
use Rattle.std.proofs.lemmas.Option.{same_Some}
use Rattle.ipx_settings.specs.Networks.{link_in, number_in}
use Rattle.ipx_settings.specs.declared.addresses.Place.{Place}
use Rattle.ipx_settings.specs.declared.expected.Expected.{Expected}
use Rattle.ipx_settings.specs.declared.internal.InternalBegun.{InternalBegun}
use Rattle.ipx_settings.specs.declared.line.Line.{Line}
use Rattle.ipx_settings.specs.declared.line.Line.TheVariants as line
use Rattle.ipx_settings.specs.declared.link.LinkBegun.{LinkBegun}
use Rattle.ipx_settings.specs.declared.link.LinkBegun.TheVariants as begun
use Rattle.ipx_settings.specs.declared.network.NetworkBegun.{NetworkBegun}
use Rattle.ipx_settings.specs.declared.reading.Reading.{Reading}
use Rattle.ipx_settings.specs.declared.statics.RouteBegun.{RouteBegun}
use Rattle.ipx_configuration.specs.Carriers.{may_hear_itself, longest_of}
use Rattle.ipx_configuration.specs.Clashes.{when, first_of, line_fault, first_clash, carrier_in, is_only, link_by}
use Rattle.ipx_configuration.specs.Configurations.{nothing, a_network, a_link, a_wrong_network, names_link, names_link_by, head_or_none, more_links, network_fault, after_network, linked, link_line_by, link_line_fault, link_line, after_internal, internal_fault, network_above, extended_by, route_clash, routed, peer_clash, peered, link_extended_by, is_below_tunnel, is_web, below_network_by, below_link_by, tunnel_fault, now_linked, taken_below, taken_by, read_in, after}
use Rattle.ipx_configuration.specs.Internals.{all_networks, is_full, internal_clash}
use Rattle.ipx_configuration.specs.Lines.{if_right, once, rate_of, clients_said, rate_said, number_said, with_clients, with_rate, with_strangers, with_kilobits, with_nodes, kilobits_fault, link_taken, link_by as line_by}
use Rattle.ipx_configuration.specs.Memory.{networks_in, links_in, last_network, last_link, with_link, with_last_link}
use Rattle.ipx_configuration.specs.Numbers.{number_fault, routed_fault}
use Rattle.ipx_configuration.specs.Said.{new_link}
use Rattle.ipx_configuration.specs.declared.carrier.Carrier.{Carrier}
use Rattle.ipx_configuration.specs.declared.configuration.Capacity.{Capacity}
use Rattle.ipx_configuration.specs.declared.configuration.Configuration.{Configuration}
use Rattle.ipx_configuration.specs.declared.fault.Fault.{Fault}
use Rattle.ipx_configuration.specs.declared.fault.Fault.TheVariants as fault
use Rattle.ipx_configuration.specs.declared.memory.LinkList.{LinkList}
use Rattle.ipx_configuration.specs.declared.memory.NetworkList.{NetworkList}
use Rattle.ipx_configuration.specs.declared.said.LinkSetting.{LinkSetting}
use Rattle.ipx_configuration.specs.declared.said.NetworkSetting.{NetworkSetting}
use Rattle.ipx_configuration.proofs.Adding.{no_fault}

-- (the number is that of all networks then)
pub data Follows (networks : ℕ) (l m : LinkList) : Type 0 where
  same : m ≡ l → Follows networks l m
  more : (x : LinkSetting) → first_clash x.network x.carrier (links_in l) ≡ None → l.count < 64 → x.network + 1 ≡ networks → m ≡ with_link l x → Follows networks l m
  again : (old x : LinkSetting) → last_link l ≡ Some old → x.carrier ≡ old.carrier → x.network ≡ old.network → m ≡ with_last_link l x
      → Follows networks l m

-- ---- checks that all hold

first_none : (o : Option Fault) (rest : List (Option Fault)) → first_of (o ∷ rest) ≡ None → (o ≡ None) × (first_of rest ≡ None)
first_none None rest e = (refl, e)
first_none (Some f) rest e = absurd cc

unless : (b : Bool) (f : Fault) → when b f ≡ None → b ≡ false
unless true f e = absurd cc
unless false f e = refl

not_not : (b : Bool) → not b ≡ false → b ≡ true
not_not true e = refl
not_not false e = absurd (true≢false e)

abbrev after_clash : Carrier → ℕ → Option Expected → List (Option Fault)
after_clash carrier longest own =
    when (may_hear_itself carrier) fault.OwnAddress
    ∷ when (nat_lt (longest_of carrier) longest) (fault.Longest longest (longest_of carrier))
    ∷ line_fault own
    ∷ []

and_left : (a b : Bool) → a && b ≡ true → a ≡ true
and_left true b e = refl
and_left false b e = absurd (true≢false (sym e))

link_free : (network longest : ℕ) (links : List LinkSetting) (own : Option Expected) (o : Option Carrier) (carrier : Carrier)
    → link_by network o longest links own ≡ None → o ≡ Some carrier → first_clash network carrier links ≡ None
link_free network longest links own None carrier e is = absurd cc
link_free network longest links own (Some found) carrier e is =
    let same_one : found ≡ carrier = same_Some found carrier is in
    subst (λ v. first_clash network v links ≡ None) same_one (first_none (first_clash network found links) (after_clash found longest own) e).0

-- a link more, of which nothing is wrong, has room, and clashes with none
pub free_and_room : (network : ℕ) (begun : LinkBegun) (longest : ℕ) (l : LinkList) (own : Option Expected) (carrier : Carrier)
    → more_links network begun longest l own ≡ None → carrier_in begun ≡ Some carrier → (first_clash network carrier (links_in l) ≡ None) × (l.count < 64)
free_and_room network begun longest l own carrier e is =
    let checks = first_none (when (not (nat_lt l.count 64)) fault.ManyLinks) (link_by network (carrier_in begun) longest (links_in l) own ∷ []) e in
    let room : nat_lt l.count 64 ≡ true = not_not (nat_lt l.count 64) (unless (not (nat_lt l.count 64)) fault.ManyLinks checks.0) in
    let right = first_none (link_by network (carrier_in begun) longest (links_in l) own) [] checks.1 in
    (link_free network longest (links_in l) own (carrier_in begun) carrier right.0 is, ltb-true l.count 64 room)

linked_follows : (networks n network : ℕ) (l : LinkList) (o : Option Carrier) → network + 1 ≡ networks
    → ((carrier : Carrier) → o ≡ Some carrier → (first_clash network carrier (links_in l) ≡ None) × (l.count < 64)) → Follows networks l (linked n network l o)
linked_follows networks n network l None last free = same refl
linked_follows networks n network l (Some carrier) last free = let f = free carrier refl in more (new_link n network carrier) f.0 f.1 last refl

-- ---- lines of networks and links

names : (b : LinkBegun) (own : Option Expected) (carrier : Carrier) → carrier_in b ≡ Some carrier → names_link_by b own ≡ true
names begun.Nothing own carrier e = absurd cc
names begun.Tunnel own carrier e = refl
names begun.Udp own carrier e = refl
names (begun.UdpFrom a) own carrier e = refl
names begun.Tcp own carrier e = refl
names begun.Listen own carrier e = refl
names begun.Connect own carrier e = refl
names begun.Tap own carrier e = refl
names begun.Interface own carrier e = refl
names begun.Multicast own carrier e = refl
names (begun.Group group) own carrier e = refl
names (begun.Via group) own carrier e = refl
names begun.Vde own carrier e = refl
names begun.Web own carrier e = refl
names begun.Peers own carrier e = refl
names (begun.PeersAt local) own carrier e = refl
names begun.Rfc1234 own carrier e = refl
names (begun.End end) own carrier e = refl
names (begun.Whole link) own carrier e = refl

of_named : (b : Bool) (x y : Option Fault) → b ≡ true → (if b then x else y) ≡ None → x ≡ None
of_named true x y is e = e
of_named false x y is e = absurd (true≢false (sym is))

abbrev named_fault : NetworkBegun → Option Expected → Configuration → Option Fault
named_fault b own c = if names_link b own then more_links c.networks.count (link_in b) (head_or_none b).longest c.links own else line_fault own

abbrev routed_and_link : NetworkBegun → Option Expected → Configuration → List (Option Fault)
routed_and_link b own c = routed_fault (number_in b) (networks_in c.networks) ∷ named_fault b own c ∷ []

abbrev number_and_link : NetworkBegun → Option Expected → Configuration → List (Option Fault)
number_and_link b own c =
    number_fault (number_in b) (networks_in c.networks) ∷ internal_clash (number_in b) c.internal ∷ routed_and_link b own c

-- where one more has room, one has
pub has_room : (capacity : Capacity) (c : Configuration) → is_full capacity c ≡ false → nat_lt c.networks.count 32 ≡ true
has_room capacity c e =
    let all = all_networks c in
    let less : all < 32 = ltb-true all 32 (and_left (nat_lt all 32) (nat_lt all capacity.networks) (not_not (nat_lt all 32 && nat_lt all capacity.networks) e)) in
    lt-ltb c.networks.count 32 (omega (arith, less))

network_follows : (capacity : Capacity) (n : ℕ) (b : NetworkBegun) (own : Option Expected) (c : Configuration)
    → Follows (after_network capacity n b own c).networks.count c.links (after_network capacity n b own c).links
network_follows capacity n b own c = elim (cases_Bool (is_some (network_fault capacity b own c))) [
  | inl wrong ↦ rw wrong (same refl)
  | inr right ↦
      let checks = first_none (when (is_full capacity c) fault.ManyNetworks) (number_and_link b own c) (no_fault (network_fault capacity b own c) right) in
      let numbers = first_none (number_fault (number_in b) (networks_in c.networks)) (internal_clash (number_in b) c.internal ∷ routed_and_link b own c) checks.1 in
      let own_number = first_none (internal_clash (number_in b) c.internal) (routed_and_link b own c) numbers.1 in
      let routes = first_none (routed_fault (number_in b) (networks_in c.networks)) (named_fault b own c ∷ []) own_number.1 in
      let links = first_none (named_fault b own c) [] routes.1 in
      let free : nat_lt c.networks.count 32 ≡ true = has_room capacity c (unless (is_full capacity c) fault.ManyNetworks checks.0) in
      rw (right, free) (linked_follows (c.networks.count + 1) n c.networks.count c.links (carrier_in (link_in b)) refl (λ carrier is.
      free_and_room c.networks.count (link_in b) (head_or_none b).longest c.links own carrier
      (of_named (names_link b own) (more_links c.networks.count (link_in b) (head_or_none b).longest c.links own) (line_fault own) (names (link_in b) own carrier is) links.0) is))
]

abbrev few_and_free : Capacity → ℕ → LinkBegun → Option Expected → LinkList → NetworkSetting → List (Option Fault)
few_and_free capacity number b own l network =
    when (not (nat_lt (l.count - network.first) capacity.links)) fault.ManyLinksOfNetwork ∷ more_links number b network.longest l own ∷ []

line_free : (capacity : Capacity) (number : ℕ) (b : LinkBegun) (own : Option Expected) (l : LinkList) (o : Option NetworkSetting) (carrier : Carrier)
    → link_line_by capacity number b own l o ≡ None → carrier_in b ≡ Some carrier → (first_clash number carrier (links_in l) ≡ None) × (l.count < 64)
line_free capacity number b own l None carrier e is = absurd cc
line_free capacity number b own l (Some network) carrier e is =
    let several = first_none (when (not network.is_of_several) fault.LinkBelow) (when (is_only b) fault.OnOwnLine ∷ few_and_free capacity number b own l network) e in
    let one_of_some = first_none (when (is_only b) fault.OnOwnLine) (few_and_free capacity number b own l network) several.1 in
    let few = first_none (when (not (nat_lt (l.count - network.first) capacity.links)) fault.ManyLinksOfNetwork) (more_links number b network.longest l own ∷ []) one_of_some.1 in
    let links = first_none (more_links number b network.longest l own) [] few.1 in
    free_and_room number b network.longest l own carrier links.0 is

now_count : (n : NetworkList) (o : Option NetworkSetting) → (now_linked n o).count ≡ n.count
now_count n None = refl
now_count n (Some network) = elim (cases_Bool (nat_lt 0 n.count && nat_le n.count 32)) [
  | inl some ↦ rw some refl
  | inr none ↦ rw none refl
]

-- where nothing is wrong with a link's line, a network stands above
has_one : (capacity : Capacity) (number : ℕ) (b : LinkBegun) (own : Option Expected) (l : LinkList) (o : Option NetworkSetting)
    → link_line_by capacity number b own l o ≡ None → is_some o ≡ true
has_one capacity number b own l None e = absurd cc
has_one capacity number b own l (Some network) e = refl

counted : (n : NetworkList) (o : Option NetworkSetting) → last_network n ≡ o → is_some o ≡ true → (n.count - 1) + 1 ≡ n.count
counted n o e is = elim (cases_eq n.count 0) [
  | inl none ↦
      let nothing_there : last_network n ≡ None = rw none refl in
      absurd (true≢false (sym is ∙ ap is_some (sym e ∙ nothing_there)))
  | inr some ↦ omega (arith, some)
]

added_follows : (n : ℕ) (o : Option Carrier) (c : Configuration) (last : Option NetworkSetting) → last_network c.networks ≡ last → is_some last ≡ true
    → ((carrier : Carrier) → o ≡ Some carrier → (first_clash (c.networks.count - 1) carrier (links_in c.links) ≡ None) × (c.links.count < 64))
    → Follows (now_linked c.networks last).count c.links (linked n (c.networks.count - 1) c.links o)
added_follows n o c last e is free =
    let is_last : (c.networks.count - 1) + 1 ≡ (now_linked c.networks last).count = counted c.networks last e is ∙ sym (now_count c.networks last) in
    linked_follows (now_linked c.networks last).count n (c.networks.count - 1) c.links o is_last free

-- a network that a link would be of is the last
above_last : (c : Configuration) → is_some (network_above c) ≡ true → is_some (last_network c.networks) ≡ true
above_last c is = elim (cases_Bool (c.above == nothing)) [
  | inl none ↦ absurd (true≢false (sym is ∙ rw none refl))
  | inr some ↦ rw some at is
]

link_follows : (capacity : Capacity) (n : ℕ) (b : LinkBegun) (own : Option Expected) (c : Configuration)
    → Follows (link_line capacity n b own c).0.networks.count c.links (link_line capacity n b own c).0.links
link_follows capacity n b own c = elim (cases_Bool (nat_lt c.above a_wrong_network)) [
  | inl looked ↦ rw looked (elim (cases_Bool (is_some (link_line_fault capacity b own c))) [
    | inl wrong ↦ rw wrong (same refl)
    | inr right ↦ rw right (added_follows n (carrier_in b) c (last_network c.networks) refl
        (above_last c (has_one capacity (c.networks.count - 1) b own c.links (network_above c) (no_fault (link_line_fault capacity b own c) right))) (λ carrier is.
        line_free capacity (c.networks.count - 1) b own c.links (network_above c) carrier (no_fault (link_line_fault capacity b own c) right) is))
  ])
  | inr passed ↦ rw passed (same refl)
]

internal_follows : (capacity : Capacity) (n : ℕ) (b : InternalBegun) (own : Option Expected) (c : Configuration)
    → Follows (after_internal capacity n b own c).networks.count c.links (after_internal capacity n b own c).links
internal_follows capacity n b own c = elim (cases_Bool (is_some (internal_fault capacity b own c))) [
  | inl wrong ↦ rw wrong (same refl)
  | inr right ↦ rw right (same refl)
]

-- ---- lines below them

network_kept : (f : Option Fault) (was next : LinkSetting) → next.network ≡ was.network → (if_right f was next).0.network ≡ was.network
network_kept None was next e = e
network_kept (Some f) was next e = refl

kept : (f : Option Fault) (was next : LinkSetting) → next.carrier ≡ was.carrier → (if_right f was next).0.carrier ≡ was.carrier
kept None was next e = e
kept (Some f) was next e = refl

carrier_kept : (n : ℕ) (text : List ℕ) (l : Line) (read : ℕ) (own : Option Expected) (links : List LinkSetting) (link : LinkSetting)
    → (line_by n text l read own links link).0.carrier ≡ link.carrier
carrier_kept n text line.Nothing read own links link = refl
carrier_kept n text (line.Network b) read own links link = refl
carrier_kept n text (line.Link b) read own links link = refl
carrier_kept n text (line.Extend b) read own links link = refl
carrier_kept n text (line.Clients b) read own links link = kept (once link.clients.line own) link (with_clients link (clients_said n b)) refl
carrier_kept n text (line.Allow b) read own links link = refl
carrier_kept n text (line.Trust b) read own links link = refl
carrier_kept n text (line.Origins b) read own links link = refl
carrier_kept n text (line.Peer b) read own links link = refl
carrier_kept n text (line.Rate b) read own links link = kept (once (rate_of link links).line own) link (with_rate link (rate_said n b)) refl
carrier_kept n text (line.Strangers b) read own links link = kept (once link.strangers.line own) link (with_strangers link (number_said n b)) refl
carrier_kept n text (line.Kilobits b) read own links link = kept (kilobits_fault link b own links) link (with_kilobits link (number_said n b)) refl
carrier_kept n text (line.Nodes b) read own links link = kept (once link.nodes_line own) link (with_nodes link n) refl
carrier_kept n text (line.Internal b) read own links link = refl
carrier_kept n text (line.Adopt b) read own links link = refl
carrier_kept n text (line.Rule permits b) read own links link = refl
carrier_kept n text (line.Route b) read own links link = refl
carrier_kept n text (line.Service b) read own links link = refl

number_kept : (n : ℕ) (text : List ℕ) (l : Line) (read : ℕ) (own : Option Expected) (links : List LinkSetting) (link : LinkSetting)
    → (line_by n text l read own links link).0.network ≡ link.network
number_kept n text line.Nothing read own links link = refl
number_kept n text (line.Network b) read own links link = refl
number_kept n text (line.Link b) read own links link = refl
number_kept n text (line.Extend b) read own links link = refl
number_kept n text (line.Clients b) read own links link = network_kept (once link.clients.line own) link (with_clients link (clients_said n b)) refl
number_kept n text (line.Allow b) read own links link = refl
number_kept n text (line.Trust b) read own links link = refl
number_kept n text (line.Origins b) read own links link = refl
number_kept n text (line.Peer b) read own links link = refl
number_kept n text (line.Rate b) read own links link = network_kept (once (rate_of link links).line own) link (with_rate link (rate_said n b)) refl
number_kept n text (line.Strangers b) read own links link = network_kept (once link.strangers.line own) link (with_strangers link (number_said n b)) refl
number_kept n text (line.Kilobits b) read own links link = network_kept (kilobits_fault link b own links) link (with_kilobits link (number_said n b)) refl
number_kept n text (line.Nodes b) read own links link = network_kept (once link.nodes_line own) link (with_nodes link n) refl
number_kept n text (line.Internal b) read own links link = refl
number_kept n text (line.Adopt b) read own links link = refl
number_kept n text (line.Rule permits b) read own links link = refl
number_kept n text (line.Route b) read own links link = refl
number_kept n text (line.Service b) read own links link = refl

extends_follow : (c : Configuration) (n : ℕ) (text : List ℕ) (r : Reading) (o : Option NetworkSetting)
    → Follows (extended_by c n text r o).0.networks.count c.links (extended_by c n text r o).0.links
extends_follow c n text r None = same refl
extends_follow c n text r (Some network) = same refl

link_extends_follow : (c : Configuration) (n : ℕ) (text : List ℕ) (r : Reading) (o : Option LinkSetting) → last_link c.links ≡ o
    → Follows (link_extended_by c n text r o).0.networks.count c.links (link_extended_by c n text r o).0.links
link_extends_follow c n text r None e = same refl
link_extends_follow c n text r (Some link) e =
    let l = link_taken n text r (links_in c.links) link in
    again link l.0 e (carrier_kept n text r.line r.read r.fault (links_in c.links) link) (number_kept n text r.line r.read r.fault (links_in c.links) link) refl

either : (l : LinkList) (b : Bool) (x y : Configuration × Option Fault) → Follows x.0.networks.count l x.0.links → Follows y.0.networks.count l y.0.links
    → Follows (if b then x else y).0.networks.count l (if b then x else y).0.links
either l true x y one other = one
either l false x y one other = other

routed_follows : (c : Configuration) (n : ℕ) (text : List ℕ) (r : Reading) (b : RouteBegun)
    → Follows (routed n text r b c).0.networks.count c.links (routed n text r b c).0.links
routed_follows c n text r b =
    either c.links (is_some (route_clash b c)) (c, route_clash b c) (extended_by c n text r (last_network c.networks)) (same refl)
    (extends_follow c n text r (last_network c.networks))

peered_follows : (c : Configuration) (n : ℕ) (text : List ℕ) (r : Reading) (b : Option Place)
    → Follows (peered n text r b c).0.networks.count c.links (peered n text r b c).0.links
peered_follows c n text r b =
    either c.links (is_some (peer_clash b c)) (c, peer_clash b c) (extended_by c n text r (last_network c.networks)) (same refl)
    (extends_follow c n text r (last_network c.networks))

below_network_follows : (n : ℕ) (text : List ℕ) (r : Reading) (l : Line) (c : Configuration)
    → Follows (below_network_by n text r l c).0.networks.count c.links (below_network_by n text r l c).0.links
below_network_follows n text r line.Nothing c = same refl
below_network_follows n text r (line.Network b) c = same refl
below_network_follows n text r (line.Link b) c = same refl
below_network_follows n text r (line.Extend b) c = extends_follow c n text r (last_network c.networks)
below_network_follows n text r (line.Clients b) c = same refl
below_network_follows n text r (line.Allow b) c = same refl
below_network_follows n text r (line.Trust b) c = same refl
below_network_follows n text r (line.Origins b) c = same refl
below_network_follows n text r (line.Peer b) c = same refl
below_network_follows n text r (line.Rate b) c = same refl
below_network_follows n text r (line.Strangers b) c = same refl
below_network_follows n text r (line.Kilobits b) c = same refl
below_network_follows n text r (line.Nodes b) c = same refl
below_network_follows n text r (line.Internal b) c = same refl
below_network_follows n text r (line.Adopt b) c = extends_follow c n text r (last_network c.networks)
below_network_follows n text r (line.Rule permits b) c = extends_follow c n text r (last_network c.networks)
below_network_follows n text r (line.Route b) c = routed_follows c n text r b
below_network_follows n text r (line.Service b) c = extends_follow c n text r (last_network c.networks)

module _ (n : ℕ) (text : List ℕ) (r : Reading) (c : Configuration) where
  last_follows : Follows (link_extended_by c n text r (last_link c.links)).0.networks.count c.links (link_extended_by c n text r (last_link c.links)).0.links
  last_follows = link_extends_follow c n text r (last_link c.links) refl

  abbrev of_tunnel : Fault → Configuration × Option Fault
  of_tunnel f = if is_below_tunnel c then link_extended_by c n text r (last_link c.links) else (c, Some f)

  tunnel_follows : (f : Fault) → Follows (of_tunnel f).0.networks.count c.links (of_tunnel f).0.links
  tunnel_follows f = either c.links (is_below_tunnel c) (link_extended_by c n text r (last_link c.links)) (c, Some f) last_follows (same refl)

  below_link_follows : (l : Line) → Follows (below_link_by n text r l c).0.networks.count c.links (below_link_by n text r l c).0.links
  below_link_follows line.Nothing = tunnel_follows (tunnel_fault c)
  below_link_follows (line.Network b) = tunnel_follows (tunnel_fault c)
  below_link_follows (line.Link b) = tunnel_follows (tunnel_fault c)
  below_link_follows (line.Extend b) = extends_follow c n text r (last_network c.networks)
  below_link_follows (line.Clients b) = tunnel_follows (tunnel_fault c)
  below_link_follows (line.Allow b) = tunnel_follows (tunnel_fault c)
  below_link_follows (line.Trust b) = tunnel_follows (tunnel_fault c)
  below_link_follows (line.Origins b) = either c.links (is_web (last_link c.links)) (link_extended_by c n text r (last_link c.links)) (c, Some fault.BelowWeb) last_follows (same refl)
  below_link_follows (line.Peer b) = peered_follows c n text r b
  below_link_follows (line.Rate b) = last_follows
  below_link_follows (line.Strangers b) = tunnel_follows (tunnel_fault c)
  below_link_follows (line.Kilobits b) = tunnel_follows (tunnel_fault c)
  below_link_follows (line.Nodes b) = tunnel_follows (tunnel_fault c)
  below_link_follows (line.Internal b) = tunnel_follows (tunnel_fault c)
  below_link_follows (line.Adopt b) = extends_follow c n text r (last_network c.networks)
  below_link_follows (line.Rule permits b) = extends_follow c n text r (last_network c.networks)
  below_link_follows (line.Route b) = routed_follows c n text r b
  below_link_follows (line.Service b) = extends_follow c n text r (last_network c.networks)

  below_follows : Follows (taken_below n text r c).0.networks.count c.links (taken_below n text r c).0.links
  below_follows =
      either c.links (c.above == nothing) _ _ (same refl)
      (either c.links (c.above == a_network) _ _ (below_network_follows n text r r.line c)
      (either c.links (c.above == a_link) _ _ (below_link_follows r.line) (same refl)))

  taken_follows : (capacity : Capacity) (l : Line) → Follows (taken_by capacity n text r l c).0.networks.count c.links (taken_by capacity n text r l c).0.links
  taken_follows capacity line.Nothing = same refl
  taken_follows capacity (line.Network b) = network_follows capacity n b r.fault c
  taken_follows capacity (line.Link b) = link_follows capacity n b r.fault c
  taken_follows capacity (line.Extend b) = below_follows
  taken_follows capacity (line.Clients b) = below_follows
  taken_follows capacity (line.Allow b) = below_follows
  taken_follows capacity (line.Trust b) = below_follows
  taken_follows capacity (line.Origins b) = below_follows
  taken_follows capacity (line.Peer b) = below_follows
  taken_follows capacity (line.Rate b) = below_follows
  taken_follows capacity (line.Strangers b) = below_follows
  taken_follows capacity (line.Kilobits b) = below_follows
  taken_follows capacity (line.Nodes b) = below_follows
  taken_follows capacity (line.Internal b) = internal_follows capacity n b r.fault c
  taken_follows capacity (line.Adopt b) = below_follows
  taken_follows capacity (line.Rule permits b) = below_follows
  taken_follows capacity (line.Route b) = below_follows
  taken_follows capacity (line.Service b) = below_follows

pub follows : (capacity : Capacity) (n : ℕ) (text : List ℕ) (c : Configuration)
    → Follows (after capacity n text c).networks.count c.links (after capacity n text c).links
follows capacity n text c = let r = read_in capacity text c in taken_follows n text r c capacity r.line
