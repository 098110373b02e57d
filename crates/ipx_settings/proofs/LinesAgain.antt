use Rattle.std.proofs.Common.{◌≡◌, ℕ, ◌^◌, ◌<◌, ◌≤◌, Bool, true, false, List, [], ◌∷◌, ◌++◌, length, refl, sym, ap, ◌∙◌, arith, Option, Some, None, inl, inr, ne_eqb, le-ltb}
use Rattle.std.proofs.lemmas.Bool.{cases_Bool}
use Rattle.std.proofs.lemmas.Bool.Decides.{nat_tests}
use Rattle.std.proofs.lemmas.Fmt.{decimal_is_IsNumeral}
use Rattle.std.proofs.lemmas.List.{length-append}
use Rattle.std.specs.Char.{digit_value, is_ascii_digit}
use Rattle.std.specs.List.{AllByRecursion}
use Rattle.std.specs.Option.{is_none}
use Rattle.std.specs.Prelude.{Result, Ok, Err, codes, decimal}
use Rattle.std.specs.Str.{bytes_eq}
use Rattle.std.specs.Str.Parse.{AllDigits}
use Rattle.ipx_settings.specs.Addresses.{own_host}
use Rattle.ipx_settings.specs.Beginnings.{said_by, IsLine, if_goes_on, link_said}
use Rattle.ipx_settings.specs.Lines.{most_rate, most_kilobits, read_from, read_to, reading_of}
use Rattle.ipx_settings.specs.Links.{is_the, link_step}
use Rattle.ipx_settings.specs.Networks.{last_network, least_longest, most_longest, head_of, is_share, with_link, behind_head, may_have_node, network_step}
use Rattle.ipx_settings.specs.Right.{IsWord, IsLink}
use Rattle.ipx_settings.specs.RightLines.{Within, IsShares, IsHead, IsNode, MayHaveNode, IsWhole, IsNetwork, IsClients, IsRate, IsMost, IsInternal, IsPeer, IsRight}
use Rattle.ipx_settings.specs.Words.{most_words}
use Rattle.ipx_settings.specs.WritingLinks.{spaced, frames_word, card_words, link_words}
use Rattle.ipx_settings.specs.WritingLines.{bytes_digits, number_word, shares_words, head_words, maybe_link_words, begun_words, network_words, clients_words, rates_words, strangers_words, kilobits_words, nodes_words, internal_words, adopt_words, peer_words, permit_word, line_words}
use Rattle.ipx_settings.specs.declared.addresses.Place.{Place}
use Rattle.ipx_settings.specs.declared.expected.Expected.{Expected}
use Rattle.ipx_settings.specs.declared.internal.InternalBegun.{InternalBegun}
use Rattle.ipx_settings.specs.declared.internal.InternalBegun.TheVariants as internal
use Rattle.ipx_settings.specs.declared.line.ClientsBegun.{ClientsBegun}
use Rattle.ipx_settings.specs.declared.line.ClientsBegun.TheVariants as clients
use Rattle.ipx_settings.specs.declared.line.Context.{Context}
use Rattle.ipx_settings.specs.declared.line.Line.{Line}
use Rattle.ipx_settings.specs.declared.line.Line.TheVariants as line
use Rattle.ipx_settings.specs.declared.line.RateBegun.{RateBegun}
use Rattle.ipx_settings.specs.declared.line.RateBegun.TheVariants as rate
use Rattle.ipx_settings.specs.declared.link.End.TheVariants as ends
use Rattle.ipx_settings.specs.declared.link.Cards.{Cards}
use Rattle.ipx_settings.specs.declared.link.Link.{Link}
use Rattle.ipx_settings.specs.declared.link.Link.TheVariants as link
use Rattle.ipx_settings.specs.declared.link.LinkBegun.{LinkBegun}
use Rattle.ipx_settings.specs.declared.link.LinkBegun.TheVariants as begun
use Rattle.ipx_settings.specs.declared.network.Head.{Head}
use Rattle.ipx_settings.specs.declared.network.NetworkBegun.{NetworkBegun}
use Rattle.ipx_settings.specs.declared.network.NetworkBegun.TheVariants as network
use Rattle.ipx_settings.specs.declared.network.Shares.{Shares}
use Rattle.ipx_settings.specs.declared.reading.Reading.{Reading}
use Rattle.ipx_settings.proofs.AddressesAgain.{one_value}
use Rattle.ipx_settings.proofs.Begun.{said-append}
use Rattle.ipx_settings.proofs.DigitsAgain.{network_again, number_is_word, decimal_is_word, node_again, node_is_word, rate_again, rate_is_word}
use Rattle.ipx_settings.proofs.FirstWrong.{read, read_all}
use Rattle.ipx_settings.proofs.LinksAgain.{link_again, link_is_words, remote_is_word, literal}
use Rattle.ipx_settings.proofs.NamesAgain.{remote_again}
use Rattle.ipx_settings.proofs.NumbersAgain.{number_again}
use Rattle.ipx_settings.proofs.RulesAgain.{rule_line, rule_is_words, rule_count}
use Rattle.ipx_settings.proofs.StaticsAgain.{route_line, route_is_words, route_count, service_line, service_is_words, service_count}
use Rattle.ipx_settings.proofs.WordsAgain.{words_again, before_again}

-- ---- links, behind what stands before them

-- nothing is said behind a wrong word
none_said : {A : Type 0} (a : A) → None ≡ Some a → ⊥
none_said a bad = cc

-- a link's words after `link`
line_link : (c : Context) (b e : LinkBegun) (ws : List (List ℕ)) → link_said c.cards b ws ≡ Some e → said_by c (line.Link b) ws ≡ Some (line.Link e)
line_link c b e [] said = ap (λ x. Some (line.Link x)) (one_value b e said)
line_link c b e (w ∷ ws) said = by (λ next. line_link c next e ws) (link_step c.cards b w) refl said
  where
    by : ((next : LinkBegun) → link_said c.cards next ws ≡ Some e → said_by c (line.Link next) ws ≡ Some (line.Link e)) → (r : Result LinkBegun Expected) → link_step c.cards b w ≡ r
        → if_goes_on r (λ next. link_said c.cards next ws) ≡ Some e → said_by c (line.Link b) (w ∷ ws) ≡ Some (line.Link e)
    by each (Ok next) is said = rw is (each next said)
    by each (Err why) is said = absurd (none_said e said)

-- one of them after what stands before the link of a network
network_next : (cards : Cards) (head : Head) (b next : LinkBegun) (w : List ℕ) → link_step cards b w ≡ Ok next
    → network_step cards (network.Link head b) w ≡ Ok (network.Link head next)
network_next cards head begun.Nothing next w is = rw is refl
network_next cards head begun.Tunnel next w is = rw is refl
network_next cards head begun.Udp next w is = rw is refl
network_next cards head (begun.UdpFrom local) next w is = rw is refl
network_next cards head begun.Tcp next w is = rw is refl
network_next cards head begun.Listen next w is = rw is refl
network_next cards head begun.Connect next w is = rw is refl
network_next cards head begun.Tap next w is = rw is refl
network_next cards head begun.Interface next w is = rw is refl
network_next cards head begun.Multicast next w is = rw is refl
network_next cards head (begun.Group group) next w is = rw is refl
network_next cards head (begun.Via group) next w is = rw is refl
network_next cards head begun.Vde next w is = rw is refl
network_next cards head begun.Web next w is = rw is refl
network_next cards head begun.Peers next w is = rw is refl
network_next cards head (begun.PeersAt local) next w is = rw is refl
network_next cards head begun.Rfc1234 next w is = rw is refl
network_next cards head (begun.End end) next w is = rw is refl
network_next cards head (begun.Whole (link.Web address)) next w is = rw is refl
network_next cards head (begun.Whole (link.Tunnel address)) next w is = absurd cc
network_next cards head (begun.Whole (link.Rfc1234 address)) next w is = absurd cc
network_next cards head (begun.Whole (link.Framed end frames)) next w is = absurd cc

network_link : (c : Context) (head : Head) (b e : LinkBegun) (ws : List (List ℕ)) → link_said c.cards b ws ≡ Some e
    → said_by c (line.Network (network.Link head b)) ws ≡ Some (line.Network (network.Link head e))
network_link c head b e [] said = ap (λ x. Some (line.Network (network.Link head x))) (one_value b e said)
network_link c head b e (w ∷ ws) said = by (λ next. network_link c head next e ws) (link_step c.cards b w) refl said
  where
    by : ((next : LinkBegun) → link_said c.cards next ws ≡ Some e → said_by c (line.Network (network.Link head next)) ws ≡ Some (line.Network (network.Link head e)))
        → (r : Result LinkBegun Expected) → link_step c.cards b w ≡ r → if_goes_on r (λ next. link_said c.cards next ws) ≡ Some e
        → said_by c (line.Network (network.Link head b)) (w ∷ ws) ≡ Some (line.Network (network.Link head e))
    by each (Ok next) is said = rw (network_next c.cards head b next w is) (each next said)
    by each (Err why) is said = absurd (none_said e said)

-- a word that is neither a share nor `node` begins a link
begins_link : (head : Head) (cards : Cards) (w : List ℕ) → is_share w ≡ false → is_the w (codes "node") ≡ false
    → behind_head head cards w ≡ with_link head (link_step cards begun.Nothing w)
begins_link head cards w share node = by (is_none head.shares) refl
  where
    by : (b : Bool) → is_none head.shares ≡ b → behind_head head cards w ≡ with_link head (link_step cards begun.Nothing w)
    by true is = rw (is, share, node) refl
    by false is = rw (is, node) refl

-- the first of these words is such a one
abbrev StartsLink : List (List ℕ) → Type 0
StartsLink [] = ⊥
StartsLink (w ∷ ws) = (is_share w ≡ false) × (is_the w (codes "node") ≡ false)

first_link : (c : Context) (head : Head) (e : LinkBegun) (ws : List (List ℕ)) → StartsLink ws
    → link_said c.cards begun.Nothing ws ≡ Some e → said_by c (line.Network (network.Head head)) ws ≡ Some (line.Network (network.Link head e))
first_link c head e [] starts said = absurd starts
first_link c head e (w ∷ ws) starts said = by (link_step c.cards begun.Nothing w) refl said
  where
    by : (r : Result LinkBegun Expected) → link_step c.cards begun.Nothing w ≡ r → if_goes_on r (λ next. link_said c.cards next ws) ≡ Some e
        → said_by c (line.Network (network.Head head)) (w ∷ ws) ≡ Some (line.Network (network.Link head e))
    by (Ok next) is said = rw (begins_link head c.cards w starts.0 starts.1, is) (network_link c head next e ws said)
    by (Err why) is said = absurd (none_said e said)

link_starts : (it : Link) → StartsLink (link_words it)
link_starts (link.Tunnel address) = (refl, refl)
link_starts (link.Framed (ends.Udp local remote) frames) = (refl, refl)
link_starts (link.Framed (ends.Listen local) frames) = (refl, refl)
link_starts (link.Framed (ends.Connect remote) frames) = (refl, refl)
link_starts (link.Framed (ends.Tap name) frames) = (refl, refl)
link_starts (link.Framed (ends.Interface name) frames) = (refl, refl)
link_starts (link.Framed (ends.Group group card) frames) = (refl, refl)
link_starts (link.Framed (ends.Switch path) frames) = (refl, refl)
link_starts (link.Framed (ends.Web address) frames) = (refl, refl)
link_starts (link.Web address) = (refl, refl)
link_starts (link.Framed (ends.Peers local file) frames) = (refl, refl)
link_starts (link.Rfc1234 address) = (refl, refl)

behind_again : (c : Context) (head : Head) (it : Link) → IsLink c.cards it
    → said_by c (line.Network (network.Head head)) (link_words it) ≡ Some (line.Network (network.Link head (begun.Whole it)))
behind_again c head it is = first_link c head (begun.Whole it) (link_words it) (link_starts it) (link_again c.cards it is)

-- ---- networks

digits_first : (ds : List ℕ) → 0 < length ds → AllDigits 10 ds → is_share ds ≡ true
digits_first [] some all = absurd (omega (arith, some))
digits_first (c ∷ ds) some all = rw (ne_eqb (length (c ∷ ds)) 0 (λ e. omega (arith, e))) (is_digit c all.0)
  where
    is_digit : (c : ℕ) → digit_value c < 10 → is_ascii_digit c ≡ true
    is_digit c low = grind (arith, nat_tests)

a_share : (n : ℕ) → n < 2 ^ 16 → is_share (decimal n) ≡ true
a_share n low =
    let is = decimal_is_IsNumeral n (omega (arith, low)) in
    digits_first (decimal n) is.0.0 is.0.1

numbers_again : (c : Context) (number cost longest : ℕ) (more : List (List ℕ)) → Within 1 last_network number → Within 1 65535 cost → Within least_longest most_longest longest
    → said_by c line.Nothing (codes "network" ∷ number_word number ∷ decimal cost ∷ decimal longest ∷ more) ≡ said_by c (line.Network (network.Head (head_of number cost None longest))) more
numbers_again c number cost longest more is cheap short =
    rw (network_again number is.0 is.1, number_again 1 65535 cost (omega (arith, cheap.1)) cheap.0 cheap.1, number_again least_longest most_longest longest (omega (arith, short.1)) short.0 short.1) refl

shares_again : (c : Context) (number cost longest : ℕ) (shares : Option Shares) → IsShares shares
    → said_by c (line.Network (network.Head (head_of number cost None longest))) (shares_words shares) ≡ Some (line.Network (network.Head (head_of number cost shares longest)))
shares_again c number cost longest None is = refl
shares_again c number cost longest (Some shares) is =
    rw (a_share shares.routes is.0, number_again 0 65535 shares.routes (omega (arith, is.0)) (omega arith) (omega (arith, is.0)), number_again 0 65535 shares.services (omega (arith, is.1)) (omega arith) (omega (arith, is.1))) refl

head_again : (c : Context) (head : Head) → IsHead head → said_by c line.Nothing (head_words head) ≡ Some (line.Network (network.Head head))
unfolding head_words
head_again c head is =
    numbers_again c head.number head.cost head.longest (shares_words head.shares) is.0 is.1 is.2 ∙ shares_again c head.number head.cost head.longest head.shares is.3

node_after : (c : Context) (head : Head) (node : List ℕ) → IsNode node
    → said_by c (line.Network (network.Head head)) (codes "node" ∷ bytes_digits node ∷ []) ≡ Some (line.Network (network.Whole head None node))
node_after c head node is = by (is_none head.shares) refl
  where
    by : (b : Bool) → is_none head.shares ≡ b → said_by c (line.Network (network.Head head)) (codes "node" ∷ bytes_digits node ∷ []) ≡ Some (line.Network (network.Whole head None node))
    by true none = rw (none, node_again node is) refl
    by false some = rw (some, node_again node is) refl

node_after_link : (c : Context) (head : Head) (it : Link) (node : List ℕ) → may_have_node it ≡ true → IsNode node
    → said_by c (line.Network (network.Link head (begun.Whole it))) (codes "node" ∷ bytes_digits node ∷ []) ≡ Some (line.Network (network.Whole head (Some it) node))
node_after_link c head (link.Web address) node may is = absurd cc
node_after_link c head (link.Tunnel address) node may is = absurd cc
node_after_link c head (link.Rfc1234 address) node may is = absurd cc
node_after_link c head (link.Framed end frames) node may is = rw (may, node_again node is) refl

maybe_node : (c : Context) (head : Head) (it : Option Link) (node : List ℕ) → IsHead head → MayHaveNode c.cards it → IsNode node
    → said_by c line.Nothing (head_words head ++ maybe_link_words it ++ codes "node" ∷ bytes_digits node ∷ []) ≡ Some (line.Network (network.Whole head it node))
maybe_node c head None node is may one =
    said-append c line.Nothing (line.Network (network.Head head)) (head_words head ++ []) (codes "node" ∷ bytes_digits node ∷ [])
    (said-append c line.Nothing (line.Network (network.Head head)) (head_words head) [] (head_again c head is) ∙ refl)
    ∙ node_after c head node one
maybe_node c head (Some it) node is may one =
    said-append c line.Nothing (line.Network (network.Link head (begun.Whole it))) (head_words head ++ link_words it) (codes "node" ∷ bytes_digits node ∷ [])
    (said-append c line.Nothing (line.Network (network.Head head)) (head_words head) (link_words it) (head_again c head is) ∙ behind_again c head it may.0)
    ∙ node_after_link c head it node may.1 one

network_line : (c : Context) (it : NetworkBegun) → IsNetwork c.cards it → IsLine c (line.Network it) (network_words it)
network_line c network.Nothing is = absurd is
network_line c (network.Number number) is = absurd is
network_line c (network.Cost number cost) is = absurd is
network_line c (network.Head head) is = (head_again c head is, refl)
network_line c (network.Routes head routes) is = absurd is
network_line c (network.Link head (begun.Whole it)) is =
    (said-append c line.Nothing (line.Network (network.Head head)) (head_words head) (link_words it) (head_again c head is.0) ∙ behind_again c head it is.1, refl)
network_line c (network.Link head begun.Nothing) is = absurd is.1
network_line c (network.Link head begun.Tunnel) is = absurd is.1
network_line c (network.Link head begun.Udp) is = absurd is.1
network_line c (network.Link head (begun.UdpFrom local)) is = absurd is.1
network_line c (network.Link head begun.Tcp) is = absurd is.1
network_line c (network.Link head begun.Listen) is = absurd is.1
network_line c (network.Link head begun.Connect) is = absurd is.1
network_line c (network.Link head begun.Tap) is = absurd is.1
network_line c (network.Link head begun.Interface) is = absurd is.1
network_line c (network.Link head begun.Multicast) is = absurd is.1
network_line c (network.Link head (begun.Group group)) is = absurd is.1
network_line c (network.Link head (begun.Via group)) is = absurd is.1
network_line c (network.Link head begun.Vde) is = absurd is.1
network_line c (network.Link head begun.Web) is = absurd is.1
network_line c (network.Link head begun.Peers) is = absurd is.1
network_line c (network.Link head (begun.PeersAt local)) is = absurd is.1
network_line c (network.Link head begun.Rfc1234) is = absurd is.1
network_line c (network.Link head (begun.End end)) is = absurd is.1
network_line c (network.Node head it) is = absurd is
network_line c (network.Whole head it node) is = (maybe_node c head it node is.0 is.1 is.2, refl)

link_line : (c : Context) (b : LinkBegun) → IsWhole c.cards b → IsLine c (line.Link b) (codes "link" ∷ begun_words b)
link_line c (begun.Whole it) is = (line_link c begun.Nothing (begun.Whole it) (link_words it) (link_again c.cards it is), refl)
link_line c begun.Nothing is = absurd is
link_line c begun.Tunnel is = absurd is
link_line c begun.Udp is = absurd is
link_line c (begun.UdpFrom local) is = absurd is
link_line c begun.Tcp is = absurd is
link_line c begun.Listen is = absurd is
link_line c begun.Connect is = absurd is
link_line c begun.Tap is = absurd is
link_line c begun.Interface is = absurd is
link_line c begun.Multicast is = absurd is
link_line c (begun.Group group) is = absurd is
link_line c (begun.Via group) is = absurd is
link_line c begun.Vde is = absurd is
link_line c begun.Web is = absurd is
link_line c begun.Peers is = absurd is
link_line c (begun.PeersAt local) is = absurd is
link_line c begun.Rfc1234 is = absurd is
link_line c (begun.End end) is = absurd is

-- ---- other lines

-- (a number of clients has 16 bits)
clients_line : (c : Context) (it : ClientsBegun) → c.most_clients < 2 ^ 16 → IsClients c.most_clients it → IsLine c (line.Clients it) (codes "clients" ∷ clients_words it)
clients_line c clients.Nothing low is = absurd is
clients_line c (clients.All n) low is = (rw (number_again 1 c.most_clients n (omega (arith, low, is.1)) is.0 is.1) refl, refl)
clients_line c (clients.OfAddress n m) low is =
    (rw (number_again 1 c.most_clients n (omega (arith, low, is.0.1)) is.0.0 is.0.1, number_again 1 n m (omega (arith, low, is.0.1, is.1.1)) is.1.0 is.1.1) refl, refl)

rate_line : (c : Context) (it : RateBegun) → IsRate c.is_below_tunnel it → IsLine c (line.Rate it) (codes "rate" ∷ rates_words it)
rate_line c rate.Nothing is = absurd is
rate_line c (rate.Rate r) is = (rw (rate_again r is) refl, refl)
rate_line c (rate.Share r share) is =
    (rw (rate_again r is.0, ne_eqb r 0 (λ e. omega (arith, e, is.1)), number_again 1 r share (omega (arith, is.0, is.1.1)) is.1.0 is.1.1) refl, refl)
rate_line c (rate.Household r share household) is =
    (rw (rate_again r is.0, ne_eqb r 0 (λ e. omega (arith, e, is.1)), number_again 1 r share (omega (arith, is.0, is.1.1)) is.1.0 is.1.1, is.3, rate_again household is.2) refl, refl)

strangers_line : (c : Context) (it : Option ℕ) → IsMost 0 most_rate it → IsLine c (line.Strangers it) (codes "strangers" ∷ strangers_words it)
strangers_line c None is = absurd is
strangers_line c (Some r) is = (rw (rate_again r is.1) refl, refl)

kilobits_line : (c : Context) (it : Option ℕ) → IsMost 1 most_kilobits it → IsLine c (line.Kilobits it) (codes "line" ∷ kilobits_words it)
kilobits_line c None is = absurd is
kilobits_line c (Some n) is = (rw (number_again 1 most_kilobits n (omega (arith, is.1)) is.0 is.1) refl, refl)

nodes_line : (c : Context) (by_address : Bool) → by_address ≡ true → IsLine c (line.Nodes by_address) (codes "nodes" ∷ nodes_words by_address)
nodes_line c false is = absurd cc
nodes_line c true is = (refl, refl)

internal_line : (c : Context) (it : InternalBegun) → IsInternal it → IsLine c (line.Internal it) (codes "internal" ∷ internal_words it)
internal_line c internal.Nothing is = absurd is
internal_line c (internal.Number number) is = (rw (network_again number is.0 is.1) refl, refl)
internal_line c (internal.Node number) is = absurd is
internal_line c (internal.Whole number node) is = (rw (network_again number is.0.0 is.0.1, node_again node is.1) refl, refl)

adopt_line : (c : Context) (is_off : Bool) → is_off ≡ true → IsLine c (line.Adopt is_off) (codes "adopt" ∷ adopt_words is_off)
adopt_line c false is = absurd cc
adopt_line c true is = (refl, refl)

peer_line : (c : Context) (it : Option Place) → IsPeer it → IsLine c (line.Peer it) (codes "peer" ∷ peer_words it)
peer_line c None is = absurd is
peer_line c (Some place) is = (rw (remote_again place is) refl, refl)

pub line_again : (c : Context) (l : Line) → IsRight c l → IsLine c l (line_words l)
line_again c line.Nothing is = (refl, refl)
line_again c (line.Network it) is = network_line c it is
line_again c (line.Link it) is = link_line c it is
line_again c (line.Extend has_some) is = absurd is
line_again c (line.Clients it) is = clients_line c it is.0 is.1
line_again c (line.Allow has_some) is = absurd is
line_again c (line.Trust has_some) is = absurd is
line_again c (line.Rate it) is = rate_line c it is
line_again c (line.Strangers it) is = strangers_line c it is
line_again c (line.Kilobits it) is = kilobits_line c it is
line_again c (line.Nodes by_address) is = nodes_line c by_address is
line_again c (line.Internal it) is = internal_line c it is
line_again c (line.Adopt is_off) is = adopt_line c is_off is
line_again c (line.Rule permits it) is = rule_line c permits it is
line_again c (line.Route it) is = route_line c it is
line_again c (line.Service it) is = service_line c it is
line_again c (line.Origins has_some) is = absurd is
line_again c (line.Peer it) is = peer_line c it is

-- ---- its words

append_words : (xs ys : List (List ℕ)) → AllByRecursion IsWord xs → AllByRecursion IsWord ys → AllByRecursion IsWord (xs ++ ys)
append_words [] ys left right = right
append_words (x ∷ xs) ys left right = (left.0, append_words xs ys left.1 right)

shares_are_words : (shares : Option Shares) → IsShares shares → AllByRecursion IsWord (shares_words shares)
shares_are_words None is = tt
shares_are_words (Some shares) is = (decimal_is_word shares.routes (omega (arith, is.0)), (decimal_is_word shares.services (omega (arith, is.1)), tt))

head_is_words : (head : Head) → IsHead head → AllByRecursion IsWord (head_words head)
unfolding head_words
head_is_words head is =
    (literal (codes "network") (omega arith) refl, (number_is_word head.number, (decimal_is_word head.cost (omega (arith, is.1.1)), (decimal_is_word head.longest (omega (arith, is.2.1)), shares_are_words head.shares is.3))))

maybe_is_words : (cards : Cards) (it : Option Link) → MayHaveNode cards it → AllByRecursion IsWord (maybe_link_words it)
maybe_is_words cards None may = tt
maybe_is_words cards (Some it) may = link_is_words cards it may.0

begun_is_words : (cards : Cards) (b : LinkBegun) → IsWhole cards b → AllByRecursion IsWord (begun_words b)
begun_is_words cards (begun.Whole it) is = link_is_words cards it is
begun_is_words cards begun.Nothing is = absurd is
begun_is_words cards begun.Tunnel is = absurd is
begun_is_words cards begun.Udp is = absurd is
begun_is_words cards (begun.UdpFrom local) is = absurd is
begun_is_words cards begun.Tcp is = absurd is
begun_is_words cards begun.Listen is = absurd is
begun_is_words cards begun.Connect is = absurd is
begun_is_words cards begun.Tap is = absurd is
begun_is_words cards begun.Interface is = absurd is
begun_is_words cards begun.Multicast is = absurd is
begun_is_words cards (begun.Group group) is = absurd is
begun_is_words cards (begun.Via group) is = absurd is
begun_is_words cards begun.Vde is = absurd is
begun_is_words cards begun.Web is = absurd is
begun_is_words cards begun.Peers is = absurd is
begun_is_words cards (begun.PeersAt local) is = absurd is
begun_is_words cards begun.Rfc1234 is = absurd is
begun_is_words cards (begun.End end) is = absurd is

network_is_words : (cards : Cards) (it : NetworkBegun) → IsNetwork cards it → AllByRecursion IsWord (network_words it)
network_is_words cards (network.Head head) is = head_is_words head is
network_is_words cards (network.Link head it) is = append_words (head_words head) (begun_words it) (head_is_words head is.0) (begun_is_words cards it is.1)
network_is_words cards (network.Whole head it node) is =
    append_words (head_words head ++ maybe_link_words it) (codes "node" ∷ bytes_digits node ∷ [])
    (append_words (head_words head) (maybe_link_words it) (head_is_words head is.0) (maybe_is_words cards it is.1))
    (literal (codes "node") (omega arith) refl, (node_is_word node is.2, tt))
network_is_words cards network.Nothing is = absurd is
network_is_words cards (network.Number number) is = absurd is
network_is_words cards (network.Cost number cost) is = absurd is
network_is_words cards (network.Routes head routes) is = absurd is
network_is_words cards (network.Node head it) is = absurd is

clients_are_words : (most : ℕ) (it : ClientsBegun) → most < 2 ^ 16 → IsClients most it → AllByRecursion IsWord (clients_words it)
clients_are_words most clients.Nothing low is = absurd is
clients_are_words most (clients.All n) low is = (decimal_is_word n (omega (arith, low, is.1)), tt)
clients_are_words most (clients.OfAddress n m) low is = (decimal_is_word n (omega (arith, low, is.0.1)), (decimal_is_word m (omega (arith, low, is.0.1, is.1.1)), tt))

rates_are_words : (is_below_tunnel : Bool) (it : RateBegun) → IsRate is_below_tunnel it → AllByRecursion IsWord (rates_words it)
rates_are_words is_below_tunnel rate.Nothing is = absurd is
rates_are_words is_below_tunnel (rate.Rate r) is = (rate_is_word r is, tt)
rates_are_words is_below_tunnel (rate.Share r share) is = (rate_is_word r is.0, (decimal_is_word share (omega (arith, is.0, is.1.1)), tt))
rates_are_words is_below_tunnel (rate.Household r share household) is =
    (rate_is_word r is.0, (decimal_is_word share (omega (arith, is.0, is.1.1)), (rate_is_word household is.2, tt)))

strangers_are_words : (it : Option ℕ) → IsMost 0 most_rate it → AllByRecursion IsWord (strangers_words it)
strangers_are_words None is = absurd is
strangers_are_words (Some r) is = (rate_is_word r is.1, tt)

kilobits_are_words : (it : Option ℕ) → IsMost 1 most_kilobits it → AllByRecursion IsWord (kilobits_words it)
kilobits_are_words None is = absurd is
kilobits_are_words (Some n) is = (decimal_is_word n (omega (arith, is.1)), tt)

nodes_are_words : (by_address : Bool) → AllByRecursion IsWord (nodes_words by_address)
nodes_are_words false = tt
nodes_are_words true = (literal (codes "by-address") (omega arith) refl, tt)

internal_are_words : (it : InternalBegun) → IsInternal it → AllByRecursion IsWord (internal_words it)
internal_are_words internal.Nothing is = absurd is
internal_are_words (internal.Number number) is = (number_is_word number, tt)
internal_are_words (internal.Node number) is = absurd is
internal_are_words (internal.Whole number node) is = (number_is_word number, (literal (codes "node") (omega arith) refl, (node_is_word node is.1, tt)))

adopt_are_words : (is_off : Bool) → AllByRecursion IsWord (adopt_words is_off)
adopt_are_words false = tt
adopt_are_words true = (literal (codes "no") (omega arith) refl, tt)

peer_is_words : (it : Option Place) → IsPeer it → AllByRecursion IsWord (peer_words it)
peer_is_words None is = absurd is
peer_is_words (Some place) is = (remote_is_word place is, tt)

line_is_words : (c : Context) (l : Line) → IsRight c l → AllByRecursion IsWord (line_words l)
line_is_words c line.Nothing is = tt
line_is_words c (line.Network it) is = network_is_words c.cards it is
line_is_words c (line.Link it) is = (literal (codes "link") (omega arith) refl, begun_is_words c.cards it is)
line_is_words c (line.Extend has_some) is = absurd is
line_is_words c (line.Clients it) is = (literal (codes "clients") (omega arith) refl, clients_are_words c.most_clients it is.0 is.1)
line_is_words c (line.Allow has_some) is = absurd is
line_is_words c (line.Trust has_some) is = absurd is
line_is_words c (line.Rate it) is = (literal (codes "rate") (omega arith) refl, rates_are_words c.is_below_tunnel it is)
line_is_words c (line.Strangers it) is = (literal (codes "strangers") (omega arith) refl, strangers_are_words it is)
line_is_words c (line.Kilobits it) is = (literal (codes "line") (omega arith) refl, kilobits_are_words it is)
line_is_words c (line.Nodes by_address) is = (literal (codes "nodes") (omega arith) refl, nodes_are_words by_address)
line_is_words c (line.Internal it) is = (literal (codes "internal") (omega arith) refl, internal_are_words it is)
line_is_words c (line.Adopt is_off) is = (literal (codes "adopt") (omega arith) refl, adopt_are_words is_off)
line_is_words c (line.Rule permits it) is = rule_is_words permits it is
line_is_words c (line.Route it) is = (literal (codes "route") (omega arith) refl, route_is_words it is)
line_is_words c (line.Service it) is = (literal (codes "service") (omega arith) refl, service_is_words it is)
line_is_words c (line.Origins has_some) is = absurd is
line_is_words c (line.Peer it) is = (literal (codes "peer") (omega arith) refl, peer_is_words it is)

-- ---- how many they are

card_count : (card : List ℕ) → length (card_words card) ≤ 2
card_count card = elim (cases_Bool (bytes_eq card own_host)) [
  | inl own ↦ rw own (omega arith)
  | inr other ↦ rw other (omega arith)
]

link_count : (it : Link) → length (link_words it) ≤ 5
link_count (link.Tunnel address) = omega arith
link_count (link.Framed (ends.Udp local remote) frames) = omega arith
link_count (link.Framed (ends.Listen local) frames) = omega arith
link_count (link.Framed (ends.Connect remote) frames) = omega arith
link_count (link.Framed (ends.Tap name) frames) = omega arith
link_count (link.Framed (ends.Interface name) frames) = omega arith
link_count (link.Framed (ends.Group group card) frames) = omega (arith, length-append (card_words card) (frames_word frames ∷ []), card_count card)
link_count (link.Framed (ends.Switch path) frames) = omega arith
link_count (link.Framed (ends.Web address) frames) = omega arith
link_count (link.Web address) = omega arith
link_count (link.Framed (ends.Peers local file) frames) = omega arith
link_count (link.Rfc1234 address) = omega arith

shares_count : (shares : Option Shares) → length (shares_words shares) ≤ 2
shares_count None = omega arith
shares_count (Some shares) = omega arith

head_count : (head : Head) → length (head_words head) ≤ 6
unfolding head_words
head_count head = omega (arith, shares_count head.shares)

maybe_count : (it : Option Link) → length (maybe_link_words it) ≤ 5
maybe_count None = omega arith
maybe_count (Some it) = link_count it

begun_count : (b : LinkBegun) → length (begun_words b) ≤ 5
begun_count (begun.Whole it) = link_count it
begun_count begun.Nothing = omega arith
begun_count begun.Tunnel = omega arith
begun_count begun.Udp = omega arith
begun_count (begun.UdpFrom local) = omega arith
begun_count begun.Tcp = omega arith
begun_count begun.Listen = omega arith
begun_count begun.Connect = omega arith
begun_count begun.Tap = omega arith
begun_count begun.Interface = omega arith
begun_count begun.Multicast = omega arith
begun_count (begun.Group group) = omega arith
begun_count (begun.Via group) = omega arith
begun_count begun.Vde = omega arith
begun_count begun.Web = omega arith
begun_count begun.Peers = omega arith
begun_count (begun.PeersAt local) = omega arith
begun_count begun.Rfc1234 = omega arith
begun_count (begun.End end) = omega arith

network_count : (it : NetworkBegun) → length (network_words it) ≤ 13
network_count (network.Head head) = omega (arith, head_count head)
network_count (network.Link head it) = omega (arith, length-append (head_words head) (begun_words it), head_count head, begun_count it)
network_count (network.Whole head it node) =
    omega (arith, length-append (head_words head ++ maybe_link_words it) (codes "node" ∷ bytes_digits node ∷ []), length-append (head_words head) (maybe_link_words it), head_count head, maybe_count it)
network_count network.Nothing = omega arith
network_count (network.Number number) = omega arith
network_count (network.Cost number cost) = omega arith
network_count (network.Routes head routes) = omega arith
network_count (network.Node head it) = omega arith

line_count : (l : Line) → length (line_words l) ≤ 13
line_count line.Nothing = omega arith
line_count (line.Network it) = network_count it
line_count (line.Link it) = omega (arith, begun_count it)
line_count (line.Extend has_some) = omega arith
line_count (line.Clients clients.Nothing) = omega arith
line_count (line.Clients (clients.All n)) = omega arith
line_count (line.Clients (clients.OfAddress n m)) = omega arith
line_count (line.Allow has_some) = omega arith
line_count (line.Trust has_some) = omega arith
line_count (line.Rate rate.Nothing) = omega arith
line_count (line.Rate (rate.Rate r)) = omega arith
line_count (line.Rate (rate.Share r share)) = omega arith
line_count (line.Rate (rate.Household r share household)) = omega arith
line_count (line.Strangers None) = omega arith
line_count (line.Strangers (Some r)) = omega arith
line_count (line.Kilobits None) = omega arith
line_count (line.Kilobits (Some n)) = omega arith
line_count (line.Nodes false) = omega arith
line_count (line.Nodes true) = omega arith
line_count (line.Internal internal.Nothing) = omega arith
line_count (line.Internal (internal.Number number)) = omega arith
line_count (line.Internal (internal.Node number)) = omega arith
line_count (line.Internal (internal.Whole number node)) = omega arith
line_count (line.Adopt false) = omega arith
line_count (line.Adopt true) = omega arith
line_count (line.Rule permits it) = omega (arith, rule_count (permit_word permits) it)
line_count (line.Route it) = omega (arith, route_count it)
line_count (line.Service it) = omega (arith, service_count it)
line_count (line.Origins has_some) = omega arith
line_count (line.Peer None) = omega arith
line_count (line.Peer (Some place)) = omega arith

-- ---- texts

same_reading : (r : Reading) (l : Line) (n : ℕ) → r.line ≡ l → r.read ≡ n → r.fault ≡ None → r ≡ read_to l n None
same_reading r l n e f g = rw (sym e, sym f, sym g) refl

-- words that are a line are read as that one
pub text_read : (c : Context) (l : Line) (ws : List (List ℕ)) → AllByRecursion IsWord ws → length ws ≤ most_words → IsLine c l ws
    → reading_of c (spaced ws) ≡ read_to l (length ws) None
text_read c l ws are few is =
    let known = read c l ws is in
    rw (before_again ws are, words_again ws are, le-ltb most_words (length ws) few)
    (same_reading (read_from c line.Nothing 0 ws) l (length ws) known.1 (read_all c l ws is) known.0)

pub text_again : (c : Context) (l : Line) → IsRight c l → reading_of c (spaced (line_words l)) ≡ read_to l (length (line_words l)) None
text_again c l is = text_read c l (line_words l) (line_is_words c l is) (omega (arith, line_count l)) (line_again c l is)

pub lines_once : (c : Context) (a b : Line) → IsRight c a → IsRight c b → spaced (line_words a) ≡ spaced (line_words b) → a ≡ b
lines_once c a b is also same =
    ap (λ (r : Reading). r.line) (sym (text_again c a is) ∙ ap (reading_of c) same ∙ text_again c b also)
