use Rattle.std.proofs.Common.{◌≡◌, ◌∙◌, refl, ap, ap₂, Bool, true, false, ◌&&◌, ◌||◌, not, if◌then◌else◌, ℕ, List, [], ◌∷◌, filter}
use Rattle.std.proofs.Math.Bool.{or-true}
use Rattle.ipx_wire.specs.declared.header.Header.{Header}
use Rattle.ipx_wire.specs.declared.node.Node.{Node}
use Rattle.ipx_tunnel.specs.declared.said.Said.TheVariants.{Speaks}
use Rattle.ipx_tunnel.specs.declared.sender.Sender.{Sender}
use Rattle.ipx_tunnel.specs.declared.setting.Setting.{Setting}
use Rattle.ipx_tunnel.specs.Places.{same_node, broadcast, is_here}
use Rattle.ipx_tunnel.specs.Events.{History, Datagram, Send}
use Rattle.ipx_tunnel.specs.Says.{said}
use Rattle.ipx_tunnel.specs.Clients.{clients}
use Rattle.ipx_tunnel.specs.Own.{is_ping}
use Rattle.ipx_tunnel.specs.Receivers.{is_for, to_for, receivers, is_for_router, is_heard_of, is_heard}
use Rattle.ipx_tunnel.specs.Laws.{copies, is_client}
use Rattle.ipx_tunnel.proofs.Clients.{once}
use Rattle.ipx_tunnel.proofs.Members.{copies_passed}
use Rattle.ipx_tunnel.proofs.Standing.{clients_sent}
use Rattle.ipx_tunnel.proofs.laws.cable.Goals as goal

-- what a client says to its network goes to those for whom it is
said_to : (setting : Setting) (history : History) (from : Sender) (bytes : List ℕ) (header : Header) → said setting.network from bytes ≡ Speaks header
    → is_client setting from.place (Datagram from bytes ∷ history) ≡ true → is_here setting.network header.destination.network ≡ true
    → receivers setting (Datagram from bytes ∷ history) ≡ filter (is_for header.destination.node from.place) (clients setting (Datagram from bytes ∷ history))
said_to setting history from bytes header speaks client here =
    let places = clients setting (Datagram from bytes ∷ history) in
    ap (to_for setting places from) speaks
    ∙ ap₂ (λ (a b : Bool). if a && b then filter (is_for header.destination.node from.place) places else []) client here

-- each for whom it is gets it once
each_once : (setting : Setting) (history : History) (to sender place : Node)
    → copies place (filter (is_for to sender) (clients setting history)) ≡ (if is_client setting place history && is_for to sender place then 1 else 0)
each_once setting history to sender place = copies_passed (is_for to sender) place (clients setting history) (once setting history place)

-- for whom it is
meant : (setting : Setting) (history : History) (to sender place : Node) (to_all : Bool) → same_node to broadcast ≡ to_all
    → ◌≡◌ {A = ℕ} (if is_client setting place history && is_for to sender place then 1 else 0)
    (if is_client setting place history && (if to_all then not (same_node place sender) else same_node place to) then 1 else 0)
meant setting history to sender place to_all is =
    ap (λ (b : Bool). if is_client setting place history && (if b then not (same_node place sender) else same_node place to) then 1 else 0) is

sent : (setting : Setting) (history : History) (to : Node) (bytes : List ℕ) (place : Node)
    → copies place (receivers setting (Send to bytes ∷ history)) ≡ (if is_client setting place history && is_for to setting.node place then 1 else 0)
sent setting history to bytes place =
    ap (λ (l : List Node). copies place (filter (is_for to setting.node) l)) (clients_sent setting to bytes history)
    ∙ each_once setting history to setting.node place

pub returns-clause-node : goal.returns-clause-node
returns-clause-node c = λ setting history from bytes header place speaks client here one.
    let after = Datagram from bytes ∷ history in
    ap (copies place) (said_to setting history from bytes header speaks client here)
    ∙ each_once setting after header.destination.node from.place place
    ∙ meant setting after header.destination.node from.place place false one

pub returns-clause-all : goal.returns-clause-all
returns-clause-all c = λ setting history from bytes header place speaks client here all.
    let after = Datagram from bytes ∷ history in
    ap (copies place) (said_to setting history from bytes header speaks client here)
    ∙ each_once setting after header.destination.node from.place place
    ∙ meant setting after header.destination.node from.place place true all

pub returns-clause-router_node : goal.returns-clause-router_node
returns-clause-router_node c = λ setting history to bytes place one.
    sent setting history to bytes place ∙ meant setting history to setting.node place false one

pub returns-clause-router_all : goal.returns-clause-router_all
returns-clause-router_all c = λ setting history to bytes place all.
    sent setting history to bytes place ∙ meant setting history to setting.node place true all

-- the router hears what a client says, if it is for the router
heard_by : (setting : Setting) (history : History) (from : Sender) (bytes : List ℕ) (header : Header) → said setting.network from bytes ≡ Speaks header
    → is_client setting from.place (Datagram from bytes ∷ history) ≡ true → is_for_router setting header ≡ true
    → is_heard setting (Datagram from bytes ∷ history) ≡ true
heard_by setting history from bytes header speaks client hears =
    ap (is_heard_of setting (clients setting (Datagram from bytes ∷ history)) from) speaks ∙ ap₂ (λ (a b : Bool). a && b) client hears

for_router : (here one all ping : Bool) → here ≡ true → (one || (all && not ping)) ≡ true → (if here then one || (all && not ping) else true) ≡ true
for_router true one all ping is hears = hears
for_router false one all ping is hears = refl

pub returns-clause-heard_node : goal.returns-clause-heard_node
returns-clause-heard_node c = λ setting history from bytes header speaks client here one.
    let all = same_node header.destination.node broadcast in
    let ping = is_ping setting.network header in
    heard_by setting history from bytes header speaks client
    (for_router (is_here setting.network header.destination.network) (same_node header.destination.node setting.node) all ping here
    (ap (λ (b : Bool). b || (all && not ping)) one))

pub returns-clause-heard_all : goal.returns-clause-heard_all
returns-clause-heard_all c = λ setting history from bytes header speaks client here to_all other.
    let one = same_node header.destination.node setting.node in
    heard_by setting history from bytes header speaks client
    (for_router (is_here setting.network header.destination.network) one (same_node header.destination.node broadcast)
    (is_ping setting.network header) here
    (ap₂ (λ (a b : Bool). one || (a && not b)) to_all other ∙ or-true one))

pub returns-clause-heard_far : goal.returns-clause-heard_far
returns-clause-heard_far c = λ setting history from bytes header speaks client away.
    heard_by setting history from bytes header speaks client
    (ap (λ (b : Bool). if b then same_node header.destination.node setting.node || (same_node header.destination.node broadcast && not (is_ping setting.network header)) else true) away)
