-- Where packets go.
use Rattle.std.proofs.Common.{◌≡◌, refl, true, false, [], ◌∷◌}
use Rattle.ipx_segment.specs.declared.link.Link.TheVariants.{Down}
use Rattle.ipx_segment.specs.Nodes.{broadcast}
use Rattle.ipx_segment.specs.Events.{Changes, Heard, Sends}
use Rattle.ipx_segment.specs.Receivers.{receivers, is_heard}
use Rattle.ipx_segment.proofs.examples.Cables.{node, router, setting, ready, calls}

-- a broadcast goes to all other links, and the router hears it
pub to_all : receivers setting (calls 0 (node 5) ∷ ready) ≡ 1 ∷ 2 ∷ []
to_all = refl

pub router_hears : is_heard setting (calls 0 (node 5) ∷ ready) ≡ true
router_hears = refl

-- the answer goes to the link of who called, alone
pub answer : receivers setting (Heard 1 (node 6) (node 5) ∷ calls 0 (node 5) ∷ ready) ≡ 0 ∷ []
answer = refl

pub answer_unheard : is_heard setting (Heard 1 (node 6) (node 5) ∷ calls 0 (node 5) ∷ ready) ≡ false
answer_unheard = refl

-- who is on the same cable has heard it already
pub on_one_cable : receivers setting (Heard 0 (node 6) (node 5) ∷ calls 0 (node 5) ∷ ready) ≡ []
on_one_cable = refl

-- nobody has heard node 9 yet
pub unknown : receivers setting (Heard 0 (node 5) (node 9) ∷ ready) ≡ 1 ∷ 2 ∷ []
unknown = refl

-- what is for the router goes to no link
pub to_router : receivers setting (Heard 0 (node 5) router ∷ ready) ≡ []
to_router = refl

pub heard_by_router : is_heard setting (Heard 0 (node 5) router ∷ ready) ≡ true
heard_by_router = refl

-- the router's packets: to a node that is known, to one that isn't, and to all
pub router_to_one : receivers setting (Sends (node 5) ∷ calls 0 (node 5) ∷ ready) ≡ 0 ∷ []
router_to_one = refl

pub router_to_unknown : receivers setting (Sends (node 9) ∷ calls 0 (node 5) ∷ ready) ≡ 0 ∷ 1 ∷ 2 ∷ []
router_to_unknown = refl

pub router_to_all : receivers setting (Sends broadcast ∷ ready) ≡ 0 ∷ 1 ∷ 2 ∷ []
router_to_all = refl

-- a packet of the router's own that comes back is not taken
pub own_comes_back : receivers setting (calls 0 router ∷ ready) ≡ []
own_comes_back = refl

-- a link that is down gets nothing, and what comes from there counts for nothing
pub down_gets_none : receivers setting (calls 0 (node 5) ∷ Changes 1 Down ∷ ready) ≡ 2 ∷ []
down_gets_none = refl

pub down_says_none : receivers setting (calls 1 (node 5) ∷ Changes 1 Down ∷ ready) ≡ []
down_says_none = refl

-- its stations are forgotten with it
pub forgotten : receivers setting (Sends (node 5) ∷ Changes 0 Down ∷ calls 0 (node 5) ∷ ready) ≡ 1 ∷ 2 ∷ []
forgotten = refl
