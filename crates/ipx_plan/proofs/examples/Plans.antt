-- What stays, and what becomes of the rest.
use Rattle.std.proofs.Common.{◌≡◌, refl, true, false, [], ◌∷◌, map, Some, None}
use Rattle.ipx_plan.specs.declared.carrier.Carrier.TheVariants.{Own}
use Rattle.ipx_plan.specs.declared.origin.Cable.TheVariants.{Kept, Opened}
use Rattle.ipx_plan.specs.declared.origin.Tunnel.TheVariants.{Again}
use Rattle.ipx_plan.specs.inside.Pairs.{paired}
use Rattle.ipx_plan.specs.Routing.{keeps_router}
use Rattle.ipx_plan.proofs.examples.Links.{node_of, alone, first, later, here, everywhere, card, qemu, origins_of, fates_of}

-- ---- which continues which

-- the same two networks in the other order
pub reordered : paired (alone 1 card ∷ alone 2 qemu ∷ []) (alone 2 qemu ∷ alone 1 card ∷ []) ≡ Some 1 ∷ Some 0 ∷ []
reordered = refl

-- a network moves from a card to QEMU: it is the same network
pub moved : paired (alone 1 card ∷ []) (alone 1 qemu ∷ []) ≡ Some 0 ∷ []
moved = refl

-- its number changes: it is another
pub renumbered : paired (alone 1 card ∷ []) (alone 2 card ∷ []) ≡ None ∷ []
renumbered = refl

-- a second link is added to a network: the first continues
pub joined : paired (alone 1 card ∷ []) (first 1 card ∷ later 1 qemu ∷ []) ≡ Some 0 ∷ None ∷ []
joined = refl

-- the first of two is taken away, and the other goes on alone
pub parted : paired (first 1 card ∷ later 1 qemu ∷ []) (alone 1 qemu ∷ []) ≡ Some 1 ∷ []
parted = refl

-- two new tunnels that are like one old one: only the first continues it
pub not_twice : paired (first 1 (here 213) ∷ later 1 card ∷ []) (first 1 (everywhere 213) ∷ later 1 (everywhere 213) ∷ []) ≡ Some 0 ∷ None ∷ []
not_twice = refl

-- what is the same comes before what is at the same port, though it stands later
pub nearest : paired (first 1 (here 213) ∷ later 1 card ∷ []) (first 1 (everywhere 213) ∷ later 1 (here 213) ∷ []) ≡ None ∷ Some 0 ∷ []
nearest = refl

-- ---- cables and tunnels

-- a tunnel opens to everybody: another socket, and the clients are let in again
pub opens_up : origins_of (alone 1 (here 213) ∷ []) (alone 1 (everywhere 213) ∷ [])
    ≡ record {
      was = Some 0;
      is_as_before = false;
      cable = Opened 0;
      tunnel = Again;
      has_other_clients = false;
      has_other_sockets = false;
    } ∷ []
opens_up = refl

pub opens_up_old : fates_of (alone 1 (here 213) ∷ []) (alone 1 (everywhere 213) ∷ []) ≡ record { becomes = Some 0; is_closed = true; ends_tunnel = false } ∷ []
opens_up_old = refl

-- at another port nobody finds it
pub moves_away : fates_of (alone 1 (here 213) ∷ []) (alone 1 (here 214) ∷ []) ≡ record { becomes = Some 0; is_closed = true; ends_tunnel = true } ∷ []
moves_away = refl

-- two networks share QEMU's connection; one is removed, and the other keeps it
pub shared : map (λ o. o.cable) (origins_of (alone 1 qemu ∷ alone 2 qemu ∷ []) (alone 2 qemu ∷ [])) ≡ Kept 0 ∷ []
shared = refl

pub still_open : map (λ f. f.is_closed) (fates_of (alone 1 qemu ∷ alone 2 qemu ∷ []) (alone 2 qemu ∷ [])) ≡ false ∷ false ∷ []
still_open = refl

-- a network gets another number: its connection stays open for the new one
pub stays_open : map (λ o. o.cable) (origins_of (alone 1 qemu ∷ []) (alone 2 qemu ∷ [])) ≡ Kept 0 ∷ []
stays_open = refl

-- a card's socket is the network's own
pub own_socket : map (λ o. o.cable) (origins_of (alone 1 card ∷ []) (alone 2 card ∷ [])) ≡ Opened 0 ∷ []
own_socket = refl

-- two new networks open one connection
pub opened_once : map (λ o. o.cable) (origins_of [] (alone 1 qemu ∷ alone 2 card ∷ alone 3 qemu ∷ [])) ≡ Opened 0 ∷ Opened 1 ∷ Opened 0 ∷ []
opened_once = refl

-- ports that are taken because they are free are two
pub free_ports : map (λ o. o.cable) (origins_of [] (alone 1 (Own 1) ∷ alone 2 (Own 1) ∷ [])) ≡ Opened 0 ∷ Opened 1 ∷ []
free_ports = refl

-- ---- the router

pub router_stays : keeps_router (alone 1 (here 213) ∷ alone 2 card ∷ []) (alone 1 (everywhere 213) ∷ alone 2 card ∷ []) ≡ true
router_stays = refl

-- a further link of a network is no further port
pub same_ports : keeps_router (first 1 card ∷ later 1 qemu ∷ alone 2 qemu ∷ []) (first 1 qemu ∷ alone 2 qemu ∷ []) ≡ true
same_ports = refl

pub another_order : keeps_router (alone 1 card ∷ alone 2 qemu ∷ []) (alone 2 qemu ∷ alone 1 card ∷ []) ≡ false
another_order = refl

pub another_sort : keeps_router (alone 1 card ∷ []) (alone 1 qemu ∷ []) ≡ false
another_sort = refl

pub another_card : keeps_router (alone 1 card ∷ []) (record (alone 1 card) { node = Some (node_of 2) } ∷ []) ≡ false
another_card = refl

-- a card whose address isn't known yet may be the same
pub unknown_card : keeps_router (alone 1 card ∷ []) (record (alone 1 card) { node = None } ∷ []) ≡ true
unknown_card = refl
