-- The links of the worked examples.
use Rattle.std.proofs.Common.{ℕ, true, false, List, [], ◌∷◌, Some}
use Rattle.ipx_wire.specs.declared.node.Node.{Node}
use Rattle.ipx_plan.specs.declared.carrier.Carrier.{Carrier}
use Rattle.ipx_plan.specs.declared.carrier.Carrier.TheVariants.{Tunnel, Card, Shared}
use Rattle.ipx_plan.specs.declared.link.Link.{Link}
use Rattle.ipx_plan.specs.declared.fate.Fate.{Fate}
use Rattle.ipx_plan.specs.declared.origin.Origin.{Origin}
use Rattle.ipx_plan.specs.Planned.{origins, fates}
use Rattle.ipx_plan.specs.inside.Pairs.{paired}

-- a node
abbrev pub node_of : ℕ → Node
node_of last = record { 0 = 0 ∷ 0 ∷ 0 ∷ 0 ∷ 0 ∷ last ∷ [] }

-- the only link of a network
abbrev pub alone : ℕ → Carrier → Link
alone network carrier = record {
  network = record { 0 = network };
  carrier = carrier;
  frames = 1;
  is_of_several = false;
  is_first = true;
  port = 7;
  node = Some (node_of 1);
  clients = 3;
  sockets = 4;
}

-- the first of several, and one behind it
abbrev pub first : ℕ → Carrier → Link
first network carrier = record (alone network carrier) { is_of_several = true }

abbrev pub later : ℕ → Carrier → Link
later network carrier = record (alone network carrier) { is_of_several = true; is_first = false }

-- a tunnel at 127.0.0.1, and at 0.0.0.0; a card; QEMU's connection
abbrev pub here : ℕ → Carrier
here port = Tunnel port 1

abbrev pub everywhere : ℕ → Carrier
everywhere port = Tunnel port 2

abbrev pub card : Carrier
card = Card 1

abbrev pub qemu : Carrier
qemu = Shared 1

-- what a plan has
abbrev pub origins_of : List Link → List Link → List Origin
origins_of old new = origins old new (paired old new)

abbrev pub fates_of : List Link → List Link → List Fate
fates_of old new = fates old new (paired old new)
