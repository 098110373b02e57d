-- The segment of the worked examples: links 0 and 1 are cables, link 2 is a tunnel's. Two stations of each are known.
use Rattle.std.proofs.Common.{ℕ, zero, suc, [], ◌∷◌}
use Rattle.ipx_wire.specs.declared.node.Node.{Node}
use Rattle.ipx_segment.specs.declared.link.Link.TheVariants.{Cable, Sure}
use Rattle.ipx_segment.specs.declared.setting.Setting.{Setting}
use Rattle.ipx_segment.specs.Nodes.{broadcast}
use Rattle.ipx_segment.specs.Events.{Event, Changes, Heard, Second, History}

abbrev pub node : ℕ → Node
node last = record { 0 = 0 ∷ 0 ∷ 0 ∷ 0 ∷ 0 ∷ last ∷ [] }

abbrev pub router : Node
router = node 1

abbrev pub setting : Setting
setting = record { network = record { 0 = 0x10 }; node = router; links = 3; capacity = 6 }

-- all links go up
abbrev pub ready : History
ready = Changes 2 (Sure 2) ∷ Changes 1 (Cable 2) ∷ Changes 0 (Cable 2) ∷ []

-- a node calls to all from a link
abbrev pub calls : ℕ → Node → Event
calls link caller = Heard link caller broadcast

-- so many seconds pass
abbrev pub later : ℕ → History → History
later zero history = history
later (suc n) history = Second ∷ later n history
