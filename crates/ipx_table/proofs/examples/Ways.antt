-- The offers of the worked examples: a number, how far it is, and by which port.
use Rattle.std.proofs.Common.{ℕ, Bool, ◌&&◌, ◌==◌, nat_le, List, [], ◌∷◌, nat_cmp}
use Rattle.ipx_wire.specs.declared.node.Node.{Node}
use Rattle.ipx_table.specs.Reading.{Reading, Rules, rules_of}
use Rattle.ipx_table.specs.Facts.{Fact, Offered}
use Rattle.ipx_table.specs.Alive.{alive}
use Rattle.ipx_table.specs.Accepted.{marked}
use Rattle.ipx_table.specs.Taken.{taken}
use Rattle.ipx_table.specs.declared.held.Held.{Held}
use Rattle.ipx_table.specs.declared.taken.Taken.{Taken}

-- a way to a network, as a neighbour tells it: better where it takes fewer ticks, then where it has fewer hops
pub record Way : Type 0 where
  pub network : ℕ
  pub hops : ℕ
  pub ticks : ℕ
  pub port : ℕ
  pub node : ℕ

-- the node with that last byte
abbrev pub node_of : ℕ → Node
node_of last = record { 0 = 0 ∷ 0 ∷ 0 ∷ 0 ∷ 0 ∷ last ∷ [] }

abbrev pub way_reading : Reading Way ℕ
way_reading = record {
  key = λ w. w.network;
  source = λ w. (w.port, node_of w.node);
  rank = λ w. (w.ticks, w.hops);
  is_down = λ w. nat_le 16 w.hops;
}

abbrev pub same_way : Way → Way → Bool
same_way a b = (a.network == b.network) && (a.hops == b.hops) && (a.ticks == b.ticks) && (a.port == b.port) && (a.node == b.node)

-- a table of that capacity, whose ports have those shares; and one without shares
abbrev pub shared_ways : ℕ → List ℕ → Rules Way
shared_ways capacity shares = rules_of way_reading nat_cmp capacity shares

abbrev pub ways : ℕ → Rules Way
ways capacity = shared_ways capacity []

-- the way by that port to that network, by that node; where nothing is said of the port, it is port 1
abbrev pub way_by : ℕ → ℕ → ℕ → ℕ → ℕ → Way
way_by port network node hops ticks = record { network = network; hops = hops; ticks = ticks; port = port; node = node }

abbrev pub way : ℕ → ℕ → ℕ → ℕ → Way
way network node hops ticks = way_by 1 network node hops ticks

-- that way, so many seconds after it was accepted
abbrev pub held : Way → ℕ → Held Way
held w age = record { offer = w; age = age }

-- the facts of those offers
abbrev pub offered : List Way → List (Fact Way)
offered [] = []
offered (w ∷ ws) = Offered w ∷ offered ws

-- what is alive after the facts, and what an offer is answered then
abbrev pub alive_shared : ℕ → List ℕ → List (Fact Way) → List (Held Way)
alive_shared capacity shares facts = alive (shared_ways capacity shares) (marked (shared_ways capacity shares) facts)

abbrev pub answer_shared : ℕ → List ℕ → List (Fact Way) → Way → Taken
answer_shared capacity shares facts w = taken (shared_ways capacity shares) same_way facts w

-- the same of a table without shares
abbrev pub alive_after : ℕ → List (Fact Way) → List (Held Way)
alive_after capacity facts = alive_shared capacity [] facts

abbrev pub answer_after : ℕ → List (Fact Way) → Way → Taken
answer_after capacity facts w = answer_shared capacity [] facts w
