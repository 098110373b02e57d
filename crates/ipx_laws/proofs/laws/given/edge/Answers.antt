use Rattle.ipx_laws.proofs.laws.given.edge.Goals as goal

pub returns : goal.returns
returns c = record {
  names = c.names_its_network.ensures.source;
  held = c.holds_what_routers_carried.ensures.held;
  same = c.lets_all_else_in.ensures.same;
  direct = c.hears_neighbours_alone.ensures;
}
