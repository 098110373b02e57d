use Rattle.ipx_laws.proofs.laws.given.routing.Goals as goal

pub returns : goal.returns
returns c = record {
  listed = c.relays.ensures.listed;
  in_order = c.relays.ensures.in_order;
  ups = c.relays.ensures.ups;
  of_a_table = c.tables.ensures.of_a_table;
  routes_up = c.tables.ensures.routes_up;
  sent_bytes = c.packets.ensures.bytes;
}
