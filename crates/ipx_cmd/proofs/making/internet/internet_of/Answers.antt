use Rattle.std.proofs.Common.{map, sym}
use Rattle.ipx_cmd.proofs.acts.RoutersAreAdded.{then_made, then_unmade}
use Rattle.ipx_cmd.proofs.making.internet.internet_of.Goals as goal

pub returns : goal.returns
returns c = record {
  made = then_made (map (λ ports. ports.items) c.args.named.now) c.add_routers.result (sym c.in_ok-check_routers.ensures) c.add_routers.ensures.apart;
  net = c.add_routers.ensures.net;
  stands = c.add_routers.ensures.stands;
  refused = then_unmade (map (λ ports. ports.items) c.args.named.now) c.add_routers.result (sym c.in_ok-check_routers.ensures) c.add_routers.ensures.refused;
}
