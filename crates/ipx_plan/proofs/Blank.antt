-- A link of zeros: what a list is read as behind its end.
use Rattle.std.proofs.Common.{false, None}
use Rattle.ipx_plan.specs.declared.carrier.Carrier.TheVariants.{Tunnel}
use Rattle.ipx_plan.specs.declared.link.Link.{Link}

abbrev pub blank : Link
blank = record {
  network = record { 0 = 0 };
  carrier = Tunnel 0 0;
  frames = 0;
  is_of_several = false;
  is_first = false;
  port = 0;
  node = None;
  clients = 0;
  sockets = 0;
}
