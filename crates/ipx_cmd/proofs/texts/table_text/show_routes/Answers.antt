use Rattle.ipx_cmd.specs.TableText.{routes_text}
use Rattle.ipx_cmd.proofs.written.TextOfTables.{routes_written}
use Rattle.ipx_cmd.proofs.texts.table_text.show_routes.Goals as goal

pub returns-clause-says : goal.returns-clause-says
returns-clause-says g c = λ h stands.
    c.write_much.ensures.says c.args.text.now.items (routes_text c.args.router.now.ports h)
    (routes_written c.args.router.now h c.args.text.now.items c.write_routes.new.text.items stands c.in_ok-write_routes.ensures.text)
