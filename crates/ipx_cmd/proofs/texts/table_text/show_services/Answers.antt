use Rattle.ipx_cmd.specs.TableText.{services_text}
use Rattle.ipx_cmd.proofs.written.TextOfTables.{services_written}
use Rattle.ipx_cmd.proofs.texts.table_text.show_services.Goals as goal

pub returns-clause-says : goal.returns-clause-says
returns-clause-says g c = λ h stands.
    c.write_much.ensures.says c.args.text.now.items (services_text c.args.router.now.ports h)
    (services_written c.args.router.now h c.args.text.now.items c.write_services.new.text.items stands c.in_ok-write_services.ensures.text)
