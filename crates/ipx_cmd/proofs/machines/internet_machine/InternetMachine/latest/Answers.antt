use Rattle.std.proofs.Common.{ap, sym, ◌∙◌, length, map}
use Rattle.ipx_cmd.specs.InternetMachine.{latest}
use Rattle.ipx_cmd.specs.inside.InternetStands.{InternetMachine}
use Rattle.ipx_cmd.proofs.acts.LatestNamed.{latest_at}
use Rattle.ipx_cmd.proofs.machines.internet_machine.InternetMachine.latest.Goals as goal

pub returns-in-Some : goal.returns-in-Some
returns-in-Some c =
    c.len.ensures ∙ c.in-Some.ports.now.ok.0 ∙ sym (ap length (latest_at (λ ports. ports.items) c.deref.result.now c.in-Some.ports.now c.in-Some.ensures.value))
    ∙ ap (λ all. length (latest (map (λ ports. ports.items) all))) c.deref.ensures.value ∙ ap (λ (m : InternetMachine). length (latest m.net)) c.self.view_is
