use Rattle.std.proofs.Common.{◌≡◌, ◌∙◌, refl, ap, ap₂, List}
use Rattle.std.proofs.lemmas.List.{append-nil}
use Rattle.ipx_keyed.specs.declared.client.Client.{Client}
use Rattle.ipx_keyed.specs.declared.said.Said.{Said}
use Rattle.ipx_keyed.specs.declared.said.Said.TheVariants.{Nothing}
use Rattle.ipx_keyed.specs.declared.sender.Sender.{Sender}
use Rattle.ipx_keyed.specs.declared.setting.Setting.{Setting}
use Rattle.ipx_keyed.specs.Tables.{Tables, heard, tables}
use Rattle.ipx_keyed.proofs.Staying.{all_same}
use Rattle.ipx_keyed.proofs.laws.nothing.Goals as goal

unchanged : (setting : Setting) (from : Sender) (t : Tables) → heard setting from Nothing t ≡ t
unchanged setting from t =
    ap₂ (λ (a b : List Client). let u : Tables = record { clients = a; waiting = b } in u)
    (append-nil _ ∙ all_same from Nothing refl t.clients) (append-nil t.waiting)

pub returns-clause-tables : goal.returns-clause-tables
returns-clause-tables c = λ setting history from bytes nothing.
    ap (λ (s : Said). heard setting from s (tables setting history)) nothing ∙ unchanged setting from (tables setting history)
