-- A tunnel stands for a history: its two lists are those of the history, in the order in which they came.
use Rattle.std.specs.Prelude.{◌≡◌, not, List, map}
use Rattle.std.specs.List.{filter}
use Rattle.ipx_keyed.specs.declared.client.Client.{Client}
use Rattle.ipx_keyed.specs.declared.setting.Setting.{Setting}
use Rattle.ipx_keyed.specs.Events.{History}
use Rattle.ipx_keyed.specs.Members.{stays, later}
use Rattle.ipx_keyed.specs.Tables.{Tables, tables}

-- what a tunnel has
pub record State : Type 0 where
  pub setting : Setting
  pub tables : Tables

abbrev pub Stands : State → History → Type 0
Stands state history = state.tables ≡ tables state.setting history

-- the clients that leave with a second, which have none left
abbrev pub leaving : List Client → List Client
leaving clients = filter (λ c. not (stays c)) (map later clients)
