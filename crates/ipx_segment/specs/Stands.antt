-- A segment stands for a history: it has the links and the stations of the history, and no others.
use Rattle.std.specs.Prelude.{◌≡◌, List}
use Rattle.ipx_segment.specs.declared.link.Link.{Link}
use Rattle.ipx_segment.specs.declared.setting.Setting.{Setting}
use Rattle.ipx_segment.specs.declared.station.Station.{Station}
use Rattle.ipx_segment.specs.Events.{History}
use Rattle.ipx_segment.specs.Links.{links}
use Rattle.ipx_segment.specs.Stations.{stations}

-- what a segment has
pub record State : Type 0 where
  pub setting : Setting
  pub links : List Link
  pub stations : List Station

pub record Stands (state : State) (history : History) : Type 0 where
  pub links : state.links ≡ links state.setting history
  pub stations : state.stations ≡ stations state.setting history
