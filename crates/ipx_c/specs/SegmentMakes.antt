-- What making a segment does to what a handle has.
use Rattle.std.specs.Prelude.{◌≡◌, ℤ, ◌<◌, ◌≤◌, ◌⊎◌, [], Option, Some}
use Rattle.ipx_segment.specs.Stands.{Stands}
use Rattle.ipx_c.specs.Codes.{fault_code, done}
use Rattle.ipx_c.specs.Sizes.{most_links, most_stations}
use Rattle.ipx_c.specs.SegmentValues.{setting_of}
use Rattle.ipx_c.specs.declared.fault.Fault.{Fault}
use Rattle.ipx_c.specs.declared.fault.Fault.TheVariants.{OutOfMemory, ManyLinks, ManyStations}
use Rattle.ipx_c.specs.declared.segment_machine.SegmentMachine.{SegmentMachine}
use Rattle.ipx_c.specs.declared.segment_values.SegmentSetting.{SegmentSetting}

-- a segment of those values can be had
pub record IsFew (values : SegmentSetting) : Type 0 where
  pub links : values.links ≤ most_links
  pub stations : values.capacity ≤ most_stations

-- a segment as it is made, of those values: it stands for the empty history, and no link gets anything yet
pub record IsSegmentMade (values : SegmentSetting) (machine : SegmentMachine) : Type 0 where
  pub few : IsFew values
  pub setting : machine.segment.setting ≡ setting_of values
  pub stands : Stands machine.segment []
  pub receivers : machine.to.items ≡ []

-- why no segment is made: it would have more links than a segment can have, else more stations, or memory was refused
abbrev pub IsSegmentUnmade : SegmentSetting → Fault → Type 0
IsSegmentUnmade values ManyLinks = most_links < values.links
IsSegmentUnmade values ManyStations = (values.links ≤ most_links) × (most_stations < values.capacity)
IsSegmentUnmade values OutOfMemory = IsFew values
IsSegmentUnmade values fault = ⊥

-- what a handle has before a making and after it, and the number that C hears: a new segment, or what it had
abbrev pub MakesSegment : Option SegmentMachine → Option SegmentMachine → SegmentSetting → ℤ → Type 0
MakesSegment before after values answer =
    ((machine : SegmentMachine) × (answer ≡ done) × (after ≡ Some machine) × IsSegmentMade values machine)
    ⊎ ((fault : Fault) × (answer ≡ fault_code fault) × (after ≡ before) × IsSegmentUnmade values fault)
