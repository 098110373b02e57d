-- What further bytes do to the packets of a recording.
use Rattle.std.specs.Prelude.{◌≡◌, ◌⊎◌, None}
use Rattle.ipx_recording.specs.Recorded.{Contents, prepend, final}

-- packets stand behind those of the first bytes
pub record GoesOn (one two : Contents) : Type 0 where
  pub opened : final one.fault ≡ None
  pub rest : Contents
  pub is : two ≡ prepend one.records rest

-- they change nothing behind a fault that none takes back; else the first packets stay as they are
abbrev pub Continues : Contents → Contents → Type 0
Continues one two = (two ≡ one) ⊎ GoesOn one two
