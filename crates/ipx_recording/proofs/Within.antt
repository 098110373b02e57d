-- Nothing is taken that isn't there.
use Rattle.std.proofs.Common.{◌≡◌, ℕ, List, refl, Ok}
use Rattle.ipx_capture.specs.declared.order.Order.{Order}
use Rattle.ipx_recording.specs.Met.{met}
use Rattle.ipx_recording.specs.Steps.{IsWithin, step_of}
use Rattle.ipx_recording.specs.declared.due.Due.{Due}
use Rattle.ipx_recording.specs.declared.interface.Interface.{Interface}
use Rattle.ipx_recording.specs.declared.met.Met.{Met}
use Rattle.ipx_recording.specs.declared.met.Met.TheVariants.{Wants, Passed, Captured, Described, Section}
use Rattle.ipx_recording.proofs.Sizes.{met_takes}
use Rattle.ipx_recording.proofs.Wanting.{wants_more}

pub within : (order : Order) (interfaces : List Interface) (due : Due) (bytes : List ℕ) (m : Met) → met order interfaces due bytes ≡ Ok m → IsWithin bytes (step_of m)
within order interfaces due bytes (Wants n) told = wants_more order interfaces due bytes n told
within order interfaces due bytes (Passed n next) told =
    let t = met_takes order interfaces due bytes (Passed n next) told refl in (t.some, t.few)
within order interfaces due bytes (Captured link kept wire next) told = (met_takes order interfaces due bytes (Captured link kept wire next) told refl).few
within order interfaces due bytes (Described i next) told =
    let t = met_takes order interfaces due bytes (Described i next) told refl in (t.some, t.few)
within order interfaces due bytes (Section other next) told =
    let t = met_takes order interfaces due bytes (Section other next) told refl in (t.some, t.few)
