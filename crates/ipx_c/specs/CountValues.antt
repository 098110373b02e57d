-- What is counted, by numbers, as C knows it.
use Rattle.std.specs.Prelude.{ℕ, Option, None, Some}
use Rattle.ipx_fates.specs.Counting.{counted, one_lost}
use Rattle.ipx_fates.specs.Fates.{reason_at}
use Rattle.ipx_fates.specs.declared.counts.Counts.{Counts}
use Rattle.ipx_fates.specs.declared.course.Course.{Course}
use Rattle.ipx_fates.specs.declared.course.Course.TheVariants.{Goes, Ends}
use Rattle.ipx_fates.specs.declared.reason.Reason.{Reason}

-- a packet that isn't at the end of its way has no fate
abbrev pub counted_at : Course → Counts → Counts
counted_at (Goes step) counts = counts
counted_at (Ends fate) counts = counted fate counts

abbrev pub lost_by : Option Reason → Counts → Counts
lost_by None counts = counts
lost_by (Some why) counts = one_lost why counts

-- where no reason has the number, nothing is
abbrev pub lost_at : ℕ → Counts → Counts
lost_at number counts = lost_by (reason_at number) counts
