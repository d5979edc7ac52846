-- What a drill leaves and tells.
use Rattle.std.specs.Prelude.{◌≡◌, ℕ, ◌+◌, ◌*◌, ◌^◌, ◌≤◌, Some}
use Rattle.bm_base.specs.declared.report.DrillReport.{DrillReport}
use Rattle.bm_base.specs.declared.shape.Shape.{Shape}
use Rattle.bm_base.specs.Area.{area_after}
use Rattle.bm_base.specs.Records.{record_at, SameRecords, bytes_of}
use Rattle.bm_base.specs.Shape.{dims_of, stripes, loads_of}
use Rattle.bm_forms.specs.declared.job.Job.{Job}
use Rattle.bm_forms.specs.Job.{meaning}
use Rattle.bm_rack.specs.RackView.{RackView, IsClean}
use Rattle.bm_control.specs.Consistent.{input_of}
use Rattle.bm_control.specs.Sound.{IsSound}
use Rattle.bm_job.specs.Runs.{load_rows, run_most}
use Rattle.sha2.specs.Sha256.{sha256}
use Rattle.bm_drill.specs.Generated.{generated}

-- After a drill of a plan with so many passes: the rack stands, sound and clean; its input is the generated one, and the records of the
-- last pass's area are the job's meaning of it.
pub record IsDrilled (s : Shape) (job : Job) (start : ℕ) (r : DrillReport) (new : RackView) : Type 0 where
  pub stands : new.stands ≡ Some (dims_of s)
  pub attached : new.attached ≡ Some (dims_of s)
  pub sound : IsSound new
  pub clean : IsClean new
  pub input : SameRecords (2 ^ s.n) (input_of new.contents s) (generated s.width start)
  pub records : SameRecords (2 ^ s.n) (record_at new.contents s (area_after r.passes)) (meaning s.n job (generated s.width start))
  -- the digest is that of these records in order
  pub digest : r.digest ≡ sha256 (bytes_of (2 ^ s.n) (record_at new.contents s (area_after r.passes)))

-- What the sessions of a drill count, with so many passes and stops: the row calls are those of all loads, and of `every` more with each
-- restart at most. `bound` is those of as many passes as the pass limit.
pub record SessionCounts (s : Shape) (job : Job) (passes every stops : ℕ) (r : DrillReport) : Type 0 where
  pub passes_are : r.passes ≡ passes
  pub restarts : r.restarts ≤ stops
  pub moves : r.moves ≤ load_rows s (r.passes * loads_of s + every * r.restarts)
  pub most : r.moves ≤ 2 * stripes s * (r.passes + r.restarts)
  pub exact : r.restarts ≡ 0 → r.moves ≡ 2 * stripes s * r.passes
  pub bound : r.bound ≡ run_most s job

-- And what the rack counts: these row calls, and one for each row that was loaded and for each that was hashed.
pub record DrillCounts (s : Shape) (job : Job) (passes every stops : ℕ) (r : DrillReport) (old new : RackView) : Type 0 where
  pub sessions : SessionCounts s job passes every stops r
  pub rows : new.moves ≡ old.moves + (r.moves + 2 * stripes s)
