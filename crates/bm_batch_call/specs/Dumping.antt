-- The last areas of bays whose jobs are done, written in order.
use Rattle.std.specs.Prelude.{Err, ◌≡◌, ℕ, ◌<◌, ◌≤◌, ◌++◌, Bool, IsTrue, List, length, slice_index_or, Option, Some, None, Result, IsOk}
use Rattle.bm_base.specs.declared.shape.Shape.{Shape}
use Rattle.bm_base.specs.Area.{area_after}
use Rattle.bm_base.specs.Count.{raised, Rose}
use Rattle.bm_base.specs.Records.{bytes_of}
use Rattle.bm_base.specs.Shape.{stripes}
use Rattle.bm_rack.specs.RackView.{RackView}
use Rattle.bm_rack.specs.Frames.{SameState, Keeps, HasCause}
use Rattle.bm_rack.specs.Sink.{AppendsFront}
use Rattle.bm_job.specs.declared.machine.Machine.{Machine}
use Rattle.bm_batch.specs.declared.bay_slot.BaySlot.{BaySlot}
use Rattle.bm_batch.specs.declared.bay_state.BayState.TheVariants.{Finished, Ended}
use Rattle.bm_batch.specs.Batches.{view_at}
use Rattle.bm_disks.specs.Dumping.{area_bytes}
use Rattle.bm_disks.specs.declared.dumping.DumpError.{DumpError}
use Rattle.bm_disks.specs.declared.dumping.DumpError.TheVariants as dump
use Rattle.bm_job.specs.declared.answers.RunError.{RunError}
use Rattle.bm_top.specs.Moment.{SinkView}
use Rattle.bm_batch_call.specs.Bays.{RowsFew}
use Rattle.bm_batch_call.specs.Lists.{UpTo}
use Rattle.bm_batch_call.specs.Moment.{no_view}

-- the passes of a machine, none where there is none
abbrev pub passes_by : Option Machine → ℕ
passes_by None = 0
passes_by (Some m) = m.passes

-- the passes of bay k
abbrev pub passes_at : List BaySlot → BaySlot → ℕ → ℕ
passes_at slots d k = passes_by (slice_index_or slots k d).machine

-- each bay is Finished
abbrev pub AreFinished : List BaySlot → Type 0
AreFinished slots = (k : ℕ) (d : BaySlot) → k < length slots → (slice_index_or slots k d).state ≡ Finished

-- this one is the first that Ended, with this error; those before it are Finished
pub record IsFirstEnded (slots : List BaySlot) (error : RunError) : Type 0 where
  pub at : ℕ
  pub below : at < length slots
  pub ended : (d : BaySlot) → (slice_index_or slots at d).state ≡ Ended error
  pub before : (k : ℕ) (d : BaySlot) → k < at → (slice_index_or slots k d).state ≡ Finished

-- nothing but counts changed in a bay
pub record IsLooked (s : Shape) (old new : RackView) : Type 0 where
  pub state : SameState old new
  pub keeps : Keeps old new
  pub moves : RowsFew (stripes s) old new

-- and it was read whole
pub record IsDumped (s : Shape) (old new : RackView) : Type 0 where
  pub looked : IsLooked s old new
  pub rows : new.moves ≡ raised old.moves (stripes s)

-- the bytes of the last area of each bay
abbrev pub last_areas : Shape → (ℕ → ℕ) → List RackView → ℕ → List ℕ
last_areas s passes bays k = area_bytes (view_at bays k).contents s (area_after (passes k))

-- some bay failed
pub record IsFailed (old new : List RackView) : Type 0 where
  pub at : ℕ
  pub below : at < length old
  pub cause : HasCause (Unit {0}) (view_at old at) (view_at new at)

pub record DumpsCall (to tc : Bool) (s : Shape) (passes : ℕ → ℕ) (sink : SinkView) (old : List RackView)
    (result : Result (Unit {0}) DumpError)
    (after : SinkView) (new : List RackView) : Type 0 where
  pub count : length new ≡ length old
  pub bays : (k : ℕ) → k < length old → IsLooked s (view_at old k) (view_at new k)
  pub rows : IsOk result → (k : ℕ) → k < length old → (view_at new k).moves ≡ raised (view_at old k).moves (stripes s)
  pub done : IsTrue to → IsTrue tc → IsOk result → after.taken ≡ sink.taken ++ bytes_of (length old) (last_areas s passes old)
  pub front : IsTrue to → IsTrue tc → AppendsFront sink.taken after.taken (bytes_of (length old) (last_areas s passes old))
  pub failed : result ≡ Err dump.Failed → IsFailed old new
  pub sink_fault : result ≡ Err dump.SinkFault → Rose sink.faults after.faults
  pub sink_faults : sink.faults ≤ after.faults

-- the loop: so many bays are written
pub record IsDumpedTo (to tc : Bool) (s : Shape) (passes : ℕ → ℕ) (at : ℕ) (sink : SinkView) (old : List RackView) (now : SinkView)
    (new : List RackView) : Type 0 where
  pub bays : UpTo no_view (λ k was is. IsDumped s was is) at old new
  pub written : IsTrue to → IsTrue tc → now.taken ≡ sink.taken ++ bytes_of at (last_areas s passes old)
  pub faults : sink.faults ≤ now.faults
