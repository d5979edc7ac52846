-- What a batch reads and writes.
use Rattle.std.specs.Prelude.{◌≡◌, ◌≢◌, ◌⊎◌, ℕ, ◌+◌, ◌-◌, ◌*◌, ◌<◌, ◌++◌, IsTrue, List, [], length}
use Rattle.bm_base.specs.declared.shape.Shape.{Shape}
use Rattle.bm_base.specs.Count.{raised}
use Rattle.bm_base.specs.Records.{record_in, bytes_of}
use Rattle.bm_base.specs.Shape.{stripes, loads_of}
use Rattle.bm_rack.specs.RackView.{RackView}
use Rattle.bm_rack.specs.Sink.{AppendsFront}
use Rattle.bm_control.specs.Consistent.{input_of}
use Rattle.bm_control.specs.Progress.{IsGone}
use Rattle.bm_control.specs.Sound.{IsSound}
use Rattle.bm_disks.specs.Input.{IsRead}
use Rattle.bm_job.specs.Runs.{load_rows}
use Rattle.bm_top.specs.Moment.{SourceView, Tells, TellsRack}
use Rattle.bm_top.specs.declared.status.Status.{Status}
use Rattle.bm_top.specs.declared.status.Status.TheVariants.{Done, RackFault, SinkFault}
use Rattle.bm_batch.specs.Batches.{view_at}
use Rattle.bm_batch_call.specs.declared.words.BatchVerb.{BatchVerb}
use Rattle.bm_batch_call.specs.declared.words.BatchVerb.TheVariants.{Batch, Run}
use Rattle.bm_batch_call.specs.Causes.{HaveDisks, IsBayMade}
use Rattle.bm_batch_call.specs.Moment.{BatchDevices, Work, whole_size, part_of, made_by}

-- ---- the input

-- an input of the right length was read to its end
pub record IsReadWhole (w : Work) (old new : SourceView) : Type 0 where
  pub size : length old.left ≡ whole_size w
  pub ended : new.left ≡ []

-- that, where there is an input
abbrev pub TakesInput : Tells → BatchVerb → Work → SourceView → SourceView → Type 0
TakesInput t Batch w old new = IsTrue t.input → IsReadWhole w old new
TakesInput t Run w old new = new ≡ old

-- of the input no more than one byte after the records of all bays is read, and none by `batch-run`
abbrev pub ReadsFew : Tells → BatchVerb → Work → SourceView → SourceView → Type 0
ReadsFew t Batch w old new = IsTrue t.input → IsRead (whole_size w + 1) old.left new.left
ReadsFew t Run w old new = new ≡ old

-- ---- the output

-- these bytes are what job k makes of its part of the input, or of the input that a sound bay holds
abbrev pub IsOutputPart : Tells → BatchVerb → Work → BatchDevices → ℕ → List ℕ → Type 0
IsOutputPart t Batch w old k bytes =
    TellsRack t → IsTrue t.input → bytes ≡ made_by w k (record_in w.shape (part_of w old.input.left k))
IsOutputPart t Run w old k bytes =
    TellsRack t → IsSound (view_at old.bays k) → bytes ≡ made_by w k (input_of (view_at old.bays k).contents w.shape)

-- The row calls of a bay whose job is done and written. Of `batch` they are 2N/BD for each pass, and 2N/BD for the load and the dump; of
-- `batch-run` 2M/BD for each load that was left, and N/BD for the dump.
abbrev pub HasMoved : Tells → BatchVerb → Shape → ℕ → RackView → RackView → Type 0
HasMoved t Batch s passes old new = IsTrue t.contents → new.moves ≡ raised old.moves (2 * stripes s * (passes + 1))
HasMoved t Run s passes old new = IsTrue t.contents → (gone : ℕ) × IsGone old.contents gone
    × (new.moves ≡ raised old.moves (load_rows s (passes * loads_of s - gone) + stripes s))

-- the answers after which there may be output
abbrev pub IsLate : Status → Type 0
IsLate Done = Unit {0}
IsLate RackFault = Unit {0}
IsLate SinkFault = Unit {0}
IsLate _ = ⊥

-- The records of each bay were written, bay after bay, or a front of them. Before the first of them was, all jobs were done, and an input
-- of the right length was read to its end.
pub record IsWritten (t : Tells) (verb : BatchVerb) (w : Work) (old : BatchDevices) (answer : Status) (new : BatchDevices) : Type 0 where
  pub late : IsLate answer
  pub disks : HaveDisks t verb w old
  pub input : TakesInput t verb w old.input new.input
  pub passes : ℕ → ℕ
  pub bays : (k : ℕ) → k < w.count → IsBayMade t verb w old k (passes k) (view_at new.bays k)
  pub rows : answer ≡ Done → (k : ℕ) → k < w.count → HasMoved t verb w.shape (passes k) (view_at old.bays k) (view_at new.bays k)
  pub parts : ℕ → List ℕ
  pub means : (k : ℕ) → k < w.count → IsOutputPart t verb w old k (parts k)
  pub front : IsTrue t.out → IsTrue t.contents → AppendsFront old.out.taken new.out.taken (bytes_of w.count parts)
  pub all : answer ≡ Done → IsTrue t.out → IsTrue t.contents → new.out.taken ≡ old.out.taken ++ bytes_of w.count parts

-- nothing was written, and neither all records nor what the sink took of them
pub record IsUnwritten (old : BatchDevices) (answer : Status) (new : BatchDevices) : Type 0 where
  pub out : new.out ≡ old.out
  pub not_done : answer ≢ Done
  pub not_cut : answer ≢ SinkFault

-- either
abbrev pub HasOutput : Tells → BatchVerb → Work → BatchDevices → Status → BatchDevices → Type 0
HasOutput t verb w old answer new = IsUnwritten old answer new ⊎ IsWritten t verb w old answer new
