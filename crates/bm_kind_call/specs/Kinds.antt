-- What a transform makes of an input, and a run of it.
use Rattle.std.specs.Prelude.{◌≡◌, ℕ, ◌*◌, ◌^◌, ◌<◌, false, IsTrue, List, Some, Result, IsOk, IsErr, OnOk}
use Rattle.bm_base.specs.declared.fault.Failed.{Failed}
use Rattle.bm_base.specs.declared.shape.Shape.{Shape}
use Rattle.bm_base.specs.Area.{area_after}
use Rattle.bm_base.specs.Contents.{RackUnit}
use Rattle.bm_base.specs.Records.{SameRecords, record_at, record_in, bytes_of}
use Rattle.bm_base.specs.Shape.{dims_of, stripes}
use Rattle.bm_forms.specs.declared.job.Job.TheVariants.{Walsh}
use Rattle.bm_forms.specs.PassCount.{passes_of}
use Rattle.bm_rack.specs.RackView.{RackView}
use Rattle.bm_rack.specs.Frames.{Keeps, MovesRows, HasCause, ChangesOnly}
use Rattle.bm_rack.specs.Image.{InEveryImage}
use Rattle.bm_control.specs.Consistent.{input_of}
use Rattle.bm_control.specs.Pages.{HasOpenLoad, HasClosedJob, HasLoadBody}
use Rattle.bm_control.specs.Sound.{IsSound}
use Rattle.bm_kinds.specs.Kinds.{Kind, WalshBits, Sums, Differences, Xors, pairing, kind_transformed}
use Rattle.bm_kinds.specs.OnBits.{word, kernel_over}
use Rattle.bm_kindjob.specs.declared.kind_file.KindFile.{KindFile}
use Rattle.bm_kindjob.specs.declared.kind_names.KindName.{KindName}
use Rattle.bm_kindjob.specs.declared.kind_names.KindName.TheVariants as name
use Rattle.bm_kindjob.specs.KindRun.{IsWorkBlock}
use Rattle.bm_top.specs.Moment.{Tells, TellsRack}

-- ---- what it makes

-- the kind of a name
abbrev pub named_kind : KindName → Kind
named_kind name.WalshBits = WalshBits
named_kind name.Sums = Sums
named_kind name.Differences = Differences
named_kind name.Xors = Xors

-- the passes of its plan, which are those of the Walsh-Hadamard transform
abbrev pub walsh_passes : Shape → ℕ
walsh_passes s = passes_of s Walsh

-- the records that a transform makes of these
abbrev pub transform_of : KindFile → (ℕ → List ℕ) → ℕ → List ℕ
transform_of file = kernel_over (pairing (named_kind file.kind)) file.shape.n file.set

-- the bytes of those that it makes of the bytes of an input, cut into records, in order of address
abbrev pub kinded : KindFile → List ℕ → List ℕ
kinded file bytes = bytes_of (2 ^ file.shape.n) (transform_of file (record_in file.shape bytes))

-- number k of what it makes is the sum of its kind over the numbers of the input
abbrev pub AreSums : KindFile → List ℕ → Type 0
AreSums file bytes = (k : ℕ) → k < 2 ^ file.shape.n
    → word (transform_of file (record_in file.shape bytes) k)
    ≡ kind_transformed (named_kind file.kind) file.shape.n file.set (λ x. word (record_in file.shape bytes x)) k

-- ---- a run

-- What a run does to disks that are loaded: the records of the last pass's area are what the transform makes of the input, and nothing but
-- the areas of the passes changed. A sound rack with no job open stays sound.
pub record KindRan (t : Tells) (file : KindFile) (passes : ℕ) (old : RackView) (result : Result ℕ Failed) (new : RackView) : Type 0 where
  pub records : IsTrue t.contents → OnOk result (SameRecords (2 ^ file.shape.n)
      (record_at new.contents file.shape (area_after passes)) (transform_of file (input_of old.contents file.shape)))
  pub only : ChangesOnly (IsWorkBlock file.shape) old new
  pub sound : TellsRack t → InEveryImage HasClosedJob old → IsSound old → IsSound new
  pub moved : MovesRows (2 * stripes file.shape * passes) (IsOk result) old new
  pub keeps : Keeps old new
  pub cause : HasCause (IsErr result) old new

-- The disks after a run: they are loaded with the input, and no job is open. Nothing but the areas of the passes is dirty.
pub record KindStands (s : Shape) (new : RackView) : Type 0 where
  pub stands : new.stands ≡ Some (dims_of s)
  pub load_gate : HasOpenLoad new.contents
  pub load_body : HasLoadBody s new.contents
  pub job_gate : HasClosedJob new.contents
  pub clean : (u : RackUnit) → ¬ IsWorkBlock s u → new.dirty u ≡ false
