-- The moments at which progress is made durable: what must hold of the rack's contents.
use Rattle.std.specs.Prelude.{◌≡◌, ℕ, ◌+◌, ◌^◌, ◌<◌, ◌≤◌, false, List, length, take, slice_get, Some}
use Rattle.bm_base.specs.declared.shape.Shape.{Shape}
use Rattle.bm_base.specs.Area.{area_after}
use Rattle.bm_base.specs.Contents.{Contents, page_unit, page_at}
use Rattle.bm_base.specs.Records.{record_at, SameRecords}
use Rattle.bm_rack.specs.RackView.{RackView}
use Rattle.bm_forms.specs.declared.job.Job.{Job}
use Rattle.bm_forms.specs.declared.pass_form.PassForm.{PassForm}
use Rattle.bm_forms.specs.Plan.{all_passed}
use Rattle.bm_base.specs.Shape.{loads_of}
use Rattle.bm_control.specs.Bodies.{IsPassBody}
use Rattle.bm_control.specs.Consistent.{JobStands, HoldsFirstLoads, BodiesAre, input_of}
use Rattle.bm_control.specs.Pages.{pass_body, pass_gate, slot_gate, HasOpenJob, HasLoadBody, HasJobBody, IsZeroPage}

-- A job is open in these contents, and all records of pass k + 1, which is the one under way, are where they are to be.
pub record PassIsDone (v : Contents) (k : ℕ) : Type 0 where
  pub shape : Shape
  pub load : HasLoadBody shape v
  pub gate : HasOpenJob v
  pub job : JobStands shape v
  pub now : job.done ≡ k
  pub below : k < length job.forms
  pub records : SameRecords (2 ^ shape.n) (record_at v shape (area_after (k + 1))) (all_passed (take (k + 1) job.forms) (input_of v shape))

-- A job with slots is open in these contents, and the first `loads` loads of this pass, which is the one under way, are where they are to
-- be.
pub record PartIsMoved (s : Shape) (v : Contents) (pass loads : ℕ) : Type 0 where
  pub load : HasLoadBody s v
  pub gate : HasOpenJob v
  pub job : JobStands s v
  pub parts : job.every < loads_of s
  pub now : pass ≡ job.done + 1
  pub known : pass ≤ length job.forms
  pub moved : (form : PassForm) → slice_get job.forms job.done ≡ Some form
      → HoldsFirstLoads s form loads (record_at v s (area_after pass)) (all_passed (take pass job.forms) (input_of v s))

-- the page is clean
abbrev pub IsCleanPage : ℕ → RackView → Type 0
IsCleanPage page v = v.dirty (page_unit page) ≡ false

-- The pages of a new job are written: its body, the body of each pass, and zeros on the gates of its passes and, where it has slots, of
-- those.
pub record JobIsWritten (s : Shape) (job : Job) (forms : List PassForm) (every : ℕ) (v : Contents) : Type 0 where
  pub body : HasJobBody s v job (length forms) every
  pub bodies : BodiesAre s v forms
  pub gates : (k : ℕ) → k < length forms → IsZeroPage (page_at v (pass_gate k))
  pub slots : every < loads_of s → (slot : ℕ) → slot < 2 → IsZeroPage (page_at v (slot_gate slot))

-- so are the pages of its first k passes
pub record PassesAreWritten (s : Shape) (forms : List PassForm) (k : ℕ) (v : Contents) : Type 0 where
  pub bodies : (i : ℕ) (pass : PassForm) → i < k → slice_get forms i ≡ Some pass → IsPassBody s i (page_at v (pass_body i)) pass
  pub gates : (i : ℕ) → i < k → IsZeroPage (page_at v (pass_gate i))
