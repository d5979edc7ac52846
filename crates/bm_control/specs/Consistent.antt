-- Contents that a run can go on from: the control file tells the truth of the records.
use Rattle.std.specs.Prelude.{◌≡◌, ℕ, ◌+◌, ◌*◌, ◌^◌, ◌<◌, ◌≤◌, List, length, take, slice_get, Some}
use Rattle.std.specs.List.{All}
use Rattle.bm_base.specs.declared.dims.Dims.{Dims}
use Rattle.bm_base.specs.declared.shape.Shape.{Shape}
use Rattle.bm_base.specs.declared.area.Area.TheVariants.{Input}
use Rattle.bm_base.specs.Area.{area_after}
use Rattle.bm_base.specs.Contents.{Contents, page_at}
use Rattle.bm_base.specs.Gate.{IsOpenGate, IsClosedGate}
use Rattle.bm_base.specs.Records.{record_at, SameRecords}
use Rattle.bm_base.specs.Shape.{dims_of, loads_of}
use Rattle.bm_gf2.specs.Affine.{affine_image}
use Rattle.bm_forms.specs.declared.job.Job.{Job}
use Rattle.bm_forms.specs.declared.pass_form.PassForm.{PassForm}
use Rattle.bm_forms.specs.Job.{meaning}
use Rattle.bm_forms.specs.PassForm.{IsOfShape}
use Rattle.bm_forms.specs.Plan.{all_passed}
use Rattle.bm_control.specs.Bodies.{IsPassBody, IsPartBody}
use Rattle.bm_control.specs.Pages.{pass_body, pass_gate, slot_body, slot_gate, HasOpenLoad, HasOpenJob, HasLoadBody, HasJobBody}

-- the input's records
abbrev pub input_of : Contents → Shape → ℕ → List ℕ
input_of v s = record_at v s Input

-- of the first `passes` pass gates exactly the first `done` are open
pub record GatesAre (v : Contents) (passes done : ℕ) : Type 0 where
  pub few : done ≤ passes
  pub opened : (k : ℕ) → k < done → IsOpenGate (page_at v (pass_gate k))
  pub closed : (k : ℕ) → done ≤ k → k < passes → IsClosedGate (page_at v (pass_gate k))

-- the bodies of these passes stand on the pass pages
abbrev pub BodiesAre : Shape → Contents → List PassForm → Type 0
BodiesAre s v forms = (k : ℕ) (pass : PassForm) → slice_get forms k ≡ Some pass → IsPassBody s k (page_at v (pass_body k)) pass

-- the records of the first `loads` loads that this pass reads stand in the target where its map takes them
abbrev pub HoldsFirstLoads : Shape → PassForm → ℕ → (ℕ → List ℕ) → (ℕ → List ℕ) → Type 0
HoldsFirstLoads s pass loads target wanted =
    (x : ℕ) → x < loads * 2 ^ s.m → target (affine_image pass.map.map x) ≡ wanted (affine_image pass.map.map x)

-- An open slot tells the truth: its body names a pass, no later than the one under way, and, where it is that one, a number of loads whose
-- records are moved.
pub record SlotStands (s : Shape) (v : Contents) (forms : List PassForm) (done slot : ℕ) : Type 0 where
  pub pass : ℕ
  pub loads : ℕ
  pub body : IsPartBody s (page_at v (slot_body slot)) pass loads
  pub known : pass ≤ length forms
  pub soon : pass ≤ done + 1
  pub moved : pass ≡ done + 1 → (form : PassForm) → slice_get forms done ≡ Some form
      → HoldsFirstLoads s form loads (record_at v s (area_after pass)) (all_passed (take pass forms) (input_of v s))

-- An open job of these contents.
pub record JobStands (s : Shape) (v : Contents) : Type 0 where
  pub job : Job
  -- its passes; a body names all of a pass that matters
  pub forms : List PassForm
  -- after how many loads of a pass its progress is made durable
  pub every : ℕ
  pub body : HasJobBody s v job (length forms) every
  pub of_shape : All (IsOfShape s) forms
  pub bodies : BodiesAre s v forms
  -- the passes do the job to this input
  pub means : SameRecords (2 ^ s.n) (all_passed forms (input_of v s)) (meaning s.n job (input_of v s))
  -- how many passes are done; their records stand in the area of the last of them
  pub done : ℕ
  pub gates : GatesAre v (length forms) done
  pub work : SameRecords (2 ^ s.n) (record_at v s (area_after done)) (all_passed (take done forms) (input_of v s))
  pub slots : every < loads_of s → (slot : ℕ) → slot < 2 → IsOpenGate (page_at v (slot_gate slot)) → SlotStands s v forms done slot

-- a shape whose load body stands, and whose rack has these sizes
pub record LoadStands (dims : Dims) (v : Contents) : Type 0 where
  pub shape : Shape
  pub body : HasLoadBody shape v
  pub dims_are : dims_of shape ≡ dims

-- Consistent contents of a rack of these sizes: an open load gate has a load body, and an open job gate has a loaded shape and an open job.
pub record IsConsistent (dims : Dims) (v : Contents) : Type 0 where
  pub loaded : HasOpenLoad v → LoadStands dims v
  pub after_load : HasOpenJob v → HasOpenLoad v
  pub job : HasOpenJob v → (s : Shape) → HasLoadBody s v → JobStands s v
