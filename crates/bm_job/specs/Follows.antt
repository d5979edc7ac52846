-- A machine that follows a rack: what it knows is what stands there.
use Rattle.std.specs.Prelude.{◌≡◌, ℕ, ◌+◌, ◌*◌, ◌^◌, ◌<◌, false, Some}
use Rattle.bm_base.specs.declared.shape.Shape.{Shape}
use Rattle.bm_base.specs.Area.{area_after}
use Rattle.bm_base.specs.Contents.{Contents, RackUnit, page_at}
use Rattle.bm_base.specs.Records.{record_at}
use Rattle.bm_base.specs.Shape.{dims_of, loads_of}
use Rattle.bm_gf2.specs.Affine.{affine_image}
use Rattle.bm_forms.specs.declared.job.Job.{Job}
use Rattle.bm_forms.specs.declared.pass_form.PassForm.{PassForm}
use Rattle.bm_forms.specs.PassForm.{passed}
use Rattle.bm_rack.specs.RackView.{RackView}
use Rattle.bm_stripe.specs.Units.{IsAreaUnit, record_unit}
use Rattle.bm_control.specs.Bodies.{IsPassBody}
use Rattle.bm_control.specs.Pages.{pass_body, HasOpenLoad, HasOpenJob, HasLoadBody, HasJobBody}
use Rattle.bm_control.specs.Consistent.{GatesAre, HoldsFirstLoads}
use Rattle.bm_control.specs.Progress.{IsCounted}
use Rattle.bm_control.specs.Sound.{IsSound}
use Rattle.bm_job.specs.declared.machine.Machine.{Machine}

-- the body of pass done + 1 is this pass
abbrev pub IsNext : Shape → ℕ → Contents → PassForm → Type 0
IsNext s done v form = IsPassBody s done (page_at v (pass_body done)) form

-- the records of the first `loads` loads of pass done + 1 stand in its target area where the pass takes them
abbrev pub AreMoved : Shape → ℕ → ℕ → Contents → Type 0
AreMoved s done loads v = (form : PassForm) → IsNext s done v form
    → HoldsFirstLoads s form loads (record_at v s (area_after (done + 1))) (passed form (record_at v s (area_after done)))

-- no block that holds one of these records is dirty
abbrev pub AreDurable : Shape → ℕ → ℕ → RackView → Type 0
AreDurable s done loads v = (form : PassForm) → IsNext s done v.contents form
    → (x : ℕ) → x < loads * 2 ^ s.m → v.dirty (record_unit s (area_after (done + 1)) (affine_image form.map.map x)) ≡ false

-- On a sound rack this job is open with this progress. Nothing outside the target area of the pass under way is dirty, nor a counted
-- record in it; nothing at all where no pass is left.
pub record IsHeld (s : Shape) (job : Job) (passes done every part slot : ℕ) (v : RackView) : Type 0 where
  pub sound : IsSound v
  pub attached : v.attached ≡ Some (dims_of s)
  pub outside : (u : RackUnit) → (done < passes → ¬ IsAreaUnit s (area_after (done + 1)) u) → v.dirty u ≡ false
  pub durable : AreDurable s done part v
  pub load_body : HasLoadBody s v.contents
  pub load_gate : HasOpenLoad v.contents
  pub job_gate : HasOpenJob v.contents
  pub body : HasJobBody s v.contents job passes every
  pub gates : GatesAre v.contents passes done
  pub counted : IsCounted s v.contents every done part slot

-- A machine follows a rack: its job is open there with its progress, the form that it keeps is the stored one, and the loads that it
-- counts as moved of the pass under way are moved.
pub record Follows (m : Machine) (v : RackView) : Type 0 where
  pub held : IsHeld m.shape m.job m.passes m.done m.every m.part m.slot v
  pub form : (form : PassForm) → m.form ≡ Some form → IsNext m.shape m.done v.contents form
  pub moved : AreMoved m.shape m.done m.load v.contents

-- a job that a machine knows is open with its progress, and so many loads of the pass under way are moved
pub record Holds (m : Machine) (loads : ℕ) (v : RackView) : Type 0 where
  pub held : IsHeld m.shape m.job m.passes m.done m.every m.part m.slot v
  pub moved : AreMoved m.shape m.done loads v.contents

-- the loads that are moved: those of the passes done, and those of the pass under way
abbrev pub loads_moved : Machine → ℕ
loads_moved m = m.done * loads_of m.shape + m.load

-- those among them that are durable
abbrev pub loads_counted : Machine → ℕ
loads_counted m = m.done * loads_of m.shape + m.part
