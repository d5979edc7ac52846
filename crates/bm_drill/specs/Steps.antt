-- The steps of a drill.
use Rattle.std.specs.Prelude.{◌≡◌, ℕ, ◌^◌, Bool, IsTrue, Some}
use Rattle.bm_base.specs.declared.dims.Dims.{Dims}
use Rattle.bm_base.specs.declared.shape.Shape.{Shape}
use Rattle.bm_base.specs.Records.{SameRecords}
use Rattle.bm_base.specs.Shape.{dims_of}
use Rattle.bm_rack.specs.RackView.{RackView, IsClean}
use Rattle.bm_rack.specs.Calls.{IsBlank}
use Rattle.bm_control.specs.Consistent.{input_of}
use Rattle.bm_control.specs.Pages.{HasOpenLoad, HasClosedJob, HasLoadBody}
use Rattle.bm_control.specs.Sound.{IsSound}
use Rattle.bm_drill.specs.Generated.{generated}

-- a rack of zeros stands with these sizes and is attached
pub record IsNewRack (told_contents : Bool) (dims : Dims) (v : RackView) : Type 0 where
  pub stands : v.stands ≡ Some dims
  pub attached : v.attached ≡ Some dims
  pub blank : IsTrue told_contents → IsBlank dims v.contents
  pub clean : IsClean v

-- the generated records of this shape are loaded on a sound and clean rack, and no job is open
pub record HasGenerated (s : Shape) (start : ℕ) (v : RackView) : Type 0 where
  pub stands : v.stands ≡ Some (dims_of s)
  pub attached : v.attached ≡ Some (dims_of s)
  pub sound : IsSound v
  pub clean : IsClean v
  pub load_gate : HasOpenLoad v.contents
  pub load_body : HasLoadBody s v.contents
  pub job_gate : HasClosedJob v.contents
  pub input : SameRecords (2 ^ s.n) (input_of v.contents s) (generated s.width start)
