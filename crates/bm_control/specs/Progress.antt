-- How far a job is: passes done, and loads of the pass under way.
use Rattle.std.specs.Prelude.{◌≡◌, ◌⊎◌, ℕ, ◌+◌, ◌*◌, ◌<◌, ◌≤◌, Some}
use Rattle.bm_base.specs.declared.dims.Dims.{Dims}
use Rattle.bm_base.specs.declared.shape.Shape.{Shape}
use Rattle.bm_base.specs.Contents.{Contents, page_at}
use Rattle.bm_base.specs.Gate.{IsOpenGate}
use Rattle.bm_rack.specs.RackView.{RackView}
use Rattle.bm_rack.specs.Image.{IsImage, InEveryImage}
use Rattle.bm_forms.specs.declared.job.Job.{Job}
use Rattle.bm_base.specs.Shape.{loads_of}
use Rattle.bm_control.specs.Bodies.{IsPartBody}
use Rattle.bm_control.specs.Pages.{slot_body, slot_gate, HasOpenJob, HasClosedJob, HasLoadBody, HasJobBody, no_slot}
use Rattle.bm_control.specs.Consistent.{GatesAre}

-- A slot counts: its gate is open, and its body names the pass under way and this number of loads.
pub record Counts (s : Shape) (v : Contents) (done slot loads : ℕ) : Type 0 where
  pub opened : IsOpenGate (page_at v (slot_gate slot))
  pub body : IsPartBody s (page_at v (slot_body slot)) (done + 1) loads

-- Of the two slots this one is counted, with this number of loads: it counts, and no slot counts with more. Slot 0 is counted where both
-- count with one number. Where none counts, or the job has no slots, the number is 0 and the slot is `no_slot`.
pub record IsCounted (s : Shape) (v : Contents) (every done part slot : ℕ) : Type 0 where
  pub none : every ≡ loads_of s → slot ≡ no_slot
  pub range : slot ≤ no_slot
  pub nothing : slot ≡ no_slot → part ≡ 0
  pub counts : slot < 2 → Counts s v done slot part
  pub most : every < loads_of s → (other loads : ℕ) → other < 2 → Counts s v done other loads → (slot < 2) × (loads ≤ part)
  pub first : slot ≡ 1 → ¬ Counts s v done 0 part

-- the progress of contents in which a job is open, in loads: those of the passes done, and those counted of the pass under way
pub record JobGone (v : Contents) (gone : ℕ) : Type 0 where
  pub shape : Shape
  pub job : Job
  pub passes : ℕ
  pub every : ℕ
  pub done : ℕ
  pub part : ℕ
  pub slot : ℕ
  pub opened : HasOpenJob v
  pub load : HasLoadBody shape v
  pub body : HasJobBody shape v job passes every
  pub gates : GatesAre v passes done
  pub counted : IsCounted shape v every done part slot
  pub sum : gone ≡ done * loads_of shape + part

-- the progress of contents, 0 where no job is open
abbrev pub IsGone : Contents → ℕ → Type 0
IsGone v gone = (HasClosedJob v × (gone ≡ 0)) ⊎ JobGone v gone

-- in every image of the rack at least so many loads are gone
abbrev pub AreGone : ℕ → RackView → Type 0
AreGone least v = InEveryImage (λ image. (gone : ℕ) → IsGone image gone → least ≤ gone) v

-- The sure progress of a rack: the least over its images.
pub record IsSure (v : RackView) (sure : ℕ) : Type 0 where
  pub least : AreGone sure v
  pub dims : Dims
  pub stands : v.stands ≡ Some dims
  pub image : Contents
  pub is_image : IsImage dims v image
  pub reached : IsGone image sure
