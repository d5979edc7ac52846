-- What a turn does.
use Rattle.std.specs.Prelude.{Ok, Err, ◌≡◌, ◌≢◌, ◌⊎◌, ℕ, ◌+◌, ◌%◌, ◌<◌, ◌==◌, if◌then◌else◌, Result, Option, Some, None, IsSome, IsTrue}
use Rattle.std.specs.Prelude.{IsFalse}
use Rattle.bm_base.specs.Area.{area_after}
use Rattle.bm_base.specs.Contents.{Contents, RackUnit}
use Rattle.bm_forms.specs.declared.pass_form.PassForm.{PassForm}
use Rattle.bm_rack.specs.Calls.{IsPage}
use Rattle.bm_stripe.specs.Units.{IsAreaUnit}
use Rattle.bm_base.specs.Shape.{loads_of}
use Rattle.bm_control.specs.PageCalls.{IsSlotPage}
use Rattle.bm_job.specs.declared.machine.Machine.{Machine}
use Rattle.bm_job.specs.declared.answers.Turn.{Turn}
use Rattle.bm_job.specs.declared.answers.Turn.TheVariants.{Went, Finished}
use Rattle.bm_job.specs.declared.answers.RunError.{RunError}
use Rattle.bm_job.specs.declared.answers.RunError.TheVariants.{Failed, NotLoaded, OtherShape, OtherJob, BadPage}
use Rattle.bm_job.specs.Follows.{IsNext}
use Rattle.bm_control.specs.Pages.{pass_body, pass_gate, no_slot}

-- the slot that progress is written to: one that is not counted, and slot 0 where none is
abbrev pub free_slot : ℕ → ℕ
free_slot slot = if slot == 0 then 1 else 0

-- the load that is moved next is the last of its pass
abbrev pub IsLastLoad : Machine → Type 0
IsLastLoad m = m.load + 1 ≡ loads_of m.shape

-- it is one after which progress is made durable within the pass
abbrev pub IsMarked : Machine → Type 0
IsMarked m = (m.load + 1 < loads_of m.shape) × ((m.load + 1) % m.every ≡ 0)

-- both are of the same job
pub record SameJob (old new : Machine) : Type 0 where
  pub shape : new.shape ≡ old.shape
  pub job : new.job ≡ old.job
  pub passes : new.passes ≡ old.passes
  pub every : new.every ≡ old.every

-- A machine after one load more. After the last load of a pass the next pass is under way, and its form is not read yet.
pub record IsNextOf (old new : Machine) : Type 0 where
  pub same : SameJob old new
  pub alive : IsTrue new.alive
  pub last : IsLastLoad old → (new.done ≡ old.done + 1) × (new.load ≡ 0) × (new.part ≡ 0) × (new.slot ≡ no_slot) × (new.form ≡ None)
  pub before : old.load + 1 < loads_of old.shape → (new.done ≡ old.done) × (new.load ≡ old.load + 1) × IsSome new.form
  pub marked : IsMarked old → (new.part ≡ old.load + 1) × (new.slot ≡ free_slot old.slot)
  pub unmarked : old.load + 1 < loads_of old.shape → (old.load + 1) % old.every ≢ 0 → (new.part ≡ old.part) × (new.slot ≡ old.slot)

-- a machine that is as before, and goes on no more
pub record IsHalted (old new : Machine) : Type 0 where
  pub same : SameJob old new
  pub alive : IsFalse new.alive
  pub done : new.done ≡ old.done
  pub part : new.part ≡ old.part
  pub slot : new.slot ≡ old.slot
  pub load : new.load ≡ old.load

-- the refusals of a turn: the rack failed, or the body of the pass under way is none
abbrev pub IsTurnRefusal : RunError → Type 0
IsTurnRefusal Failed = Unit {0}
IsTurnRefusal NotLoaded = ⊥
IsTurnRefusal OtherShape = ⊥
IsTurnRefusal OtherJob = ⊥
IsTurnRefusal (BadPage page) = Unit {0}

-- a form that a machine keeps is this one
abbrev pub KeepsForm : PassForm → Option PassForm → Type 0
KeepsForm form kept = (other : PassForm) → kept ≡ Some other → other ≡ form

-- what a turn read: a form that the body of the pass under way decodes to, and the machine keeps no other
pub record HasRead (old new : Machine) (v : Contents) : Type 0 where
  pub form : PassForm
  pub body : IsNext old.shape old.done v form
  pub kept : KeepsForm form new.form

-- page `page` is the body of the pass under way, and it is no pass's
abbrev pub IsBadBody : Machine → Contents → ℕ → Type 0
IsBadBody m v page = (page ≡ pass_body m.done) × ((form : PassForm) → ¬ IsNext m.shape m.done v form)

-- what is answered of a turn that leaves the machine so: whether a load or a gate remains
abbrev pub TurnAnswer : Machine → Result Turn RunError → Type 0
TurnAnswer m (Ok Went) = m.done < m.passes
TurnAnswer m (Ok Finished) = m.done ≡ m.passes
TurnAnswer m (Err e) = IsTurnRefusal e

-- what a turn writes: the target area of the pass under way, its gate, and the slot that is not counted
abbrev pub IsTurnUnit : Machine → RackUnit → Type 0
IsTurnUnit m u = IsAreaUnit m.shape (area_after (m.done + 1)) u ⊎ (IsPage (pass_gate m.done) u ⊎ IsSlotPage (free_slot m.slot) u)

-- the page calls for the form of a pass: one where it is not read yet
abbrev pub form_pages : Option PassForm → ℕ
form_pages None = 1
form_pages (Some form) = 0

-- the page calls after a load at most: its pass's gate, or a slot
abbrev pub durable_pages : Machine → ℕ
durable_pages m = if m.load + 1 == loads_of m.shape then 1 else (if (m.load + 1) % m.every == 0 then 4 else 0)

-- and the syncs
abbrev pub durable_syncs : Machine → ℕ
durable_syncs m = if m.load + 1 == loads_of m.shape then 2 else (if (m.load + 1) % m.every == 0 then 3 else 0)
