-- What the control file tells: its state, or the first page of it that is wrong, in the order in which it is read.
use Rattle.std.specs.Prelude.{Ok, Err, ◌≡◌, ◌⊎◌, ℕ, ◌+◌, ◌<◌, ◌≤◌, List, Option, Some, None, Result}
use Rattle.bm_base.specs.declared.shape.Shape.{Shape}
use Rattle.bm_base.specs.Contents.{Contents, page_at}
use Rattle.bm_base.specs.Gate.{IsOpenGate, IsClosedGate}
use Rattle.bm_forms.specs.declared.job.Job.{Job}
use Rattle.bm_forms.specs.declared.pass_form.PassForm.{PassForm}
use Rattle.bm_control.specs.declared.state.SlateState.{SlateState}
use Rattle.bm_control.specs.declared.state.SlateState.TheVariants.{Closed, Loaded, Working}
use Rattle.bm_control.specs.declared.state.ControlError.{ControlError}
use Rattle.bm_control.specs.declared.state.ControlError.TheVariants.{Failed, BadPage}
use Rattle.bm_base.specs.Shape.{loads_of}
use Rattle.bm_control.specs.Bodies.{JobBodyFits, IsPassBody, IsPartBody}
use Rattle.bm_control.specs.Pages.{load_body, job_body, pass_body, pass_gate, slot_body, slot_gate}
use Rattle.bm_control.specs.Pages.{HasOpenLoad, HasClosedLoad, HasOpenJob, HasClosedJob, HasLoadBody, HasJobBody, no_slot}
use Rattle.bm_control.specs.Consistent.{GatesAre}
use Rattle.bm_control.specs.Progress.{Counts, IsCounted}

-- the body of pass k + 1 decodes
pub record HasPassBody (s : Shape) (v : Contents) (k : ℕ) : Type 0 where
  pub pass : PassForm
  pub body : IsPassBody s k (page_at v (pass_body k)) pass

-- the first k pass bodies decode, and of their gates the first `done` are open and no other
pub record PassesStand (s : Shape) (v : Contents) (k done : ℕ) : Type 0 where
  pub bodies : (i : ℕ) → i < k → HasPassBody s v i
  pub gates : GatesAre v k done

-- page `page` is wrong at pass k + 1: its body, which doesn't decode, or its gate, which is open after a closed one
abbrev pub IsBadAt : Shape → Contents → ℕ → ℕ → ℕ → Type 0
IsBadAt s v k done page =
    ((page ≡ pass_body k) × ((pass : PassForm) → ¬ IsPassBody s k (page_at v (pass_body k)) pass))
    ⊎ (HasPassBody s v k × (done < k) × IsOpenGate (page_at v (pass_gate k)) × (page ≡ pass_gate k))

-- it is the first that is wrong among the pages of the passes
pub record IsBadPassPage (s : Shape) (v : Contents) (passes page : ℕ) : Type 0 where
  pub k : ℕ
  pub done : ℕ
  pub below : k < passes
  pub before : PassesStand s v k done
  pub bad : IsBadAt s v k done page

-- a slot's body decodes to a pass that is there, no later than the one under way
pub record HasPart (s : Shape) (v : Contents) (passes done slot : ℕ) : Type 0 where
  pub pass : ℕ
  pub loads : ℕ
  pub body : IsPartBody s (page_at v (slot_body slot)) pass loads
  pub known : pass ≤ passes
  pub soon : pass ≤ done + 1

-- a slot that is open has such a body
abbrev pub IsGoodSlot : Shape → Contents → ℕ → ℕ → ℕ → Type 0
IsGoodSlot s v passes done slot = IsOpenGate (page_at v (slot_gate slot)) → HasPart s v passes done slot

-- a slot is open and has none
abbrev pub IsBadSlot : Shape → Contents → ℕ → ℕ → ℕ → Type 0
IsBadSlot s v passes done slot = IsOpenGate (page_at v (slot_gate slot)) × (¬ HasPart s v passes done slot)

-- page `page` is the first slot body that is wrong
abbrev pub IsBadSlotPage : Shape → Contents → ℕ → ℕ → ℕ → Type 0
IsBadSlotPage s v passes done page =
    ((page ≡ slot_body 0) × IsBadSlot s v passes done 0)
    ⊎ (IsGoodSlot s v passes done 0 × IsBadSlot s v passes done 1 × (page ≡ slot_body 1))

-- the open job of these contents, as it is told
pub record IsWorking (s : Shape) (v : Contents) (job : Job) (passes done every part slot : ℕ) : Type 0 where
  pub body : HasJobBody s v job passes every
  pub stand : PassesStand s v passes done
  pub slots : every < loads_of s → (other : ℕ) → other < 2 → IsGoodSlot s v passes done other
  pub counted : IsCounted s v every done part slot

-- page `page` is the first that is wrong of the passes' pages and the slots'
abbrev pub IsBadProgress : Shape → Contents → ℕ → ℕ → ℕ → Type 0
IsBadProgress s v passes every page =
    IsBadPassPage s v passes page
    ⊎ ((every < loads_of s) × ((done : ℕ) × PassesStand s v passes done × IsBadSlotPage s v passes done page))

-- page `page` is wrong behind a job body that decodes
pub record IsBadBehind (s : Shape) (v : Contents) (page : ℕ) : Type 0 where
  pub job : Job
  pub passes : ℕ
  pub every : ℕ
  pub body : HasJobBody s v job passes every
  pub bad : IsBadProgress s v passes every page

-- page `page` is the first that is wrong of an open job
abbrev pub IsBadJobPage : Shape → Contents → ℕ → Type 0
IsBadJobPage s v page =
    ((page ≡ job_body) × ((job : Job) (passes every : ℕ) → ¬ HasJobBody s v job passes every)) ⊎ IsBadBehind s v page

-- what a shape is loaded, and a job open
pub record IsJobOpen (s : Shape) (v : Contents) : Type 0 where
  pub load_gate : HasOpenLoad v
  pub load_body : HasLoadBody s v
  pub job_gate : HasOpenJob v

-- page `page` is the first that is wrong
abbrev pub IsFirstBad : Contents → ℕ → Type 0
IsFirstBad v page =
    ((page ≡ load_body) × HasOpenLoad v × ((s : Shape) → ¬ HasLoadBody s v))
    ⊎ ((s : Shape) × IsJobOpen s v × IsBadJobPage s v page)

-- What is answered of the pages of an open job; the answers exclude one another.
abbrev pub JobAnswer : Shape → Contents → Result SlateState ControlError → Type 0
JobAnswer s v (Ok Closed) = ⊥
JobAnswer s v (Ok (Loaded shape)) = ⊥
JobAnswer s v (Ok (Working shape job passes done every part slot)) = (shape ≡ s) × IsWorking s v job passes done every part slot
JobAnswer s v (Err Failed) = Unit {0}
JobAnswer s v (Err (BadPage page)) = IsBadJobPage s v page

-- What the control file tells, in the order in which it is read: Closed where the load gate is closed, Loaded where the job gate is,
-- else Working, or the first page that is wrong. The answers exclude one another.
abbrev pub StateAnswer : Contents → Result SlateState ControlError → Type 0
StateAnswer v (Ok Closed) = HasClosedLoad v
StateAnswer v (Ok (Loaded s)) = HasOpenLoad v × HasLoadBody s v × HasClosedJob v
StateAnswer v (Ok (Working s job passes done every part slot)) = IsJobOpen s v × IsWorking s v job passes done every part slot
StateAnswer v (Err Failed) = Unit {0}
StateAnswer v (Err (BadPage page)) = IsFirstBad v page

-- the answer of one pass's pages, after the first k passes: how many passes are done now
pub record PassRead (s : Shape) (v : Contents) (k done next : ℕ) : Type 0 where
  pub body : HasPassBody s v k
  pub gate : (IsOpenGate (page_at v (pass_gate k)) × (done ≡ k) × (next ≡ k + 1)) ⊎ (IsClosedGate (page_at v (pass_gate k)) × (next ≡ done))

abbrev pub PassAnswer : Shape → Contents → ℕ → ℕ → Result ℕ ControlError → Type 0
PassAnswer s v k done (Ok next) = PassRead s v k done next
PassAnswer s v k done (Err Failed) = Unit {0}
PassAnswer s v k done (Err (BadPage page)) = IsBadAt s v k done page

-- the answer of all passes' pages
abbrev pub PassesAnswer : Shape → Contents → ℕ → Result ℕ ControlError → Type 0
PassesAnswer s v passes (Ok done) = PassesStand s v passes done
PassesAnswer s v passes (Err Failed) = Unit {0}
PassesAnswer s v passes (Err (BadPage page)) = IsBadPassPage s v passes page

-- what was found of a slot: the loads that it counts, if it does
pub record SlotRead (s : Shape) (v : Contents) (passes done slot : ℕ) (found : Option ℕ) : Type 0 where
  pub good : IsGoodSlot s v passes done slot
  pub counts : (loads : ℕ) → found ≡ Some loads → Counts s v done slot loads
  pub only : (loads : ℕ) → Counts s v done slot loads → found ≡ Some loads

abbrev pub SlotAnswer : Shape → Contents → ℕ → ℕ → ℕ → Result (Option ℕ) ControlError → Type 0
SlotAnswer s v passes done slot (Ok found) = SlotRead s v passes done slot found
SlotAnswer s v passes done slot (Err Failed) = Unit {0}
SlotAnswer s v passes done slot (Err (BadPage page)) = IsBadSlot s v passes done slot × (page ≡ slot_body slot)

-- what was found of both slots
pub record SlotsRead (s : Shape) (v : Contents) (passes done every part slot : ℕ) : Type 0 where
  pub good : every < loads_of s → (other : ℕ) → other < 2 → IsGoodSlot s v passes done other
  pub counted : IsCounted s v every done part slot

abbrev pub SlotsAnswer : Shape → Contents → ℕ → ℕ → ℕ → Result (ℕ × ℕ) ControlError → Type 0
SlotsAnswer s v passes done every (Ok (part, slot)) = SlotsRead s v passes done every part slot
SlotsAnswer s v passes done every (Err Failed) = Unit {0}
SlotsAnswer s v passes done every (Err (BadPage page)) = (every < loads_of s) × IsBadSlotPage s v passes done page

-- the answer of the pages of the passes and the slots: the passes done, the loads counted of the next one, and the slot that counts them
abbrev pub ProgressAnswer : Shape → Contents → ℕ → ℕ → Result (ℕ × ℕ × ℕ) ControlError → Type 0
ProgressAnswer s v passes every (Ok (done, part, slot)) = PassesStand s v passes done × SlotsRead s v passes done every part slot
ProgressAnswer s v passes every (Err Failed) = Unit {0}
ProgressAnswer s v passes every (Err (BadPage page)) = IsBadProgress s v passes every page

-- which of two slots is counted, by what was found of them: the one with more loads, and the first where both have one number
pub record CountedOf (first second : Option ℕ) (part slot : ℕ) : Type 0 where
  pub range : slot ≤ no_slot
  pub none : slot ≡ no_slot → (first ≡ None) × (second ≡ None) × (part ≡ 0)
  pub zero : slot ≡ 0 → (first ≡ Some part) × ((loads : ℕ) → second ≡ Some loads → loads ≤ part)
  pub one : slot ≡ 1 → (second ≡ Some part) × ((loads : ℕ) → first ≡ Some loads → loads < part)

-- what is answered of the body of pass k + 1
abbrev pub PassBodyAnswer : Shape → ℕ → List ℕ → Result PassForm ControlError → Type 0
PassBodyAnswer s k page (Ok pass) = IsPassBody s k page pass
PassBodyAnswer s k page (Err Failed) = Unit {0}
PassBodyAnswer s k page (Err (BadPage bad)) = (bad ≡ pass_body k) × ((pass : PassForm) → ¬ IsPassBody s k page pass)

-- the loads that a slot counts are some and not all of a pass, and that pass is one of the job's
pub record CountFits (s : Shape) (passes done loads : ℕ) : Type 0 where
  pub loads_some : 1 ≤ loads
  pub loads_few : loads < loads_of s
  pub under_way : done < passes

-- The counted slot and its loads keep their ranges: where no slot is counted the slot is `no_slot` and the loads are 0, and a job without
-- slots counts none.
pub record PartFits (s : Shape) (passes done every part slot : ℕ) : Type 0 where
  pub range : slot ≤ no_slot
  pub nothing : slot ≡ no_slot → part ≡ 0
  pub counts : slot < 2 → CountFits s passes done part
  pub parts : slot < 2 → every < loads_of s
  pub whole : every ≡ loads_of s → slot ≡ no_slot
  pub few : part < loads_of s

-- the numbers of an open job keep their ranges: those of its body, no more passes done than there are, and the counted slot's
pub record WorkingFits (s : Shape) (job : Job) (passes done every part slot : ℕ) : Type 0 where
  pub body : JobBodyFits s job passes every
  pub done_few : done ≤ passes
  pub counted : PartFits s passes done every part slot

-- The numbers of a state keep their ranges, on every rack, told or not.
abbrev pub StateFits : SlateState → Type 0
StateFits Closed = Unit {0}
StateFits (Loaded s) = Unit {0}
StateFits (Working s job passes done every part slot) = WorkingFits s job passes done every part slot
