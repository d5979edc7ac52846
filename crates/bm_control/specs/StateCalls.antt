-- How many pages are read of the control file.
use Rattle.std.specs.Prelude.{Ok, Err, ◌≡◌, ◌⊎◌, ℕ, ◌+◌, ◌-◌, ◌*◌, ◌<◌, Result}
use Rattle.bm_base.specs.declared.shape.Shape.{Shape}
use Rattle.bm_base.specs.Contents.{Contents, page_at}
use Rattle.bm_base.specs.Gate.{IsOpenGate, IsClosedGate}
use Rattle.bm_rack.specs.RackView.{RackView}
use Rattle.bm_rack.specs.Frames.{RaisesCounts}
use Rattle.bm_forms.specs.declared.job.Job.{Job}
use Rattle.bm_control.specs.declared.state.SlateState.{SlateState}
use Rattle.bm_control.specs.declared.state.SlateState.TheVariants.{Closed, Loaded, Working}
use Rattle.bm_control.specs.declared.state.ControlError.{ControlError}
use Rattle.bm_base.specs.Shape.{loads_of}
use Rattle.bm_control.specs.Pages.{slot_gate, HasClosedLoad, HasClosedJob, HasLoadBody, HasJobBody}
use Rattle.bm_control.specs.PageCalls.{ReadsPages}

-- so many pages are read of a slot: its gate, and its body where that is open
abbrev pub SlotReads : Contents → ℕ → ℕ → Type 0
SlotReads v slot n = (IsOpenGate (page_at v (slot_gate slot)) × (n ≡ 2)) ⊎ (IsClosedGate (page_at v (slot_gate slot)) × (n ≡ 1))

-- of an open job: its body, two pages a pass, and, where it has slots, a page or two for each; where it is refused no more than the 516
-- pages without the three that are read before
abbrev pub JobCalls : Result SlateState ControlError → RackView → RackView → Type 0
JobCalls (Ok Closed) old new = ⊥
JobCalls (Ok (Loaded s)) old new = ⊥
JobCalls (Ok (Working s job passes done every part slot)) old new =
    ReadsPages (1 + 2 * passes) (5 + 2 * passes) old new × (every ≡ loads_of s → RaisesCounts 0 (1 + 2 * passes) 0 old new)
JobCalls (Err e) old new = ReadsPages 0 (516 - 3) old new

-- of the whole file
abbrev pub StateCalls : Result SlateState ControlError → RackView → RackView → Type 0
StateCalls (Ok Closed) old new = RaisesCounts 0 1 0 old new
StateCalls (Ok (Loaded s)) old new = RaisesCounts 0 3 0 old new
StateCalls (Ok (Working s job passes done every part slot)) old new =
    ReadsPages (4 + 2 * passes) (8 + 2 * passes) old new × (every ≡ loads_of s → RaisesCounts 0 (4 + 2 * passes) 0 old new)
StateCalls (Err e) old new = ReadsPages 0 516 old new

-- Of a job with slots, once it is told, the slots' gates say how many pages were read: these, two a pass, and the slots'.
abbrev pub SlotCalls : Contents → ℕ → SlateState → RackView → RackView → Type 0
SlotCalls v before Closed old new = Unit {0}
SlotCalls v before (Loaded s) old new = Unit {0}
SlotCalls v before (Working s job passes done every part slot) old new =
    every < loads_of s → (one two : ℕ) → SlotReads v 0 one → SlotReads v 1 two
    → RaisesCounts 0 (before + 2 * passes + (one + two)) 0 old new

-- The most pages that are read of an open job, told or refused, by the job that the body names, and by its slots' gates. Its shape is
-- loaded.
pub record JobPages (s : Shape) (v : Contents) (old new : RackView) : Type 0 where
  pub bare : ((job : Job) (passes every : ℕ) → ¬ HasJobBody s v job passes every) → ReadsPages 0 1 old new
  pub most : (job : Job) (passes every : ℕ) → HasJobBody s v job passes every → ReadsPages 0 (5 + 2 * passes) old new
  pub whole : (job : Job) (passes every : ℕ) → HasJobBody s v job passes every → every ≡ loads_of s
      → ReadsPages 0 (1 + 2 * passes) old new
  pub parts : (job : Job) (passes every one two : ℕ) → HasJobBody s v job passes every → every < loads_of s
      → SlotReads v 0 one → SlotReads v 1 two → ReadsPages 0 (1 + 2 * passes + (one + two)) old new

-- The most pages that are read of the whole file, told or refused: few where a gate is closed or no job's body stands, else by the job
-- and its slots' gates.
pub record StatePages (v : Contents) (old new : RackView) : Type 0 where
  pub unloaded : HasClosedLoad v → ReadsPages 0 1 old new
  pub idle : HasClosedJob v → ReadsPages 0 3 old new
  pub bare : ((s : Shape) (job : Job) (passes every : ℕ) → HasLoadBody s v → ¬ HasJobBody s v job passes every)
      → ReadsPages 0 4 old new
  pub most : (s : Shape) (job : Job) (passes every : ℕ) → HasLoadBody s v → HasJobBody s v job passes every
      → ReadsPages 0 (8 + 2 * passes) old new
  pub whole : (s : Shape) (job : Job) (passes every : ℕ) → HasLoadBody s v → HasJobBody s v job passes every
      → every ≡ loads_of s → ReadsPages 0 (4 + 2 * passes) old new
  pub parts : (s : Shape) (job : Job) (passes every one two : ℕ) → HasLoadBody s v → HasJobBody s v job passes every
      → every < loads_of s → SlotReads v 0 one → SlotReads v 1 two → ReadsPages 0 (4 + 2 * passes + (one + two)) old new
