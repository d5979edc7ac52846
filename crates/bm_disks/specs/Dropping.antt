-- What is answered of a job that is to be dropped.
use Rattle.std.specs.Prelude.{Ok, Err, ℕ, List, Result}
use Rattle.bm_base.specs.Gate.{IsOpenGate, IsClosedGate}
use Rattle.bm_control.specs.Pages.{IsZeroPage}
use Rattle.bm_disks.specs.declared.dropping.DropError.{DropError}
use Rattle.bm_disks.specs.declared.dropping.DropError.TheVariants.{Failed, NoJob}

-- The job gate was open, and its page is zeros now, or it was closed. The two exclude one another.
abbrev pub DropAnswer : {T : Type 0} → List ℕ → List ℕ → Result T DropError → Type 0
DropAnswer old new (Ok x) = IsOpenGate old × IsZeroPage new
DropAnswer old new (Err Failed) = Unit {0}
DropAnswer old new (Err NoJob) = IsClosedGate old
