-- The lines that a call of one job writes to the errors.
use Rattle.std.specs.Prelude.{◌≡◌, ◌++◌, ℕ, List}
use Rattle.bm_mirror.specs.declared.sides.Sides.{Sides}
use Rattle.bm_rack.specs.Sink.{AppendsFront}
use Rattle.bm_top.specs.StatusWords.{line_of}
use Rattle.bm_top.specs.declared.status.Status.{Status}
use Rattle.bm_mirror_call.specs.MirrorCall.{AppendsFronts, last_line}
use Rattle.bm_program.specs.declared.one_job.OneJob.{OneJob}
use Rattle.bm_program.specs.declared.one_job.OneJob.TheVariants.{Command, Transform, Mirror}

-- The line of this answer was written; over a mirror one more, which tells some sides.
abbrev pub HasLines : OneJob → List ℕ → Status → List ℕ → Type 0
HasLines Command old answer new = new ≡ old ++ line_of answer
HasLines Transform old answer new = new ≡ old ++ line_of answer
HasLines Mirror old answer new = (sides : Sides) × (new ≡ old ++ line_of answer ++ last_line answer sides)

-- or a front of each
abbrev pub HasFronts : OneJob → List ℕ → Status → List ℕ → Type 0
HasFronts Command old answer new = AppendsFront old new (line_of answer)
HasFronts Transform old answer new = AppendsFront old new (line_of answer)
HasFronts Mirror old answer new = (sides : Sides) × AppendsFronts old new (line_of answer) (last_line answer sides)
