use Rattle.std.proofs.Common.{sym, subst, refl}
use Rattle.bm_job.specs.Begins.{IsLoadedState, IsOpenState}
use Rattle.bm_job.proofs.BeginLemmas.{not_same}
use Rattle.bm_disks.proofs.job_opening.opened.Goals as goal

pub returns-then-not-same_shape-clause-answer : goal.returns-then-not-same_shape-clause-answer
returns-then-not-same_shape-clause-answer c = (
  c.in-Working.loaded,
  subst (IsLoadedState c.in-Working.loaded) (sym c.in-Working.is) refl,
  not_same _ _
      c.same_shape-in-Working.ensures.1 c.if-not-same_shape.true,
)

pub returns-then-not-same_job-clause-answer : goal.returns-then-not-same_job-clause-answer
returns-then-not-same_job-clause-answer c = (
  subst (IsLoadedState c.args.shape.now) (sym c.in-Working.is) (c.same_shape-in-Working.ensures.0 c.if-not-same_shape.false),
  (
    c.in-Working.open_job,
    subst (IsOpenState c.in-Working.open_job) (sym c.in-Working.is) refl,
    not_same _ _ c.same_job.ensures.1 c.if-not-same_job.true,
  ),
)

pub returns-else-same_shape-clause-answer : goal.returns-else-same_shape-clause-answer
returns-else-same_shape-clause-answer c = (
  c.in-Loaded.loaded,
  subst (IsLoadedState c.in-Loaded.loaded) (sym c.in-Loaded.is) refl,
  not_same _ _ c.same_shape.ensures.1
      c.if-same_shape.false,
)
