use Rattle.std.proofs.Common.{sym, subst, refl}
use Rattle.bm_job.specs.Begins.{IsLoadedState}
use Rattle.bm_job.proofs.BeginLemmas.{not_same}
use Rattle.bm_job.proofs.begin.machine_of.Goals as goal

pub returns-then-not-same_shape : goal.returns-then-not-same_shape
returns-then-not-same_shape c = (
  c.in-Working.loaded,
  subst (IsLoadedState c.in-Working.loaded) (sym c.in-Working.is) refl,
  not_same _ _
      c.same_shape-in-Working.ensures.1 c.if-not-same_shape.true,
)

pub returns-else-same_shape : goal.returns-else-same_shape
returns-else-same_shape c = (
  c.in-Loaded.loaded,
  subst (IsLoadedState c.in-Loaded.loaded) (sym c.in-Loaded.is) refl,
  not_same _ _ c.same_shape.ensures.1
      c.if-same_shape.false,
)
