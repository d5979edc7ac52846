use Rattle.std.proofs.Common.{ℕ, ◌+◌, ◌*◌, ◌^◌, ◌<◌, sym, arith}
use Rattle.std.proofs.Math.Path.{subst₂}
use Rattle.bm_job.proofs.RangeLemmas.{moved_fits}
use Rattle.bm_job.proofs.machine.Machine.moved.Goals as goal

pub overflow_add-result : goal.overflow_add-result
overflow_add-result c =
    let m = c.args.self.now in
    let fits = subst₂ (λ (done loads : ℕ). done * loads + m.load < 2 ^ 64) (sym c.from.ensures) (sym c.loads.ensures)
    (moved_fits m.shape m.job m.passes m.done m.every m.part m.slot m.load m.keeps) in
    omega (arith, fits)

pub overflow_mul-result : goal.overflow_mul-result
overflow_mul-result c =
    let m = c.args.self.now in
    let fits = subst₂ (λ (done loads : ℕ). done * loads + m.load < 2 ^ 64) (sym c.from.ensures) (sym c.loads.ensures)
    (moved_fits m.shape m.job m.passes m.done m.every m.part m.slot m.load m.keeps) in
    omega (arith, fits)
