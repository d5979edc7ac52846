use Rattle.std.proofs.Common.{◌-◌, arith}
use Rattle.bm_text.proofs.PlanTextLemmas.{moves_fit}
use Rattle.bm_text.proofs.plan_text.moves_of.Goals as goal

pub overflow_mul-result : goal.overflow_mul-result
overflow_mul-result c =
    let s = c.args.shape.now in
    let fits = moves_fit c.args.passes (s.n - s.b - s.d) c.requires (omega (arith, s.keeps.addresses)) in
    rw c.from.ensures (rw c.pass_moves.ensures (omega (arith, fits)))
