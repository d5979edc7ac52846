use Rattle.std.proofs.Common.{arith}
use Rattle.bm_base.proofs.ShapeLemmas.{stripes_fit}
use Rattle.bm_base.proofs.shape.Shape.pass_moves.Goals as goal

pub overflow_mul-result : goal.overflow_mul-result
overflow_mul-result c = omega (arith, c.stripes.ensures, stripes_fit c.args.self.now)
