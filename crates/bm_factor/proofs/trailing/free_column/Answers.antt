use Rattle.std.proofs.Common.{◌<◌, arith}
use Rattle.bm_gf2.specs.Matrix.{column}
use Rattle.bm_factor.proofs.trailing.free_column.Goals as goal
use Rattle.bm_base.proofs.PowerLemmas.{cut_below}

pub reduce-requires : goal.reduce-requires
reduce-requires c =
    let a = c.args.a.now in
    let i : c.loop-i.i < a.n = omega arith in
    rw (c.from.ensures, c.requires.size) (cut_below a.n c.args.m (column a c.loop-i.i) c.requires.m (a.below c.loop-i.i i))
