use Rattle.std.proofs.Common.{◌≡◌, refl, arith}
use Rattle.bm_base.specs.Butterfly.{butterflies}
use Rattle.bm_pass.proofs.one_load.mix_load.Goals as goal

pub returns-else-low-gt0-clause-records : goal.returns-else-low-gt0-clause-records
unfolding butterflies
returns-else-low-gt0-clause-records c x below =
    let none : c.args.low ≡ 0 = omega arith in
    rw none refl
