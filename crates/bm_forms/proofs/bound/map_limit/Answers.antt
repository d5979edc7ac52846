use Rattle.std.proofs.Common.{◌-◌, ◌<◌, ◌≤◌, arith}
use Rattle.std.specs.Int.{div_ceil}
use Rattle.bm_forms.proofs.PassLimitLemmas.{ceil_le}
use Rattle.bm_forms.proofs.bound.map_limit.Goals as goal

pub returns-clause-few : goal.returns-clause-few
returns-clause-few c =
    let s = c.args.shape.now in
    let wide : 0 < c.m.result - c.b-3.result = omega (arith, c.m.ensures, c.b-3.ensures, s.keeps.block) in
    let most : div_ceil c.rank_of.result (c.m.result - c.b-3.result) ≤ c.rank_of.result =
    ceil_le c.rank_of.result (c.m.result - c.b-3.result) wide in
    omega (arith, most, c.div_ceil.ensures, c.rank_of.ensures.within_columns, c.b-2.ensures)
