use Rattle.std.proofs.Common.{arith}
use Rattle.bm_rank.proofs.RowCutLemmas.{split_is_outside, covered_by_cut}
use Rattle.bm_rank.proofs.row_solution.solve_rows.Goals as goal

pub solution_of-requires-clause-covered : goal.solution_of-requires-clause-covered
solution_of-requires-clause-covered c =
    covered_by_cut c.args.a.now c.args.b c.args.m c.cut_rows-lows.result c.cut_rows-highs.result (omega arith) c.requires.m
    c.cut_rows-lows.ensures.rows c.cut_rows-highs.ensures.rows c.in-None.ensures.none

pub returns-in-Some : goal.returns-in-Some
returns-in-Some c =
    split_is_outside c.args.a.now c.args.b c.args.m c.in-Some.x c.cut_rows-lows.result c.cut_rows-highs.result (omega arith) c.requires.m
    c.cut_rows-lows.ensures.rows c.cut_rows-highs.ensures.rows c.in-Some.ensures.some
