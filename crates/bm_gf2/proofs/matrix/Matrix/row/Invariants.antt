use Rattle.bm_gf2.specs.Matrix.{column}
use Rattle.bm_gf2.proofs.RowLemmas.{IsRowOfFirst}
use Rattle.bm_gf2.proofs.matrix.Matrix.row.Given as goal

abbrev pub invariant-loop-j : goal.invariant-loop-j
invariant-loop-j l = IsRowOfFirst (column l.self) l.i l.j l.row
