use Rattle.std.proofs.Common.{arith}
use Rattle.std.proofs.lemmas.Nat.{one_shl}
use Rattle.bm_gf2.specs.Matrix.{column}
use Rattle.bm_gf2.proofs.RowLemmas.{row_with_entry, row_without_entry}
use Rattle.bm_gf2.proofs.matrix.Matrix.row.Goals as goal
use Rattle.bm_gf2.proofs.matrix.Matrix.row.Goals.{then-self-from-eq1, else-self-from-eq1}

pub loop-j-preserved : goal.loop-j-preserved
loop-j-preserved c =
    elim c.if-self-from-eq1.branch [
      | then-self-from-eq1 w ↦
          rw (w.row-is, one_shl c.loop-j.j 64 (omega (arith, c.args.self.now.few)))
          (row_with_entry (column c.args.self.now) c.args.i c.loop-j.j c.loop-j.row c.loop-j.invariant
          (rw c.from.ensures at w.if-self-from-eq1.true))
      | else-self-from-eq1 w ↦
          rw w.row-is (row_without_entry (column c.args.self.now) c.args.i c.loop-j.j c.loop-j.row c.loop-j.invariant
          (rw c.from.ensures at w.if-self-from-eq1.false))
    ]
