use Rattle.std.proofs.Common.{ℕ, ◌≡◌, ◌<◌, ◌≤◌}
use Rattle.bm_gf2.specs.declared.matrix.Matrix.{Matrix}
use Rattle.bm_gf2.specs.Matrix.{IsNonsingular}
use Rattle.bm_factor.specs.Reducer.{IsReducer}
use Rattle.bm_factor.proofs.reducing.move_down.Given as goal

abbrev pub invariant-loop-k : goal.invariant-loop-k
invariant-loop-k l =
    (l.r.n ≡ l.fn.r.n)
    × ((a : Matrix) (m : ℕ) → l.from < m → m ≤ a.n → IsReducer a l.fn.r m → IsReducer a l.r m)
    × (IsNonsingular l.fn.r → IsNonsingular l.r)
