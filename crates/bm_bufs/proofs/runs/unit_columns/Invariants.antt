use Rattle.std.proofs.Common.{ℕ, ◌≤◌, ◌↔◌}
use Rattle.bm_bufs.proofs.ClearLemmas.{KeepsFirst}
use Rattle.bm_bufs.proofs.runs.unit_columns.Given as goal

abbrev pub invariant-loop-j : goal.invariant-loop-j
invariant-loop-j l = (k : ℕ) → (k ≤ l.most) ↔ KeepsFirst l.a l.plus l.j k
