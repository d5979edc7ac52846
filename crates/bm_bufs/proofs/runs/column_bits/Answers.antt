use Rattle.std.proofs.Common.{◌∙◌, arith}
use Rattle.std.proofs.lemmas.Nat.{one_shl}
use Rattle.bm_bufs.proofs.ClearLemmas.{unit_fits}
use Rattle.bm_bufs.proofs.runs.column_bits.Goals as goal

pub returns-then-column-j : goal.returns-then-column-j
returns-then-column-j c = λ k few.
    (λ _. unit_fits c.args.column c.args.j k (c.if-column-j.true ∙ one_shl c.args.j 64 (omega (arith, c.requires))), λ _. omega arith)
