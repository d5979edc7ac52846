use Rattle.std.proofs.Common.{arith}
use Rattle.bm_bufs.proofs.runs.run_bits.Goals as goal

pub returns-clause-keeps : goal.returns-clause-keeps
returns-clause-keeps c = (c.unit_columns.ensures c.min-2.result).0 (omega (arith, c.min.ensures, c.min-2.ensures))
