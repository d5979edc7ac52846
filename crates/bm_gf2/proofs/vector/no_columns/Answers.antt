use Rattle.bm_gf2.proofs.VectorLemmas.{zero_at}
use Rattle.bm_gf2.proofs.vector.no_columns.Goals as goal

pub returns-clause-zeros : goal.returns-clause-zeros
returns-clause-zeros c = zero_at 52
