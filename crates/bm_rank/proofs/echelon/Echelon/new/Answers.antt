use Rattle.bm_rank.proofs.EchelonLemmas.{none_kept}
use Rattle.bm_rank.proofs.echelon.Echelon.new.Goals as goal

pub invariant_of-result : goal.invariant_of-result
invariant_of-result c = none_kept c.args.n _ _ _ c.requires c.no_columns-none.ensures.zeros c.no_columns-none.ensures.zeros
