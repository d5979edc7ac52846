use Rattle.std.proofs.lemmas.Nat.{xor_lt}
use Rattle.bm_gf2.proofs.affine.Affine.apply.Goals as goal

pub returns-clause-below : goal.returns-clause-below
returns-clause-below c = xor_lt _ _ _ c.args.self.now.below c.apply.ensures.below
