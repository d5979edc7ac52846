use Rattle.bm_gf2.proofs.matrix.Matrix.apply.Goals as goal

pub returns-clause-below : goal.returns-clause-below
returns-clause-below c = c.sum_of_columns.ensures.below c.args.self.now.n c.args.self.now.below
