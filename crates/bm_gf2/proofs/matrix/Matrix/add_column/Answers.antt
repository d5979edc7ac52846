use Rattle.std.proofs.Common.{◌^◌, ◌∙◌, arith}
use Rattle.std.proofs.lemmas.Nat.{xor_lt}
use Rattle.std.proofs.lemmas.List.{length-set}
use Rattle.bm_gf2.proofs.VectorLemmas.{set_below, set_rest}
use Rattle.bm_gf2.proofs.matrix.Matrix.add_column.Goals as goal

pub invariant_of-self-clause-below : goal.invariant_of-self-clause-below
invariant_of-self-clause-below c =
    rw (c.from-2.ensures, c.from.ensures)
    (set_below c.args.self.now.cols c.args.self.now.n (2 ^ c.args.self.now.n) c.args.into _
    (omega arith) c.args.self.now.below c.requires.into
    (xor_lt c.args.self.now.n _ _ (c.args.self.now.below c.args.into c.requires.into) (c.args.self.now.below c.args.from c.requires.from)))

pub invariant_of-self-clause-rest : goal.invariant_of-self-clause-rest
invariant_of-self-clause-rest c =
    rw (c.from-2.ensures, c.from.ensures)
    (set_rest c.args.self.now.cols c.args.self.now.n c.args.into _ c.args.self.now.rest c.requires.into)

pub invariant_of-self-clause-long : goal.invariant_of-self-clause-long
invariant_of-self-clause-long c =
    rw (c.from-2.ensures, c.from.ensures)
    (length-set c.args.self.now.cols c.args.into _ ∙ c.args.self.now.long)
