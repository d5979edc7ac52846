use Rattle.std.proofs.lemmas.Nat.{xor_lt}
use Rattle.std.proofs.Common.{slice_index}
use Rattle.bm_gf2.proofs.VectorLemmas.{xor_sum-lt}
use Rattle.bm_gf2.proofs.stepper.Stepper.here.Goals as goal

pub returns-clause-below : goal.returns-clause-below
returns-clause-below c =
    rw c.args.self.now.stands
    (xor_lt _ _ _ c.args.self.now.map.below
    (xor_sum-lt (slice_index c.args.self.now.map.a.cols) c.args.self.now.map.a.n c.args.self.now.map.a.n c.args.self.now.position
    c.args.self.now.map.a.below))
