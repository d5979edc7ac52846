use Rattle.std.proofs.Common.{◌^◌, ◌≤◌, inl, inr, arith}
use Rattle.std.proofs.lemmas.Bool.{cases_lt}
use Rattle.std.proofs.Math.Pow.{pow_mono}
use Rattle.bm_base.proofs.power.log2_of.Goals as goal

pub returns : goal.returns
returns c = λ k is_power. elim (cases_lt k 64) [
  | inl below ↦ c.loop-k.invariant k (omega arith) is_power
  | inr from ↦
      let large : 2 ^ 64 ≤ 2 ^ k = pow_mono {i = 64} {j = k} from in
      absurd (omega arith)
]
