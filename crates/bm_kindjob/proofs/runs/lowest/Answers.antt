use Rattle.std.proofs.Common.{ℕ, ◌-◌, bit_and, ap, ◌∙◌, arith}
use Rattle.std.proofs.lemmas.Nat.{one_shl, and_mask}
use Rattle.bm_kindjob.proofs.runs.lowest.Goals as goal

pub returns : goal.returns
returns c = ap (λ (k : ℕ). bit_and c.args.set (k - 1)) (one_shl c.args.low 64 (omega (arith, c.requires))) ∙ and_mask c.args.set c.args.low
