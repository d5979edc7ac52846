use Rattle.std.proofs.Common.{◌≡◌, ◌≢◌, ℕ, suc, ◌+◌, ◌-◌, ◌<◌, ◌≤◌, ◌^◌, arith, add-one}
use Rattle.std.specs.Int.{leading_zeros, w64}
use Rattle.std.proofs.lemmas.Nat.{leading_top}
use Rattle.bm_rank.proofs.echelon.top_bit.Goals as goal

-- the two bounds at the place that the count of leading zeros gives
placed : (z j v : ℕ) → z + suc j ≡ 64 → 2 ^ j ≤ v → v < 2 ^ suc j → (2 ^ (63 - z) ≤ v) × (v < 2 ^ (63 - z + 1))
placed z j v e a b =
    let k : 63 - z ≡ j = omega arith in
    rw (k, add-one) (a, b)

both : (v : ℕ) → v ≢ 0 → v < 2 ^ 64 → (2 ^ (63 - leading_zeros w64 v) ≤ v) × (v < 2 ^ (63 - leading_zeros w64 v + 1))
both v nz h =
    let t = leading_top 64 v (omega arith) h in
    placed (leading_zeros w64 v) t.0 v t.1 t.2 t.3

pub returns-clause-high : goal.returns-clause-high
returns-clause-high c = (both c.args.v c.requires c.ranges.v.fits).0

pub returns-clause-highest : goal.returns-clause-highest
returns-clause-highest c = (both c.args.v c.requires c.ranges.v.fits).1
