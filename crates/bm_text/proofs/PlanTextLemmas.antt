-- Bounds of the parallel transfers of a plan, and the lines of its rounds.
use Rattle.std.proofs.Common.{ℕ, suc, ◌≡◌, ◌+◌, ◌*◌, ◌^◌, ◌<◌, ◌≤◌, ◌++◌, ap, arith}
use Rattle.std.proofs.Math.Nat.{mul-le-mul_right, pow-le-pow_right}
use Rattle.bm_base.specs.declared.shape.Shape.{Shape}
use Rattle.bm_text.specs.StepCost.{rotation_cost}
use Rattle.bm_text.specs.PlanText.{step_line, round_lines}

-- no more than 256 passes of at most 2 ^ 53 transfers
pub moves_fit : (passes e : ℕ) → passes ≤ 256 → e ≤ 52 → passes * (2 * 2 ^ e) < 2 ^ 64
moves_fit passes e few small =
    let rows : 2 ^ e ≤ 2 ^ 52 = pow-le-pow_right {n = 2} (omega arith) small in
    let all : passes * (2 * 2 ^ e) ≤ 256 * (2 * 2 ^ e) = mul-le-mul_right (2 * 2 ^ e) few in
    omega arith

-- one round more
pub round_more : (s : Shape) (k : ℕ) → round_lines s (k + 1) ≡ round_lines s k ++ step_line (k + 1) s.m (rotation_cost s s.m)
unfolding round_lines
round_more s k = let next : k + 1 ≡ suc k = omega arith in ap (round_lines s) next
