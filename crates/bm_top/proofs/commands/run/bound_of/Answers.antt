use Rattle.std.proofs.Common.{◌-◌, ◌*◌, ◌^◌, ◌≤◌, arith}
use Rattle.std.proofs.Math.Pow.{pow_mono}
use Rattle.std.proofs.Math.Nat.{mul-le-mul_left}
use Rattle.bm_top.proofs.commands.run.bound_of.Goals as goal

pub overflow_mul-result : goal.overflow_mul-result
overflow_mul-result c =
    let s = c.args.task.now.shape in
    let few : 2 ^ (s.n - s.b - s.d) ≤ 2 ^ 52 = pow_mono {i = s.n - s.b - s.d} {j = 52} (omega (arith, s.keeps.addresses)) in
    let limit : c.from.result ≤ 256 = omega (arith, c.from.ensures, c.pass_limit.ensures.few) in
    let moves : c.pass_moves.result ≤ 2 ^ 53 = omega (arith, c.pass_moves.ensures) in
    let each : c.pass_moves.result * c.from.result ≤ c.pass_moves.result * 256 = mul-le-mul_left c.pass_moves.result limit in
    omega arith
