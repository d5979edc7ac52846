use Rattle.std.proofs.Common.{◌^◌, ◌≤◌, arith}
use Rattle.std.proofs.Math.Pow.{pow_mono}
use Rattle.kind_tests.proofs.lists.over.Goals as goal

pub kernel_at-requires-clause-whole : goal.kernel_at-requires-clause-whole
kernel_at-requires-clause-whole g c =
    let n = c.args.map.now.a.n in
    let most : 2 ^ n ≤ 2 ^ 52 = pow_mono {i = n} {j = 52} c.args.map.now.a.few in
    omega (arith, c.if-records-map.false)
